-- the flaw of the names is the first of a file whose parts have none
use Rattle.std.proofs.Common.{◌≡◌, ◌∙◌, None}
use Rattle.load_model.specs.Faces.{first_flaw, name_flaw}
use Rattle.load_model.specs.SymbolFlaws.{symbol_count}
use Rattle.load_model.specs.VersionFlaws.{version_flaw}
use Rattle.elf_face.proofs.NameFlawLemmas.{first_is_name}
use Rattle.elf_face.proofs.parts.Parts.read.Goals as goal

pub returns-in-Err-clause-flaw : goal.returns-in-Err-clause-flaw
returns-in-Err-clause-flaw c =
    let count : c.count.result ≡ symbol_count c.args.bytes.now = c.count.ensures ∙ c.in_ok-syms.ensures.read.count in
    let versions : version_flaw (symbol_count c.args.bytes.now) c.args.bytes.now ≡ None = rw (← count) c.in_ok-versions.ensures.read.unflawed in
    let same : first_flaw c.args.bytes.now ≡ name_flaw c.args.bytes.now = first_is_name c.args.bytes.now c.in_ok-elf.ensures.read.unflawed c.in_ok-table.ensures.read.unflawed c.in_ok-syms.ensures.read.unflawed versions in
    rw same c.in-Err.ensures
