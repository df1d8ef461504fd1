use Rattle.std.proofs.Common.{◌≡◌, ◌∙◌, ap, sym, Some, slice_get}
use Rattle.std.specs.Option.{option_copied, option_map}
use Rattle.version_files.specs.Telling.{known_as}
use Rattle.text_sets.proofs.FoundLemmas.{got}
use Rattle.version_files.proofs.KnownLemmas.{at_name}
use Rattle.version_files.proofs.known.KnownNames.first.Goals as goal

pub returns-in-Some : goal.returns-in-Some
returns-in-Some c =
    let read : option_copied c.get.result ≡ slice_get c.deref.result.now c.in-Some.place = got c.deref.result.now c.in-Some.place c.get.result c.get.ensures.lookup in
    ap (option_map known_as) (c.copied.ensures ∙ read ∙ ap (λ xs. slice_get xs c.in-Some.place) c.deref.ensures.value)
    ∙ at_name c.args.self.now.firsts.items c.args.self.now.names c.args.name.now c.as_bytes.result.now (Some c.in-Some.place) c.requires c.as_bytes.ensures (sym c.in-Some.is ∙ c.position.ensures)

pub returns-in-None : goal.returns-in-None
returns-in-None c = at_name c.args.self.now.firsts.items c.args.self.now.names c.args.name.now c.as_bytes.result.now _ c.requires c.as_bytes.ensures (sym c.in-None.is ∙ c.position.ensures)
