-- what was read is kept, and what was noted is the names of the file
use Rattle.std.proofs.Common.{◌≡◌, sym, ◌∙◌}
use Rattle.answers.specs.Answers.{Names}
use Rattle.byte_view.specs.Dynamic.{dynamic_entries}
use Rattle.load_model.specs.VersionFlaws.{symbols_version_flaw}
use Rattle.load_model.specs.VersionTables.{indexed_names}
use Rattle.version_tables.specs.Faults.{version_fault_flaw}
use Rattle.version_tables.specs.Indexes.{AreFirst, index_count}
use Rattle.version_tables.proofs.Whole.{all_unflawed, last_named, names_first, symbols_named}
use Rattle.version_tables.proofs.kept.read_kept.Goals as goal

pub returns-in-Err-clause-flaw : goal.returns-in-Err-clause-flaw
returns-in-Err-clause-flaw c =
    let same : c.entries.result.now ≡ dynamic_entries c.args.bytes.now = c.entries.ensures ∙ c.requires.table.entries in
    let size : c.index_count-size.result ≡ index_count c.args.bytes.now = rw same at c.index_count-size.ensures in
    let names : AreFirst (index_count c.args.bytes.now) c.in-Ok.places.items (indexed_names c.args.bytes.now) = names_first c.index_count-size.result c.args.bytes.now c.in-Ok.places.items c.in_ok-definitions.definitions.items c.deref.result.now c.in_ok-needs.needs.asks.items c.deref-2.result.now size c.deref.ensures.value c.deref-2.ensures.value c.in_ok-definitions.ensures.kept c.in_ok-needs.ensures.asks c.in-Ok.ensures in
    let checked = symbols_named c.args.bytes.now c.in_ok-words.words.items c.deref-3.result.now c.in-Ok.places.items c.deref-4.result.now c.args.count c.deref-3.ensures.value c.deref-4.ensures.value c.in_ok-words.ensures.words names in
    let named : Names (version_fault_flaw c.in-Err.fault) (symbols_version_flaw c.args.count c.args.bytes.now) = rw checked at c.in-Err.ensures in
    last_named c.args.count c.args.bytes.now (version_fault_flaw c.in-Err.fault) c.in_ok-words.ensures.flaw c.in_ok-definitions.ensures.flaw c.in_ok-needs.ensures.flaw named

pub returns-in-Ok-check_indexes-clause-flaw : goal.returns-in-Ok-check_indexes-clause-flaw
returns-in-Ok-check_indexes-clause-flaw c =
    let same : c.entries.result.now ≡ dynamic_entries c.args.bytes.now = c.entries.ensures ∙ c.requires.table.entries in
    let size : c.index_count-size.result ≡ index_count c.args.bytes.now = rw same at c.index_count-size.ensures in
    let names : AreFirst (index_count c.args.bytes.now) c.in-Ok.places.items (indexed_names c.args.bytes.now) = names_first c.index_count-size.result c.args.bytes.now c.in-Ok.places.items c.in_ok-definitions.definitions.items c.deref.result.now c.in_ok-needs.needs.asks.items c.deref-2.result.now size c.deref.ensures.value c.deref-2.ensures.value c.in_ok-definitions.ensures.kept c.in_ok-needs.ensures.asks c.in-Ok.ensures in
    let checked = symbols_named c.args.bytes.now c.in_ok-words.words.items c.deref-3.result.now c.in-Ok.places.items c.deref-4.result.now c.args.count c.deref-3.ensures.value c.deref-4.ensures.value c.in_ok-words.ensures.words names in
    all_unflawed c.args.count c.args.bytes.now c.in_ok-words.ensures.flaw c.in_ok-definitions.ensures.flaw c.in_ok-needs.ensures.flaw (sym checked ∙ c.in-Ok-check_indexes.ensures)

pub returns-in-Ok-check_indexes-clause-names : goal.returns-in-Ok-check_indexes-clause-names
returns-in-Ok-check_indexes-clause-names c =
    let same : c.entries.result.now ≡ dynamic_entries c.args.bytes.now = c.entries.ensures ∙ c.requires.table.entries in
    let size : c.index_count-size.result ≡ index_count c.args.bytes.now = rw same at c.index_count-size.ensures in
    names_first c.index_count-size.result c.args.bytes.now c.in-Ok.places.items c.in_ok-definitions.definitions.items c.deref.result.now c.in_ok-needs.needs.asks.items c.deref-2.result.now size c.deref.ensures.value c.deref-2.ensures.value c.in_ok-definitions.ensures.kept c.in_ok-needs.ensures.asks c.in-Ok.ensures
