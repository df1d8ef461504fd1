use Rattle.std.proofs.Common.{◌∙◌, sym, ap, bytes_eq, slice_get}
use Rattle.std.specs.Option.{option_and_then}
use Rattle.host_record.specs.declared.records.RecLib.{RecLib}
use Rattle.text_sets.proofs.FoundLemmas.{got}
use Rattle.text_sets.proofs.MappedLemmas.{find-position}
use Rattle.host_meeting.proofs.lib_places.LibPlaces.lib_named.Goals as goal

pub returns-in-Some : goal.returns-in-Some
returns-in-Some c =
    got c.as_slice.result.now c.in-Some.place c.get.result c.get.ensures.lookup ∙ ap (λ xs. slice_get xs c.in-Some.place) c.as_slice.ensures
    ∙ ap (option_and_then (slice_get c.args.self.now.rec.now.libs)) (sym c.in-Some.is ∙ c.place.ensures)
    ∙ sym (find-position (λ (lib : RecLib). bytes_eq lib.name c.args.name.now) c.args.self.now.rec.now.libs)

pub returns-in-None : goal.returns-in-None
returns-in-None c =
    ap (option_and_then (slice_get c.args.self.now.rec.now.libs)) (sym c.in-None.is ∙ c.place.ensures)
    ∙ sym (find-position (λ (lib : RecLib). bytes_eq lib.name c.args.name.now) c.args.self.now.rec.now.libs)
