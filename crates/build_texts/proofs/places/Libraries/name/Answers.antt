use Rattle.std.proofs.Common.{◌∙◌, ap, sym, None, Some, slice_get}
use Rattle.std.specs.Option.{option_and_then}
use Rattle.name_layout.specs.Sets.{place_kept}
use Rattle.name_layout.proofs.PlacesLemmas.{got_now}
use Rattle.object_changes.proofs.NameLemmas.{lib_place}
use Rattle.build_texts.proofs.places.Libraries.name.Goals as goal

pub returns-in-Some : goal.returns-in-Some
returns-in-Some c =
    got_now c.as_slice.result.now c.in-Some.number c.get.result c.get.ensures.lookup ∙ ap (λ xs. slice_get xs c.in-Some.number) c.as_slice.ensures
    ∙ ap (option_and_then (slice_get c.args.self.now.layout.now.libs)) (lib_place c.args.self.now.libs.split.now c.args.self.now.libs.bundled c.args.id.now (Some c.in-Some.number) c.args.self.now.libs.bundled_are (sym c.in-Some.is ∙ c.place.ensures ∙ ap (place_kept c.args.self.now.libs.bundled) c.as_bytes.ensures))

pub returns-in-None : goal.returns-in-None
returns-in-None c =
    ap (option_and_then (slice_get c.args.self.now.layout.now.libs)) (lib_place c.args.self.now.libs.split.now c.args.self.now.libs.bundled c.args.id.now None c.args.self.now.libs.bundled_are (sym c.in-None.is ∙ c.place.ensures ∙ ap (place_kept c.args.self.now.libs.bundled) c.as_bytes.ensures))
