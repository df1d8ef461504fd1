use Rattle.std.proofs.Common.{◌∙◌, ap, sym, None, Some, slice_get}
use Rattle.lib_closure.specs.declared.splits.Member.{Member}
use Rattle.name_layout.proofs.PlacesLemmas.{found_at, got_now}
use Rattle.name_layout.proofs.libs.Libs.lib_with.Goals as goal

pub returns-in-Some : goal.returns-in-Some
returns-in-Some c =
    got_now c.as_slice.result.now c.in-Some.place c.get.result c.get.ensures.lookup ∙ ap (λ xs. slice_get xs c.in-Some.place) c.as_slice.ensures
    ∙ found_at (λ (lib : Member). lib.id) c.args.self.now.split.now.libs c.args.self.now.bundled c.args.id.now (Some c.in-Some.place) c.args.self.now.bundled_are (sym c.in-Some.is ∙ c.place.ensures)

pub returns-in-None : goal.returns-in-None
returns-in-None c = found_at (λ (lib : Member). lib.id) c.args.self.now.split.now.libs c.args.self.now.bundled c.args.id.now None c.args.self.now.bundled_are (sym c.in-None.is ∙ c.place.ensures)
