use Rattle.std.proofs.Common.{◌≡◌, ◌∙◌, ap, sym, Some, None, slice_get}
use Rattle.std.specs.Option.{option_copied, option_map}
use Rattle.text_sets.proofs.FoundLemmas.{got}
use Rattle.name_layout.specs.Opened.{as_opening}
use Rattle.name_layout.specs.Openings.{Opening}
use Rattle.name_layout.proofs.PlacesLemmas.{found_through}
use Rattle.name_layout.proofs.opened_names.OpenedNames.first_of_root.Goals as goal

pub returns-in-Some : goal.returns-in-Some
returns-in-Some c =
    let read : option_copied c.get.result ≡ slice_get c.deref.result.now c.in-Some.place = got c.deref.result.now c.in-Some.place c.get.result c.get.ensures.lookup in
    ap (option_map as_opening) (c.copied.ensures ∙ read ∙ ap (λ xs. slice_get xs c.in-Some.place) c.deref.ensures.value)
    ∙ found_through as_opening (λ (o : Opening). o.root) c.args.self.now.all.items _ c.args.self.now.roots c.args.root.now (Some c.in-Some.place) c.args.self.now.all_are c.args.self.now.roots_are (sym c.in-Some.is ∙ c.place.ensures)

pub returns-in-None : goal.returns-in-None
returns-in-None c = found_through as_opening (λ (o : Opening). o.root) c.args.self.now.all.items _ c.args.self.now.roots c.args.root.now None c.args.self.now.all_are c.args.self.now.roots_are (sym c.in-None.is ∙ c.place.ensures)
