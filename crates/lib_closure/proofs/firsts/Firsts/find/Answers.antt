use Rattle.std.proofs.Common.{◌≡◌, ◌∙◌, ap, sym, Some, slice_get}
use Rattle.std.specs.Option.{option_copied, option_map}
use Rattle.lib_closure.specs.Seen.{standing}
use Rattle.text_sets.proofs.FoundLemmas.{got}
use Rattle.lib_closure.proofs.FirstsLemmas.{at_place}
use Rattle.lib_closure.proofs.firsts.Firsts.find.Goals as goal

pub returns-in-Some : goal.returns-in-Some
returns-in-Some c =
    let read : option_copied c.get.result ≡ slice_get c.deref.result.now c.in-Some.place = got c.deref.result.now c.in-Some.place c.get.result c.get.ensures.lookup in
    ap (option_map standing) (c.copied.ensures ∙ read ∙ ap (λ xs. slice_get xs c.in-Some.place) c.deref.ensures.value)
    ∙ at_place c.args.self.now c.args.id.now (Some c.in-Some.place) c.requires (sym c.in-Some.is ∙ c.position.ensures)

pub returns-in-None : goal.returns-in-None
returns-in-None c = at_place c.args.self.now c.args.id.now _ c.requires (sym c.in-None.is ∙ c.position.ensures)
