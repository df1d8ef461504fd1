use Rattle.std.proofs.Common.{◌∙◌, ◌==◌, ap, sym, get_or}
use Rattle.std.specs.List.{list_any}
use Rattle.load_order.proofs.ReachingLemmas.{added_new, added_old}
use Rattle.load_order.proofs.locals.add_new.Goals.{then-not-contains+in_ok-push, else-not-contains}
use Rattle.load_order.proofs.locals.add_new.Goals as goal

pub loop-number-preserved : goal.loop-number-preserved
loop-number-preserved c =
    let x = get_or c.args.numbers.now c.loop-number.number-index 0 in
    let any = ap (list_any (λ y. y == x)) (sym c.as_slice.ensures) ∙ sym c.contains.ensures.value in
    elim c.if-not-contains.branch [
      | then-not-contains+in_ok-push w ↦ added_new c.loop-number.list c.args.numbers.now c.if-not-contains.list c.loop-number.number-index c.loop-number-test.true (any ∙ w.if-not-contains.true) (w.list-is ∙ w.in_ok-push.ensures.ok) ∙ c.loop-number.invariant
      | else-not-contains w ↦ added_old c.loop-number.list c.args.numbers.now c.if-not-contains.list c.loop-number.number-index c.loop-number-test.true (any ∙ w.if-not-contains.false) w.list-is ∙ c.loop-number.invariant
    ]
