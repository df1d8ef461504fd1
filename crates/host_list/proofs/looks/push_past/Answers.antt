-- One object on: it is skipped, or it is not the one that is bound to.
use Rattle.std.proofs.Common.{◌≡◌, ◌∙◌, ◌++◌, ◌+◌, ap, sym, append_assoc, drop, false, get_or, refl}
use Rattle.std.specs.Prelude.{not, ◌&&◌}
use Rattle.std.proofs.lemmas.List.{at_drop_more}
use Rattle.load_model.specs.Bindings.{looked_in}
use Rattle.host_list.specs.Places.{look_missed}
use Rattle.host_list.specs.Recording.{is_at, looked_past, looks_past}
use Rattle.host_list.proofs.LookLemmas.{either_false, past_step}
use Rattle.host_list.proofs.looks.push_past.Goals as goal
use Rattle.host_list.proofs.looks.push_past.Goals.{else-not-is_skipped-via-then-not-is_skipped+else-is_at, else-not-is_skipped-via-else-not-is_skipped}

pub scope-preserved : goal.scope-preserved
scope-preserved c =
    let numbers = c.args.reference.numbers.now in
    let s = c.args.reference.symbol.now in
    let class = c.args.reference.class in
    let to = c.args.to in
    let i = c.scope.obj-index in
    let k = get_or c.args.scope.now i 0 in
    let more = drop (i + 1) c.args.scope.now in
    let left = looks_past numbers s class (looked_past to (looked_in class more)) in
    let goes : (not c.is_skipped.result && is_at to k) ≡ false = elim c.else-not-is_skipped.branch [
      | else-not-is_skipped-via-then-not-is_skipped+else-is_at w ↦ either_false (not c.is_skipped.result) (is_at to k) (sym w.is_at.ensures ∙ w.if-is_at.false)
      | else-not-is_skipped-via-else-not-is_skipped w ↦ ap (λ b. not b && is_at to k) w.if-not-is_skipped.false
    ] in
    let step = past_step numbers s class to k more c.is_skipped.result (is_at to k) (sym c.is_skipped.ensures) refl goes in
    ap (λ t. t ++ left) c.in_ok-push_missed.ensures
    ∙ (append_assoc c.scope.found.items (look_missed numbers s class k) left
    ∙ (ap (λ t. c.scope.found.items ++ t) (sym step)
    ∙ (sym (ap (λ t. c.scope.found.items ++ t) (at_drop_more (λ ks. looks_past numbers s class (looked_past to (looked_in class ks))) c.args.scope.now i 0 c.scope-test.true)) ∙ c.scope.invariant)))
