use Rattle.std.proofs.Common.{◌≡◌, ◌∙◌, ◌<◌, ap, sym, arith, ◌++◌, ◌∷◌, [], get_or, length, List, ℕ, subst}
use Rattle.load_model.specs.LoadList.{with_numbers}
use Rattle.load_model.specs.Runs.{AreBelow}
use Rattle.load_order.specs.Reaching.{targets_at}
use Rattle.load_order.proofs.ReachingLemmas.{at_root, below_all, found_targets, next_brought, next_reached, targets_below}
use Rattle.load_order.proofs.locals.local_list.Goals as goal

pub reach-init : goal.reach-init
reach-init c =
    let all = at_root c.args.targets.now c.args.root c.requires.root c.push.new.self (c.in_ok-push.ensures.ok ∙ ap (λ xs. xs ++ c.args.root ∷ []) c.new-list.ensures) in
    record { within = omega arith; order = all.0; brought = λ i less. absurd (omega arith); below = all.1 }

pub reach-preserved : goal.reach-preserved
reach-preserved c =
    let targets : List (List ℕ) = c.args.targets.now in
    let list : List ℕ = c.reach.list in
    let is : c.as_slice.result.now ≡ list = c.as_slice.ensures in
    let less : c.reach.at < length list = subst (λ xs. c.reach.at < length xs) is c.reach-test.true in
    let x : ℕ = get_or list c.reach.at 0 in
    let within : x < length targets = c.reach.invariant.below c.reach.at 0 less in
    let new : List ℕ = c.add_new.new.list in
    let ts : List ℕ = c.index-targets-number.result in
    let same : get_or c.as_slice-in-reach.result.now c.reach.at 0 ≡ x = ap (λ xs. get_or xs c.reach.at 0) c.as_slice-in-reach.ensures in
    let ts_is : ts ≡ get_or targets x ts = c.index-targets-number.is ∙ ap (λ k. get_or targets k ts) same in
    let step : new ≡ with_numbers list (targets_at targets x) = c.in_ok-add_new.ensures ∙ ap (with_numbers list) (c.as_slice-in-reach-2.ensures ∙ sym (found_targets targets x ts within ts_is)) in
    let more : new ≡ with_numbers list ts = step ∙ ap (with_numbers list) (found_targets targets x ts within ts_is) in
    let r = next_reached targets c.args.root c.reach.at list new less c.reach.invariant.order step in
    record {
      within = r.1;
      order = r.0;
      brought = next_brought targets c.args.root c.reach.at list new less c.reach.invariant.order r.2 c.reach.invariant.brought;
      below = subst (λ xs. AreBelow (length targets) xs) (sym more) (below_all ts list (length targets) c.reach.invariant.below (targets_below targets x ts (length targets) within ts_is c.requires.targets));
    }
