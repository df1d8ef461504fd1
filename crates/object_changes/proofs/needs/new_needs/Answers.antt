use Rattle.std.proofs.Common.{◌∙◌, [], ◌∷◌, ◌++◌, ap, arith, length, refl, slice_get, sym, Some}
use Rattle.std.specs.Option.{unwrap_or}
use Rattle.std.proofs.lemmas.Option.{slice_get_read}
use Rattle.lib_closure.specs.Objects.{own_targets}
use Rattle.lib_closure.specs.Seen.{standing}
use Rattle.text_sets.proofs.FoundLemmas.{got}
use Rattle.object_changes.specs.Changing.{new_need, new_needs}
use Rattle.object_changes.specs.OfNames.{of_names}
use Rattle.object_changes.proofs.PairLemmas.{made_all, made_next}
use Rattle.object_changes.proofs.needs.new_needs.Goals as goal

pub returns-in-None : goal.returns-in-None
unfolding new_needs
returns-in-None c =
    let past = c.in-None.ensures.lookup.3 in
    let size = ap length c.targets-targets.ensures in
    made_all (of_names new_need c.args.names.now (standing c.args.seen.now)) c.args.seen.now.face.now.needs (own_targets (standing c.args.seen.now)) c.loop-place.place c.loop-place.needs (omega (arith, past, size)) c.loop-place.invariant

pub loop-place-preserved : goal.loop-place-preserved
loop-place-preserved c =
    made_next (of_names new_need c.args.names.now (standing c.args.seen.now)) c.args.seen.now.face.now.needs (own_targets (standing c.args.seen.now)) c.loop-place.place c.need-item.result c.in-Some.target.now c.loop-place.needs c.push.new.self
    (ap (λ l. slice_get l c.loop-place.place) (sym c.as_slice-need-items.ensures) ∙ slice_get_read c.as_slice-need-items.result.now (length c.as_slice-need-items.result.now) c.loop-place.place c.need-item.result refl c.loop-place-test.true c.need-item.is)
    (ap (λ l. slice_get l c.loop-place.place) (sym c.targets-targets.ensures) ∙ sym (got c.targets-targets.result.now c.loop-place.place (Some c.in-Some.target) c.in-Some.ensures.lookup))
    c.loop-place.invariant
    (c.in_ok-push.ensures.ok ∙ ap (λ n. c.loop-place.needs ++ n ∷ []) (c.in_ok-copy.ensures ∙ c.name_or-name.ensures ∙ ap (λ o. unwrap_or o c.need-item.result) c.name_beside.ensures))

pub returns : goal.returns
unfolding new_needs
returns c =
    let size = ap length c.as_slice-need-items.ensures in
    made_all (of_names new_need c.args.names.now (standing c.args.seen.now)) c.args.seen.now.face.now.needs (own_targets (standing c.args.seen.now)) c.loop-place.place c.loop-place.needs (omega (arith, size)) c.loop-place.invariant
