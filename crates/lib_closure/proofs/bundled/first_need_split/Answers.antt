use Rattle.std.proofs.Common.{◌∙◌, ap, get_or, map, sym, zip, Some}
use Rattle.std.specs.Option.{option_map}
use Rattle.std.proofs.lemmas.Option.{slice_get-get_or}
use Rattle.answers.specs.First.{first_some}
use Rattle.lib_closure.specs.Clashes.{first_need_split, goes_elsewhere, need_split}
use Rattle.lib_closure.specs.Objects.{in_same_list, own_targets}
use Rattle.lib_closure.specs.OfBuild.{of_build}
use Rattle.lib_closure.specs.Seen.{standing}
use Rattle.text_sets.proofs.FoundLemmas.{got}
use Rattle.lib_closure.proofs.SideLemmas.{second_side_over, sides_here, third_side_over}
use Rattle.lib_closure.proofs.bundled.first_need_split.Goals as goal

pub returns-in-None : goal.returns-in-None
unfolding first_need_split
returns-in-None c =
    let f = of_build need_split c.args.build.now (standing c.args.pair.now.first) (standing c.args.pair.now.seen) in
    second_side_over f c.targets-first-items.result.now c.as_slice-needs.result.now c.targets-targets.result.now c.loop-place.place _ c.in-None.ensures.lookup.3 c.loop-place.invariant
    ∙ ap (λ xs. first_some (map f (zip xs (zip c.as_slice-needs.result.now c.targets-targets.result.now)))) c.targets-first-items.ensures
    ∙ ap (λ ys. first_some (map f (zip (own_targets (standing c.args.pair.now.first)) (zip ys c.targets-targets.result.now)))) c.as_slice-needs.ensures
    ∙ ap (λ zs. first_some (map f (zip (own_targets (standing c.args.pair.now.first)) (zip c.args.pair.now.seen.face.now.needs zs)))) c.targets-targets.ensures

pub returns-in-None-get : goal.returns-in-None-get
unfolding first_need_split
returns-in-None-get c =
    let f = of_build need_split c.args.build.now (standing c.args.pair.now.first) (standing c.args.pair.now.seen) in
    third_side_over f c.targets-first-items.result.now c.as_slice-needs.result.now c.targets-targets.result.now c.loop-place.place _ c.in-None-get.ensures.lookup.3 c.loop-place.invariant
    ∙ ap (λ xs. first_some (map f (zip xs (zip c.as_slice-needs.result.now c.targets-targets.result.now)))) c.targets-first-items.ensures
    ∙ ap (λ ys. first_some (map f (zip (own_targets (standing c.args.pair.now.first)) (zip ys c.targets-targets.result.now)))) c.as_slice-needs.ensures
    ∙ ap (λ zs. first_some (map f (zip (own_targets (standing c.args.pair.now.first)) (zip c.args.pair.now.seen.face.now.needs zs)))) c.targets-targets.ensures

pub returns-in-Some-2 : goal.returns-in-Some-2
unfolding first_need_split
returns-in-Some-2 c =
    let f = of_build need_split c.args.build.now (standing c.args.pair.now.first) (standing c.args.pair.now.seen) in
    let name = c.in-Some.need.now in
    sides_here f c.targets-first-items.result.now c.as_slice-needs.result.now c.targets-targets.result.now c.loop-place.place (get_or c.targets-first-items.result.now c.loop-place.place 0) c.in-Some.need.now c.in-Some-get.target.now c.in-Some-2.stop _
    (slice_get-get_or c.targets-first-items.result.now c.loop-place.place 0 c.loop-place-test.true)
    (sym (got c.as_slice-needs.result.now c.loop-place.place (Some c.in-Some.need) c.in-Some.ensures.lookup))
    (sym (got c.targets-targets.result.now c.loop-place.place (Some c.in-Some-get.target) c.in-Some-get.ensures.lookup))
    (sym (ap (λ b. of_build goes_elsewhere c.args.build.now (standing c.args.pair.now.seen) name (in_same_list (standing c.args.pair.now.first) (get_or c.targets-first-items.result.now c.loop-place.place 0)) b) c.in_same_list-other.ensures)
    ∙ sym (ap (λ a. of_build goes_elsewhere c.args.build.now (standing c.args.pair.now.seen) name a (option_map standing c.in_same_list-other.result)) c.in_same_list-one.ensures)
    ∙ sym c.in_ok-stop.ensures ∙ c.in-Some-2.is)
    c.loop-place.invariant
    ∙ ap (λ xs. first_some (map f (zip xs (zip c.as_slice-needs.result.now c.targets-targets.result.now)))) c.targets-first-items.ensures
    ∙ ap (λ ys. first_some (map f (zip (own_targets (standing c.args.pair.now.first)) (zip ys c.targets-targets.result.now)))) c.as_slice-needs.ensures
    ∙ ap (λ zs. first_some (map f (zip (own_targets (standing c.args.pair.now.first)) (zip c.args.pair.now.seen.face.now.needs zs)))) c.targets-targets.ensures
