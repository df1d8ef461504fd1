use Rattle.std.proofs.Common.{◌∙◌, sym, length, max, arith}
use Rattle.host_list.specs.Meeting.{differ_at}
use Rattle.load_model.proofs.LesserLemmas.{find_first, find_none}
use Rattle.host_meeting.proofs.libs.first_differing.Goals as goal

pub returns-then-differ_at : goal.returns-then-differ_at
returns-then-differ_at c =
    let test = c.loop-place-test.true in
    let most = c.max-place-end.ensures in
    let stays = c.loop-place.auto.place-end in
    sym (find_first (differ_at c.args.xs.now c.args.ys.now) (max (length c.args.xs.now) (length c.args.ys.now)) c.loop-place.place (omega (arith, test, most, stays)) (sym c.differ_at.ensures ∙ c.if-differ_at.true) c.loop-place.invariant)

pub returns : goal.returns
returns c =
    let test = c.loop-place-test.false in
    let most = c.max-place-end.ensures in
    let stays = c.loop-place.auto.place-end in
    sym (find_none (differ_at c.args.xs.now c.args.ys.now) (max (length c.args.xs.now) (length c.args.ys.now)) (λ j less. c.loop-place.invariant j (omega (arith, less, test, most, stays))))
