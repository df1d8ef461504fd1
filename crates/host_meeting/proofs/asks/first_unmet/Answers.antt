use Rattle.std.proofs.Common.{◌≡◌, ◌∙◌, ◌<◌, Some, None, ap, sym, get_or, length, map, arith}
use Rattle.std.specs.List.{flat_map}
use Rattle.answers.specs.First.{first_some}
use Rattle.load_model.specs.Faces.{face_or_flaw}
use Rattle.host_list.specs.Meeting.{own_difference, own_differences}
use Rattle.host_meeting.specs.declared.files.LibFile.{LibFile}
use Rattle.host_meeting.proofs.FileLemmas.{own_by, read_at}
use Rattle.host_meeting.proofs.FirstLemmas.{all_passed, one_found}
use Rattle.host_meeting.proofs.ReachingLemmas.{lib_declared}
use Rattle.host_meeting.proofs.asks.first_unmet.Goals as goal

pub unmet_of-requires-clause-lib : goal.unmet_of-requires-clause-lib
unmet_of-requires-clause-lib c =
    let i = c.loop-number.number in
    let lib = c.lib-item.result in
    let test = c.loop-number-test.true in
    let many = ap length c.as_slice-lib-items.ensures in
    let less : i < length c.args.libs.now.rec.now.libs = omega (arith, test, many) in
    lib_declared c.args.libs.now.rec.now.libs i lib (read_at c.args.libs.now.rec.now.libs i lib less (c.lib-item.is ∙ ap (λ l. get_or l i lib) c.as_slice-lib-items.ensures))

pub returns-in-Some : goal.returns-in-Some
returns-in-Some c setting world has =
    let r = c.args.libs.now.rec.now in
    let i = c.loop-number.number in
    let lib = c.lib-item.result in
    let f = c.index-files-number.result in
    let test = c.loop-number-test.true in
    let many = ap length c.as_slice-lib-items.ensures in
    let count = c.requires.files in
    let less : i < length r.libs = omega (arith, test, many) in
    let at = c.lib-item.is ∙ ap (λ l. get_or l i lib) c.as_slice-lib-items.ensures in
    let asks : c.as_slice-asks.result.now ≡ f.face.now.asks = c.as_slice-asks.ensures ∙ ap (λ (h : LibFile). h.face.now.asks) (sym c.index-files-number.is) in
    one_found (own_differences face_or_flaw setting world r) r.libs i (first_some (flat_map (own_differences face_or_flaw setting world r) r.libs)) lib c.in-Some.difference less at
    (own_by r c.args.files.now setting world has i lib f (Some c.in-Some.difference) (read_at r.libs i lib less at) (read_at c.args.files.now i f (omega (arith, less, count)) c.index-files-number.is)
    (sym c.in-Some.is ∙ c.in_ok-difference.ensures setting world has ∙ ap (λ l. first_some (map (own_difference face_or_flaw setting world r lib) l)) asks))
    (c.loop-number.invariant setting world has)

pub loop-number-preserved : goal.loop-number-preserved
loop-number-preserved c setting world has =
    let r = c.args.libs.now.rec.now in
    let i = c.loop-number.number in
    let lib = c.lib-item.result in
    let f = c.index-files-number.result in
    let test = c.loop-number-test.true in
    let many = ap length c.as_slice-lib-items.ensures in
    let count = c.requires.files in
    let less : i < length r.libs = omega (arith, test, many) in
    let at = c.lib-item.is ∙ ap (λ l. get_or l i lib) c.as_slice-lib-items.ensures in
    let asks : c.as_slice-asks.result.now ≡ f.face.now.asks = c.as_slice-asks.ensures ∙ ap (λ (h : LibFile). h.face.now.asks) (sym c.index-files-number.is) in
    all_passed (own_differences face_or_flaw setting world r) r.libs i (first_some (flat_map (own_differences face_or_flaw setting world r) r.libs)) lib less at
    (own_by r c.args.files.now setting world has i lib f None (read_at r.libs i lib less at) (read_at c.args.files.now i f (omega (arith, less, count)) c.index-files-number.is)
    (sym c.in_default.is ∙ c.in_ok-difference.ensures setting world has ∙ ap (λ l. first_some (map (own_difference face_or_flaw setting world r lib) l)) asks))
    (c.loop-number.invariant setting world has)
