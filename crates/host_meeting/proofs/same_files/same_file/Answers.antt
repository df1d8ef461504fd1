use Rattle.std.proofs.Common.{◌≡◌, ◌∙◌, ◌<◌, [], Some, None, ap, sym, bytes_eq, get_or, length, map, arith}
use Rattle.std.specs.Prelude.{position}
use Rattle.answers.specs.First.{first_some}
use Rattle.indexmap.specs.IndexSet.{insert_key}
use Rattle.lib_closure.specs.Clashes.{beside_earlier}
use Rattle.load_model.specs.Faces.{face_or_flaw}
use Rattle.host_list.specs.Meeting.{same_file}
use Rattle.host_meeting.specs.declared.files.LibFile.{LibFile}
use Rattle.host_meeting.proofs.SameFileLemmas.{file_met, file_passed, ids_next, place_before}
use Rattle.host_meeting.proofs.same_files.same_file.Goals as goal

pub returns-in-Some : goal.returns-in-Some
returns-in-Some c setting world has =
    let r = c.args.rec.now in
    let files = c.args.files.now in
    let i = c.loop-number.number in
    let x = c.index-libs-number.result in
    let f = c.index-files-number.result in
    let y = c.index-libs-place.result in
    let ids = c.loop-number.ids in
    let id_is = c.as_bytes-id.ensures ∙ ap (λ (h : LibFile). h.id.now) (sym c.index-files-number.is) in
    let at : Some c.in-Some.place ≡ position (bytes_eq f.id.now) ids = sym c.in-Some.is ∙ c.position.ensures ∙ ap (λ k. position (bytes_eq k) ids) id_is in
    let test = c.loop-number-test.true in
    let many = ap length c.as_slice-libs.ensures in
    let less : i < length r.libs = omega (arith, test, many) in
    let count = c.requires in
    let less_f : i < length files = omega (arith, less, count) in
    ap Some c.in_ok-one_file-in-Some.ensures
    ∙ file_met r files setting world has i x f ids (first_some (map (same_file face_or_flaw setting world r) (beside_earlier [] r.libs))) less (c.index-libs-number.is ∙ ap (λ l. get_or l i x) c.as_slice-libs.ensures) less_f c.index-files-number.is c.loop-number.invariant.0 (c.loop-number.invariant.1 setting world has)
    c.in-Some.place y (place_before files i c.in-Some.place f.id.now ids less_f c.loop-number.invariant.0 at) (c.index-libs-place.is ∙ ap (λ l. get_or l c.in-Some.place y) c.as_slice-libs.ensures) at

pub loop-number-preserved : goal.loop-number-preserved
loop-number-preserved c =
    let r = c.args.rec.now in
    let files = c.args.files.now in
    let i = c.loop-number.number in
    let x = c.index-libs-number.result in
    let f = c.index-files-number.result in
    let ids = c.loop-number.ids in
    let id_is = c.as_bytes-id.ensures ∙ ap (λ (h : LibFile). h.id.now) (sym c.index-files-number.is) in
    let at : None ≡ position (bytes_eq f.id.now) ids = sym c.in-None.is ∙ c.position.ensures ∙ ap (λ k. position (bytes_eq k) ids) id_is in
    let test = c.loop-number-test.true in
    let many = ap length c.as_slice-libs.ensures in
    let less : i < length r.libs = omega (arith, test, many) in
    let count = c.requires in
    let less_f : i < length files = omega (arith, less, count) in (
      ids_next files i f ids c.add.new.self less_f c.index-files-number.is c.loop-number.invariant.0 at (c.in_ok-add-in-None.ensures ∙ ap (insert_key bytes_eq ids) id_is),
      λ setting world has. file_passed r files setting world has i x f ids (first_some (map (same_file face_or_flaw setting world r) (beside_earlier [] r.libs))) less (c.index-libs-number.is ∙ ap (λ l. get_or l i x) c.as_slice-libs.ensures) less_f c.index-files-number.is c.loop-number.invariant.0 (c.loop-number.invariant.1 setting world has) at,
    )
