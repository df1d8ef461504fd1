use Rattle.std.proofs.Common.{◌≡◌, ◌∙◌, ap, sym, subst, map}
use Rattle.load_model.specs.Faces.{face_or_flaw}
use Rattle.load_model.specs.World.{World}
use Rattle.load_model.specs.declared.setting.Setting.{Setting}
use Rattle.host_list.specs.Meeting.{first_difference, lib_object}
use Rattle.host_meeting.specs.Files.{difference_of_files, object_at}
use Rattle.host_meeting.specs.Hosts.{OnHost}
use Rattle.host_meeting.specs.Verdicts.{IsVerdict, verdict_by}
use Rattle.host_meeting.proofs.FirstLemmas.{ok_more}
use Rattle.host_meeting.proofs.VerdictLemmas.{for_machine, is_verdict, missed, rest_decides}
use Rattle.host_meeting.proofs.meeting.host_meets.Goals as goal

pub returns-in-Ok-clause-answer : goal.returns-in-Ok-clause-answer
returns-in-Ok-clause-answer g c =
    let r = c.args.rec.now in
    let dirs = c.args.dirs.now in
    let b0 = g.P.Opener.seen c.args.opener.now in
    is_verdict b0 (g.P.Opener.seen c.find_files.new.opener) dirs r c.verdict_on.result
    (ok_more c.verdict_on.result
    (λ v. (setting : Setting) (world : World) → map (λ lib. lib_object face_or_flaw setting world r lib.name) r.libs ≡ map (object_at c.faces.result.now) c.as_slice.result.now → v ≡ verdict_by (difference_of_files face_or_flaw setting world r))
    (λ v. OnHost b0.told r.machine dirs (λ setting world. v ≡ verdict_by (first_difference face_or_flaw setting world r)))
    (λ v h setting world host.
    let on = for_machine b0 r.machine dirs setting world c.requires.machine host in
    h setting world (c.in-Ok.ensures.found setting world on ∙ ap (λ fs. map (object_at fs) c.in-Ok.found) (sym c.faces.ensures.table) ∙ ap (map (object_at c.faces.result.now)) (sym c.as_slice.ensures))
    ∙ ap verdict_by (sym (rest_decides setting world r (c.in-Ok.ensures.right setting world on))))
    c.verdict_on.ensures.answer)
    c.verdict_on.ensures.memory

pub returns-in-Err-clause-answer : goal.returns-in-Err-clause-answer
returns-in-Err-clause-answer g c =
    let r = c.args.rec.now in
    let b0 = g.P.Opener.seen c.args.opener.now in
    let b1 = g.P.Opener.seen c.find_files.new.opener in
    subst (IsVerdict b0 b1 c.args.dirs.now r) (sym c.verdict_of.ensures) (missed b0 b1 c.args.dirs.now r c.in-Err.miss c.requires.machine c.in-Err.ensures.miss)
