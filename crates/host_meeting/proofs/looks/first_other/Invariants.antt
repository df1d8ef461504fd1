use Rattle.std.proofs.Common.{◌≡◌, drop, map}
use Rattle.answers.specs.First.{first_some}
use Rattle.load_model.specs.Faces.{face_or_flaw}
use Rattle.host_list.specs.Meeting.{look_difference}
use Rattle.host_meeting.specs.Files.{WhereFiles}
use Rattle.host_meeting.specs.declared.named.NamedFile.{NamedFile}
use Rattle.host_meeting.proofs.looks.first_other.Given as goal

abbrev pub invariant-loop-look : goal.invariant-loop-look
invariant-loop-look l =
    WhereFiles l.rec (map (λ (n : NamedFile). n.file) l.named) (λ setting world. first_some (map (look_difference face_or_flaw setting world l.rec) (drop l.look-index l.look-items))
    ≡ first_some (map (look_difference face_or_flaw setting world l.rec) l.rec.looks))
