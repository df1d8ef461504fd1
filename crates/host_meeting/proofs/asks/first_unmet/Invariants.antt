use Rattle.std.proofs.Common.{◌≡◌, drop}
use Rattle.std.specs.List.{flat_map}
use Rattle.answers.specs.First.{first_some}
use Rattle.load_model.specs.Faces.{face_or_flaw}
use Rattle.host_list.specs.Meeting.{own_differences}
use Rattle.host_meeting.specs.Files.{WhereFiles}
use Rattle.host_meeting.proofs.asks.first_unmet.Given as goal

abbrev pub invariant-loop-number : goal.invariant-loop-number
invariant-loop-number l =
    WhereFiles l.libs.rec.now l.files (λ setting world. first_some (flat_map (own_differences face_or_flaw setting world l.libs.rec.now) (drop l.number l.libs.rec.now.libs))
    ≡ first_some (flat_map (own_differences face_or_flaw setting world l.libs.rec.now) l.libs.rec.now.libs))
