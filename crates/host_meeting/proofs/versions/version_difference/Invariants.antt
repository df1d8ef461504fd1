use Rattle.std.proofs.Common.{◌≡◌, drop, map}
use Rattle.answers.specs.First.{first_some}
use Rattle.load_model.specs.Faces.{face_or_flaw}
use Rattle.host_list.specs.Meeting.{version_difference}
use Rattle.host_meeting.specs.Files.{WhereFiles}
use Rattle.host_meeting.proofs.versions.version_difference.Given as goal

abbrev pub invariant-loop-version : goal.invariant-loop-version
invariant-loop-version l =
    WhereFiles l.rec l.files (λ setting world. first_some (map (version_difference face_or_flaw setting world l.rec) (drop l.version-index l.version-items))
    ≡ first_some (map (version_difference face_or_flaw setting world l.rec) l.rec.versions))
