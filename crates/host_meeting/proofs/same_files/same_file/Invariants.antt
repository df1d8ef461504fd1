use Rattle.std.proofs.Common.{◌≡◌, [], drop, map, take}
use Rattle.answers.specs.First.{first_some}
use Rattle.lib_closure.specs.Clashes.{beside_earlier}
use Rattle.load_model.specs.Faces.{face_or_flaw}
use Rattle.host_list.specs.Meeting.{same_file}
use Rattle.host_meeting.specs.Files.{WhereFiles}
use Rattle.host_meeting.proofs.same_files.same_file.Given as goal

abbrev pub invariant-loop-number : goal.invariant-loop-number
invariant-loop-number l =
    (l.ids ≡ map (λ g. g.id.now) (take l.number l.files))
    × WhereFiles l.rec l.files (λ setting world. first_some (map (same_file face_or_flaw setting world l.rec) (beside_earlier (take l.number l.rec.libs) (drop l.number l.rec.libs)))
    ≡ first_some (map (same_file face_or_flaw setting world l.rec) (beside_earlier [] l.rec.libs)))
