use Rattle.std.proofs.Common.{◌≡◌, drop, map}
use Rattle.answers.specs.First.{first_some}
use Rattle.load_model.specs.Faces.{face_or_flaw}
use Rattle.host_list.specs.Meeting.{own_difference}
use Rattle.host_meeting.specs.Files.{WhereFiles}
use Rattle.host_meeting.proofs.asks.unmet_of.Given as goal

abbrev pub invariant-loop-ask : goal.invariant-loop-ask
invariant-loop-ask l =
    WhereFiles l.libs.rec.now l.files (λ setting world. first_some (map (own_difference face_or_flaw setting world l.libs.rec.now l.lib) (drop l.ask-index l.asks))
    ≡ first_some (map (own_difference face_or_flaw setting world l.libs.rec.now l.lib) l.asks))
