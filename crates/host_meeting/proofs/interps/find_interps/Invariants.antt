use Rattle.std.proofs.Common.{◌≡◌, drop, map}
use Rattle.answers.specs.First.{first_some}
use Rattle.load_model.specs.Faces.{face_or_flaw}
use Rattle.load_model.specs.Opening.{OnlyGrew}
use Rattle.host_list.specs.Meeting.{interp_difference}
use Rattle.host_meeting.specs.Hosts.{OnHost}
use Rattle.host_meeting.proofs.interps.find_interps.Given as goal

-- what is left comes to what all comes to
abbrev pub invariant-loop-path : goal.invariant-loop-path
invariant-loop-path g l = record {
  met : OnHost (g.P.Opener.seen l.initial.opener).told (g.P.Opener.seen l.initial.opener).machine l.dirs (λ setting world. first_some (map (interp_difference face_or_flaw setting world l.rec) (drop l.path-index l.path-items)) ≡ first_some (map (interp_difference face_or_flaw setting world l.rec) l.rec.interps));
  grew : OnlyGrew (g.P.Opener.seen l.initial.opener) (g.P.Opener.seen l.opener);
}
