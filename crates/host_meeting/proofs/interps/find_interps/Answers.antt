use Rattle.std.proofs.Common.{map}
use Rattle.answers.specs.First.{first_some}
use Rattle.load_model.specs.Faces.{face_or_flaw}
use Rattle.load_order.proofs.WalkingAsks.{grew_on}
use Rattle.host_list.specs.Meeting.{interp_difference}
use Rattle.host_meeting.proofs.FirstLemmas.{found, over, passed}
use Rattle.host_meeting.proofs.HostLemmas.{host_on, miss_on}
use Rattle.host_meeting.proofs.interps.find_interps.Goals as goal

pub returns-in-Err-clause-miss : goal.returns-in-Err-clause-miss
returns-in-Err-clause-miss g c =
    miss_on (g.P.Opener.seen c.args.opener.now) (g.P.Opener.seen c.loop-path.opener) (g.P.Opener.seen c.find_interp.new.opener) c.args.dirs.now
    (λ setting world. interp_difference face_or_flaw setting world c.args.rec.now c.path-item.result) (λ setting world. first_some (map (interp_difference face_or_flaw setting world c.args.rec.now) c.args.rec.now.interps))
    c.in-Err.miss c.loop-path.invariant.grew
    (λ setting world d host e. found (interp_difference face_or_flaw setting world c.args.rec.now) c.as_slice-path-items.result.now c.loop-path.path-index (first_some (map (interp_difference face_or_flaw setting world c.args.rec.now) c.args.rec.now.interps)) c.path-item.result d c.loop-path-test.true c.path-item.is e (c.loop-path.invariant.met setting world host))
    c.in-Err.ensures.miss

pub loop-path-preserved : goal.loop-path-preserved
loop-path-preserved g c = record {
  met = λ setting world host. passed (interp_difference face_or_flaw setting world c.args.rec.now) c.as_slice-path-items.result.now c.loop-path.path-index (first_some (map (interp_difference face_or_flaw setting world c.args.rec.now) c.args.rec.now.interps)) c.path-item.result c.loop-path-test.true c.path-item.is
      (c.in_default.ensures.met setting world (host_on (g.P.Opener.seen c.args.opener.now) (g.P.Opener.seen c.loop-path.opener) c.args.dirs.now setting world c.loop-path.invariant.grew host)) (c.loop-path.invariant.met setting world host);
  grew = grew_on (g.P.Opener.seen c.args.opener.now) (g.P.Opener.seen c.loop-path.opener) (g.P.Opener.seen c.find_interp.new.opener) c.loop-path.invariant.grew c.find_interp.ensures.grew;
}

pub returns-clause-met : goal.returns-clause-met
returns-clause-met g c setting world host =
    over (interp_difference face_or_flaw setting world c.args.rec.now) c.as_slice-path-items.result.now c.loop-path.path-index (first_some (map (interp_difference face_or_flaw setting world c.args.rec.now) c.args.rec.now.interps)) c.loop-path-test.false (c.loop-path.invariant.met setting world host)
