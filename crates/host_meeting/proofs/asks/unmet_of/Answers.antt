use Rattle.std.proofs.Common.{map}
use Rattle.answers.specs.First.{first_some}
use Rattle.load_model.specs.Faces.{face_or_flaw}
use Rattle.host_list.specs.Meeting.{own_difference}
use Rattle.host_meeting.proofs.FirstLemmas.{over}
use Rattle.host_meeting.proofs.asks.unmet_of.Goals as goal

pub returns : goal.returns
returns c setting world has =
    over (own_difference face_or_flaw setting world c.args.libs.now.rec.now c.args.lib.now) c.args.asks.now c.loop-ask.ask-index (first_some (map (own_difference face_or_flaw setting world c.args.libs.now.rec.now c.args.lib.now) c.args.asks.now)) c.loop-ask-test.false (c.loop-ask.invariant setting world has)
