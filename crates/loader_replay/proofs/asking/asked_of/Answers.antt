use Rattle.std.proofs.Common.{ap, arith, length}
use Rattle.loader_replay.proofs.AskLemmas.{names_all, names_more, names_yet}
use Rattle.loader_replay.proofs.asking.asked_of.Goals as goal

pub loop-obj-init : goal.loop-obj-init
loop-obj-init c = names_yet c.args.faces.now c.args.run.now c.new-asked.result c.new-asked.ensures

pub loop-obj-preserved : goal.loop-obj-preserved
loop-obj-preserved c = names_more c.args.faces.now c.args.run.now c.loop-obj.obj c.loop-obj.asked c.push.new.self c.in_ok-names_of.field-0 c.loop-obj.invariant c.in_ok-names_of.ensures c.in_ok-push.ensures.ok

pub returns : goal.returns
returns c =
    let size = ap length c.as_slice.ensures in
    names_all c.args.faces.now c.args.run.now c.loop-obj.obj c.loop-obj.asked (omega arith) c.loop-obj.invariant
