use Rattle.std.proofs.Common.{ap, arith, length}
use Rattle.scope_lookup.proofs.AskingLemmas.{all_are_met, all_checked, met_more, met_yet, not_all_met, stop_named}
use Rattle.scope_lookup.proofs.checking.check_versions.Goals as goal

pub loop-obj-init : goal.loop-obj-init
loop-obj-init c = met_yet c.args.faces.now c.args.run.now

pub returns-in-Err : goal.returns-in-Err
returns-in-Err c =
    let size = ap length c.as_slice.ensures in
    let named = stop_named c.args.faces.now c.args.run.now c.in-Err.stop c.loop-obj.obj (omega arith) c.loop-obj.invariant c.in-Err.ensures in
    record { answer = named; met = tt; unmet = λ v. not_all_met c.args.faces.now c.args.run.now c.in-Err.stop named v }

pub loop-obj-preserved : goal.loop-obj-preserved
loop-obj-preserved c = met_more c.args.faces.now c.args.run.now c.loop-obj.obj c.loop-obj.invariant c.in_default.ensures

pub returns : goal.returns
returns c =
    let size = ap length c.as_slice.ensures in
    let none = all_checked c.args.faces.now c.args.run.now c.loop-obj.obj (omega arith) c.loop-obj.invariant in
    record { answer = none; met = all_are_met c.args.faces.now c.args.run.now none; unmet = tt }
