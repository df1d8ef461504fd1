use Rattle.std.proofs.Common.{arith, refl, ◌-◌, ◌<◌}
use Rattle.host_record.proofs.StepLemmas.{set_last}
use Rattle.host_record.proofs.taking.add_need.Goals as goal

pub returns-in_ok-push : goal.returns-in_ok-push
returns-in_ok-push c =
    let full = c.args.libs.now.ok.0 in
    let some : 0 < Rattle.std.specs.Vec.vec_len c.args.libs.now = c.in-Some.ensures.variant.0 refl in
    set_last c.args.libs.now.items (Rattle.std.specs.Vec.vec_len c.args.libs.now - 1) c.in-Some.lib.now c.args.need c.push.new.self (omega arith) c.in-Some.ensures.value c.in_ok-push.ensures.ok
