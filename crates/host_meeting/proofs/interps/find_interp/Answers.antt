use Rattle.load_model.specs.World.{Damaged, Object}
use Rattle.host_meeting.proofs.HostLemmas.{interp_found}
use Rattle.host_meeting.proofs.interps.find_interp.Goals as goal

pub returns-in-Ok-Object-clause-met : goal.returns-in-Ok-Object-clause-met
returns-in-Ok-Object-clause-met g c setting world host =
    let opened = (rw c.in-Ok-Object.field-0-is at c.in-Ok-Object.ensures.opened) in
    let o = opened.1 world host.world_is in
    interp_found (g.P.Opener.seen c.open.new.self).machine setting world c.args.rec.now c.args.path.now (Object o.file o.face) o.kind (λ e. cc)

pub returns-in-Err-Damaged-clause-met : goal.returns-in-Err-Damaged-clause-met
returns-in-Err-Damaged-clause-met g c setting world host =
    let opened = (rw c.in-Err-Damaged.field-0-is at c.in-Err-Damaged.ensures.opened) in
    let d = opened.1 world host.world_is in
    interp_found (g.P.Opener.seen c.args.opener.now).machine setting world c.args.rec.now c.args.path.now (Damaged d.file c.in-Err-Damaged.field-0-1) d.kind (λ e. cc)
