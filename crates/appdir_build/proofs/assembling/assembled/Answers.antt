use Rattle.appdir_build.proofs.AssembledLemmas.{all_probed, assembled_err, assembled_ok}
use Rattle.build_plan.specs.Deciding.{building_of}
use Rattle.appdir_build.proofs.assembling.assembled.Goals as goal

pub returns-in-Ok-listed-clause-answer : goal.returns-in-Ok-listed-clause-answer
returns-in-Ok-listed-clause-answer c world builds meets are extra =
    let report = c.in-Ok-report_of.report in
    let made = c.in-Ok-report_of.ensures in
    let from = c.in-Ok.ensures in
    assembled_ok world c.args.config.now (building_of c.args.plan) c.args.written c.args.extras c.args.record_bytes report.text _
    (record { host_is = c.requires.recorded; report_is = made.text; builds = builds; meets = meets; all = are.all; programs = are.programs; libs = are.libs; extra = extra })
    c.in-Ok-listed.ensures
    (record { sources = from.sources; bundled = from.bundled; hosts = from.hosts; references = made.references; bound = made.bound; objects = from.objects })

pub returns-in-Ok-listed-clause-probed : goal.returns-in-Ok-listed-clause-probed
returns-in-Ok-listed-clause-probed c told programs libs extras =
    all_probed told c.args.written c.args.extras c.in-Ok-listed.items c.args.record_bytes c.in-Ok-report_of.report.text c.in-Ok-listed.ensures.0 programs libs extras

pub returns-in-Err-clause-answer : goal.returns-in-Err-clause-answer
returns-in-Err-clause-answer c world builds meets are extra =
    let report = c.in-Ok-report_of.report in
    let made = c.in-Ok-report_of.ensures in
    assembled_err world c.args.config.now (building_of c.args.plan) c.args.written c.args.extras c.args.record_bytes report.text c.in-Err.stop
    (record { host_is = c.requires.recorded; report_is = made.text; builds = builds; meets = meets; all = are.all; programs = are.programs; libs = are.libs; extra = extra })
    c.in-Err.ensures
