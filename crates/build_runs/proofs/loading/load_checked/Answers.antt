use Rattle.build_runs.proofs.AnswerLemmas.{lists_over_so, met_runs, met_so, safe_runs, unmet_so}
use Rattle.build_runs.proofs.StopLemmas.{versions_stop}
use Rattle.build_runs.proofs.loading.load_checked.Goals as goal

pub check_runs-requires-clause-runs : goal.check_runs-requires-clause-runs
check_runs-requires-clause-runs g c =
    lists_over_so (g.P.Opener.seen c.load_runs.new.opener).faces c.faces.result.now c.args.programs.now c.in-Ok.runs.items c.as_slice.result.now c.faces.ensures.table c.as_slice.ensures.value c.in-Ok.ensures.safe

pub returns-in-Ok-check_runs-clause-safe : goal.returns-in-Ok-check_runs-clause-safe
returns-in-Ok-check_runs-clause-safe g c =
    safe_runs (g.P.Opener.seen c.load_runs.new.opener).faces c.args.programs.now c.in-Ok.runs.items c.in-Ok.ensures.safe
    (met_so (g.P.Opener.seen c.load_runs.new.opener).faces c.faces.result.now c.in-Ok.runs.items c.as_slice.result.now c.faces.ensures.table c.as_slice.ensures.value c.in-Ok-check_runs.ensures.met)

pub returns-in-Ok-check_runs-clause-runs : goal.returns-in-Ok-check_runs-clause-runs
returns-in-Ok-check_runs-clause-runs g c world told =
    met_runs (g.P.Opener.seen c.load_runs.new.opener).faces c.args.programs.now c.in-Ok.runs.items c.args.setting.now world (c.in-Ok.ensures.lists world told)
    (met_so (g.P.Opener.seen c.load_runs.new.opener).faces c.faces.result.now c.in-Ok.runs.items c.as_slice.result.now c.faces.ensures.table c.as_slice.ensures.value c.in-Ok-check_runs.ensures.met)

pub returns-in-Err-check_runs-clause-stop : goal.returns-in-Err-check_runs-clause-stop
returns-in-Err-check_runs-clause-stop g c =
    versions_stop c.args.setting.now (g.P.Opener.seen c.args.opener.now).told (g.P.Opener.seen c.args.opener.now).faults (g.P.Opener.seen c.load_runs.new.opener).faults (g.P.Opener.seen c.load_runs.new.opener).faces c.args.programs.now c.in-Ok.runs.items c.in-Err-check_runs.stop c.in-Ok.ensures.lists
    (unmet_so (g.P.Opener.seen c.load_runs.new.opener).faces c.faces.result.now c.in-Ok.runs.items c.as_slice.result.now c.in-Err-check_runs.stop c.faces.ensures.table c.as_slice.ensures.value c.in-Err-check_runs.ensures.stop)
