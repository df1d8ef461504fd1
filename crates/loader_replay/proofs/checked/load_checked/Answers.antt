use Rattle.loader_replay.proofs.AnswerLemmas.{check_stopped}
use Rattle.loader_replay.proofs.checked.load_checked.Goals as goal

pub returns-in-Err-check-clause-answer : goal.returns-in-Err-check-clause-answer
returns-in-Err-check-clause-answer g c =
    check_stopped c.args.setting.now (g.P.Opener.seen c.args.opener.now) (g.P.Opener.seen c.load.new.opener) c.args.start.now c.args.opens.now c.faces.result.now _ c.in-Err-check.stop c.faces.ensures.table c.in-Ok.ensures.answer c.in-Err-check.ensures
