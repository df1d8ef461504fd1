use Rattle.load_order.proofs.OrderingSteps.{ask_stops, opened, raised_stands, walk_stops}
use Rattle.load_order.proofs.ordering.open_one.Goals as goal

pub returns-in-Ok-walk-clause-answer : goal.returns-in-Ok-walk-clause-answer
returns-in-Ok-walk-clause-answer g c loaded stands =
    let asked = c.in-Ok.ensures.answer loaded (raised_stands (g.P.Opener.seen c.args.opener.now).faces c.args.loading.now c.in-Some.phase loaded stands) in
    opened c.args.setting.now (g.P.Opener.seen c.args.opener.now) (g.P.Opener.seen c.ask.new.opener) c.args.loading.now c.ask.new.loading c.in-Some.phase c.requires.all loaded stands c.requires.safe.program c.args.name.now
    (g.P.Opener.seen c.walk.new.opener) c.walk.new.loading c.in-Ok.root c.in-Ok.ensures.asking c.in-Ok.ensures.grew asked c.in-Ok-walk.ensures.walking c.in-Ok-walk.ensures.grew (c.in-Ok-walk.ensures.answer _ asked.2)

pub returns-in-Err-walk-clause-answer : goal.returns-in-Err-walk-clause-answer
returns-in-Err-walk-clause-answer g c loaded stands =
    let asked = c.in-Ok.ensures.answer loaded (raised_stands (g.P.Opener.seen c.args.opener.now).faces c.args.loading.now c.in-Some.phase loaded stands) in
    walk_stops c.args.setting.now (g.P.Opener.seen c.args.opener.now) (g.P.Opener.seen c.ask.new.opener) c.args.loading.now c.ask.new.loading c.in-Some.phase c.requires.all loaded stands c.requires.safe.program c.args.name.now
    (g.P.Opener.seen c.walk.new.opener) c.walk.new.loading c.in-Ok.root c.in-Ok.ensures.asking c.in-Ok.ensures.grew asked c.in-Err-walk.stop (c.in-Err-walk.ensures.answer _ asked.2)

pub returns-in-Err-clause-answer : goal.returns-in-Err-clause-answer
returns-in-Err-clause-answer g c loaded stands =
    ask_stops c.args.setting.now (g.P.Opener.seen c.args.opener.now) (g.P.Opener.seen c.ask.new.opener) c.args.loading.now c.ask.new.loading c.in-Some.phase c.requires.all loaded stands c.requires.safe.program c.args.name.now
    c.ask.new.loading c.in-Err.stop (c.in-Err.ensures.answer loaded (raised_stands (g.P.Opener.seen c.args.opener.now).faces c.args.loading.now c.in-Some.phase loaded stands))
