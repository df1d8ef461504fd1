use Rattle.std.proofs.Common.{◌∙◌, sym, ◌∷◌, []}
use Rattle.load_order.proofs.OrderingRuns.{before_opens, load_made, open_stopped, start_stops, walk_stopped}
use Rattle.load_order.proofs.OrderingSteps.{grew_on}
use Rattle.load_order.proofs.ordering.load.Goals as goal

pub returns-in-Err-clause-answer : goal.returns-in-Err-clause-answer
returns-in-Err-clause-answer g c =
    let st = c.in-Err.ensures.answer c.args.setting.now (sym c.requires) in
    (start_stops c.args.setting.now (g.P.Opener.seen c.args.opener.now).told c.args.start.now c.args.opens.now c.in-Err.stop st.0, st.1)

pub returns-in-Err-walk-clause-answer : goal.returns-in-Err-walk-clause-answer
returns-in-Err-walk-clause-answer g c =
    let st = c.in-Ok.ensures.answer c.args.setting.now (sym c.requires) in
    walk_stopped c.args.setting.now (g.P.Opener.seen c.args.opener.now) (g.P.Opener.seen c.start.new.opener) (g.P.Opener.seen c.walk.new.opener) c.in-Ok.loading c.walk.new.loading c.args.start.now c.args.opens.now c.in-Ok.ensures.alone c.in-Ok.ensures.safe c.in-Ok.ensures.grew st c.in-Err-walk.stop (c.in-Err-walk.ensures.answer _ st.2)

pub returns-in-Err-open_all-clause-answer : goal.returns-in-Err-open_all-clause-answer
returns-in-Err-open_all-clause-answer g c =
    let st = c.in-Ok.ensures.answer c.args.setting.now (sym c.requires) in
    let w = c.in-Ok-walk.ensures.answer _ st.2 in
    let first = before_opens c.args.setting.now (g.P.Opener.seen c.args.opener.now) (g.P.Opener.seen c.start.new.opener) (g.P.Opener.seen c.walk.new.opener) c.in-Ok.loading c.walk.new.loading c.args.start.now c.in-Ok.ensures.alone c.in-Ok.ensures.safe st c.in-Ok-walk.ensures.walking c.in-Ok-walk.ensures.grew w in
    let grew = grew_on (g.P.Opener.seen c.args.opener.now) (g.P.Opener.seen c.start.new.opener) (g.P.Opener.seen c.walk.new.opener) c.in-Ok.ensures.grew c.in-Ok-walk.ensures.grew in
    open_stopped c.args.setting.now (g.P.Opener.seen c.args.opener.now) (g.P.Opener.seen c.walk.new.opener) (g.P.Opener.seen c.open_all.new.opener) c.args.start.now st.0 c.args.opens.now c.open_all.new.loading (w.end ∷ []) grew st.3 c.in-Err-open_all.stop
    (c.in-Err-open_all.ensures.answer c.args.start.now st.0 w.end (w.end ∷ []) first)

pub returns-in-Ok-made-clause-answer : goal.returns-in-Ok-made-clause-answer
returns-in-Ok-made-clause-answer g c =
    let st = c.in-Ok.ensures.answer c.args.setting.now (sym c.requires) in
    let w = c.in-Ok-walk.ensures.answer _ st.2 in
    let first = before_opens c.args.setting.now (g.P.Opener.seen c.args.opener.now) (g.P.Opener.seen c.start.new.opener) (g.P.Opener.seen c.walk.new.opener) c.in-Ok.loading c.walk.new.loading c.args.start.now c.in-Ok.ensures.alone c.in-Ok.ensures.safe st c.in-Ok-walk.ensures.walking c.in-Ok-walk.ensures.grew w in
    let grew = grew_on (g.P.Opener.seen c.args.opener.now) (g.P.Opener.seen c.start.new.opener) (g.P.Opener.seen c.walk.new.opener) c.in-Ok.ensures.grew c.in-Ok-walk.ensures.grew in
    load_made c.args.setting.now (g.P.Opener.seen c.args.opener.now) (g.P.Opener.seen c.walk.new.opener) (g.P.Opener.seen c.open_all.new.opener) c.args.start.now st.0 c.args.opens.now c.walk.new.loading c.open_all.new.loading (w.end ∷ []) c.in-Ok-open_all.roots c.count-global.result c.in-Ok-made.run' grew st.3
    c.in-Ok-open_all.ensures.safe c.in-Ok-open_all.ensures.ready (c.in-Ok-walk.ensures.walking.phase ∙ c.in-Ok.ensures.alone.phase) c.count-global.ensures w.stands.objects.count c.in-Ok-made.ensures
    (c.in-Ok-open_all.ensures.answer c.args.start.now st.0 w.end (w.end ∷ []) first)
