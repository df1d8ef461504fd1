use Rattle.std.proofs.Common.{◌≡◌, ◌∙◌, refl, subst, List, ℕ, Some, Ok, Err, slice_get}
use Rattle.std.proofs.lemmas.Option.{slice_get_read}
use Rattle.load_order.proofs.WalkingAsks.{grew_on}
use Rattle.load_order.specs.Answering.{IsLoadAnswer}
use Rattle.build_runs.proofs.GrownLemmas.{more_lists, more_safe}
use Rattle.build_runs.proofs.StopLemmas.{lists_stop}
use Rattle.build_runs.proofs.listing.load_runs.Goals as goal

pub returns-in-Err-clause-stop : goal.returns-in-Err-clause-stop
returns-in-Err-clause-stop g c =
    lists_stop c.args.setting.now (g.P.Opener.seen c.args.opener.now) (g.P.Opener.seen c.loop-program.opener) (g.P.Opener.seen c.load.new.opener) c.args.programs.now c.loop-program.program-index c.program-item.result c.loop-program.runs.items c.in-Err.stop c.loop-program.invariant.grew c.loop-program.invariant.lists
    (slice_get_read c.args.programs.now _ c.loop-program.program-index c.program-item.result refl c.loop-program-test.true c.program-item.is)
    (subst (λ (opens : List (List ℕ)). IsLoadAnswer c.args.setting.now (g.P.Opener.seen c.loop-program.opener) (g.P.Opener.seen c.load.new.opener) c.program-item.result.path opens (Err c.in-Err.stop)) c.as_slice.ensures c.in-Err.ensures.answer)

pub loop-program-preserved : goal.loop-program-preserved
loop-program-preserved g c =
    let stands : slice_get c.args.programs.now c.loop-program.program-index ≡ Some c.program-item.result =
    slice_get_read c.args.programs.now _ c.loop-program.program-index c.program-item.result refl c.loop-program-test.true c.program-item.is in
    let answer : IsLoadAnswer c.args.setting.now (g.P.Opener.seen c.loop-program.opener) (g.P.Opener.seen c.load.new.opener) c.program-item.result.path c.program-item.result.opens (Ok c.in-Ok.run') =
    subst (λ (opens : List (List ℕ)). IsLoadAnswer c.args.setting.now (g.P.Opener.seen c.loop-program.opener) (g.P.Opener.seen c.load.new.opener) c.program-item.result.path opens (Ok c.in-Ok.run')) c.as_slice.ensures c.in-Ok.ensures.answer in
    record {
      safe = more_safe (g.P.Opener.seen c.loop-program.opener) (g.P.Opener.seen c.load.new.opener) c.load.ensures.grew c.args.programs.now c.loop-program.program-index c.program-item.result c.loop-program.runs.items c.push.new.self.items c.in-Ok.run' stands c.in-Ok-push.ensures.items c.loop-program.invariant.safe (record { over = answer.0; loaders = answer.1; opens = answer.2 });
      lists = λ world told. more_lists (g.P.Opener.seen c.loop-program.opener) (g.P.Opener.seen c.load.new.opener) c.load.ensures.grew c.args.programs.now c.loop-program.program-index c.program-item.result c.loop-program.runs.items c.push.new.self.items c.in-Ok.run' stands c.in-Ok-push.ensures.items c.args.setting.now world (c.loop-program.invariant.lists world told) (answer.3 world (c.loop-program.invariant.grew.world ∙ told));
      grew = grew_on (g.P.Opener.seen c.args.opener.now) (g.P.Opener.seen c.loop-program.opener) (g.P.Opener.seen c.load.new.opener) c.loop-program.invariant.grew c.load.ensures.grew;
    }
