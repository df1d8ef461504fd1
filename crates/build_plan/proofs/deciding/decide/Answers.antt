use Rattle.std.proofs.Common.{◌≡◌, ◌∙◌, List, subst, sym, Err}
use Rattle.build_runs.specs.Answering.{AreSafeRuns, IsLoadsAnswer}
use Rattle.build_runs.specs.BuildRuns.{AreRuns}
use Rattle.build_runs.specs.declared.programs.Start.{Start}
use Rattle.build_plan.specs.Building.{starts_of}
use Rattle.build_plan.specs.Deciding.{Decides}
use Rattle.build_plan.specs.Steps.{IsStepAnswer}
use Rattle.build_plan.specs.declared.plans.Plan.{Plan}
use Rattle.build_plan.specs.declared.stops.BuildStop.{BuildStop}
use Rattle.build_plan.proofs.DecidingLemmas.{decided, loads_stop, runs_open_file_names}
use Rattle.build_plan.proofs.deciding.decide.Goals as goal

pub split_plan-requires-clause-opens : goal.split_plan-requires-clause-opens
split_plan-requires-clause-opens g c =
    let loads = c.in-Ok-load_all.loads in
    let starts : c.as_slice.result.now ≡ starts_of c.args.config.now = c.as_slice.ensures ∙ c.in-Ok.ensures in
    runs_open_file_names c.args.config.now loads c.requires
    (subst (λ (programs : List Start). AreSafeRuns c.args.config.now.setting.machine programs loads.table.faces loads.runs) starts c.in-Ok-load_all.ensures.safe)

pub returns-in-Ok-load_all-clause-answer : goal.returns-in-Ok-load_all-clause-answer
returns-in-Ok-load_all-clause-answer g c =
    let loads = c.in-Ok-load_all.loads in
    let starts : c.as_slice.result.now ≡ starts_of c.args.config.now = c.as_slice.ensures ∙ c.in-Ok.ensures in
    decided (g.T.Tree.seen c.args.tree.now) (g.T.Tree.seen c.load_all.new.tree) c.args.config.now loads c.split_plan.result
    (λ world told. subst (λ (programs : List Start). AreRuns c.args.config.now.setting world programs loads.table.faces loads.runs) starts (c.in-Ok-load_all.ensures.answer world told))
    c.split_plan.ensures

pub returns-clause-answer : goal.returns-clause-answer
returns-clause-answer g c =
    let before = g.T.Tree.seen c.args.tree.now in
    let after = g.T.Tree.seen c.load_all.new.tree in
    let starts : c.as_slice.result.now ≡ starts_of c.args.config.now = c.as_slice.ensures ∙ c.in-Ok.ensures in
    subst (λ (stop : BuildStop). IsStepAnswer {A = Plan} before after (λ world outcome. Decides world c.args.config.now outcome) (Err stop)) (sym c.stop_of_loads.ensures)
    (loads_stop before after c.args.config.now c.in-Err-load_all.stop
    (subst (λ (programs : List Start). IsLoadsAnswer c.args.config.now.setting before after programs (Err c.in-Err-load_all.stop)) starts c.in-Err-load_all.ensures.answer))
