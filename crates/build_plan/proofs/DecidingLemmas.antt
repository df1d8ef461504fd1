-- What is decided of what was loaded is what is decided of the programs.
use Rattle.std.proofs.Common.{◌≡◌, sym, subst, ℕ, suc, List, [], ◌∷◌, All, Result, Ok, Err, arith}
use Rattle.std.specs.List.{AllZip}
use Rattle.answers.specs.Told.{WhereTold}
use Rattle.app_config.specs.declared.config.Config.{Config}
use Rattle.build_runs.proofs.ZipLemmas.{zip_right}
use Rattle.build_runs.specs.Answering.{IsLoadsAnswer, IsSafeRun}
use Rattle.build_runs.specs.declared.loading.LoadedRuns.{LoadedRuns}
use Rattle.build_runs.specs.declared.stops.LoadsStop.{LoadsStop}
use Rattle.build_runs.specs.declared.stops.LoadsStop.TheVariants.{Refused as LoadsRefused, Read as LoadsRead, NoMemory as NoMemoryLoads}
use Rattle.build_runs.specs.declared.programs.Start.{Start}
use Rattle.load_model.specs.World.{World}
use Rattle.load_model.specs.declared.faces.Face.{Face}
use Rattle.load_model.specs.declared.runs.Run.{Run}
use Rattle.path_text.specs.FileName.{IsFileName}
use Rattle.ports.specs.View.{View}
use Rattle.refusals.specs.declared.refusal.Refusal.{Refusal}
use Rattle.refusals.specs.declared.refusal.Refusal.TheVariants.{Config as RefusesConfig, Load, Split, Names, Rewrite, Files, Folder}
use Rattle.build_plan.specs.Building.{AreRunsOf, starts_of}
use Rattle.build_plan.specs.Deciding.{AreLoadsSafe, Decides, IsPlanned, IsRefusedPlan, IsUndecided, OpensFileNames}
use Rattle.build_plan.specs.Refusals.{stop_of_loads}
use Rattle.build_plan.specs.Steps.{IsStepAnswer}
use Rattle.build_plan.specs.declared.plans.Plan.{Plan}
use Rattle.build_plan.specs.declared.stops.BuildStop.{BuildStop}
use Rattle.build_plan.specs.declared.stops.BuildStop.TheVariants.{Refused, Read, NoMemory}

undecided : (world : World) (config : Config) (loads : LoadedRuns) (refusal : Refusal) → AreRunsOf world config loads.table.faces loads.runs → IsRefusedPlan config loads refusal → IsUndecided world config refusal
undecided world config loads (RefusesConfig refusal) runs h = absurd h
undecided world config loads (Load refusal) runs h = absurd h
undecided world config loads (Split refusal) runs h = record { faces = loads.table.faces; runs = loads.runs; loads = runs; are_such = h }
undecided world config loads (Names refusal) runs h = record { faces = loads.table.faces; runs = loads.runs; loads = runs; are_such = h }
undecided world config loads (Rewrite refusal) runs h = absurd h
undecided world config loads (Files refusal) runs h = absurd h
undecided world config loads (Folder refusal) runs h = absurd h

pub decided : (before after : View World) (config : Config) (loads : LoadedRuns) (result : Result Plan BuildStop) → WhereTold before.told (λ world. AreRunsOf world config loads.table.faces loads.runs) → IsPlanned config loads result → IsStepAnswer {A = Plan} before after (λ world outcome. Decides world config outcome) result
decided before after config loads (Ok plan) runs h = λ world told. record {
  runs = subst (λ (l : LoadedRuns). AreRunsOf world config l.table.faces l.runs) (sym h.0) (runs world told);
  plan = h.1;
}
decided before after config loads (Err (Refused refusal)) runs h = λ world told. undecided world config loads refusal (runs world told) h
decided before after config loads (Err Read) runs h = absurd h
decided before after config loads (Err NoMemory) runs h = tt

-- what stops the loading stops it
pub loads_stop : (before after : View World) (config : Config) (stop : LoadsStop) → IsLoadsAnswer config.setting before after (starts_of config) (Err stop) → IsStepAnswer {A = Plan} before after (λ world outcome. Decides world config outcome) (Err (stop_of_loads stop))
loads_stop before after config (LoadsRefused refusal) h = h
loads_stop before after config LoadsRead h = h
loads_stop before after config NoMemoryLoads h = tt

-- runs open what their programs open
opened_so : (faces : List Face) (programs : List Start) (runs : List Run) → AllZip (IsSafeRun faces) programs runs → All (λ (program : Start). All IsFileName program.opens) programs → AllZip (λ (program : Start) (run : Run). All IsFileName run.opens) programs runs
opened_so faces [] [] each all = tt
opened_so faces [] (run ∷ runs) each all = absurd each
opened_so faces (program ∷ programs) [] each all = absurd each
opened_so faces (program ∷ programs) (run ∷ runs) each all = (
  subst (λ opens. All IsFileName opens) (sym each.0.opens) (all 0 program (omega arith)),
  opened_so faces programs runs each.1 (λ k d less. all (suc k) d (omega arith)),
)

pub runs_open_file_names : (config : Config) (loads : LoadedRuns) → OpensFileNames config → AreLoadsSafe config loads → All (λ (run : Run). All IsFileName run.opens) loads.runs
runs_open_file_names config loads opens safe =
    zip_right (λ (program : Start) (run : Run). All IsFileName run.opens) (λ (run : Run). All IsFileName run.opens) (λ program run h. h) (starts_of config) loads.runs
    (opened_so loads.table.faces (starts_of config) loads.runs safe.each opens)
