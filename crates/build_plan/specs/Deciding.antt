-- What deciding comes to: what is decided, or the first refusal.
use Rattle.std.specs.Prelude.{ℕ, List, ◌≡◌, All, Some, Result, Ok, Err}
use Rattle.app_config.specs.declared.config.Config.{Config}
use Rattle.build_runs.specs.Answering.{AreSafeRuns}
use Rattle.build_runs.specs.FirstStops.{IsFirstStop}
use Rattle.build_runs.specs.declared.programs.Start.{Start}
use Rattle.build_runs.specs.declared.loading.LoadedRuns.{LoadedRuns}
use Rattle.lib_closure.specs.Splits.{split_of}
use Rattle.lib_closure.specs.declared.splits.Split.{Split}
use Rattle.lib_closure.specs.declared.stops.ClosureStop.{ClosureStop}
use Rattle.load_model.specs.World.{World}
use Rattle.load_model.specs.declared.faces.Face.{Face}
use Rattle.load_model.specs.declared.runs.Run.{Run}
use Rattle.name_layout.specs.Layouts.{first_name_stop}
use Rattle.name_layout.specs.declared.stops.NameStop.{NameStop}
use Rattle.path_text.specs.FileName.{IsFileName}
use Rattle.refusals.specs.declared.refusal.Refusal.{Refusal}
use Rattle.refusals.specs.declared.refusal.Refusal.TheVariants.{Config as RefusesConfig, Load, Split as RefusesSplit, Names, Rewrite, Files, Folder}
use Rattle.build_plan.specs.Building.{AreRunsOf, Building, IsBuilding, IsPlan, starts_of}
use Rattle.build_plan.specs.Refusals.{stop_of_closure, stop_of_name}
use Rattle.build_plan.specs.declared.plans.Plan.{Plan}
use Rattle.build_plan.specs.declared.stops.BuildStop.{BuildStop}
use Rattle.build_plan.specs.declared.stops.BuildStop.TheVariants.{Refused, Read, NoMemory}

-- Each name that a program opens is a file name.
abbrev pub OpensFileNames : Config → Type 0
OpensFileNames config = All (λ (program : Start). All IsFileName program.opens) (starts_of config)

abbrev pub building_of : Plan → Building
building_of plan = record {
  faces = plan.loads.table.faces;
  runs = plan.loads.runs;
  split = plan.split;
  layout = plan.layout;
}

-- What is known over every tree.
abbrev pub AreLoadsSafe : Config → LoadedRuns → Type 0
AreLoadsSafe config loads =
    AreSafeRuns config.setting.machine (starts_of config) loads.table.faces loads.runs

pub record IsSafePlan (config : Config) (decided : Plan) : Type 0 where
  pub safe : AreLoadsSafe config decided.loads
  pub plan : IsPlan config.names (building_of decided)

-- ---- the refusals

-- The split of load lists is a clash.
pub record HasClash (names : List (List ℕ)) (refusal : Refusal) (faces : List Face)
    (runs : List Run) : Type 0 where
  pub clash : ClosureStop
  pub clashes : split_of faces runs names ≡ Err clash
  pub refusal_is : stop_of_closure clash ≡ Refused refusal

-- A bundled library has no name.
pub record HasBadName (names : List (List ℕ)) (refusal : Refusal) (faces : List Face)
    (runs : List Run) : Type 0 where
  pub split : Split
  pub splits : split_of faces runs names ≡ Ok split
  pub stop : NameStop
  pub stops : first_name_stop faces runs split names ≡ Some stop
  pub refusal_is : stop_of_name stop ≡ Refused refusal

-- The load lists that the programs have in a world are such.
pub record OfRuns (world : World) (config : Config) (P : List Face → List Run → Type 0) : Type 0
  where
    pub faces : List Face
    pub runs : List Run
    pub loads : AreRunsOf world config faces runs
    pub are_such : P faces runs

-- The refusals of loading, of the split and of the names, in this order; the others come later.
abbrev pub IsUndecided : World → Config → Refusal → Type 0
IsUndecided world config (RefusesConfig refusal) = ⊥
IsUndecided world config (Load refusal) =
    IsFirstStop config.setting world (starts_of config) refusal
IsUndecided world config (RefusesSplit refusal) =
    OfRuns world config (HasClash config.names (RefusesSplit refusal))
IsUndecided world config (Names refusal) =
    OfRuns world config (HasBadName config.names (Names refusal))
IsUndecided world config (Rewrite refusal) = ⊥
IsUndecided world config (Files refusal) = ⊥
IsUndecided world config (Folder refusal) = ⊥

abbrev pub Decides : World → Config → Result Plan Refusal → Type 0
Decides world config (Ok plan) = IsBuilding world config (building_of plan)
Decides world config (Err refusal) = IsUndecided world config refusal

-- ---- what is loaded is split and named, or refused

abbrev pub IsRefusedPlan : Config → LoadedRuns → Refusal → Type 0
IsRefusedPlan config loads (RefusesConfig refusal) = ⊥
IsRefusedPlan config loads (Load refusal) = ⊥
IsRefusedPlan config loads (RefusesSplit refusal) =
    HasClash config.names (RefusesSplit refusal) loads.table.faces loads.runs
IsRefusedPlan config loads (Names refusal) =
    HasBadName config.names (Names refusal) loads.table.faces loads.runs
IsRefusedPlan config loads (Rewrite refusal) = ⊥
IsRefusedPlan config loads (Files refusal) = ⊥
IsRefusedPlan config loads (Folder refusal) = ⊥

abbrev pub IsPlanned : Config → LoadedRuns → Result Plan BuildStop → Type 0
IsPlanned config loads (Ok plan) =
    (plan.loads ≡ loads) × IsPlan config.names (building_of plan)
IsPlanned config loads (Err (Refused refusal)) = IsRefusedPlan config loads refusal
IsPlanned config loads (Err Read) = ⊥
IsPlanned config loads (Err NoMemory) = Unit {0}
