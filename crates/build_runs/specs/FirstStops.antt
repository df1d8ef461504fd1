-- The first stop of all programs of a build: that of the first program, in order, that has no load
-- list; or where each has one, the first ask that is not met of the first program that has one.
use Rattle.std.specs.Prelude.{List, [], ◌∷◌, ◌⊎◌, All}
use Rattle.load_model.specs.Faces.{face_or_flaw}
use Rattle.load_model.specs.LoadList.{Loaded}
use Rattle.load_model.specs.Loads.{IsLoadList, IsStopped}
use Rattle.load_model.specs.Replays.{HasUnmet}
use Rattle.load_model.specs.World.{World}
use Rattle.load_model.specs.declared.faces.Face.{Face}
use Rattle.load_model.specs.declared.refusals.LoadRefusal.{LoadRefusal}
use Rattle.load_model.specs.declared.runs.Run.{Run}
use Rattle.load_model.specs.declared.setting.Setting.{Setting}
use Rattle.build_runs.specs.BuildRuns.{IsRunFor}
use Rattle.build_runs.specs.declared.programs.Start.{Start}

-- The first of these that does not pass stops so.
abbrev pub StopsFirst : (Start → Type 0) → (Start → LoadRefusal → Type 0) → List Start
    → LoadRefusal → Type 0
StopsFirst Passes Stops [] refusal = ⊥
StopsFirst Passes Stops (program ∷ programs) refusal =
    Stops program refusal ⊎ (Passes program × StopsFirst Passes Stops programs refusal)

module _ (setting : Setting) (world : World) where
  -- The program has a load list.
  pub record HasLoadList (program : Start) : Type 0 where
    pub loaded : Loaded
    pub ends : List Loaded
    pub list : IsLoadList face_or_flaw setting world program.path program.opens loaded ends

  -- It has one, and its versions are met.
  pub record HasRun (program : Start) : Type 0 where
    pub faces : List Face
    pub run : Run
    pub run_is : IsRunFor setting world faces program run

  -- It has no load list, and stops so.
  abbrev pub LoadStops : Start → LoadRefusal → Type 0
  LoadStops program refusal =
      IsStopped face_or_flaw setting world program.path program.opens refusal

  -- It has one, and its first ask that is not met is refused so.
  abbrev pub VersionStops : Start → LoadRefusal → Type 0
  VersionStops program refusal =
      HasUnmet face_or_flaw setting world program.path program.opens refusal

  -- The first stop of the programs.
  abbrev pub IsFirstStop : List Start → LoadRefusal → Type 0
  IsFirstStop programs refusal =
      StopsFirst HasLoadList LoadStops programs refusal
      ⊎ (All HasLoadList programs × StopsFirst HasRun VersionStops programs refusal)
