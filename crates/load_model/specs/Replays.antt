-- A run of a program: its load list with the bindings of all references, or the first stop.
use Rattle.std.specs.Prelude.{ℕ, List, ◌≡◌, ◌⊎◌, Some, None, Result, slice_get}
use Rattle.byte_view.specs.declared.flaws.Flaw.{Flaw}
use Rattle.load_model.specs.Bindings.{all_binds}
use Rattle.load_model.specs.LoadList.{Loaded}
use Rattle.load_model.specs.Loads.{IsLoadList, IsStopped}
use Rattle.load_model.specs.Runs.{IsRunOf, face_at}
use Rattle.load_model.specs.VersionCheck.{FileUnloaded, Unmet, UnmetAsk, VersionLacking, asks_in, first_unmet}
use Rattle.load_model.specs.World.{World}
use Rattle.load_model.specs.declared.asks.Ask.{Ask}
use Rattle.load_model.specs.declared.faces.Face.{Face}
use Rattle.load_model.specs.declared.refusals.LoadRefusal.{LoadRefusal}
use Rattle.load_model.specs.declared.refusals.LoadRefusal.TheVariants.{UnsatisfiedVersion, VersionFileUnloaded}
use Rattle.load_model.specs.declared.runs.Obj.{Obj}
use Rattle.load_model.specs.declared.runs.Replay.{Replay}
use Rattle.load_model.specs.declared.runs.Run.{Run}
use Rattle.load_model.specs.declared.setting.Setting.{Setting}

-- Why an ask is refused, with the path of the object that asks.
abbrev pub refusal_by : Unmet → List ℕ → Ask → LoadRefusal
refusal_by FileUnloaded path ask = VersionFileUnloaded path ask.file
refusal_by VersionLacking path ask = UnsatisfiedVersion path ask.file ask.name

pub record IsRefusedAsk (faces : List Face) (run : Run) (u : UnmetAsk) (stop : LoadRefusal) : Type 0
  where
    pub asker : Obj
    pub stands : slice_get run.objs u.obj ≡ Some asker
    pub ask : Ask
    pub asked : slice_get (asks_in (face_at faces run u.obj)) u.ask ≡ Some ask
    pub refusal : stop ≡ refusal_by u.why asker.path ask

module _ (read : List ℕ → Result Face Flaw) (setting : Setting) (world : World) where
  -- The program at the path has this load list over these faces.
  pub record Loads (faces : List Face) (path : List ℕ) (opens : List (List ℕ)) (run : Run) : Type 0
    where
      pub loaded : Loaded
      pub ends : List Loaded
      pub list : IsLoadList read setting world path opens loaded ends
      pub run_is : IsRunOf faces opens loaded ends run

  -- Its versions are met, and these are the bindings of all references.
  pub record IsReplay (faces : List Face) (path : List ℕ) (opens : List (List ℕ))
      (replay : Replay) : Type 0 where
    pub loads : Loads faces path opens replay.run
    pub met : first_unmet faces replay.run ≡ None
    pub binds : replay.binds ≡ all_binds faces replay.run

  -- Its load list stops, or its first unmet ask is refused.
  pub record HasUnmet (path : List ℕ) (opens : List (List ℕ)) (stop : LoadRefusal) : Type 0 where
    pub faces : List Face
    pub run : Run
    pub loads : Loads faces path opens run
    pub first : UnmetAsk
    pub unmet : first_unmet faces run ≡ Some first
    pub refused : IsRefusedAsk faces run first stop

  abbrev pub IsReplayStop : List ℕ → List (List ℕ) → LoadRefusal → Type 0
  IsReplayStop path opens stop =
      IsStopped read setting world path opens stop ⊎ HasUnmet path opens stop
