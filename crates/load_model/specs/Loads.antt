-- The load list of the program at a path of a world, and the first stop of it.
use Rattle.std.specs.Prelude.{ℕ, List, ◌≡◌, ◌⊎◌, Option, Some, None, Result, Ok, Err}
use Rattle.byte_view.specs.declared.flaws.Flaw.{Flaw}
use Rattle.load_model.specs.Candidates.{path_search, refused_text}
use Rattle.load_model.specs.LoadList.{Object, Request, Asked, Loaded, Found, IsStoppedRun, IsEndedRun, found_for}
use Rattle.load_model.specs.World.{World, Kind, Absent, Other, Object as IsObject, Damaged as IsDamaged, kind_of}
use Rattle.load_model.specs.declared.faces.Face.{Face}
use Rattle.load_model.specs.declared.limits.TheConstants.{MOST_OBJECTS}
use Rattle.load_model.specs.declared.refusals.LoadRefusal.{LoadRefusal}
use Rattle.load_model.specs.declared.refusals.LoadRefusal.TheVariants.{Damaged, NoProgram, TooManyObjects}
use Rattle.load_model.specs.declared.setting.Setting.{Setting}

module _ (read : List ℕ → Result Face Flaw) (setting : Setting) (world : World) where
  -- The program, before anything that it needs.
  abbrev pub program_by : List ℕ → Kind Face Flaw → Result Object LoadRefusal
  program_by path Absent = Err (NoProgram path)
  program_by path Other = Err (NoProgram path)
  program_by path (IsDamaged file flaw) = Err (Damaged path flaw)
  program_by path (IsObject file face) = Ok (record { path = path; id = file.id; face = face })

  unfoldable pub program_at : List ℕ → Result Object LoadRefusal
  program_at path = program_by path (kind_of read setting.machine world path)

  -- Where a request goes: its text is looked at first, then the known names, then the search.
  abbrev pub answer_unless : List ℕ → List Object → List Asked → Request → Option LoadRefusal
      → Result Found LoadRefusal
  answer_unless program objs log r None =
      found_for (TooManyObjects program) MOST_OBJECTS (path_search read setting world) objs log r
  answer_unless program objs log r (Some refusal) = Err refusal

  unfoldable pub goes_to : List ℕ → List Object → List Asked → Request → Result Found LoadRefusal
  goes_to program objs log r = answer_unless program objs log r (refused_text objs r)

  -- The objects and requests are the load list of the program at the path, with these states at the
  -- ends of its phases.
  pub record IsLoadList (path : List ℕ) (opens : List (List ℕ)) (loaded : Loaded)
      (ends : List Loaded) : Type 0 where
    pub program : Object
    pub starts : program_at path ≡ Ok program
    pub run : IsEndedRun (goes_to path) program opens loaded ends

  -- The program does not start, or its run stops at the first request that has no target.
  abbrev pub IsStopped : List ℕ → List (List ℕ) → LoadRefusal → Type 0
  IsStopped path opens stop =
      (program_at path ≡ Err stop)
      ⊎ ((program : Object) × (program_at path ≡ Ok program)
      × IsStoppedRun (goes_to path) program opens stop)
