-- The programs of a directory run at every place of every host that meets the record in the directory,
-- and at every free place of the machine where they were packed, as they run there.
use Rattle.std.specs.Prelude.{ℕ, List, ◌++◌, ◌≡◌, ◌≢◌, ◌⊎◌, All, Some, true, map, slice_get}
use Rattle.std.specs.List.{Contains}
use Rattle.app_config.specs.declared.config.Config.{Config}
use Rattle.appdir_build.specs.Objects.{lib_objects, new_bytes_of, program_objects}
use Rattle.build_laws.specs.Renaming.{IsProgramOf, as_items, is_bundled_in, name_in}
use Rattle.build_plan.specs.Building.{Building}
use Rattle.build_runs.specs.declared.programs.Start.{Start}
use Rattle.build_texts.specs.Texts.{record_in, replay_in}
use Rattle.elf_rewrite.specs.Patched.{range_of}
use Rattle.elf_rewrite.specs.Rewriting.{rewriting}
use Rattle.elf_rewrite.specs.declared.change.Change.{Change}
use Rattle.host_checks.specs.Hosting.{host_setting, record_place}
use Rattle.host_list.specs.Meeting.{HostMeets}
use Rattle.host_list.specs.Recording.{program_interp}
use Rattle.host_record.specs.Grammar.{Says}
use Rattle.host_record.specs.Said.{lib_names}
use Rattle.host_record.specs.declared.records.Record.{Record}
use Rattle.lib_closure.specs.declared.splits.Member.{Member}
use Rattle.listed_runs.specs.Fitting.{is_on_list}
use Rattle.load_model.specs.Candidates.{IsOpenedIn}
use Rattle.load_model.specs.Faces.{face_or_flaw}
use Rattle.load_model.specs.Joined.{joined}
use Rattle.load_model.specs.LoadList.{Loaded}
use Rattle.load_model.specs.Loads.{IsLoadList}
use Rattle.load_model.specs.Replays.{IsReplay}
use Rattle.load_model.specs.World.{World, file_at}
use Rattle.load_model.specs.declared.runs.Run.{Run}
use Rattle.load_model.specs.declared.setting.Setting.{Setting}
use Rattle.load_model.specs.declared.world.WorldFile.{WorldFile}
use Rattle.moved_runs.specs.Placed.{IsPlaced, IsUnder}
use Rattle.moved_runs.specs.SameRuns.{RunsSame}
use Rattle.path_text.specs.Path.{IsNormalPath, base_of}
use Rattle.ports.specs.Reading.{bytes_at}
use Rattle.ports.specs.declared.folders.MemFile.{MemFile}
use Rattle.two_files.specs.Kept.{Range, SameImage}

-- ---- places and hosts

-- No directory is the place or lies under it.
abbrev pub AreApartFrom : List ℕ → List (List ℕ) → Type 0
AreApartFrom place dirs =
    (i : ℕ) (dir : List ℕ) → slice_get dirs i ≡ Some dir
    → (dir ≢ place) × (IsUnder place dir → ⊥)

-- The directory of these files lies at a place of a world in which libraries are looked for in these
-- directories.
pub record IsPackedAt (world : World) (place : List ℕ) (dirs : List (List ℕ)) (files : List MemFile)
    : Type 0 where
  -- the files of the directory lie at the place, each a file of its own, and nothing else does
  pub placed : IsPlaced world place (as_items files)
  -- no listed directory is the place or lies under it
  pub apart : AreApartFrom place dirs

-- What is read of the text of the record among these files.
pub record IsReadOf (files : List MemFile) (r : Record) : Type 0 where
  pub file : MemFile
  pub among : Contains files file
  pub lies : file.path ≡ record_place
  pub says : Says file.bytes r

-- The premises on a host, on a place, and on the loader's setting there.
pub record IsHostFor (host : World) (config : Config) (setting : Setting) (place : List ℕ)
    (files : List MemFile) : Type 0 where
  -- every absolute place: a path in normal form, which may have colons, spaces and `$` in it
  pub place_normal : IsNormalPath place
  -- the directories that the host's loader is set to; they need not be those of the build
  pub dirs_normal : All IsNormalPath setting.dirs
  pub lies : IsPackedAt host place setting.dirs files
  -- the loader is for the machine of the build; it has no preload and no library path
  pub machine : setting.machine ≡ config.setting.machine
  -- the host meets the record that is read from the written `host.txt`
  pub demands : Record
  pub read : IsReadOf files demands
  pub meets : HostMeets face_or_flaw setting host demands

-- The world in which a program was packed, with the directory at a place of it. No demand is made of
-- this world as a host.
pub record IsSourceWith (world : World) (config : Config) (source : World) (place : List ℕ)
    (files : List MemFile) : Type 0 where
  -- the files of the source, and others at the place alone
  pub added : World
  pub world_is : world ≡ source ++ added
  pub at_place : (file : WorldFile) → Contains added file → IsUnder place file.path
  -- every absolute place, as above
  pub place_normal : IsNormalPath place
  -- the listed directories are those of the build
  pub lies : IsPackedAt world place config.setting.dirs files

-- ---- what a loader does there

-- A file of the directory, where it lies at the place.
abbrev pub IsOfDirectory : List MemFile → List ℕ → List ℕ → Type 0
IsOfDirectory files place path =
    (file : MemFile) × Contains files file × (path ≡ joined place file.path)

-- A listed directory of the host joined with a name of the record.
abbrev pub IsOnRecord : Building → Setting → List ℕ → Type 0
IsOnRecord b setting path =
    (name : List ℕ) × (dir : List ℕ) × Contains (lib_names (record_in b).libs) name
    × Contains setting.dirs dir × (path ≡ joined dir name)

-- What the modelled loader does there that is started on a program of the directory, which lies in it
-- at `path` and has the run `run` where it was packed.
pub record RunsThere (config : Config) (b : Building) (files : List MemFile) (host : World)
    (setting : Setting) (place : List ℕ) (start : Start) (run : Run) (path : List ℕ) : Type 0 where
  -- it is a run, and no stop
  pub loaded : Loaded
  pub ends : List Loaded
  pub loads : IsLoadList face_or_flaw setting host (joined place path) start.opens loaded ends
  -- it opens only files of the directory, and host files that are named on the record
  pub opens : (opened : List ℕ)
      → IsOpenedIn face_or_flaw setting host (joined place path) loaded opened
      → IsOfDirectory files place opened ⊎ IsOnRecord b setting opened
  -- the program's interpreter is a file of the host, and its last part is on the host list
  pub interp : List ℕ
  pub interp_is : program_interp b.faces run ≡ Some interp
  pub interp_listed : is_on_list config.names (base_of interp) ≡ true
  pub interp_lies : (file : WorldFile) × (file_at host interp ≡ Some file)
  -- all versions are met; it loads the original objects in the original order, and gives each
  -- reference of the program and of bundled libraries the same definition or, as before, none
  pub same : RunsSame face_or_flaw setting host place (name_in b run) (is_bundled_in b run) path
      start.opens b.faces (replay_in b.faces run)

-- A program of a build, by its number: it has a run where it was packed and a file in the directory,
-- and it runs the same at every place of every host that meets the record, and beside its original.
pub record ProgramRuns (world : World) (config : Config) (b : Building) (files : List MemFile)
    (number : ℕ) (start : Start) : Type 0 where
  pub run : Run
  pub path : List ℕ
  pub is : IsProgramOf config b number start run path
  pub plays : IsReplay face_or_flaw config.setting world b.faces start.path start.opens
      (replay_in b.faces run)
  pub there : (host : World) (setting : Setting) (place : List ℕ)
      → IsHostFor host config setting place files
      → RunsThere config b files host setting place start run path
  -- where it was packed, at every place, under the build's own setting
  pub beside : (host : World) (place : List ℕ) → IsSourceWith host config world place files
      → RunsThere config b files host config.setting place start run path

-- The same on one host, with the setting that the record and the directories give.
pub record RunsOnHost (config : Config) (b : Building) (files : List MemFile) (host : World)
    (dirs : List (List ℕ)) (place : List ℕ) (number : ℕ) (start : Start) : Type 0 where
  pub run : Run
  pub path : List ℕ
  pub is : IsProgramOf config b number start run path
  pub runs : RunsThere config b files host (host_setting (record_in b) dirs) place start run path

-- ---- images

-- The places in the file of an object that its change writes over.
abbrev pub written_over : World → Member × Change → List Range
written_over world object =
    map range_of (rewriting (bytes_at world object.0.path) object.1).patches

-- Each program and each bundled library is written with the memory of its file, but for what its
-- change writes over.
abbrev pub AreImagesKept : World → Building → Type 0
AreImagesKept world b =
    (object : Member × Change) → Contains (program_objects b ++ lib_objects b) object
    → SameImage (bytes_at world object.0.path) (new_bytes_of world object)
    (written_over world object)
