-- What the steps of a build make of its programs and libraries, and of the whole.
use Rattle.std.specs.Prelude.{ℕ, List, [], ◌∷◌, ◌+◌, ◌++◌, ◌<◌, ◌≡◌, ◌⊎◌, false, Some, None, Result, Ok, Err, drop, length, map, min, slice_get, take, zip}
use Rattle.std.specs.List.{sum_by}
use Rattle.answers.specs.First.{first_some}
use Rattle.app_config.specs.declared.config.Config.{Config}
use Rattle.appdir_files.specs.Listing.{list_stop}
use Rattle.appdir_files.specs.Writing.{AreFilesOf, IsBytesOf, IsFileOf}
use Rattle.appdir_files.specs.declared.items.Body.{Body}
use Rattle.appdir_files.specs.declared.items.Body.TheVariants.{Bytes}
use Rattle.appdir_files.specs.declared.items.Item.{Item}
use Rattle.appdir_files.specs.declared.stops.ListStop.{ListStop}
use Rattle.appdir_files.specs.declared.stops.ListStop.TheVariants.{TargetInLib as InLib, TargetClash as Clash, NoMemory}
use Rattle.build_plan.specs.Deciding.{building_of}
use Rattle.build_plan.specs.declared.plans.Plan.{Plan}
use Rattle.build_plan.specs.declared.stops.BuildStop.{BuildStop}
use Rattle.build_plan.specs.declared.stops.BuildStop.TheVariants.{Refused, Read, NoMemory as NoMemoryBuild}
use Rattle.build_runs.specs.BuildRuns.{IsFileIn}
use Rattle.elf_rewrite.specs.declared.change.Change.{Change}
use Rattle.lib_closure.specs.Splits.{split_of}
use Rattle.lib_closure.specs.declared.splits.Member.{Member}
use Rattle.load_model.specs.Faces.{face_or_flaw}
use Rattle.load_model.specs.World.{World, file_at}
use Rattle.load_model.specs.declared.faces.Face.{Face}
use Rattle.load_model.specs.declared.runs.Obj.{Obj}
use Rattle.load_model.specs.declared.runs.Run.{Run}
use Rattle.load_model.specs.declared.world.WorldFile.{WorldFile}
use Rattle.manifest.specs.Manifest.{manifest_of}
use Rattle.object_changes.specs.Fitting.{AreFitting, FitMembers}
use Rattle.object_changes.specs.declared.changes.Changes.{Changes}
use Rattle.object_rewriting.specs.declared.stops.RewritingStop.{RewritingStop}
use Rattle.object_rewriting.specs.declared.stops.RewritingStop.TheVariants.{Rewrite as Rewriting, Changed, Read as ReadRewriting, NoMemory as NoMemoryRewriting}
use Rattle.ports.specs.Reading.{bytes_at}
use Rattle.ports.specs.declared.folders.MemFile.{MemFile}
use Rattle.refusals.specs.declared.refusal.Refusal.{Refusal}
use Rattle.refusals.specs.declared.refusal.Refusal.TheVariants.{Files, Folder}
use Rattle.refusals.specs.declared.file_refusal.FileRefusal.TheVariants.{TargetClash, TargetInLib}
use Rattle.refusals.specs.declared.folder_refusal.FolderRefusal.TheVariants.{FileChanged}
use Rattle.appdir_build.specs.Refusals.{stop_of_rewrite}
use Rattle.extra_files.specs.Extras.{file_with}
use Rattle.host_checks.specs.Hosting.{record_place}
use Rattle.appdir_build.specs.Files.{files_of_programs, lib_files, manifest_place, report_place}
use Rattle.appdir_build.specs.Objects.{changes_in, first_unwritten, lib_objects, new_bytes_of, program_objects, stop_at}
use Rattle.appdir_build.specs.Outcome.{Outcome, Package, object_count, path_of_member}
use Rattle.appdir_build.specs.declared.assembling.Origins.{Origins}
use Rattle.appdir_build.specs.declared.built.Built.{Built}
use Rattle.appdir_build.specs.declared.writing.Objects.{Objects}
use Rattle.appdir_build.specs.declared.writing.Written.{Written}

-- ---- the steps

-- What the writing of objects rests on: they are those of a split; each library has a name, and each
-- object a change that fits it.
pub record IsPrepared (plan : Plan) (changes : Changes) : Type 0 where
  pub names : List (List ℕ)
  pub splits : split_of plan.loads.table.faces plan.loads.runs names ≡ Ok plan.split
  pub named : length plan.layout.libs ≡ length plan.split.libs
  pub changes_are : changes ≡ changes_in (building_of plan)
  pub fits : AreFitting plan.loads.table.faces plan.split changes

-- Each object of the runs is a file of the world.
abbrev pub AreObjectsIn : World → Plan → Type 0
AreObjectsIn world plan =
    (k j : ℕ) (run : Run) (x : Obj) → slice_get plan.loads.runs k ≡ Some run
    → slice_get run.objs j ≡ Some x → IsFileIn world plan.loads.table.faces x

-- The file at the path has this face in the world.
pub record IsFaced (world : World) (path : List ℕ) (face : Face) : Type 0 where
  pub file : WorldFile
  pub lies : file_at world path ≡ Some file
  pub faced : face_or_flaw file.bytes ≡ Ok face

-- The body has the new bytes of the object, or the refusal says why there are none.
abbrev pub IsBodyFor : World → (Member × Change) → Result Body Refusal → Type 0
IsBodyFor world object (Ok body) =
    (stop_at world object ≡ None) × IsBytesOf (Some world) body (new_bytes_of world object)
IsBodyFor world object (Err refusal) = stop_at world object ≡ Some (Refused refusal)

-- A body that has the bytes of the file at the path, as they are.
abbrev pub IsCopyOf : World → List ℕ → Result Body Refusal → Type 0
IsCopyOf world path (Ok body) = IsBytesOf (Some world) body (bytes_at world path)
IsCopyOf world path (Err refusal) = ⊥

-- Why there is no body, by what stopped the rewriting of the file at the path; want of memory is
-- free.
abbrev pub IsStopFor : List ℕ → RewritingStop → BuildStop → Type 0
IsStopFor path (Rewriting stop) answer =
    (answer ≡ stop_of_rewrite path stop) ⊎ (answer ≡ NoMemoryBuild)
IsStopFor path Changed answer =
    (answer ≡ Refused (Folder (FileChanged path))) ⊎ (answer ≡ NoMemoryBuild)
IsStopFor path ReadRewriting answer = answer ≡ Read
IsStopFor path NoMemoryRewriting answer = answer ≡ NoMemoryBuild

-- The same of one file of the directory, and of several.
abbrev pub IsItemFor : World → (Member × Change) → MemFile → Result Item Refusal → Type 0
IsItemFor world object file (Ok item) =
    (stop_at world object ≡ None) × IsFileOf (Some world) item file
IsItemFor world object file (Err refusal) = stop_at world object ≡ Some (Refused refusal)

abbrev pub AreItemsFor : World → List (Member × Change) → List MemFile
    → Result (List Item) Refusal → Type 0
AreItemsFor world objects files (Ok items) =
    (first_some (map (stop_at world) objects) ≡ None) × AreFilesOf (Some world) items files
AreItemsFor world objects files (Err refusal) =
    first_some (map (stop_at world) objects) ≡ Some (Refused refusal)

-- ---- objects that are written to their places

-- Each object has a change that fits its face, and a place.
pub record AreWritable (objects : Objects) : Type 0 where
  pub fits : FitMembers objects.faces.now objects.members.now objects.changes.now
  pub placed : length objects.places.now ≡ length objects.members.now
  pub seen : (n : ℕ) (m : Member) → slice_get objects.members.now n ≡ Some m
      → m.face < length objects.faces.now

-- Each lies in the world at its path, with its face.
abbrev pub AreFacedIn : World → Objects → Type 0
AreFacedIn world objects =
    (n : ℕ) (m : Member) (face : Face) → slice_get objects.members.now n ≡ Some m
    → slice_get objects.faces.now m.face ≡ Some face → IsFaced world m.path face

abbrev pub pairs_in : Objects → List (Member × Change)
pairs_in objects = zip objects.members.now objects.changes.now

-- The file of an object at its place, and all files.
abbrev pub file_for : World → Objects → (List ℕ × (Member × Change)) → MemFile
file_for world objects placed =
    file_with objects.executable placed.0 (new_bytes_of world placed.1)

abbrev pub files_in : World → Objects → List MemFile
files_in world objects =
    map (file_for world objects) (zip objects.places.now (pairs_in objects))

-- Those below a number.
abbrev pub AreFirstOf : World → Objects → ℕ → List Item → Type 0
AreFirstOf world objects number items =
    AreItemsFor world (take number (pairs_in objects)) (take number (files_in world objects))
    (Ok items)

-- What is built is a package of the world.
pub record IsBuilt (world : World) (config : Config) (built : Built) : Type 0 where
  pub made : Package
  pub outcome : Outcome world config (Ok made)
  pub files : AreFilesOf (Some world) built.items made.files
  pub sources : built.sources ≡ made.sources
  pub bundled : built.bundled ≡ made.bundled
  pub hosts : built.hosts ≡ made.hosts
  pub references : built.references ≡ made.references
  pub bound : built.bound ≡ made.bound
  pub objects : built.objects ≡ made.objects

-- A package, or the refusal that comes instead.
abbrev pub Builds : World → Config → Result Built Refusal → Type 0
Builds world config (Ok built) = IsBuilt world config built
Builds world config (Err refusal) = Outcome world config (Err refusal)

-- ---- the whole

abbrev pub text_item : List ℕ → List ℕ → Item
text_item place text = record { path = place; executable = false; body = Bytes text }

-- What stands in front of the texts: libraries, the programs but the first, and what lies beside
-- them.
abbrev pub front_items : Written → List Item → List Item
front_items written extras = written.libs ++ (drop 1 written.programs ++ extras)

-- The items that the manifest lists, and all of them.
abbrev pub listed_items : List Item → List ℕ → List ℕ → Item → List Item
listed_items front record_bytes report main =
    front ++ (text_item record_place record_bytes ∷ text_item report_place report ∷ main ∷ [])

abbrev pub all_items : List Item → List ℕ → List ℕ → Item → List Item
all_items front record_bytes report main =
    front ++ (text_item record_place record_bytes ∷ text_item report_place report
    ∷ text_item manifest_place (manifest_of (listed_items front record_bytes report main))
    ∷ main ∷ [])

-- All items of what is written, the first program last.
pub record AreAllItems (written : Written) (extras : List Item) (record_bytes report : List ℕ)
    (items : List Item) : Type 0 where
  pub main : Item
  pub first : take 1 written.programs ≡ main ∷ []
  pub items_are : items ≡ all_items (front_items written extras) record_bytes report main

-- Where the data files stand in them.
abbrev pub data_from : Written → ℕ
data_from written = length written.libs + length (drop 1 written.programs)

abbrev pub data_to : Config → Written → List Item → ℕ
data_to config written extras =
    data_from written + min (length config.files) (length extras)

-- All items in order where they are a directory, else why they are none.
abbrev pub IsListing : Config → Written → List Item → List ℕ → List ℕ
    → Result (List Item) ListStop → Type 0
IsListing config written extras record_bytes report (Ok items) =
    AreAllItems written extras record_bytes report items
    × (list_stop items (data_from written) (data_to config written extras) ≡ None)
IsListing config written extras record_bytes report (Err NoMemory) = Unit {0}
IsListing config written extras record_bytes report (Err stop) =
    (items : List Item) × AreAllItems written extras record_bytes report items
    × (list_stop items (data_from written) (data_to config written extras) ≡ Some stop)

-- All programs and libraries are rewritten, and these are their files.
pub record AreWritten (world : World) (config : Config) (plan : Plan) (written : Written) : Type 0
  where
    pub all : first_unwritten world (building_of plan) ≡ None
    pub programs : AreFilesOf (Some world) written.programs
        (files_of_programs world config (building_of plan))
    pub libs : AreFilesOf (Some world) written.libs (lib_files world (building_of plan))

-- Where the objects of what is decided come from, and how many there are.
pub record IsOriginsOf (plan : Plan) (origins : Origins) : Type 0 where
  pub sources : origins.sources ≡ map path_of_member (plan.split.libs ++ plan.split.programs)
  pub bundled : origins.bundled ≡ length plan.split.libs
  pub hosts : origins.hosts ≡ length plan.split.hosts
  pub objects : origins.objects ≡ sum_by object_count plan.loads.runs

abbrev pub IsWritingOf : World → Config → Plan → Result Written Refusal → Type 0
IsWritingOf world config plan (Ok written) = AreWritten world config plan written
IsWritingOf world config plan (Err refusal) =
    first_unwritten world (building_of plan) ≡ Some (Refused refusal)

-- A package, or items that are no directory.
abbrev pub IsAssembled : World → Config → Result Built ListStop → Type 0
IsAssembled world config (Ok built) = IsBuilt world config built
IsAssembled world config (Err (InLib path)) = Outcome world config (Err (Files (TargetInLib path)))
IsAssembled world config (Err (Clash path)) = Outcome world config (Err (Files (TargetClash path)))
IsAssembled world config (Err NoMemory) = Unit {0}
