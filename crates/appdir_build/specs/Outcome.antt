-- What a configuration comes to in a world: the files of its directory, or the first refusal.
use Rattle.std.specs.Prelude.{ℕ, List, ◌++◌, ◌≡◌, ◌⊎◌, Some, None, Result, Ok, Err, Option, filter, is_some, length, map}
use Rattle.std.specs.List.{sum_by}
use Rattle.app_config.specs.declared.config.Config.{Config}
use Rattle.appdir_files.specs.Listing.{list_stop}
use Rattle.appdir_files.specs.declared.stops.ListStop.{ListStop}
use Rattle.build_plan.specs.Building.{Building, IsBuilding}
use Rattle.build_plan.specs.Deciding.{IsUndecided}
use Rattle.build_plan.specs.declared.stops.BuildStop.TheVariants.{Refused}
use Rattle.build_texts.specs.Texts.{record_in, reported_binds}
use Rattle.extra_files.specs.Faults.{IsExtraFault}
use Rattle.host_list.specs.Meeting.{HostMeets, first_difference}
use Rattle.host_list.specs.declared.differences.Difference.{Difference}
use Rattle.lib_closure.specs.declared.splits.Member.{Member}
use Rattle.load_model.specs.Faces.{face_or_flaw}
use Rattle.load_model.specs.World.{World}
use Rattle.load_model.specs.declared.runs.Run.{Run}
use Rattle.ports.specs.declared.folders.MemFile.{MemFile}
use Rattle.refusals.specs.declared.file_refusal.FileRefusal.{FileRefusal}
use Rattle.refusals.specs.declared.refusal.Refusal.{Refusal}
use Rattle.refusals.specs.declared.refusal.Refusal.TheVariants.{Config as Configuration, Load, Split, Names, Rewrite, Files, Folder}
use Rattle.refusals.specs.declared.split_refusal.SplitRefusal.TheVariants.{SourceNotHost}
use Rattle.appdir_build.specs.Files.{as_item, data_end, data_start, files_of}
use Rattle.appdir_build.specs.Objects.{first_unwritten}
use Rattle.appdir_build.specs.Refusals.{stop_of_listing}

-- A directory: its files in order, where its bundled libraries and programs come from, how many
-- libraries are bundled and expected of a host, how many references the report has and how many of
-- them bind, and how many objects are loaded.
pub record Package : Type 0 where
  pub files : List MemFile
  pub sources : List (List ℕ)
  pub bundled : ℕ
  pub hosts : ℕ
  pub references : ℕ
  pub bound : ℕ
  pub objects : ℕ

abbrev pub path_of_member : Member → List ℕ
path_of_member member = member.path

abbrev pub object_count : Run → ℕ
object_count run = length run.objs

module _ (world : World) (config : Config) where
  unfoldable pub package_of : Building → Package
  package_of b = record {
    files = files_of world config b;
    sources = map path_of_member (b.split.libs ++ b.split.programs);
    bundled = length b.split.libs;
    hosts = length b.split.hosts;
    references = length (reported_binds config b);
    bound = length (filter (λ bind. is_some bind.to) (reported_binds config b));
    objects = sum_by object_count b.runs;
  }

  -- No data lies among the libraries, and no two files clash.
  abbrev pub listing_stop : Building → Option ListStop
  listing_stop b =
      list_stop (map as_item (files_of world config b)) (data_start world config b)
      (data_end world config b)

  -- What the build demands of hosts, and whether this world, in which it was made, is one.
  abbrev pub SourceMeets : Building → Type 0
  SourceMeets b = HostMeets face_or_flaw config.setting world (record_in b)

  pub record IsNoHost (refusal : Refusal) : Type 0 where
    pub building : Building
    pub builds : IsBuilding world config building
    pub difference : Difference
    pub differs : first_difference face_or_flaw config.setting world (record_in building)
        ≡ Some difference
    pub refusal_is : refusal ≡ Split (SourceNotHost difference)

  -- A program or a library is not rewritten.
  pub record IsUnwritten (refusal : Refusal) : Type 0 where
    pub building : Building
    pub builds : IsBuilding world config building
    pub meets : SourceMeets building
    pub stops : first_unwritten world building ≡ Some (Refused refusal)

  -- The desktop file, the icon or a data file is refused.
  pub record IsUnfurnished (refusal : FileRefusal) : Type 0 where
    pub building : Building
    pub builds : IsBuilding world config building
    pub meets : SourceMeets building
    pub written : first_unwritten world building ≡ None
    pub faulty : IsExtraFault world config (Some refusal)

  -- The files are no directory.
  pub record IsUnlistable (refusal : Refusal) : Type 0 where
    pub building : Building
    pub builds : IsBuilding world config building
    pub meets : SourceMeets building
    pub written : first_unwritten world building ≡ None
    pub furnished : IsExtraFault world config None
    pub stop : ListStop
    pub stops : listing_stop building ≡ Some stop
    pub refusal_is : stop_of_listing stop ≡ Refused refusal

  -- All is decided, the world is a host, all objects are rewritten, what lies beside them is there and
  -- as it is demanded, and all files are a directory.
  pub record IsPackage (made : Package) : Type 0 where
    pub building : Building
    pub builds : IsBuilding world config building
    pub meets : SourceMeets building
    pub written : first_unwritten world building ≡ None
    pub furnished : IsExtraFault world config None
    pub listed : listing_stop building ≡ None
    pub package_is : made ≡ package_of building

  -- The refusals come in this order.
  abbrev pub Outcome : Result Package Refusal → Type 0
  Outcome (Ok made) = IsPackage made
  Outcome (Err (Configuration refusal)) = ⊥
  Outcome (Err (Load refusal)) = IsUndecided world config (Load refusal)
  Outcome (Err (Split refusal)) =
      IsUndecided world config (Split refusal) ⊎ IsNoHost (Split refusal)
  Outcome (Err (Names refusal)) = IsUndecided world config (Names refusal)
  Outcome (Err (Rewrite refusal)) = IsUnwritten (Rewrite refusal)
  Outcome (Err (Files refusal)) = IsUnfurnished refusal ⊎ IsUnlistable (Files refusal)
  Outcome (Err (Folder refusal)) = ⊥
