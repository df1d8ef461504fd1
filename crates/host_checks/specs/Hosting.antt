-- What checking a host against the record of a directory comes to.
use Rattle.std.specs.Prelude.{ℕ, List, [], ◌∷◌, ◌++◌, ◌≡◌, None, Some, Result, Ok, Err, codes}
use Rattle.load_model.specs.Faces.{face_or_flaw}
use Rattle.load_model.specs.Joined.{joined}
use Rattle.load_model.specs.World.{World, file_at}
use Rattle.load_model.specs.declared.setting.Setting.{Setting}
use Rattle.load_model.specs.declared.world.WorldFile.{WorldFile}
use Rattle.host_record.specs.Grammar.{Refuses, Says}
use Rattle.host_record.specs.declared.records.Record.{Record}
use Rattle.host_list.specs.Meeting.{HostMeets, first_difference}
use Rattle.host_list.specs.declared.differences.Difference.{Difference}
use Rattle.refusals.specs.declared.folder_refusal.FolderRefusal.{FolderRefusal}
use Rattle.refusals.specs.declared.folder_refusal.FolderRefusal.TheVariants.{HostFails, RecordAbsent, RecordLine}
use Rattle.refusals.specs.declared.refusal.Refusal.{Refusal}
use Rattle.refusals.specs.declared.refusal.Refusal.TheVariants.{Folder}

-- Where the record lies in a directory, and its path where the directory lies at a place.
abbrev pub record_place : List ℕ
record_place = codes "usr/share/appdir/host.txt"

abbrev pub record_path : List ℕ → List ℕ
record_path place = joined place record_place

-- The line of a host that meets the record.
abbrev pub meets_line : List ℕ
meets_line = codes "meets" ++ 10 ∷ []

-- Programs of the record's machine, these directories, no text for the tokens LIB and PLATFORM.
abbrev pub host_setting : Record → List (List ℕ) → Setting
host_setting r dirs = record { machine = r.machine; dirs = dirs; lib = None; platform = None }

module _ (world : World) (place : List ℕ) where
  -- The file of the record lies there, and says this record.
  pub record HasRecord (r : Record) : Type 0 where
    pub file : WorldFile
    pub lies : file_at world (record_path place) ≡ Some file
    pub says : Says file.bytes r

  -- The file of the record lies there, and this is its first line that is refused.
  pub record HasBadLine (n : ℕ) : Type 0 where
    pub file : WorldFile
    pub lies : file_at world (record_path place) ≡ Some file
    pub refuses : Refuses file.bytes n

  -- The host with these directories meets the record that lies there.
  pub record MeetsRecord (dirs : List (List ℕ)) : Type 0 where
    pub demands : Record
    pub lies : HasRecord demands
    pub meets : HostMeets face_or_flaw (host_setting demands dirs) world demands

  -- This is the first demand of the record that lies there which the host does not meet.
  pub record FailsRecord (dirs : List (List ℕ)) (difference : Difference) : Type 0 where
    pub demands : Record
    pub lies : HasRecord demands
    pub fails : first_difference face_or_flaw (host_setting demands dirs) world demands
        ≡ Some difference

  -- The file of the record is absent, one of its lines is refused, or the host fails.
  abbrev pub IsHostRefusal : List (List ℕ) → FolderRefusal → Type 0
  IsHostRefusal dirs (RecordAbsent path) =
      (path ≡ record_path place) × (file_at world path ≡ None)
  IsHostRefusal dirs (RecordLine n) = HasBadLine n
  IsHostRefusal dirs (HostFails difference) = FailsRecord dirs difference
  IsHostRefusal dirs refusal = ⊥

  -- What the check comes to: the line of a host that meets the record, or a refusal.
  abbrev pub HostCheck : List (List ℕ) → Result (List ℕ) Refusal → Type 0
  HostCheck dirs (Ok text) = (text ≡ meets_line) × MeetsRecord dirs
  HostCheck dirs (Err (Folder refusal)) = IsHostRefusal dirs refusal
  HostCheck dirs (Err refusal) = ⊥
