-- The files of a directory, in the order in which they are written: bundled libraries, tools, data,
-- the icon and the desktop file, three texts about the build, and last the main program.
use Rattle.std.specs.Prelude.{ℕ, List, [], ◌∷◌, ◌++◌, ◌+◌, Bool, true, false, codes, drop, length, map, take, zip}
use Rattle.app_config.specs.declared.config.Config.{Config}
use Rattle.appdir_files.specs.declared.items.Body.TheVariants.{Bytes}
use Rattle.appdir_files.specs.declared.items.Item.{Item}
use Rattle.elf_rewrite.specs.declared.change.Change.{Change}
use Rattle.extra_files.specs.Extras.{data_files, extra_files, file_with}
use Rattle.host_checks.specs.Hosting.{record_place}
use Rattle.host_record.specs.Grammar.{record_text}
use Rattle.lib_closure.specs.declared.splits.Member.{Member}
use Rattle.load_model.specs.World.{World}
use Rattle.manifest.specs.Manifest.{manifest_of}
use Rattle.ports.specs.declared.folders.MemFile.{MemFile}
use Rattle.build_plan.specs.Building.{Building}
use Rattle.build_texts.specs.Places.{lib_place, program_places}
use Rattle.build_texts.specs.Texts.{record_in, report_in}
use Rattle.appdir_build.specs.Objects.{lib_objects, new_bytes_of, program_objects}

-- A file as one that is to be written.
abbrev pub as_item : MemFile → Item
as_item file =
    record { path = file.path; executable = file.executable; body = Bytes file.bytes }

-- Where the other texts about a build lie.
abbrev pub report_place : List ℕ
report_place = codes "usr/share/appdir/bindings.txt"

abbrev pub manifest_place : List ℕ
manifest_place = codes "usr/share/appdir/files.txt"

module _ (world : World) where
  -- A bundled library under its name, with the bytes of its change.
  abbrev pub lib_file : (List ℕ × (Member × Change)) → MemFile
  lib_file named = file_with false (lib_place named.0) (new_bytes_of world named.1)

  unfoldable pub lib_files : Building → List MemFile
  lib_files b = map lib_file (zip b.layout.libs (lib_objects b))

  -- Programs may be run.
  abbrev pub program_file : (List ℕ × (Member × Change)) → MemFile
  program_file placed = file_with true placed.0 (new_bytes_of world placed.1)

  unfoldable pub files_of_programs : Config → Building → List MemFile
  files_of_programs config b = map program_file (zip (program_places config) (program_objects b))

module _ (world : World) (config : Config) (b : Building) where
  -- Texts about the build.
  abbrev pub record_file : MemFile
  record_file = file_with false record_place (record_text (record_in b))

  abbrev pub report_file : MemFile
  report_file = file_with false report_place (report_in config b)

  -- What stands before them, and the main program.
  unfoldable pub front_files : List MemFile
  front_files =
      lib_files world b ++ (drop 1 (files_of_programs world config b) ++ extra_files world config)

  unfoldable pub main_file : List MemFile
  main_file = take 1 (files_of_programs world config b)

  -- The manifest has a line for each file but itself.
  unfoldable pub listed_files : List MemFile
  listed_files = front_files ++ (record_file ∷ report_file ∷ main_file)

  abbrev pub manifest_file : MemFile
  manifest_file = file_with false manifest_place (manifest_of (map as_item listed_files))

  unfoldable pub files_of : List MemFile
  files_of = front_files ++ (record_file ∷ report_file ∷ manifest_file ∷ main_file)

  -- Where the data files stand in it.
  unfoldable pub data_start : ℕ
  data_start = length (lib_files world b) + length (drop 1 (files_of_programs world config b))

  unfoldable pub data_end : ℕ
  data_end = data_start + length (data_files world config)
