-- A small program that needs one library, and a host that has this library in another directory, as
-- another file.
use Rattle.std.specs.Prelude.{ℕ, List, [], ◌∷◌, cond, None, Result, Ok, codes}
use Rattle.std.specs.Str.{bytes_eq}
use Rattle.byte_view.specs.declared.constants.TheConstants.{EM_X86_64}
use Rattle.byte_view.specs.declared.flaws.Flaw.{Flaw}
use Rattle.load_model.specs.Diamond.{asked_for, file_in, plain_face}
use Rattle.load_model.specs.LoadList.{Object, Loaded}
use Rattle.load_model.specs.World.{World}
use Rattle.load_model.specs.declared.faces.Face.{Face}
use Rattle.load_model.specs.declared.setting.Setting.{Setting}
use Rattle.load_model.specs.declared.world.WorldFile.{WorldFile}

-- The program holds 0, and the libraries another number.
abbrev pub read_small : List ℕ → Result Face Flaw
read_small bytes =
    cond (bytes_eq bytes (0 ∷ [])) (Ok (plain_face None (codes "a" ∷ []))) (Ok (plain_face None []))

abbrev pub small_file : WorldFile
small_file = file_in (codes "/app/bin") (codes "app") 0

abbrev pub small_world : World
small_world = small_file ∷ file_in (codes "/lib") (codes "a") 1 ∷ []

abbrev pub small_setting : Setting
small_setting =
    record { machine = EM_X86_64; dirs = codes "/lib" ∷ []; lib = None; platform = None }

abbrev pub small_program : Object
small_program =
    record { path = small_file.path; id = small_file.id; face = plain_face None (codes "a" ∷ []) }

abbrev pub small_run : Loaded
small_run = record {
  objs =
      small_program ∷ record { path = codes "/lib/a"; id = codes "a"; face = plain_face None [] }
      ∷ [];
  log = asked_for 0 (codes "a") 1 ∷ [];
}

abbrev pub small_copy : WorldFile
small_copy = record { path = codes "/apps/AppRun"; id = codes "copy"; bytes = small_file.bytes }

abbrev pub small_host : World
small_host =
    small_copy ∷ record { path = codes "/usr/lib/a"; id = codes "other"; bytes = 2 ∷ [] } ∷ []

abbrev pub host_setting : Setting
host_setting = record {
  machine = EM_X86_64;
  dirs = codes "/usr/local/lib" ∷ codes "/usr/lib" ∷ [];
  lib = None;
  platform = None;
}
