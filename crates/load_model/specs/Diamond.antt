-- A small world: a program needs a and b, both of these need c, and c needs a; the program opens d,
-- which needs b. The RPATH of the program has a and c, and a listed directory b and d.
use Rattle.std.specs.Prelude.{ℕ, List, [], ◌∷◌, ◌++◌, false, cond, Option, Some, None, Result, Ok, Err, codes}
use Rattle.std.specs.Str.{bytes_eq}
use Rattle.byte_view.specs.declared.constants.TheConstants.{EM_X86_64}
use Rattle.byte_view.specs.declared.flaws.Flaw.{Flaw}
use Rattle.byte_view.specs.declared.flaws.TheConstants.{NOT_ELF}
use Rattle.load_model.specs.LoadList.{Object, Asked, Loaded}
use Rattle.load_model.specs.World.{World}
use Rattle.load_model.specs.declared.faces.Face.{Face}
use Rattle.load_model.specs.declared.setting.Setting.{Setting}
use Rattle.load_model.specs.declared.world.WorldFile.{WorldFile}

abbrev pub plain_face : Option (List ℕ) → List (List ℕ) → Face
plain_face rpath needs = record {
  machine = EM_X86_64;
  interp = None;
  soname = None;
  needs = needs;
  rpath = rpath;
  runpath = None;
  symbolic = false;
  syms = [];
  versioned = false;
  defs = [];
  asks = [];
}

-- The files hold a number that tells what they need; 0 is the program.
abbrev pub program_face : Face
program_face = plain_face (Some (codes "$ORIGIN/../lib")) (codes "a" ∷ codes "b" ∷ [])

abbrev pub read_number : List ℕ → Result Face Flaw
read_number bytes =
    cond (bytes_eq bytes (0 ∷ [])) (Ok program_face)
    (cond (bytes_eq bytes (1 ∷ [])) (Ok (plain_face None (codes "a" ∷ [])))
    (cond (bytes_eq bytes (2 ∷ [])) (Ok (plain_face None (codes "b" ∷ [])))
    (cond (bytes_eq bytes (3 ∷ [])) (Ok (plain_face None (codes "c" ∷ [])))
    (Err (record { code = NOT_ELF; a = 0; b = 0 })))))

abbrev pub file_in : List ℕ → List ℕ → ℕ → WorldFile
file_in dir name number = record { path = dir ++ 47 ∷ name; id = name; bytes = number ∷ [] }

abbrev pub diamond_setting : Setting
diamond_setting =
    record { machine = EM_X86_64; dirs = codes "/lib" ∷ []; lib = None; platform = None }

abbrev pub program_path : List ℕ
program_path = codes "/app/bin/app"

-- The same without c.
abbrev pub broken : World
broken =
    file_in (codes "/app/bin") (codes "app") 0
    ∷ file_in (codes "/app/lib") (codes "a") 3
    ∷ file_in (codes "/lib") (codes "b") 3
    ∷ file_in (codes "/lib") (codes "d") 2 ∷ []

abbrev pub diamond : World
diamond = file_in (codes "/app/lib") (codes "c") 1 ∷ broken

abbrev pub diamond_program : Object
diamond_program = record { path = program_path; id = codes "app"; face = program_face }

abbrev pub library : List ℕ → List ℕ → List ℕ → Object
library dir name need =
    record { path = dir ++ 47 ∷ name; id = name; face = plain_face None (need ∷ []) }

abbrev pub asked_for : ℕ → List ℕ → ℕ → Asked
asked_for by name target = record { request = record { by = by; name = name }; target = target }

abbrev pub diamond_run : Loaded
diamond_run = record {
  objs =
      diamond_program
      ∷ library (codes "/app/lib") (codes "a") (codes "c")
      ∷ library (codes "/lib") (codes "b") (codes "c")
      ∷ library (codes "/app/lib") (codes "c") (codes "a")
      ∷ library (codes "/lib") (codes "d") (codes "b") ∷ [];
  log =
      asked_for 0 (codes "a") 1
      ∷ asked_for 0 (codes "b") 2
      ∷ asked_for 1 (codes "c") 3
      ∷ asked_for 2 (codes "c") 3
      ∷ asked_for 3 (codes "a") 1
      ∷ asked_for 0 (codes "d") 4
      ∷ asked_for 4 (codes "b") 2 ∷ [];
}
