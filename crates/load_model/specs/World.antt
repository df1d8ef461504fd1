-- Worlds of files, and what kind a path has in one.
use Rattle.std.specs.Prelude.{ℕ, List, Bool, cond, not, ◌≡◌, ◌==◌, ◌&&◌, ◌+◌, nat_le, nat_eq, length, find, Option, Some, None, Result, Ok, Err, slice_get, All}
use Rattle.std.specs.List.{starts_with}
use Rattle.std.specs.Str.{bytes_eq}
use Rattle.byte_view.specs.Headers.{e_machine, ei_class, ei_data}
use Rattle.byte_view.specs.declared.constants.TheConstants.{ELFCLASS64, ELFDATA2LSB, ELFMAG, E_MACHINE_AT}
use Rattle.path_text.specs.Path.{IsNormalPath}
use Rattle.load_model.specs.declared.world.WorldFile.{WorldFile}

-- the files of a machine
abbrev pub World : Type 0
World = List WorldFile

-- paths are normal and distinct, and files of one identity have the same bytes
pub record IsWorld (world : World) : Type 0 where
  pub paths : All (λ f. IsNormalPath f.path) world
  pub distinct : (i j : ℕ) (f g : WorldFile) → slice_get world i ≡ Some f
      → slice_get world j ≡ Some g → f.path ≡ g.path → i ≡ j
  pub same_bytes : (i j : ℕ) (f g : WorldFile) → slice_get world i ≡ Some f
      → slice_get world j ≡ Some g → f.id ≡ g.id → f.bytes ≡ g.bytes

-- the file at a path
abbrev pub file_at : World → List ℕ → Option WorldFile
file_at world path = find (λ f. bytes_eq f.path path) world

-- a file of 64-bit words and of this machine, the lowest byte of a number first (System V gABI,
-- ELF Header)
abbrev pub is_for : ℕ → List ℕ → Bool
is_for machine bytes =
    (ei_class bytes == ELFCLASS64)
    && ((ei_data bytes == ELFDATA2LSB) && (e_machine bytes == machine))

-- an object file of another class, data order or machine, which a loader passes over
abbrev pub is_other : ℕ → List ℕ → Bool
is_other machine bytes =
    nat_le (E_MACHINE_AT + 2) (length bytes)
    && (starts_with nat_eq bytes ELFMAG && not (is_for machine bytes))

-- what a path is to a loader; F is what it sees of a file, X why it cannot
pub data Kind (F X : Type 0) : Type 0 where
  Absent : Kind F X
  Other : Kind F X
  Object : (file : WorldFile) (face : F) → Kind F X
  Damaged : (file : WorldFile) (flaw : X) → Kind F X

module _ {F X : Type 0} (read : List ℕ → Result F X) where
  abbrev pub kind_of_read : WorldFile → Result F X → Kind F X
  kind_of_read file (Ok face) = Object file face
  kind_of_read file (Err flaw) = Damaged file flaw

  abbrev pub kind_of_file : ℕ → Option WorldFile → Kind F X
  kind_of_file machine None = Absent
  kind_of_file machine (Some file) =
      cond (is_other machine file.bytes) Other (kind_of_read file (read file.bytes))

  -- the kind of a path in a world, to a loader of this machine
  abbrev pub kind_of : ℕ → World → List ℕ → Kind F X
  kind_of machine world path = kind_of_file machine (file_at world path)

-- a loader passes over it
abbrev pub IsPassed : {F X : Type 0} → Kind F X → Type 0
IsPassed Absent = Unit {0}
IsPassed Other = Unit {0}
IsPassed (Object file face) = ⊥
IsPassed (Damaged file flaw) = ⊥
