-- A tree in memory: its files as those of a world.
use Rattle.std.specs.Prelude.{ℕ, Bool, All, List, [], ◌∷◌, ◌++◌, ◌≡◌, ◌&&◌, ◌||◌, not, map, Ok, Some, slice_get}
use Rattle.std.specs.List.{list_any}
use Rattle.std.specs.Str.{bytes_eq}
use Rattle.path_text.specs.Path.{path_of}
use Rattle.load_model.specs.World.{World}
use Rattle.load_model.specs.declared.world.WorldFile.{WorldFile}
use Rattle.ports.specs.declared.mem_tree.StoredFile.{StoredFile}

-- a stored file, as a file of a world
abbrev pub world_file : StoredFile → WorldFile
world_file file = record { path = file.path; id = file.id; bytes = file.bytes }

abbrev pub world_of : List StoredFile → World
world_of files = map world_file files

-- a file has the path, or it has the identity and other bytes
abbrev pub clashes : List ℕ → List ℕ → List ℕ → WorldFile → Bool
clashes path id bytes file =
    bytes_eq file.path path || (bytes_eq file.id id && not (bytes_eq file.bytes bytes))

-- the path is in the world, or the identity is with other bytes
abbrev pub is_taken : World → List ℕ → List ℕ → List ℕ → Bool
is_taken world path id bytes = list_any (clashes path id bytes) world

-- the world with one file more, at its end
abbrev pub with_last : World → List ℕ → List ℕ → List ℕ → World
with_last world path id bytes = world ++ (record { path = path; id = id; bytes = bytes }) ∷ []

-- a world, with equations alone: a path that reads as it is is normal
pub record IsStored (world : World) : Type 0 where
  pub paths : All (λ file. path_of file.path ≡ Ok file.path) world
  pub distinct : (i j : ℕ) (f g : WorldFile) → slice_get world i ≡ Some f
      → slice_get world j ≡ Some g → f.path ≡ g.path → i ≡ j
  pub same_bytes : (i j : ℕ) (f g : WorldFile) → slice_get world i ≡ Some f
      → slice_get world j ≡ Some g → f.id ≡ g.id → f.bytes ≡ g.bytes
