-- A directory that lies at a place of a world: its files as they are, and nothing else.
use Rattle.std.specs.Prelude.{ℕ, List, ◌++◌, ◌≡◌, Some, codes, slice_get}
use Rattle.load_model.specs.Joined.{joined}
use Rattle.load_model.specs.World.{World, file_at}
use Rattle.load_model.specs.declared.world.WorldFile.{WorldFile}

-- A file of a directory: its path there, and its bytes.
pub record Item : Type 0 where
  pub path : List ℕ
  pub bytes : List ℕ

-- The directory has a file under this path.
abbrev pub HasPath : List Item → List ℕ → Type 0
HasPath items path =
    (i : ℕ) × (item : Item) × (slice_get items i ≡ Some item) × (item.path ≡ path)

-- A path under a place.
abbrev pub IsUnder : List ℕ → List ℕ → Type 0
IsUnder place path = (target : List ℕ) × (path ≡ joined place target)

-- The directory lies at the place.
pub record IsPlaced (world : World) (place : List ℕ) (items : List Item) : Type 0 where
  -- each item is a file there, with its bytes
  pub lies : (i : ℕ) (item : Item) → slice_get items i ≡ Some item
      → (file : WorldFile) × (file_at world (joined place item.path) ≡ Some file)
      × (file.bytes ≡ item.bytes)
  -- nothing else lies there
  pub only : (i : ℕ) (file : WorldFile) (target : List ℕ) → slice_get world i ≡ Some file
      → file.path ≡ joined place target → HasPath items target
  -- each is a file of its own
  pub own : (i j : ℕ) (f g : WorldFile) → slice_get world i ≡ Some f → slice_get world j ≡ Some g
      → IsUnder place f.path → g.id ≡ f.id → g.path ≡ f.path

-- Bundled libraries lie in usr/lib, each under its name.
abbrev pub lib_folder : List ℕ → List ℕ
lib_folder place = joined (joined place (codes "usr")) (codes "lib")

abbrev pub lib_place : List ℕ → List ℕ
lib_place name = codes "usr/lib/" ++ name
