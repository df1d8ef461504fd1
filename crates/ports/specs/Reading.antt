-- What a tree that tells its world says of a path.
use Rattle.std.specs.Prelude.{ℕ, List, [], Option, Some, None, length}
use Rattle.load_model.specs.World.{World, file_at}
use Rattle.load_model.specs.declared.world.WorldFile.{WorldFile}
use Rattle.ports.specs.declared.trees.Found.{Found}
use Rattle.ports.specs.declared.trees.Found.TheVariants.{Absent, File}

abbrev pub found_of : Option WorldFile → Found
found_of None = Absent
found_of (Some file) = File file.id (length file.bytes)

-- the file of the world at the path, with its identity and its length
abbrev pub found_at : World → List ℕ → Found
found_at world path = found_of (file_at world path)

abbrev pub bytes_of : Option WorldFile → List ℕ
bytes_of None = []
bytes_of (Some file) = file.bytes

-- the bytes of the world's file at the path, and none where there is no file
abbrev pub bytes_at : World → List ℕ → List ℕ
bytes_at world path = bytes_of (file_at world path)
