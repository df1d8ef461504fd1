-- What is read of a file of the tree.
use Rattle.std.specs.Prelude.{ℕ, List, ◌≡◌, ◌==◌, Bool, cond, Some, Result, Ok, Err, length}
use Rattle.answers.specs.Faults.{Rose}
use Rattle.byte_view.specs.declared.flaws.Flaw.{Flaw}
use Rattle.load_model.specs.Faces.{face_or_flaw}
use Rattle.load_model.specs.World.{World, file_at, is_other}
use Rattle.load_model.specs.declared.faces.Face.{Face}
use Rattle.load_model.specs.declared.world.WorldFile.{WorldFile}
use Rattle.tree_opener.specs.Names.{IsFaceFor}
use Rattle.tree_opener.specs.declared.stops.ReadStop.{ReadStop}
use Rattle.tree_opener.specs.declared.stops.ReadStop.TheVariants.{Failed, NoMemory}
use Rattle.tree_opener.specs.declared.reading.Seen.{Seen}
use Rattle.tree_opener.specs.declared.reading.Seen.TheVariants.{ForAnother, Faced, Flawed}

-- A file lies at the path, of this identity and length.
pub record LiesAt (world : World) (path id : List ℕ) (len : ℕ) : Type 0 where
  pub file : WorldFile
  pub lies : file_at world path ≡ Some file
  pub path_is : file.path ≡ path
  pub id_is : file.id ≡ id
  pub len_is : length file.bytes ≡ len

-- What a loader of this machine sees in the bytes of a file: that it is for another machine, its
-- face, or its first flaw.
abbrev pub seen_with : ℕ → Face → Seen
seen_with machine face = cond (face.machine == machine) (Faced face) ForAnother

abbrev pub seen_for : ℕ → Result Face Flaw → Seen
seen_for machine (Ok face) = seen_with machine face
seen_for machine (Err flaw) = Flawed flaw

abbrev pub seen_unless : Bool → ℕ → Result Face Flaw → Seen
seen_unless other machine found = cond other ForAnother (seen_for machine found)

unfoldable pub seen_in : ℕ → List ℕ → Seen
seen_in machine bytes = seen_unless (is_other machine bytes) machine (face_or_flaw bytes)

-- A step that reads stops where the count of faults rose, or for want of memory.
abbrev pub IsReadCause : ℕ → ℕ → ReadStop → Type 0
IsReadCause before now Failed = Rose before now
IsReadCause before now NoMemory = Unit {0}

-- A face that is seen is that of a file for the machine.
abbrev pub IsSeenFor : ℕ → Seen → Type 0
IsSeenFor machine ForAnother = Unit {0}
IsSeenFor machine (Faced face) = IsFaceFor machine face
IsSeenFor machine (Flawed flaw) = Unit {0}
