-- What an opener answers: each path by its kind in the world that is told, each object by its face
-- in a table.
use Rattle.std.specs.Prelude.{ℕ, List, ◌≡◌, ◌<◌, ◌≤◌, ◌^◌, Option, Some, Result, Ok, Err, All, length, slice_get, take}
use Rattle.answers.specs.Faults.{Rose}
use Rattle.answers.specs.Told.{WhereTold}
use Rattle.byte_view.specs.declared.flaws.Flaw.{Flaw}
use Rattle.load_model.specs.Faces.{face_or_flaw}
use Rattle.load_model.specs.World.{World, Kind, Absent, Other, Object, Damaged, kind_of}
use Rattle.load_model.specs.declared.faces.Face.{Face}
use Rattle.load_model.specs.declared.opening.Opened.{Opened}
use Rattle.load_model.specs.declared.opening.Opened.TheVariants.{Absent as OpensNothing, Other as OpensOther, Object as OpensObject}
use Rattle.load_model.specs.declared.opening.OpenFault.{OpenFault}
use Rattle.load_model.specs.declared.opening.OpenFault.TheVariants.{Read, Damaged as OpensDamaged, NoMemory}
use Rattle.load_model.specs.declared.world.WorldFile.{WorldFile}

-- What an opener tells: the world that it reads, where it tells it; its machine, its table of
-- faces, its faults so far; and the loan through which it reads, a number, so that a lender knows
-- what became of what it lent.
pub record OpenerView : Type 0 where
  pub loan : ℕ
  pub told : Option World
  pub machine : ℕ
  pub faces : List Face
  pub faults : ℕ

-- The symbols and the asks of a face have numbers of 32 bits.
pub record IsFew (face : Face) : Type 0 where
  pub syms : length face.syms < 2 ^ 32
  pub asks : length face.asks < 2 ^ 32

-- So have the faces of a table.
pub record AreFew (faces : List Face) : Type 0 where
  pub each : All IsFew faces
  pub count : length faces < 2 ^ 32

-- The kind of a path to the opener in this world.
abbrev pub kind_in : OpenerView → World → List ℕ → Kind Face Flaw
kind_in view world path = kind_of face_or_flaw view.machine world path

-- The face has a place in the table.
abbrev pub IsPlace : OpenerView → ℕ → Type 0
IsPlace view place = place < length view.faces

-- The path is an object of this identity, and its face stands at this place.
pub record IsObjectAt (view : OpenerView) (world : World) (path id : List ℕ) (place : ℕ) : Type 0
  where
    pub file : WorldFile
    pub face : Face
    pub kind : kind_in view world path ≡ Object file face
    pub id_is : id ≡ file.id
    pub stands : slice_get view.faces place ≡ Some face

-- The path is a damaged file with this flaw.
pub record IsDamagedAt (view : OpenerView) (world : World) (path : List ℕ) (flaw : Flaw) : Type 0
  where
    pub file : WorldFile
    pub kind : kind_in view world path ≡ Damaged file flaw

-- What is answered of a path, by its kind where the opener tells its world.
abbrev pub IsOpened : OpenerView → OpenerView → List ℕ → Result Opened OpenFault → Type 0
IsOpened before after path (Ok OpensNothing) =
    WhereTold before.told (λ world. kind_in before world path ≡ Absent)
IsOpened before after path (Ok OpensOther) =
    WhereTold before.told (λ world. kind_in before world path ≡ Other)
IsOpened before after path (Ok (OpensObject id place)) =
    IsPlace after place × WhereTold before.told (λ world. IsObjectAt after world path id place)
IsOpened before after path (Err (OpensDamaged named flaw)) =
    (named ≡ path) × WhereTold before.told (λ world. IsDamagedAt before world path flaw)
IsOpened before after path (Err Read) = Rose before.faults after.faults
IsOpened before after path (Err NoMemory) = Unit {0}

-- World, machine and loan stay, the faces stay at their places, and the count of faults does not
-- fall.
pub record OnlyGrew (before after : OpenerView) : Type 0 where
  pub loan : after.loan ≡ before.loan
  pub world : after.told ≡ before.told
  pub machine : after.machine ≡ before.machine
  pub faces : take (length before.faces) after.faces ≡ before.faces
  pub longer : length before.faces ≤ length after.faces
  pub faults : before.faults ≤ after.faults
