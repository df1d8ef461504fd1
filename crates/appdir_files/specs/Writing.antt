-- What a tree knows of files that are to be written, and what a folder has of them.
use Rattle.std.specs.Prelude.{ℕ, List, [], ◌≡◌, ◌≢◌, ◌<◌, Option, IsSome, length, take}
use Rattle.std.specs.List.{AllZip}
use Rattle.answers.specs.Faults.{Rose}
use Rattle.answers.specs.Told.{WhereTold}
use Rattle.load_model.specs.World.{World}
use Rattle.ports.specs.Folder.{Added, Folder, grown, with_files}
use Rattle.ports.specs.Reading.{bytes_at, found_at}
use Rattle.ports.specs.View.{Became, Changed, View}
use Rattle.ports.specs.declared.folders.MemFile.{MemFile}
use Rattle.ports.specs.declared.trees.Found.TheVariants.{File}
use Rattle.appdir_files.specs.declared.items.Body.{Body}
use Rattle.appdir_files.specs.declared.items.Body.TheVariants.{Bytes, Copy}
use Rattle.appdir_files.specs.declared.items.Item.{Item}
use Rattle.appdir_files.specs.declared.stops.CopyStop.{CopyStop}
use Rattle.appdir_files.specs.declared.stops.CopyStop.TheVariants.{Read, Write}

-- A probe of the path tells a file of this length.
abbrev pub HasLength : World → List ℕ → ℕ → Type 0
HasLength world path len = (id : List ℕ) × (found_at world path ≡ File id len)

-- A file that is copied has the length that is said of it.
abbrev pub IsBodyProbed : Option World → Body → Type 0
IsBodyProbed told (Bytes text) = Unit {0}
IsBodyProbed told (Copy from len) = WhereTold told (λ world. HasLength world from len)

-- The same of an item.
abbrev pub IsProbed : Option World → Item → Type 0
IsProbed told item = IsBodyProbed told item.body

-- A root was opened.
abbrev pub HasRoot : View Folder → Type 0
HasRoot view = WhereTold view.told (λ folder. folder.roots ≢ [])

-- A file is open.
abbrev pub IsBegun : View Folder → Type 0
IsBegun view = WhereTold view.told (λ folder. IsSome folder.pending)

-- The bytes of a file that is written: these, or those of the file that is copied, whose length
-- was told.
abbrev pub IsBytesOf : Option World → Body → List ℕ → Type 0
IsBytesOf told (Bytes text) bytes = bytes ≡ text
IsBytesOf told (Copy from len) bytes =
    (length bytes ≡ len) × WhereTold told (λ world. bytes ≡ bytes_at world from)

-- A file with the path, the mark and the bytes of the item.
pub record IsFileOf (told : Option World) (item : Item) (file : MemFile) : Type 0 where
  pub path : file.path ≡ item.path
  pub mark : file.executable ≡ item.executable
  pub bytes : IsBytesOf told item.body file.bytes

-- The files are those of the items, one of each, in order.
abbrev pub AreFilesOf : Option World → List Item → List MemFile → Type 0
AreFilesOf told items files = AllZip (IsFileOf told) items files

-- The items are finished files of the folder, behind those from before, and no file is open.
pub record IsWritten (told : Option World) (items : List Item) (before after : View Folder)
    : Type 0 where
  pub files : List MemFile
  pub each : AreFilesOf told items files
  pub written : Became (with_files files) before after

-- A front part of the items that is not all of them is finished, and one more may stand open.
pub record IsPartWritten (told : Option World) (items : List Item) (before after : View Folder)
    : Type 0 where
  pub count : ℕ
  pub proper : count < length items
  pub files : List MemFile
  pub each : AreFilesOf told (take count items) files
  pub written : Changed (Added files) before after

-- A write stops where the count of faults of the tree rose, or that of the folder.
abbrev pub IsCopyCause : View World → View World → View Folder → View Folder → CopyStop → Type 0
IsCopyCause tree tree' folder folder' Read = Rose tree.faults tree'.faults
IsCopyCause tree tree' folder folder' Write = Rose folder.faults folder'.faults

-- The bytes of the file were added to the open file.
pub record IsBodyAdded (told : Option World) (body : Body) (before after : View Folder)
    : Type 0 where
  pub bytes : List ℕ
  pub right : IsBytesOf told body bytes
  pub added : Became (grown bytes) before after

-- A front part of so many bytes of the file at the path was added to the open file.
pub record IsFrontAdded (told : Option World) (from : List ℕ) (count : ℕ)
    (before after : View Folder) : Type 0 where
  pub bytes : List ℕ
  pub size : length bytes ≡ count
  pub front : WhereTold told (λ world. bytes ≡ take count (bytes_at world from))
  pub added : Became (grown bytes) before after
