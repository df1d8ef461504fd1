-- What writing into a folder and saying a line come to.
use Rattle.std.specs.Prelude.{ℕ, List, [], ◌∷◌, ◌++◌, ◌≡◌, ◌≢◌, ◌<◌, ◌⊎◌, All, Option, length, take}
use Rattle.answers.specs.Faults.{Rose}
use Rattle.answers.specs.Told.{WhereTold}
use Rattle.appdir_files.specs.Writing.{AreFilesOf, IsProbed}
use Rattle.appdir_files.specs.declared.stops.CopyStop.{CopyStop}
use Rattle.appdir_files.specs.declared.stops.CopyStop.TheVariants.{Read, Write}
use Rattle.load_model.specs.World.{World}
use Rattle.ports.specs.Folder.{Folder, with_files, with_root}
use Rattle.ports.specs.View.{View, Became, Changed, Stays}
use Rattle.ports.specs.declared.folders.MemFile.{MemFile}
use Rattle.ports.specs.declared.folders.RootState.{RootState}
use Rattle.ports.specs.declared.folders.RootState.TheVariants.{Empty, NotEmpty as Filled}
use Rattle.refusals.specs.Lines.{refusal_line}
use Rattle.deliveries.specs.Saying.{IsSaid, Took, TookPart}
use Rattle.deliveries.specs.declared.answer.Answer.{Answer}
use Rattle.deliveries.specs.declared.answer.Answer.TheVariants.{Says, Packs}
use Rattle.deliveries.specs.declared.answer.Whole.{Whole}
use Rattle.refusals.specs.declared.folder_refusal.FolderRefusal.TheVariants.{NotEmpty}
use Rattle.refusals.specs.declared.refusal.Refusal.TheVariants.{Folder as RefusesFolder}
use Rattle.deliveries.specs.declared.status.Status.{Status}
use Rattle.deliveries.specs.declared.status.Status.TheVariants.{Done, Refused, Usage, ReadFailed, WriteFailed, NoMemory, PrintFailed}

-- The folder has no finished file.
abbrev pub IsEmptyFolder : View Folder → Type 0
IsEmptyFolder view = WhereTold view.told (λ folder. folder.finished ≡ [])

-- The root was opened, these files are finished, and no file is open.
abbrev pub filled : List ℕ → List MemFile → Folder → Folder
filled place files folder = with_files files (with_root place folder)

-- All is written, into a folder that had no file; what the tree tells is in what was copied.
pub record IsWhole (told : Option World) (whole : Whole) (before after : View Folder) : Type 0 where
  pub empty : IsEmptyFolder before
  pub files : List MemFile
  pub each : AreFilesOf told whole.items files
  pub written : Became (filled whole.place files) before after

-- The folder had a file: nothing was begun in it, and it is as opening the root leaves it.
pub record IsFull (whole : Whole) (before after : View Folder) : Type 0 where
  pub held : WhereTold before.told (λ folder. folder.finished ≢ [])
  pub root : Became (with_root whole.place) before after

-- One root was opened, these files are finished, and one more may stand open.
pub record HasBegun (place : List ℕ) (files : List MemFile) (old latest : Folder) : Type 0 where
  pub finished : latest.finished ≡ old.finished ++ files
  pub roots : latest.roots ≡ old.roots ++ place ∷ []

-- A front part of the files that is not all of them was written, into a folder that had no file.
pub record IsCutShort (told : Option World) (whole : Whole) (before after : View Folder)
    : Type 0 where
  pub empty : IsEmptyFolder before
  pub count : ℕ
  pub proper : count < length whole.items
  pub files : List MemFile
  pub each : AreFilesOf told (take count whole.items) files
  pub begun : Changed (HasBegun whole.place files) before after

-- A fault of the folder left it untouched, or with a part.
pub record IsCutOff (told : Option World) (whole : Whole) (before after : View Folder)
    : Type 0 where
  pub cause : Rose before.faults after.faults
  pub left : Stays before after ⊎ IsCutShort told whole before after

-- What opening the folder comes to: all is written where it was empty.
abbrev pub IsOpenedFor : Option World → Whole → View Folder → View Folder → RootState → Type 0
IsOpenedFor told whole before after Empty = IsWhole told whole before after
IsOpenedFor told whole before after Filled = IsFull whole before after

-- What is left where the writing stops.
abbrev pub IsStoppedBy : Whole → View World → View World → View Folder → View Folder → CopyStop
    → Type 0
IsStoppedBy whole tree tree' before after Read =
    Rose tree.faults tree'.faults × IsCutShort tree.told whole before after
IsStoppedBy whole tree tree' before after Write = IsCutOff tree.told whole before after

-- The line of a folder that holds files.
abbrev pub full_line : Whole → List ℕ
full_line whole = refusal_line (RefusesFolder (NotEmpty whole.place))

-- How writing the files and saying their line ends with each status.
abbrev pub IsDelivered : Whole → View World → View World → View Folder → View Folder
    → View (List ℕ) → View (List ℕ) → Status → Type 0
IsDelivered whole tree tree' folder folder' sink sink' Done =
    IsWhole tree.told whole folder folder' × Took whole.line sink sink'
IsDelivered whole tree tree' folder folder' sink sink' Refused =
    IsFull whole folder folder' × Took (full_line whole) sink sink'
IsDelivered whole tree tree' folder folder' sink sink' ReadFailed =
    Rose tree.faults tree'.faults × IsCutShort tree.told whole folder folder' × Stays sink sink'
IsDelivered whole tree tree' folder folder' sink sink' WriteFailed =
    IsCutOff tree.told whole folder folder' × Stays sink sink'
IsDelivered whole tree tree' folder folder' sink sink' NoMemory =
    Stays folder folder' × Stays sink sink'
IsDelivered whole tree tree' folder folder' sink sink' PrintFailed =
    IsWhole tree.told whole folder folder' × TookPart whole.line sink sink'
    ⊎ IsFull whole folder folder' × TookPart (full_line whole) sink sink'
IsDelivered whole tree tree' folder folder' sink sink' Usage = ⊥

-- How giving an answer ends: a text is said, and files are delivered.
abbrev pub IsAnswerDelivered : Answer → View World → View World → View Folder → View Folder
    → View (List ℕ) → View (List ℕ) → Status → Type 0
IsAnswerDelivered (Says text) tree tree' folder folder' sink sink' status =
    Stays folder folder' × IsSaid text Done sink sink' status
IsAnswerDelivered (Packs whole) tree tree' folder folder' sink sink' status =
    IsDelivered whole tree tree' folder folder' sink sink' status

-- Each file of an answer that is copied has the length that is said of it.
abbrev pub IsAnswerProbed : Option World → Answer → Type 0
IsAnswerProbed told (Says text) = Unit {0}
IsAnswerProbed told (Packs whole) = All (IsProbed told) whole.items
