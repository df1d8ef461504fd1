-- How a call ends, for all commands: what holds for each status, and which status comes.
use Rattle.std.specs.Prelude.{ℕ, List, [], ◌∷◌, ◌≡◌, ◌⊎◌, Option, Some, None, Result, Ok, Err}
use Rattle.load_model.specs.World.{World}
use Rattle.answers.specs.Faults.{Rose}
use Rattle.answers.specs.Told.{WhereTold}
use Rattle.ports.specs.declared.folders.MemFile.{MemFile}
use Rattle.ports.specs.Folder.{Folder}
use Rattle.ports.specs.View.{View, Stays}
use Rattle.appdir_cli.specs.ComesTo.{ComesTo, ReadsTree, world_read}
use Rattle.deliveries.specs.Delivery.{IsCutOff, IsCutShort, IsFull, IsWhole}
use Rattle.refusals.specs.Lines.{refusal_line, usage_text}
use Rattle.deliveries.specs.Saying.{Took, TookPart}
use Rattle.deliveries.specs.declared.answer.Answer.{Answer}
use Rattle.deliveries.specs.declared.answer.Answer.TheVariants.{Says, Packs}
use Rattle.deliveries.specs.declared.answer.Whole.{Whole}
use Rattle.command_words.specs.declared.commands.Command.{Command}
use Rattle.refusals.specs.declared.refusal.Refusal.{Refusal}
use Rattle.refusals.specs.declared.folder_refusal.FolderRefusal.TheVariants.{NotEmpty}
use Rattle.refusals.specs.declared.refusal.Refusal.TheVariants.{Folder as RefusesFolder}
use Rattle.deliveries.specs.declared.status.Status.{Status}
use Rattle.deliveries.specs.declared.status.Status.TheVariants.{Done, Refused, Usage, ReadFailed, WriteFailed, NoMemory, PrintFailed}

-- What tree, folder and sink tell at one moment.
pub record Outside : Type 0 where
  pub tree : View World
  pub folder : View Folder
  pub sink : View (List ℕ)

abbrev pub outside : View World → View Folder → View (List ℕ) → Outside
outside tree folder sink = record { tree = tree; folder = folder; sink = sink }

-- In the world that it reads, where that is told, the command comes to this.
abbrev pub IsOutcome : Command → Outside → Result Answer Refusal → Type 0
IsOutcome command before outcome =
    WhereTold (world_read command before.tree.told) (λ world. ComesTo world command outcome)

abbrev pub answer_text : Answer → List ℕ
answer_text (Says text) = text
answer_text (Packs whole) = whole.line

-- A text leaves the folder as it was, and files are whole in it, with what the tree tells of those
-- that are copied.
abbrev pub IsGiven : Answer → Option World → View Folder → View Folder → Type 0
IsGiven (Says text) told before after = Stays before after
IsGiven (Packs whole) told before after = IsWhole told whole before after

-- The command is done, and this text says so.
pub record IsDone (command : Command) (before after : Outside) (text : List ℕ) : Type 0 where
  pub answer : Answer
  pub outcome : IsOutcome command before (Ok answer)
  pub line : text ≡ answer_text answer
  pub given : IsGiven answer before.tree.told before.folder after.folder

-- The command comes to this refusal, and the folder is as it was.
pub record IsDecided (command : Command) (before after : Outside) (refusal : Refusal) : Type 0 where
  pub outcome : IsOutcome command before (Err refusal)
  pub untouched : Stays before.folder after.folder

-- The command comes to files, and the folder holds some already.
pub record IsOver (command : Command) (before after : Outside) (refusal : Refusal) : Type 0 where
  pub whole : Whole
  pub outcome : IsOutcome command before (Ok (Packs whole))
  pub not_empty : refusal ≡ RefusesFolder (NotEmpty whole.place)
  pub full : IsFull whole before.folder after.folder

-- The command is refused, and this text says why.
pub record IsRefused (command : Command) (before after : Outside) (text : List ℕ) : Type 0 where
  pub refusal : Refusal
  pub line : text ≡ refusal_line refusal
  pub reason : IsDecided command before after refusal ⊎ IsOver command before after refusal

-- A fault of the folder ended the writing.
pub record IsUnwritten (command : Command) (before after : Outside) : Type 0 where
  pub whole : Whole
  pub outcome : IsOutcome command before (Ok (Packs whole))
  pub cut_off : IsCutOff before.tree.told whole before.folder after.folder
  pub silent : Stays before.sink after.sink

-- A fault of the tree ended the writing.
pub record IsUnread (command : Command) (before after : Outside) : Type 0 where
  pub whole : Whole
  pub outcome : IsOutcome command before (Ok (Packs whole))
  pub cut_short : IsCutShort before.tree.told whole before.folder after.folder
  pub silent : Stays before.sink after.sink

-- Nothing was begun in the folder, and nothing was said.
pub record IsUntouched (before after : Outside) : Type 0 where
  pub folder : Stays before.folder after.folder
  pub sink : Stays before.sink after.sink

-- A fault of the sink cut the text off that ends a call so.
abbrev pub IsUnsaid : (List ℕ → Type 0) → Outside → Outside → Type 0
IsUnsaid Ending before after = (text : List ℕ) × Ending text × TookPart text before.sink after.sink

-- The text that ends a call so was taken.
abbrev pub IsEnded : (List ℕ → Type 0) → Outside → Outside → Type 0
IsEnded Ending before after = (text : List ℕ) × Ending text × Took text before.sink after.sink

-- How a call for a command ends with each status.
abbrev pub EndsFor : Command → Outside → Outside → Status → Type 0
EndsFor command before after Done = IsEnded (IsDone command before after) before after
EndsFor command before after Refused = IsEnded (IsRefused command before after) before after
EndsFor command before after ReadFailed =
    ReadsTree command × Rose before.tree.faults after.tree.faults
    × (IsUntouched before after ⊎ IsUnread command before after)
EndsFor command before after WriteFailed = IsUnwritten command before after
EndsFor command before after NoMemory = IsUntouched before after
EndsFor command before after PrintFailed =
    IsUnsaid (IsDone command before after) before after
    ⊎ IsUnsaid (IsRefused command before after) before after
EndsFor command before after Usage = ⊥

-- Words of no shape.
abbrev pub IsUsage : Outside → Outside → List ℕ → Type 0
IsUsage before after text = (text ≡ usage_text) × Stays before.folder after.folder

abbrev pub EndsUnshaped : Outside → Outside → Status → Type 0
EndsUnshaped before after Usage = IsEnded (IsUsage before after) before after
EndsUnshaped before after PrintFailed = IsUnsaid (IsUsage before after) before after
EndsUnshaped before after NoMemory = IsUntouched before after
EndsUnshaped before after Done = ⊥
EndsUnshaped before after Refused = ⊥
EndsUnshaped before after ReadFailed = ⊥
EndsUnshaped before after WriteFailed = ⊥

abbrev pub Ends : Option Command → Outside → Outside → Status → Type 0
Ends (Some command) before after status = EndsFor command before after status
Ends None before after status = EndsUnshaped before after status

-- No count of faults rose.
pub record IsFaultless (before after : Outside) : Type 0 where
  pub tree : ¬ (Rose before.tree.faults after.tree.faults)
  pub folder : ¬ (Rose before.folder.faults after.folder.faults)
  pub sink : ¬ (Rose before.sink.faults after.sink.faults)

-- Files go into an empty folder alone.
abbrev pub packing_status : List MemFile → Status
packing_status [] = Done
packing_status (_ ∷ _) = Refused

-- The status that an outcome has.
abbrev pub Expects : Result Answer Refusal → View Folder → Status → Type 0
Expects (Ok (Says text)) folder status = status ≡ Done
Expects (Ok (Packs whole)) folder status =
    WhereTold folder.told (λ held. status ≡ packing_status held.finished)
Expects (Err refusal) folder status = status ≡ Refused

-- A call without faults has the status of its outcome, or it lacked memory.
abbrev pub IsComplete : Option Command → Outside → Outside → Status → Type 0
IsComplete None before after status =
    IsFaultless before after → (status ≡ Usage) ⊎ (status ≡ NoMemory)
IsComplete (Some command) before after status =
    (world : World) (outcome : Result Answer Refusal)
    → world_read command before.tree.told ≡ Some world
    → ComesTo world command outcome → IsFaultless before after
    → Expects outcome before.folder status ⊎ (status ≡ NoMemory)
