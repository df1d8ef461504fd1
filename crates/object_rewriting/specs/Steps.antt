-- What the steps of a rewriting come to, of the bytes that were read
use Rattle.std.specs.Prelude.{ℕ, ◌≡◌, List, Some, None, Result, Ok, Err}
use Rattle.elf_rewrite.specs.NewFile.{Fits, IsNewFile}
use Rattle.elf_rewrite.specs.Pieces.{Overlay, laid}
use Rattle.elf_rewrite.specs.Rewriting.{rewriting}
use Rattle.elf_rewrite.specs.Stops.{stop_named, stop_of}
use Rattle.elf_rewrite.specs.declared.change.Change.{Change}
use Rattle.elf_rewrite.specs.declared.change.RewriteStop.{RewriteStop}
use Rattle.load_model.specs.Faces.{face_or_flaw, first_flaw}
use Rattle.load_model.specs.declared.faces.Face.{Face}
use Rattle.object_rewriting.specs.declared.stops.RewritingStop.{RewritingStop}
use Rattle.object_rewriting.specs.declared.stops.RewritingStop.TheVariants.{Rewrite, Changed, Read, NoMemory}

-- The text is the new file of some file with a face that the change fits.
pub record IsFitRewriting (change : Change) (text : List ℕ) : Type 0 where
  pub file : List ℕ
  pub unflawed : first_flaw file ≡ None
  pub fits : Fits change file
  pub new_file : IsNewFile file change text

-- An edit that makes the new file.
pub record IsEditOf (b : List ℕ) (change : Change) (edit : Overlay) : Type 0 where
  pub unflawed : first_flaw b ≡ None
  pub fits : Fits change b
  pub goes : stop_of b change ≡ None
  pub edit_is : edit ≡ rewriting b change
  pub new_file : IsNewFile b change (laid b edit)

-- The file stops the change, and not for want of memory.
pub record IsStopOf (b : List ℕ) (change : Change) (stop : RewriteStop) : Type 0 where
  pub stops : stop_of b change ≡ Some stop
  pub named : stop_named stop ≡ Some stop

-- The edit, or the stop.
abbrev pub IsEditAnswer : List ℕ → Change → Result Overlay RewritingStop → Type 0
IsEditAnswer b change (Ok edit) = IsEditOf b change edit
IsEditAnswer b change (Err (Rewrite stop)) = IsStopOf b change stop
IsEditAnswer b change (Err Changed) = ⊥
IsEditAnswer b change (Err Read) = ⊥
IsEditAnswer b change (Err NoMemory) = Unit {0}

-- The edit, or the stop; or the file has another face by now.
abbrev pub IsPlanned : List ℕ → Face → Change → Result Overlay RewritingStop → Type 0
IsPlanned b face change (Ok edit) = IsEditOf b change edit
IsPlanned b face change (Err (Rewrite stop)) = IsStopOf b change stop
IsPlanned b face change (Err Changed) = ¬ (face_or_flaw b ≡ Ok face)
IsPlanned b face change (Err Read) = ⊥
IsPlanned b face change (Err NoMemory) = Unit {0}

-- Nothing is read; a stop of the file is no want of memory.
abbrev pub IsInnerStop : RewritingStop → Type 0
IsInnerStop (Rewrite stop) = stop_named stop ≡ Some stop
IsInnerStop Changed = Unit {0}
IsInnerStop Read = ⊥
IsInnerStop NoMemory = Unit {0}
