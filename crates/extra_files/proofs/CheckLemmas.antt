-- What the check of a desktop file says of a world.
use Rattle.std.proofs.Common.{◌≡◌, sym, subst, ℕ, List, Option, Some, None, Result, Ok, Err}
use Rattle.std.specs.Prelude.{is_none}
use Rattle.answers.specs.First.{some_where}
use Rattle.appdir_files.specs.Writing.{HasLength}
use Rattle.build_plan.specs.Steps.{IsStepAnswer}
use Rattle.build_plan.specs.declared.stops.BuildStop.{BuildStop}
use Rattle.build_plan.specs.declared.stops.BuildStop.TheVariants.{Refused, Read, NoMemory}
use Rattle.load_model.specs.World.{World, file_at}
use Rattle.load_model.specs.declared.world.WorldFile.{WorldFile}
use Rattle.ports.specs.Reading.{bytes_at, bytes_of, found_of}
use Rattle.ports.specs.View.{View}
use Rattle.ports.specs.declared.trees.Found.TheVariants.{File}
use Rattle.refusals.specs.declared.file_refusal.FileRefusal.{FileRefusal}
use Rattle.refusals.specs.declared.file_refusal.FileRefusal.TheVariants.{FileAbsent}
use Rattle.refusals.specs.declared.refusal.Refusal.{Refusal}
use Rattle.refusals.specs.declared.refusal.Refusal.TheVariants.{Config as ConfigRefused, Load, Split, Names, Rewrite, Files, Folder}
use Rattle.extra_files.specs.Copying.{IsCheckedLength, IsEntryCheck, IsLengthAt, IsTextCheck}
use Rattle.extra_files.specs.Extras.{OfFiles}
use Rattle.extra_files.specs.Faults.{HasEntryFault, IsDesktopFault, IsFileFault, absence}
use Rattle.extra_files.specs.Stems.{stem_of}

-- A refusal of a file that is such is also another.
pub files_too : (P Q : FileRefusal → Type 0) (refusal : Refusal) → ((fault : FileRefusal) → P fault → Q fault) → OfFiles P refusal → OfFiles Q refusal
files_too P Q (ConfigRefused refusal) more h = absurd h
files_too P Q (Load refusal) more h = absurd h
files_too P Q (Split refusal) more h = absurd h
files_too P Q (Names refusal) more h = absurd h
files_too P Q (Rewrite refusal) more h = absurd h
files_too P Q (Files refusal) more h = more refusal h
files_too P Q (Folder refusal) more h = absurd h

-- What is said of a text that was read is said of the file.
pub check_told : (before after : View World) (path text : List ℕ) (programs : List (List ℕ)) (stem : List ℕ) (result : Result (Unit {0}) BuildStop) → ((world : World) → before.told ≡ Some world → text ≡ bytes_at world path) → IsTextCheck text programs stem result → IsStepAnswer before after (λ world outcome. IsEntryCheck (bytes_at world path) programs stem outcome) result
check_told before after path text programs stem (Ok u) same h = λ world told. subst (λ t. HasEntryFault t programs stem None) (same world told) h
check_told before after path text programs stem (Err (Refused refusal)) same h = λ world told. subst (λ t. IsEntryCheck t programs stem (Err refusal)) (same world told) h
check_told before after path text programs stem (Err Read) same h = absurd h
check_told before after path text programs stem (Err NoMemory) same h = tt

file_fault : (o : Option WorldFile) (id : List ℕ) (len : ℕ) (path : List ℕ) (programs : List (List ℕ)) (stem : List ℕ) (fault : Option FileRefusal) → found_of o ≡ File id len → HasEntryFault (bytes_of o) programs stem fault → IsFileFault o path programs stem fault
file_fault None id len path programs stem fault e h = cc
file_fault (Some file) id len path programs stem fault e h = h

-- The fault of the file that is there, by that of its text.
there_fault : (world : World) (programs : List (List ℕ)) (desktop icon stem : List ℕ) (len : ℕ) (fault : Option FileRefusal) → stem ≡ stem_of icon → HasLength world desktop len → HasEntryFault (bytes_at world desktop) programs stem fault → IsDesktopFault world programs (Some desktop) (Some icon) fault
there_fault world programs desktop icon stem len fault e there h =
    file_fault (file_at world desktop) there.0 len desktop programs (stem_of icon) fault there.1 (subst (λ s. HasEntryFault (bytes_at world desktop) programs s fault) e h)

pub checked_well : (world : World) (programs : List (List ℕ)) (desktop icon stem : List ℕ) (len : ℕ) → stem ≡ stem_of icon → HasLength world desktop len → HasEntryFault (bytes_at world desktop) programs stem None → IsCheckedLength world programs desktop icon (Ok len)
checked_well world programs desktop icon stem len e there h = (there, there_fault world programs desktop icon stem len None e there h)

pub checked_ill : (world : World) (programs : List (List ℕ)) (desktop icon stem : List ℕ) (len : ℕ) (refusal : Refusal) → stem ≡ stem_of icon → HasLength world desktop len → IsEntryCheck (bytes_at world desktop) programs stem (Err refusal) → IsCheckedLength world programs desktop icon (Err refusal)
checked_ill world programs desktop icon stem len refusal e there h =
    files_too (λ fault. HasEntryFault (bytes_at world desktop) programs stem (Some fault)) (λ fault. IsDesktopFault world programs (Some desktop) (Some icon) (Some fault)) refusal
    (λ fault p. there_fault world programs desktop icon stem len (Some fault) e there p) h

no_file : (o : Option WorldFile) (path : List ℕ) (programs : List (List ℕ)) (stem : List ℕ) (fault : FileRefusal) → some_where (is_none o) (FileAbsent path) ≡ Some fault → IsFileFault o path programs stem (Some fault)
no_file None path programs stem fault e = sym e
no_file (Some file) path programs stem fault e = cc

pub checked_absent : (world : World) (programs : List (List ℕ)) (desktop icon : List ℕ) (refusal : Refusal) → IsLengthAt world desktop (Err refusal) → IsCheckedLength world programs desktop icon (Err refusal)
checked_absent world programs desktop icon refusal h =
    files_too (λ fault. absence world desktop ≡ Some fault) (λ fault. IsDesktopFault world programs (Some desktop) (Some icon) (Some fault)) refusal
    (λ fault p. no_file (file_at world desktop) desktop programs (stem_of icon) fault p) h
