-- A configuration has one first fault of its desktop file, its icon and its data files.
use Rattle.std.proofs.Common.{◌≡◌, ◌∙◌, sym, ap, subst, ℕ, List, ◌∷◌, Option, Some, None, Result, Ok, Err, map}
use Rattle.answers.specs.First.{first_some}
use Rattle.app_config.specs.declared.config.Config.{Config}
use Rattle.desk_entry.proofs.StateLemmas.{one_reading}
use Rattle.desk_entry.specs.declared.entries.Entries.{Entries}
use Rattle.desk_entry.specs.declared.reading.DeskFault.{DeskFault}
use Rattle.desk_entry.specs.declared.reading.DeskFault.TheVariants.{NotUtf8, Line as AtLine, NoGroup, TwoGroups, TwoKeys, NoMemory}
use Rattle.load_model.specs.World.{World, file_at}
use Rattle.load_model.specs.declared.world.WorldFile.{WorldFile}
use Rattle.refusals.specs.declared.file_refusal.FileRefusal.{FileRefusal}
use Rattle.extra_files.specs.Faults.{HasEntryFault, IsDesktopFault, IsExtraFault, IsFaultOfReading, IsFileFault, IsReadingFault, data_absence, icon_absence, program_names}
use Rattle.extra_files.specs.Stems.{stem_of}

one_reading_fault : (unread : DeskFault) (a b : Option FileRefusal) → IsReadingFault unread a → IsReadingFault unread b → a ≡ b
one_reading_fault NotUtf8 a b p q = p ∙ sym q
one_reading_fault (AtLine n) a b p q = p ∙ sym q
one_reading_fault NoGroup a b p q = p ∙ sym q
one_reading_fault (TwoGroups n) a b p q = p ∙ sym q
one_reading_fault (TwoKeys n) a b p q = p ∙ sym q
one_reading_fault NoMemory a b p q = absurd p

one_of_reading : (programs : List (List ℕ)) (stem : List ℕ) (reading : Result Entries DeskFault) (a b : Option FileRefusal) → IsFaultOfReading programs stem reading a → IsFaultOfReading programs stem reading b → a ≡ b
one_of_reading programs stem (Ok entries) a b p q = p ∙ sym q
one_of_reading programs stem (Err unread) a b p q = one_reading_fault unread a b p q

one_entry_fault : (text : List ℕ) (programs : List (List ℕ)) (stem : List ℕ) (a b : Option FileRefusal) → HasEntryFault text programs stem a → HasEntryFault text programs stem b → a ≡ b
one_entry_fault text programs stem a b p q =
    one_of_reading programs stem p.reading a b p.told (subst (λ r. IsFaultOfReading programs stem r b) (one_reading text q.reading p.reading q.reads p.reads) q.told)

one_file_fault : (o : Option WorldFile) (path : List ℕ) (programs : List (List ℕ)) (stem : List ℕ) (a b : Option FileRefusal) → IsFileFault o path programs stem a → IsFileFault o path programs stem b → a ≡ b
one_file_fault None path programs stem a b p q = p ∙ sym q
one_file_fault (Some file) path programs stem a b p q = one_entry_fault file.bytes programs stem a b p q

one_desktop_fault : (world : World) (programs : List (List ℕ)) (desktop icon : Option (List ℕ)) (a b : Option FileRefusal) → IsDesktopFault world programs desktop icon a → IsDesktopFault world programs desktop icon b → a ≡ b
one_desktop_fault world programs None icon a b p q = p ∙ sym q
one_desktop_fault world programs (Some desktop) None a b p q = absurd p
one_desktop_fault world programs (Some desktop) (Some icon) a b p q = one_file_fault (file_at world desktop) desktop programs (stem_of icon) a b p q

pub one_extra_fault : (world : World) (config : Config) (a b : Option FileRefusal) → IsExtraFault world config a → IsExtraFault world config b → a ≡ b
one_extra_fault world config a b p q =
    p.first
    ∙ (ap (λ desk. first_some (desk ∷ icon_absence world config.icon ∷ map (data_absence world) config.files)) (one_desktop_fault world (program_names config) config.desktop config.icon p.desk q.desk p.desk_is q.desk_is)
    ∙ sym q.first)
