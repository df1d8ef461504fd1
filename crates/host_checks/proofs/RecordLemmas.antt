-- What is read of the file of a record is what lies at its path.
use Rattle.std.proofs.Common.{◌≡◌, ◌∙◌, sym, ap, refl, subst, ℕ, List, ◌≤◌, arith}
use Rattle.std.specs.Prelude.{Option, None, Some, Result, Ok, Err}
use Rattle.answers.specs.Faults.{Rose}
use Rattle.answers.specs.Told.{WhereTold}
use Rattle.load_model.specs.World.{World, file_at}
use Rattle.load_model.specs.declared.world.WorldFile.{WorldFile}
use Rattle.ports.specs.Reading.{bytes_at, bytes_of, found_at, found_of}
use Rattle.ports.specs.View.{OnlyReads, View}
use Rattle.ports.specs.declared.trees.Found.TheVariants.{File}
use Rattle.host_record.specs.Grammar.{Refuses, Says}
use Rattle.host_record.specs.declared.records.Record.{Record}
use Rattle.host_checks.specs.Hosting.{HasBadLine, HasRecord, record_path}
use Rattle.host_checks.specs.Reading.{IsFileAnswer, IsRecordAnswer}
use Rattle.host_checks.specs.declared.stops.RecordStop.{RecordStop}
use Rattle.host_checks.specs.declared.stops.RecordStop.TheVariants.{Absent as NoFile, Line, Read as Unread, NoMemory as Exhausted}

rose_later : (a b c : ℕ) → a ≤ b → Rose b c → Rose a c
rose_later a b c stays rose = omega (arith, stays, rose)

file_in : (found : Option WorldFile) (id : List ℕ) (len : ℕ) → File id len ≡ found_of found → (file : WorldFile) × (found ≡ Some file)
file_in None id len h = cc
file_in (Some file) id len h = (file, refl)

-- the file is at the record's path
says_there : (world : World) (place path id : List ℕ) (len : ℕ) (r : Record) → path ≡ record_path place → File id len ≡ found_at world path → Says (bytes_at world path) r → HasRecord world place r
says_there world place path id len r e h says =
    let f = file_in (file_at world path) id len h in
    record {
      file = f.0;
      lies = ap (file_at world) (sym e) ∙ f.1;
      says = subst (λ found. Says (bytes_of found) r) f.1 says;
    }

refuses_there : (world : World) (place path id : List ℕ) (len n : ℕ) → path ≡ record_path place → File id len ≡ found_at world path → Refuses (bytes_at world path) n → HasBadLine world place n
refuses_there world place path id len n e h refuses =
    let f = file_in (file_at world path) id len h in
    record {
      file = f.0;
      lies = ap (file_at world) (sym e) ∙ f.1;
      refuses = subst (λ found. Refuses (bytes_of found) n) f.1 refuses;
    }

pub read_there : (before probed after : View World) (place path id : List ℕ) (len : ℕ) (result : Result Record RecordStop) → path ≡ record_path place → OnlyReads before probed → WhereTold before.told (λ world. File id len ≡ found_at world path) → IsFileAnswer probed after path result → IsRecordAnswer before after place result
read_there before probed after place path id len (Ok r) e only found h = λ world told. says_there world place path id len r e (found world told) (h world (only.stays ∙ told))
read_there before probed after place path id len (Err (NoFile other)) e only found h = absurd h
read_there before probed after place path id len (Err (Line n)) e only found h = λ world told. refuses_there world place path id len n e (found world told) (h world (only.stays ∙ told))
read_there before probed after place path id len (Err Unread) e only found h = rose_later before.faults probed.faults after.faults only.never_falls h
read_there before probed after place path id len (Err Exhausted) e only found h = tt
