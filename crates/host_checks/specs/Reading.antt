-- What reading the record of a directory answers.
use Rattle.std.specs.Prelude.{ℕ, List, ◌≡◌, None, Result, Ok, Err}
use Rattle.answers.specs.Faults.{Rose}
use Rattle.answers.specs.Told.{WhereTold}
use Rattle.load_model.specs.World.{World, file_at}
use Rattle.ports.specs.Reading.{bytes_at}
use Rattle.ports.specs.View.{View}
use Rattle.host_record.specs.Grammar.{Refuses, Says}
use Rattle.host_record.specs.declared.records.Record.{Record}
use Rattle.build_plan.specs.declared.stops.BuildStop.{BuildStop}
use Rattle.build_plan.specs.declared.stops.BuildStop.TheVariants.{Refused, Read, NoMemory}
use Rattle.refusals.specs.declared.folder_refusal.FolderRefusal.TheVariants.{RecordAbsent, RecordLine}
use Rattle.refusals.specs.declared.refusal.Refusal.TheVariants.{Folder}
use Rattle.host_checks.specs.Hosting.{HasBadLine, HasRecord, record_path}
use Rattle.host_checks.specs.declared.stops.RecordStop.{RecordStop}
use Rattle.host_checks.specs.declared.stops.RecordStop.TheVariants.{Absent, Line, Read as Unread, NoMemory as Exhausted}

-- The record that lies there, or why there is none, up to want of memory and reads that failed.
abbrev pub IsRecordAnswer : View World → View World → List ℕ → Result Record RecordStop → Type 0
IsRecordAnswer before after place (Ok r) =
    WhereTold before.told (λ world. HasRecord world place r)
IsRecordAnswer before after place (Err (Absent path)) = (path ≡ record_path place)
    × WhereTold before.told (λ world. file_at world path ≡ None)
IsRecordAnswer before after place (Err (Line n)) =
    WhereTold before.told (λ world. HasBadLine world place n)
IsRecordAnswer before after place (Err Unread) = Rose before.faults after.faults
IsRecordAnswer before after place (Err Exhausted) = Unit {0}

-- The same of the file at a path, which is there.
abbrev pub IsFileAnswer : View World → View World → List ℕ → Result Record RecordStop → Type 0
IsFileAnswer before after path (Ok r) =
    WhereTold before.told (λ world. Says (bytes_at world path) r)
IsFileAnswer before after path (Err (Absent other)) = ⊥
IsFileAnswer before after path (Err (Line n)) =
    WhereTold before.told (λ world. Refuses (bytes_at world path) n)
IsFileAnswer before after path (Err Unread) = Rose before.faults after.faults
IsFileAnswer before after path (Err Exhausted) = Unit {0}

-- What the text of a record answers.
abbrev pub IsTextAnswer : List ℕ → Result Record RecordStop → Type 0
IsTextAnswer text (Ok r) = Says text r
IsTextAnswer text (Err (Absent path)) = ⊥
IsTextAnswer text (Err (Line n)) = Refuses text n
IsTextAnswer text (Err Unread) = ⊥
IsTextAnswer text (Err Exhausted) = Unit {0}

-- What a check stops with where there is no record.
abbrev pub stop_of_record : RecordStop → BuildStop
stop_of_record (Absent path) = Refused (Folder (RecordAbsent path))
stop_of_record (Line n) = Refused (Folder (RecordLine n))
stop_of_record Unread = Read
stop_of_record Exhausted = NoMemory
