-- What is answered of a host: the first demand that it does not meet, or that it meets all, up to
-- want of memory and reads that failed.
use Rattle.std.specs.Prelude.{ℕ, List, ◌≡◌, true, Option, None, Some, Result, Ok, Err}
use Rattle.std.specs.List.{AllByRecursion}
use Rattle.answers.specs.Faults.{Rose}
use Rattle.load_model.specs.Faces.{face_or_flaw}
use Rattle.load_model.specs.Opening.{OpenerView}
use Rattle.host_list.specs.Meeting.{first_difference}
use Rattle.host_list.specs.declared.differences.Difference.{Difference}
use Rattle.host_record.specs.Canonical.{IsLookOver, IsVersionOver}
use Rattle.host_record.specs.Said.{needs_declared}
use Rattle.host_record.specs.declared.records.Record.{Record}
use Rattle.host_meeting.specs.Hosts.{OnHost}
use Rattle.host_meeting.specs.declared.misses.Miss.{Miss}
use Rattle.host_meeting.specs.declared.misses.Miss.TheVariants.{Differs, Read as Unread, NoMemory as Exhausted}
use Rattle.host_meeting.specs.declared.verdicts.HostStop.{HostStop}
use Rattle.host_meeting.specs.declared.verdicts.HostStop.TheVariants.{Read, NoMemory}
use Rattle.host_meeting.specs.declared.verdicts.Verdict.{Verdict}
use Rattle.host_meeting.specs.declared.verdicts.Verdict.TheVariants.{Meets, Fails}

-- The numbers of libraries are those of libraries, and each need is the name of one.
pub record IsWhole (r : Record) : Type 0 where
  pub declared : needs_declared r.libs ≡ true
  pub versions : AllByRecursion (IsVersionOver r.libs) r.versions
  pub looks : AllByRecursion (IsLookOver r.libs) r.looks

abbrev pub verdict_by : Option Difference → Verdict
verdict_by None = Meets
verdict_by (Some difference) = Fails difference

-- What is answered of the host with these directories.
abbrev pub IsVerdict : OpenerView → OpenerView → List (List ℕ) → Record → Result Verdict HostStop
    → Type 0
IsVerdict before after dirs r (Ok verdict) =
    OnHost before.told r.machine dirs
    (λ setting world. verdict ≡ verdict_by (first_difference face_or_flaw setting world r))
IsVerdict before after dirs r (Err Read) = Rose before.faults after.faults
IsVerdict before after dirs r (Err NoMemory) = Unit {0}

-- What a miss comes to.
abbrev pub verdict_of_miss : Miss → Result Verdict HostStop
verdict_of_miss (Differs difference) = Ok (Fails difference)
verdict_of_miss Unread = Err Read
verdict_of_miss Exhausted = Err NoMemory
