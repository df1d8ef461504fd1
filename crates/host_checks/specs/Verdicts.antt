-- What is answered of a host that is a tree.
use Rattle.std.specs.Prelude.{ℕ, List, ◌≡◌, Result, Ok, Err}
use Rattle.answers.specs.Faults.{Rose}
use Rattle.load_model.specs.Faces.{face_or_flaw}
use Rattle.load_model.specs.World.{World}
use Rattle.ports.specs.View.{View}
use Rattle.host_record.specs.declared.records.Record.{Record}
use Rattle.host_list.specs.Meeting.{first_difference}
use Rattle.host_list.specs.declared.differences.Difference.{Difference}
use Rattle.host_meeting.specs.Hosts.{OnHost}
use Rattle.host_meeting.specs.Verdicts.{verdict_by}
use Rattle.host_meeting.specs.declared.verdicts.HostStop.{HostStop}
use Rattle.host_meeting.specs.declared.verdicts.HostStop.TheVariants.{Read as Unread, NoMemory as Exhausted}
use Rattle.host_meeting.specs.declared.verdicts.Verdict.{Verdict}
use Rattle.host_meeting.specs.declared.verdicts.Verdict.TheVariants.{Meets, Fails}
use Rattle.build_plan.specs.declared.stops.BuildStop.{BuildStop}
use Rattle.build_plan.specs.declared.stops.BuildStop.TheVariants.{Refused, Read, NoMemory}
use Rattle.refusals.specs.declared.folder_refusal.FolderRefusal.TheVariants.{HostFails}
use Rattle.refusals.specs.declared.refusal.Refusal.TheVariants.{Folder}
use Rattle.host_checks.specs.Hosting.{meets_line}

-- What is answered of the tree with these directories.
abbrev pub IsTreeVerdict : View World → View World → List (List ℕ) → Record
    → Result Verdict HostStop → Type 0
IsTreeVerdict before after dirs r (Ok verdict) =
    OnHost before.told r.machine dirs
    (λ setting world. verdict ≡ verdict_by (first_difference face_or_flaw setting world r))
IsTreeVerdict before after dirs r (Err Unread) = Rose before.faults after.faults
IsTreeVerdict before after dirs r (Err Exhausted) = Unit {0}

-- What is said of a verdict.
abbrev pub IsSaidOf : Verdict → Result (List ℕ) BuildStop → Type 0
IsSaidOf verdict (Ok text) = (verdict ≡ Meets) × (text ≡ meets_line)
IsSaidOf verdict (Err (Refused refusal)) =
    (d : Difference) × (verdict ≡ Fails d) × (refusal ≡ Folder (HostFails d))
IsSaidOf verdict (Err Read) = ⊥
IsSaidOf verdict (Err NoMemory) = Unit {0}

-- What a check stops with where nothing is answered of the host.
abbrev pub stop_of_host : HostStop → BuildStop
stop_of_host Unread = Read
stop_of_host Exhausted = NoMemory
