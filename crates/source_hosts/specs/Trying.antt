-- The tree of a build is tried, with the setting of the build, as a host: it is to meet what the
-- build demands of hosts. So a library that was found as a host library through a run path has to
-- stand in the listed directories too.
use Rattle.std.specs.Prelude.{ℕ, ◌≡◌, Option, Some, Result, Ok, Err}
use Rattle.answers.specs.Faults.{Rose}
use Rattle.answers.specs.Told.{WhereTold}
use Rattle.app_config.specs.declared.config.Config.{Config}
use Rattle.load_model.specs.Faces.{face_or_flaw}
use Rattle.load_model.specs.World.{World}
use Rattle.load_model.specs.declared.setting.Setting.{Setting}
use Rattle.host_list.specs.Meeting.{HostMeets, first_difference}
use Rattle.host_list.specs.declared.differences.Difference.{Difference}
use Rattle.host_meeting.specs.Verdicts.{verdict_by}
use Rattle.host_meeting.specs.declared.verdicts.HostStop.{HostStop}
use Rattle.host_meeting.specs.declared.verdicts.HostStop.TheVariants.{Read as Unread, NoMemory as Exhausted}
use Rattle.host_meeting.specs.declared.verdicts.Verdict.{Verdict}
use Rattle.host_meeting.specs.declared.verdicts.Verdict.TheVariants.{Meets, Fails}
use Rattle.host_record.specs.declared.records.Record.{Record}
use Rattle.refusals.specs.declared.refusal.Refusal.{Refusal}
use Rattle.refusals.specs.declared.refusal.Refusal.TheVariants.{Split}
use Rattle.refusals.specs.declared.split_refusal.SplitRefusal.TheVariants.{SourceNotHost}
use Rattle.build_plan.specs.Building.{Building}
use Rattle.build_plan.specs.declared.stops.BuildStop.{BuildStop}
use Rattle.build_plan.specs.declared.stops.BuildStop.TheVariants.{Refused, Read, NoMemory}
use Rattle.build_texts.specs.Texts.{record_in}

-- The one refusal is that of the first demand that is not met.
abbrev pub IsNoHost : Option Difference → Refusal → Type 0
IsNoHost found (Split (SourceNotHost difference)) = found ≡ Some difference
IsNoHost found refusal = ⊥

-- The world meets what the build demands of a host, or this is refused.
abbrev pub TriesSource : World → Config → Building → Result Unit Refusal → Type 0
TriesSource world config b (Ok done) =
    HostMeets face_or_flaw config.setting world (record_in b)
TriesSource world config b (Err refusal) =
    IsNoHost (first_difference face_or_flaw config.setting world (record_in b)) refusal

-- The verdict on a tree that tells this, where a read fails only if the count of faults rose.
abbrev pub IsTried : Setting → Option World → ℕ → ℕ → Record → Result Verdict HostStop → Type 0
IsTried setting told before after r (Ok verdict) =
    WhereTold told
    (λ world. verdict ≡ verdict_by (first_difference face_or_flaw setting world r))
IsTried setting told before after r (Err Unread) = Rose before after
IsTried setting told before after r (Err Exhausted) = Unit {0}

-- What a verdict comes to.
abbrev pub stop_of_verdict : Result Verdict HostStop → Result Unit BuildStop
stop_of_verdict (Ok Meets) = Ok tt
stop_of_verdict (Ok (Fails difference)) = Err (Refused (Split (SourceNotHost difference)))
stop_of_verdict (Err Unread) = Err Read
stop_of_verdict (Err Exhausted) = Err NoMemory
