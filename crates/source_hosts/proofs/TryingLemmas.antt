-- The verdict on a tree, from that of its opener, and what it comes to.
use Rattle.std.proofs.Common.{◌≡◌, ◌∙◌, sym, ap, refl, subst, ℕ, List, Option, Some, None, Result, Ok, Err}
use Rattle.app_config.specs.declared.config.Config.{Config}
use Rattle.load_model.specs.Faces.{face_or_flaw}
use Rattle.load_model.specs.Opening.{OpenerView}
use Rattle.load_model.specs.World.{World}
use Rattle.load_model.specs.declared.setting.Setting.{Setting}
use Rattle.host_list.specs.Meeting.{first_difference}
use Rattle.host_list.specs.declared.differences.Difference.{Difference}
use Rattle.host_meeting.specs.Verdicts.{IsVerdict, IsWhole, verdict_by}
use Rattle.host_meeting.specs.declared.verdicts.HostStop.{HostStop}
use Rattle.host_meeting.specs.declared.verdicts.HostStop.TheVariants.{Read as Unread, NoMemory as Exhausted}
use Rattle.host_meeting.specs.declared.verdicts.Verdict.{Verdict}
use Rattle.host_meeting.specs.declared.verdicts.Verdict.TheVariants.{Meets, Fails}
use Rattle.host_record.specs.Canonical.{IsCanonical}
use Rattle.host_record.specs.declared.records.Record.{Record}
use Rattle.ports.specs.View.{View}
use Rattle.build_plan.specs.Building.{Building}
use Rattle.build_plan.specs.Deciding.{IsSafePlan, building_of}
use Rattle.build_plan.specs.Steps.{IsStepAnswer}
use Rattle.build_plan.specs.declared.plans.Plan.{Plan}
use Rattle.build_texts.specs.Texts.{record_in}
use Rattle.build_texts.proofs.RecordLemmas.{plan_canonical, plan_machine}
use Rattle.source_hosts.specs.Trying.{IsTried, TriesSource, stop_of_verdict}

-- The record of a plan is for the machine of its configuration, and whole.
module _ (config : Config) (plan : Plan) (safe : IsSafePlan config plan) (r : Record) (made : r ≡ record_in (building_of plan)) where
  pub for_machine : r.machine ≡ config.setting.machine
  for_machine = ap (λ (x : Record). x.machine) made ∙ plan_machine config plan safe

  pub is_whole : IsWhole r
  is_whole =
      let canonical : IsCanonical r = subst IsCanonical (sym made) (plan_canonical config plan safe) in
      record { declared = canonical.declared; versions = canonical.versions; looks = canonical.looks }

pub verdict_tried : (setting : Setting) (before after : OpenerView) (dirs : List (List ℕ)) (r : Record) (result : Result Verdict HostStop) → r.machine ≡ setting.machine → dirs ≡ setting.dirs → IsVerdict before after dirs r result → IsTried setting before.told before.faults after.faults r result
verdict_tried setting before after dirs r (Ok verdict) same listed h = λ world told. h setting world (record { world_is = told; machine_is = sym same; dirs_are = sym listed })
verdict_tried setting before after dirs r (Err Unread) same listed h = h
verdict_tried setting before after dirs r (Err Exhausted) same listed h = tt

meets : (found : Option Difference) → Meets ≡ verdict_by found → found ≡ None
meets None h = refl
meets (Some difference) h = cc

fails : (found : Option Difference) (difference : Difference) → Fails difference ≡ verdict_by found → found ≡ Some difference
fails None difference h = cc
fails (Some other) difference h = cc

pub source_tried : (config : Config) (b : Building) (before after : View World) (r : Record) (result : Result Verdict HostStop) → r ≡ record_in b → IsTried config.setting before.told before.faults after.faults r result → IsStepAnswer before after (λ world outcome. TriesSource world config b outcome) (stop_of_verdict result)
source_tried config b before after r (Ok Meets) made h = λ world told.
    meets (first_difference face_or_flaw config.setting world (record_in b)) (h world told ∙ ap (λ x. verdict_by (first_difference face_or_flaw config.setting world x)) made)
source_tried config b before after r (Ok (Fails difference)) made h = λ world told.
    fails (first_difference face_or_flaw config.setting world (record_in b)) difference (h world told ∙ ap (λ x. verdict_by (first_difference face_or_flaw config.setting world x)) made)
source_tried config b before after r (Err Unread) made h = h
source_tried config b before after r (Err Exhausted) made h = tt
