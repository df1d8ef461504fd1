-- The verdict on a host, from what is right of it.
use Rattle.std.proofs.Common.{◌≡◌, ◌∙◌, ◌++◌, ap, sym, subst, ℕ, List, Option, Some, None, Result, Ok, Err, append_assoc, map}
use Rattle.std.specs.Prelude.{IfErr, IfOk}
use Rattle.answers.specs.First.{first_some}
use Rattle.load_model.specs.Faces.{face_or_flaw}
use Rattle.load_model.specs.Opening.{OpenerView}
use Rattle.load_model.specs.World.{World}
use Rattle.load_model.specs.declared.setting.Setting.{Setting}
use Rattle.host_list.specs.Meeting.{first_difference, interp_difference, lib_difference}
use Rattle.host_list.specs.declared.differences.Difference.{Difference}
use Rattle.host_record.specs.declared.records.Record.{Record}
use Rattle.host_meeting.specs.Files.{difference_of_files, differences_of_files}
use Rattle.host_meeting.specs.Hosts.{IsHost, OnHost}
use Rattle.host_meeting.specs.Missing.{IsMiss}
use Rattle.host_meeting.specs.Verdicts.{IsVerdict, verdict_by, verdict_of_miss}
use Rattle.host_meeting.specs.declared.misses.Miss.{Miss}
use Rattle.host_meeting.specs.declared.misses.Miss.TheVariants.{Differs, Read as Unread, NoMemory as Exhausted}
use Rattle.host_meeting.specs.declared.verdicts.HostStop.{HostStop}
use Rattle.host_meeting.specs.declared.verdicts.HostStop.TheVariants.{NoMemory}
use Rattle.host_meeting.specs.declared.verdicts.Verdict.{Verdict}
use Rattle.host_meeting.proofs.FirstLemmas.{behind, leads}

module _ (setting : Setting) (world : World) (r : Record) where
  abbrev pub interps : List (Option Difference)
  interps = map (interp_difference face_or_flaw setting world r) r.interps

  abbrev pub libs : List (Option Difference)
  libs = map (lib_difference face_or_flaw setting world r) r.libs

  -- Where interpreters and libraries are right one by one, the rest decides.
  pub rest_decides : None ≡ first_some (interps ++ libs) → first_difference face_or_flaw setting world r ≡ difference_of_files face_or_flaw setting world r
  unfolding first_difference
  rest_decides right =
      ap first_some (sym (append_assoc interps libs (differences_of_files face_or_flaw setting world r)))
      ∙ behind (interps ++ libs) (differences_of_files face_or_flaw setting world r) (sym right)

  -- One that is not right is the first.
  pub one_decides : (d : Difference) → Some d ≡ first_some (interps ++ libs) → Some d ≡ first_difference face_or_flaw setting world r
  unfolding first_difference
  one_decides d h =
      leads (interps ++ libs) (differences_of_files face_or_flaw setting world r) d h
      ∙ ap first_some (append_assoc interps libs (differences_of_files face_or_flaw setting world r))

pub is_verdict : (b0 b1 : OpenerView) (dirs : List (List ℕ)) (r : Record) (result : Result Verdict HostStop) → IfOk result (λ v. OnHost b0.told r.machine dirs (λ setting world. v ≡ verdict_by (first_difference face_or_flaw setting world r))) → IfErr result (λ stop. stop ≡ NoMemory) → IsVerdict b0 b1 dirs r result
is_verdict b0 b1 dirs r (Ok v) h e = h
is_verdict b0 b1 dirs r (Err stop) h e = subst (λ s. IsVerdict b0 b1 dirs r (Err s)) (sym e) tt

pub for_machine : (b : OpenerView) (machine : ℕ) (dirs : List (List ℕ)) (setting : Setting) (world : World) → b.machine ≡ machine → IsHost b.told machine dirs setting world → IsHost b.told b.machine dirs setting world
for_machine b machine dirs setting world same host = record {
  world_is = host.world_is;
  machine_is = host.machine_is ∙ sym same;
  dirs_are = host.dirs_are;
}

-- A miss is the verdict.
pub missed : (b0 b1 : OpenerView) (dirs : List (List ℕ)) (r : Record) (miss : Miss) → b0.machine ≡ r.machine → IsMiss b0 b1 dirs (λ setting world. first_some (interps setting world r ++ libs setting world r)) miss → IsVerdict b0 b1 dirs r (verdict_of_miss miss)
missed b0 b1 dirs r (Differs d) same h = λ setting world host. ap verdict_by (one_decides setting world r d (h setting world (for_machine b0 r.machine dirs setting world same host)))
missed b0 b1 dirs r Unread same h = h
missed b0 b1 dirs r Exhausted same h = tt
