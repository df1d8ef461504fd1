-- What is recorded of a plan is what the build demands of a host, and it is canonical, for the
-- machine of the configuration.
use Rattle.std.proofs.Common.{◌≡◌, ◌∙◌, sym, ap, refl, subst, ℕ, ◌<◌, List, [], ◌∷◌, All, Option, None, Some, Result, Ok, Err, length, slice_get, arith}
use Rattle.std.specs.Prelude.{IfOk}
use Rattle.app_config.specs.declared.config.Config.{Config}
use Rattle.std.specs.Option.{option_and_then}
use Rattle.load_model.proofs.ListedLemmas.{all_at}
use Rattle.load_model.specs.Runs.{IsRunOver, face_at}
use Rattle.load_model.specs.declared.faces.Face.{Face}
use Rattle.load_model.specs.declared.runs.Obj.{Obj}
use Rattle.load_model.specs.declared.runs.Run.{Run}
use Rattle.lib_closure.specs.Splits.{split_of}
use Rattle.lib_closure.specs.declared.splits.Split.{Split}
use Rattle.lib_closure.proofs.ContainedLemmas.{here}
use Rattle.lib_closure.proofs.SplitLemmas.{programs_listed}
use Rattle.host_list.specs.Recording.{IsRecordOf}
use Rattle.host_list.proofs.CanonicalLemmas.{canonical}
use Rattle.host_list.proofs.ClosingLemmas.{closed_split, split_interps}
use Rattle.host_record.specs.Canonical.{IsCanonical}
use Rattle.host_record.specs.declared.records.Look.{Look}
use Rattle.host_record.specs.declared.records.RecLib.{RecLib}
use Rattle.host_record.specs.declared.records.RecVersion.{RecVersion}
use Rattle.host_record.specs.declared.records.Record.{Record}
use Rattle.tree_opener.specs.Names.{IsFaceFor}
use Rattle.build_plan.specs.Building.{Building}
use Rattle.build_plan.specs.Deciding.{IsSafePlan, building_of}
use Rattle.build_plan.specs.declared.plans.Plan.{Plan}
use Rattle.build_texts.specs.Texts.{first_face, machine_in, record_in}
use Rattle.build_texts.proofs.ReplayLemmas.{runs_over, some_run}

machine_at : (faces : List Face) (runs : List Run) (run : Run) (face : Face) → slice_get runs 0 ≡ Some run → face_at faces run 0 ≡ Some face → machine_in (first_face faces runs) ≡ face.machine
machine_at faces [] run face at head = cc
machine_at faces (other ∷ runs) run face at head =
    let same : other ≡ run = cc in
    ap (λ (r : Run). machine_in (face_at faces r 0)) same ∙ ap machine_in head

machine_is : (faces : List Face) (runs : List Run) (names : List (List ℕ)) (split : Split) (machine : ℕ) → All (IsRunOver faces) runs → split_of faces runs names ≡ Ok split → 0 < length runs → ((run : Run) (face : Face) → slice_get runs 0 ≡ Some run → face_at faces run 0 ≡ Some face → machine ≡ face.machine) → machine ≡ machine_in (first_face faces runs)
machine_is faces [] names split machine over is some at = absurd (omega (arith, some))
machine_is faces (run ∷ runs) names split machine over is some at =
    let p = programs_listed faces (run ∷ runs) names split over is run (here run runs) in
    at run p.face refl p.at ∙ sym (ap machine_in p.at)

abbrev made_by : ℕ → List (List ℕ) → List RecLib → List RecVersion → List Look → Record
made_by machine interps libs versions looks = record { machine = machine; interps = interps; libs = libs; versions = versions; looks = looks }

same_record : (r s : Record) → r.machine ≡ s.machine → r.interps ≡ s.interps → r.libs ≡ s.libs → r.versions ≡ s.versions → r.looks ≡ s.looks → r ≡ s
same_record r s a b c d e =
    ap (λ x. made_by x r.interps r.libs r.versions r.looks) a
    ∙ ap (λ x. made_by s.machine x r.libs r.versions r.looks) b
    ∙ ap (λ x. made_by s.machine s.interps x r.versions r.looks) c
    ∙ ap (λ x. made_by s.machine s.interps s.libs x r.looks) d
    ∙ ap (λ x. made_by s.machine s.interps s.libs s.versions x) e

pub record_made : (b : Building) (names : List (List ℕ)) (r : Record) → All (IsRunOver b.faces) b.runs → split_of b.faces b.runs names ≡ Ok b.split → 0 < length b.runs → IsRecordOf b.faces b.runs b.split r → r ≡ record_in b
unfolding record_in
record_made b names r over is some h =
    same_record r (record_in b) (machine_is b.faces b.runs names b.split r.machine over is some h.machine) h.interps h.libs h.versions h.looks

-- ---- of a plan

pub record_is : (b : Building) → IsRecordOf b.faces b.runs b.split (record_in b)
unfolding record_in
record_is b = record {
  machine = λ run face at head. machine_at b.faces b.runs run face at head;
  interps = refl;
  libs = refl;
  versions = refl;
  looks = refl;
}

face_known : (machine : ℕ) (faces : List Face) → All (IsFaceFor machine) faces → (o : Option Obj) (face : Face) → option_and_then (λ (x : Obj). slice_get faces x.face) o ≡ Some face → IsFaceFor machine face
face_known machine faces known None face h = cc
face_known machine faces known (Some x) face h = all_at (IsFaceFor machine) faces x.face face known h

-- the machine of the first program, where all faces are for one machine
machine_for : (machine : ℕ) (faces : List Face) (runs : List Run) (names : List (List ℕ)) (split : Split) → All (IsFaceFor machine) faces → All (IsRunOver faces) runs → split_of faces runs names ≡ Ok split → 0 < length runs → machine_in (first_face faces runs) ≡ machine
machine_for machine faces [] names split known over is some = absurd (omega (arith, some))
machine_for machine faces (run ∷ runs) names split known over is some =
    let p = programs_listed faces (run ∷ runs) names split over is run (here run runs) in
    ap machine_in p.at ∙ (face_known machine faces known (slice_get run.objs 0) p.face p.at).machine_is

module _ (config : Config) (plan : Plan) (safe : IsSafePlan config plan) where
  pub plan_canonical : IsCanonical (record_in (building_of plan))
  plan_canonical =
      let faces = plan.loads.table.faces in
      let runs = plan.loads.runs in
      let over = runs_over config plan safe in
      canonical faces runs plan.split (record_in (building_of plan)) (some_run config plan safe) (split_interps faces runs config.names plan.split over safe.plan.split) (closed_split faces runs config.names plan.split over safe.plan.split) (record_is (building_of plan))

  pub plan_machine : (record_in (building_of plan)).machine ≡ config.setting.machine
  unfolding record_in
  plan_machine = machine_for config.setting.machine plan.loads.table.faces plan.loads.runs config.names plan.split safe.safe.known (runs_over config plan safe) safe.plan.split (some_run config plan safe)

  made_so : (faces : List Face) (runs : List Run) (made : Record) → faces ≡ plan.loads.table.faces → runs ≡ plan.loads.runs → IsRecordOf faces runs plan.split made → made ≡ record_in (building_of plan)
  made_so faces runs made f r h =
      record_made (building_of plan) config.names made (runs_over config plan safe) safe.plan.split (some_run config plan safe)
      (subst (λ (xs : List Run). IsRecordOf plan.loads.table.faces xs plan.split made) r
      (subst (λ (xs : List Face). IsRecordOf xs runs plan.split made) f h))

  pub made_of_plan : {E : Type 0} (faces : List Face) (runs : List Run) (result : Result Record E) → faces ≡ plan.loads.table.faces → runs ≡ plan.loads.runs → IfOk result (IsRecordOf faces runs plan.split) → IfOk result (λ made. made ≡ record_in (building_of plan))
  made_of_plan faces runs (Err stop) f r h = h
  made_of_plan faces runs (Ok made) f r h = made_so faces runs made f r h

  pub made_canonical : {E : Type 0} (faces : List Face) (runs : List Run) (result : Result Record E) → faces ≡ plan.loads.table.faces → runs ≡ plan.loads.runs → IfOk result (IsRecordOf faces runs plan.split) → IfOk result IsCanonical
  made_canonical faces runs (Err stop) f r h = h
  made_canonical faces runs (Ok made) f r h = subst IsCanonical (sym (made_so faces runs made f r h)) plan_canonical
