-- What is known of a run is known of one that only the places of faces tell from it.
use Rattle.std.proofs.Common.{◌≡◌, ◌∙◌, sym, ap, refl, ℕ, zero, suc, ◌<◌, List, [], ◌∷◌, Option, Some, None, All, length, slice_get, option_map, arith, subst}
use Rattle.std.proofs.lemmas.List.{length-map}
use Rattle.std.proofs.lemmas.Option.{slice_get-map, slice_get_within}
use Rattle.std.specs.Option.{option_and_then, unwrap_or}
use Rattle.load_model.specs.LoadList.{Loaded}
use Rattle.load_model.specs.Runs.{AreBelow, HasSmallLoaders, IsObjOf, IsObjOver, IsRunOf, IsRunOver}
use Rattle.load_model.specs.VersionCheck.{first_unmet, phase_at}
use Rattle.load_model.specs.declared.faces.Face.{Face}
use Rattle.load_model.specs.declared.runs.Obj.{Obj}
use Rattle.load_model.specs.declared.runs.Run.{Run}
use Rattle.load_requests.proofs.AskingPlaces.{all_at, all_from}
use Rattle.build_runs.proofs.UnmetLemmas.{first_agreed}
use Rattle.build_runs.specs.Answering.{IsSafeRun}
use Rattle.build_runs.specs.Ordering.{IsSameRun, with_face}
use Rattle.build_runs.specs.declared.programs.Start.{Start}

abbrev placeless : Obj → Obj
placeless x = with_face x 0

one_of : (found : Option Obj) (y : Obj) → option_map placeless found ≡ Some (placeless y) → (x : Obj) × (found ≡ Some x) × (placeless x ≡ placeless y)
one_of None y h = cc
one_of (Some x) y h = (x, refl, cc)

module _ (faces kept : List Face) (run new : Run) (same : IsSameRun faces kept run new) where
  pub count_same : length new.objs ≡ length run.objs
  count_same = sym (length-map new.objs placeless) ∙ ap length same.objs ∙ length-map run.objs placeless

  targets_same : new.targets ≡ run.targets
  targets_same = ap (λ (r : Run). r.targets) same.rest

  global_same : new.global ≡ run.global
  global_same = ap (λ (r : Run). r.global) same.rest

  pub opens_same : new.opens ≡ run.opens
  opens_same = ap (λ (r : Run). r.opens) same.rest

  roots_same : new.roots ≡ run.roots
  roots_same = ap (λ (r : Run). r.roots) same.rest

  locals_same : new.locals ≡ run.locals
  locals_same = ap (λ (r : Run). r.locals) same.rest

  -- an object of the new run as the other has it
  was : (j : ℕ) (y : Obj) → slice_get new.objs j ≡ Some y → (x : Obj) × (slice_get run.objs j ≡ Some x) × (placeless x ≡ placeless y)
  was j y g =
      let there : option_map placeless (slice_get run.objs j) ≡ Some (placeless y) = sym (slice_get-map placeless run.objs j) ∙ ap (λ xs. slice_get xs j) (sym same.objs) ∙ slice_get-map placeless new.objs j ∙ ap (option_map placeless) g in
      one_of (slice_get run.objs j) y there

  placeless_phase : (found : Option Obj) → option_map (λ (x : Obj). x.phase) found ≡ option_map (λ (x : Obj). x.phase) (option_map placeless found)
  placeless_phase None = refl
  placeless_phase (Some x) = refl

  phases_same : (j : ℕ) → phase_at new j ≡ phase_at run j
  phases_same j =
      let objects : option_map placeless (slice_get new.objs j) ≡ option_map placeless (slice_get run.objs j) = sym (slice_get-map placeless new.objs j) ∙ ap (λ xs. slice_get xs j) same.objs ∙ slice_get-map placeless run.objs j in
      let phases : option_map (λ (x : Obj). x.phase) (slice_get new.objs j) ≡ option_map (λ (x : Obj). x.phase) (slice_get run.objs j) = placeless_phase (slice_get new.objs j) ∙ ap (option_map (λ (x : Obj). x.phase)) objects ∙ sym (placeless_phase (slice_get run.objs j)) in
      ap (λ (o : Option ℕ). unwrap_or o 0) phases

  pub unmet_same : first_unmet kept new ≡ first_unmet faces run
  unmet_same = first_agreed kept faces new run same.faces_same phases_same count_same targets_same opens_same roots_same

  -- the face of an object stands in the table
  face_in_range : (j : ℕ) (x y : Obj) → slice_get run.objs j ≡ Some x → slice_get new.objs j ≡ Some y → x.face < length faces → slice_get kept y.face ≡ slice_get faces x.face
  face_in_range j x y g h below = ap (λ (o : Option Obj). option_and_then (λ (z : Obj). slice_get kept z.face) o) (sym h) ∙ same.faces_same j ∙ ap (λ (o : Option Obj). option_and_then (λ (z : Obj). slice_get faces z.face) o) g

  obj_over : IsRunOver faces run → (j : ℕ) (y : Obj) → slice_get new.objs j ≡ Some y → IsObjOver kept new y
  obj_over over j y g =
      let w = was j y g in
      let x : Obj = w.0 in
      let old : IsObjOver faces run x = all_at (IsObjOver faces run) run.objs j x over.objs w.1 in
      let there = there_at faces x.face old.face in
      let stands : slice_get kept y.face ≡ Some there.0 = face_in_range j x y w.1 g old.face ∙ there.1 in
      let loader : y.loader ≡ x.loader = ap (λ (z : Obj). z.loader) (sym w.2) in
      let phase : y.phase ≡ x.phase = ap (λ (z : Obj). z.phase) (sym w.2) in
      let opens : length new.opens ≡ length run.opens = ap length opens_same in
      record {
        face = slice_get_within kept y.face there.0 stands;
        loader = omega (arith, old.loader, count_same, loader);
        phase = omega (arith, old.phase, opens, phase);
      }
    where
      there_at : (fs : List Face) (k : ℕ) → k < length fs → (f : Face) × (slice_get fs k ≡ Some f)
      there_at [] k h = absurd (omega arith)
      there_at (f ∷ fs) zero h = (f, refl)
      there_at (f ∷ fs) (suc k) h = there_at fs k (omega arith)

  run_over : IsRunOver faces run → IsRunOver kept new
  run_over over = record {
    program = subst (λ n. 0 < n) (sym count_same) over.program;
    few = omega (arith, over.few, count_same);
    objs = all_from (IsObjOver kept new) new.objs (obj_over over);
    global = omega (arith, over.global, count_same, global_same);
    lists = ap length targets_same ∙ over.lists ∙ sym count_same;
    counts = λ j face ts h g. over.counts j face ts (sym (same.faces_same j) ∙ h) (ap (λ ls. slice_get ls j) (sym targets_same) ∙ g);
    targets = subst (λ (n : ℕ). All (AreBelow n) new.targets) (sym count_same) (subst (λ (ts : List (List ℕ)). All (AreBelow (length run.objs)) ts) (sym targets_same) over.targets);
    root_count = ap length roots_same ∙ over.root_count ∙ ap length (sym opens_same);
    roots = subst (λ (n : ℕ). AreBelow n new.roots) (sym count_same) (subst (λ (ts : List ℕ). AreBelow (length run.objs) ts) (sym roots_same) over.roots);
    local_count = ap length locals_same ∙ over.local_count ∙ ap length (sym opens_same);
    locals = subst (λ (n : ℕ). All (AreBelow n) new.locals) (sym count_same) (subst (λ (ts : List (List ℕ)). All (AreBelow (length run.objs)) ts) (sym locals_same) over.locals);
  }

  small_loaders : HasSmallLoaders run → HasSmallLoaders new
  small_loaders small = record {
    program = λ y g. (let w = was 0 y g in ap (λ (z : Obj). z.loader) (sym w.2) ∙ small.program w.0 w.1);
    others = λ j y some g. (let w = was j y g in let loader : y.loader ≡ w.0.loader = ap (λ (z : Obj). z.loader) (sym w.2) in subst (λ n. n < j) (sym loader) (small.others j w.0 some w.1));
  }

  pub safe_run : (program : Start) → IsSafeRun faces program run → IsSafeRun kept program new
  safe_run program safe = record {
    over = run_over safe.over;
    loaders = small_loaders safe.loaders;
    opens = opens_same ∙ safe.opens;
    met = unmet_same ∙ safe.met;
  }

  module _ (opens : List (List ℕ)) (loaded : Loaded) (ends : List Loaded) (is : IsRunOf faces opens loaded ends run) where
    obj_of : (j : ℕ) (y : Obj) → slice_get new.objs j ≡ Some y → IsObjOf kept loaded ends j y
    obj_of j y g =
        let w = was j y g in
        let x : Obj = w.0 in
        let old : IsObjOf faces loaded ends j x = is.objs j x w.1 in
        record {
          object = old.object;
          stands = old.stands;
          path = ap (λ (z : Obj). z.path) (sym w.2) ∙ old.path;
          id = ap (λ (z : Obj). z.id) (sym w.2) ∙ old.id;
          face = face_in_range j x y w.1 g (slice_get_within faces x.face old.object.face old.face) ∙ old.face;
          loader = ap (λ (z : Obj). z.loader) (sym w.2) ∙ old.loader;
          phase = ap (λ (z : Obj). z.phase) (sym w.2) ∙ old.phase;
        }

    pub run_of : IsRunOf kept opens loaded ends new
    run_of = record {
      count = count_same ∙ is.count;
      objs = obj_of;
      targets = targets_same ∙ is.targets;
      global = global_same ∙ is.global;
      opened = opens_same ∙ is.opened;
      roots = roots_same ∙ is.roots;
      local_count = ap length locals_same ∙ is.local_count;
      locals = λ k root ks g h. is.locals k root ks (ap (λ rs. slice_get rs k) (sym roots_same) ∙ g) (ap (λ ls. slice_get ls k) (sym locals_same) ∙ h);
    }
