-- The end of the start phase, and the run that is made at the end of all phases.
use Rattle.std.proofs.Common.{◌≡◌, ◌∙◌, sym, ap, refl, ℕ, zero, suc, ◌+◌, ◌≤◌, ◌<◌, List, [], ◌∷◌, ◌++◌, Option, Some, None, Ok, Err, length, take, map, slice_get, get_or, arith, subst, inl, inr}
use Rattle.std.specs.List.{All, flat_map}
use Rattle.std.specs.Option.{option_and_then, unwrap_or}
use Rattle.std.proofs.lemmas.Bool.{cases_lt}
use Rattle.std.proofs.lemmas.List.{length-map, take_all}
use Rattle.std.proofs.lemmas.Option.{get_or_from_slice_get, slice_get_within, slice_get-get_or}
use Rattle.answers.specs.Told.{WhereTold}
use Rattle.answers.specs.Faults.{Rose}
use Rattle.load_model.specs.Faces.{face_or_flaw}
use Rattle.load_model.specs.LoadList.{Loaded, Object, next, phase, run, run_from, start_of, up_to, walk, with_numbers}
use Rattle.load_model.specs.Loads.{IsLoadList, IsStopped, goes_to, program_at}
use Rattle.load_model.specs.Opening.{OnlyGrew, OpenerView}
use Rattle.load_model.specs.Replays.{Loads}
use Rattle.load_model.specs.Runs.{AreBelow, HasSmallLoaders, IsLocal, IsObjOf, IsRunOver, need_targets, needs_at, phase_of, reached, start_count, target_in}
use Rattle.load_model.specs.World.{World}
use Rattle.load_model.specs.declared.faces.Face.{Face}
use Rattle.load_model.specs.declared.limits.TheConstants.{MOST_OBJECTS}
use Rattle.load_model.specs.declared.runs.Obj.{Obj}
use Rattle.load_model.specs.declared.runs.Run.{Run}
use Rattle.load_model.specs.declared.setting.Setting.{Setting}
use Rattle.load_model.proofs.AskedNeeds.{get_map}
use Rattle.load_model.proofs.LoadLists.{is_ended, is_stop, name_has_target}
use Rattle.load_model.proofs.NumberLemmas.{length-up_to}
use Rattle.load_model.proofs.Places.{slice_get_front}
use Rattle.load_order.specs.Ending.{AreNoted, IsLoadEnd, StaysInFront, IsPhaseEnd, IsOpening, IsOpeningAll, IsPhaseMore, IsPhaseReady, WentFor}
use Rattle.load_requests.specs.Loading.{IsRead, IsRefusedBy, refusal_of}
use Rattle.load_order.specs.Reaching.{AreReaches, IsMadeOf, IsReach, reached_in, targets_at}
use Rattle.load_requests.specs.Standing.{IsAlone, IsSafe, IsStarted, IsWalked, IsWalkedTo, IsWalking, Stands, start_path}
use Rattle.load_requests.specs.declared.loading.Loading.{Loading}
use Rattle.load_requests.specs.declared.stops.LoadStop.{LoadStop}
use Rattle.load_order.proofs.OrderingLemmas.{first_phase, kept_log, kept_start, noted_walk, phase_new, same_object, some_at, start_more}
use Rattle.load_order.proofs.OrderingSteps.{ended_more, ended_stop, refused_by, rose_on}
use Rattle.load_order.proofs.ReachingLemmas.{pushed}

pub ext_get : {X : Type 0} (xs ys : List X) → length xs ≡ length ys → ((k : ℕ) (x y : X) → slice_get xs k ≡ Some x → slice_get ys k ≡ Some y → x ≡ y) → xs ≡ ys
ext_get [] [] size h = refl
ext_get [] (y ∷ ys) size h = absurd (omega arith)
ext_get (x ∷ xs) [] size h = absurd (omega arith)
ext_get (x ∷ xs) (y ∷ ys) size h = ap (λ z. z ∷ xs) (h 0 x y refl refl) ∙ ap (λ zs. y ∷ zs) (ext_get xs ys (omega arith) (λ k a b g f. h (suc k) a b g f))

up_at : (n k x : ℕ) → slice_get (up_to n) k ≡ Some x → x ≡ k
unfolding up_to
up_at zero k x h = cc
up_at (suc n) k x h =
    elim (pushed (up_to n) n k x h) [
      | inl e ↦ up_at n k x e
      | inr e ↦ let size = length-up_to n in let same = e.1 in let at = e.0 in omega arith
    ]

pub all_get : {X : Type 0} (P : X → Type 0) (xs : List X) (k : ℕ) (x : X) → All P xs → slice_get xs k ≡ Some x → P x
all_get P xs k x h g = subst P (get_or_from_slice_get xs k x x g) (h k x (slice_get_within xs k x g))

first_most : (end : Loaded) (k : ℕ) (e : Loaded) → slice_get (end ∷ []) k ≡ Some e → length e.objs ≤ length end.objs
first_most end zero e h = let same : end ≡ e = cc in let size : length end.objs ≡ length e.objs = ap (λ (x : Loaded). length x.objs) same in omega arith
first_most end (suc k) e h = cc

-- the start phase
module _ (setting : Setting) (v1 v2 : OpenerView) (s0 s1 : Loading) (path : List ℕ) (program : Object) (alone : IsAlone s0) (safe : IsSafe v1.faces s0) (named : program.path ≡ path) (stands : Stands v1.faces s0 (start_of program)) where
  from_zero : length s0.targets ≡ 0
  from_zero = ap length alone.targets

  as_walked : (world : World) → phase (goes_to face_or_flaw setting world path) MOST_OBJECTS (start_of program) program.face.needs ≡ walk (goes_to face_or_flaw setting world (start_path (start_of program))) (suc MOST_OBJECTS) (length s0.targets) (start_of program)
  as_walked world =
      first_phase (goes_to face_or_flaw setting world path) MOST_OBJECTS program
      ∙ ap (λ q. walk (goes_to face_or_flaw setting world q) (suc MOST_OBJECTS) 0 (start_of program)) (sym named)
      ∙ ap (λ i. walk (goes_to face_or_flaw setting world (start_path (start_of program))) (suc MOST_OBJECTS) i (start_of program)) (sym from_zero)

  pub first_ended : IsWalking s0 s1 → OnlyGrew v1 v2 → (w : IsWalkedTo setting v1 v2 s0 s1 (start_of program)) → IsLoadEnd setting v1.told v2.faces path program [] s1 [] w.end (w.end ∷ [])
  first_ended walking grew w =
      let kept : StaysInFront (start_of program) w.end = kept_log (start_of program) w.end _ (same_object v1.faces v2.faces s0.objs s1.objs (program ∷ []) w.end.objs grew.faces walking.objs walking.longer stands.objects w.stands.objects) w.log in
      let z = from_zero in
      let none : AreNoted (start_of program) s0.targets = subst (λ ts. AreNoted (start_of program) ts) (sym alone.targets) (λ k o ts h g e n t p q. cc) in
      let zero_is : s1.phase ≡ 0 = walking.phase ∙ alone.phase in
      let size = w.stands.objects.count in
      record {
        stands = w.stands;
        start = kept_start (start_of program) w.end (omega arith) kept ∙ named;
        noted = noted_walk (start_of program) w.end s0.targets s1.targets (omega arith) kept walking.targets w.log none;
        count = ap suc (sym zero_is);
        last = ap (slice_get (w.end ∷ [])) zero_is;
        most = first_most w.end;
        phases = λ j x h.
            let within : j < length s1.objs = slice_get_within s1.objs j x h in
            let first : phase_of (w.end ∷ []) j ≡ 0 = phase_new [] w.end j 0 (λ k e g. cc) (omega arith) (omega arith) in
            elim (cases_lt j (length s0.objs)) [
              | inl early ↦
                  let old : slice_get s0.objs j ≡ Some x = ap (λ xs. slice_get xs j) (sym walking.objs) ∙ slice_get_front (length s0.objs) s1.objs j x early h in
                  let low : x.phase ≤ s0.phase = all_get (λ y. y.phase ≤ s0.phase) s0.objs j x safe.phases old in
                  let a = alone.phase in
                  omega arith
              | inr late ↦ walking.new_phase j x late h ∙ alone.phase ∙ sym first
            ];
        roots = λ k n t h g. cc;
        recursion = λ world e.
            let p : phase (goes_to face_or_flaw setting world path) MOST_OBJECTS (start_of program) program.face.needs ≡ Ok w.end = as_walked world ∙ w.recursion (suc MOST_OBJECTS) (omega arith) world e in
            (ap (λ r. next r (λ t. Ok t)) p, ap (λ r. next r (λ t. Ok (t ∷ []))) p);
      }

  pub first_stop : (opens : List (List ℕ)) (stop : LoadStop) → IsWalked setting v1 v2 s0 s1 (start_of program) (Err stop) → WhereTold v1.told (λ world. IsRefusedBy (λ r. run (goes_to face_or_flaw setting world path) MOST_OBJECTS program opens ≡ Err r) (refusal_of stop))
  first_stop opens stop w world e =
      refused_by (λ r. walk (goes_to face_or_flaw setting world (start_path (start_of program))) (suc MOST_OBJECTS) (length s0.targets) (start_of program) ≡ Err r) (λ r. run (goes_to face_or_flaw setting world path) MOST_OBJECTS program opens ≡ Err r) (refusal_of stop)
      (λ r h. ap (λ x. next x (λ t. run_from (goes_to face_or_flaw setting world path) MOST_OBJECTS t (map (λ n. n ∷ []) opens))) (as_walked world ∙ h)) (w.0 (suc MOST_OBJECTS) (omega arith) world e)

-- a stop of the recursion is that of the load list
pub stopped : (setting : Setting) (told : Option World) (path : List ℕ) (program : Object) (opens : List (List ℕ)) (stop : LoadStop) → WhereTold told (λ world. program_at face_or_flaw setting world path ≡ Ok program) → WhereTold told (λ world. IsRefusedBy (λ r. run (goes_to face_or_flaw setting world path) MOST_OBJECTS program opens ≡ Err r) (refusal_of stop)) → WhereTold told (λ world. IsRefusedBy (IsStopped face_or_flaw setting world path opens) (refusal_of stop))
stopped setting told path program opens stop starts h world e =
    refused_by (λ r. run (goes_to face_or_flaw setting world path) MOST_OBJECTS program opens ≡ Err r) (IsStopped face_or_flaw setting world path opens) (refusal_of stop)
    (λ r g. inr (program, starts world e, is_stop face_or_flaw setting world path program opens r g)) (h world e)

-- the local list over targets is the local list
same_flat : (f g : ℕ → List ℕ) (xs : List ℕ) → All (λ x. f x ≡ g x) xs → flat_map f xs ≡ flat_map g xs
same_flat f g [] h = refl
same_flat f g (x ∷ xs) h = ap (λ ys. ys ++ flat_map f xs) (h 0 0 (omega arith)) ∙ ap (λ ys. g x ++ ys) (same_flat f g xs (λ k d b. h (suc k) d (omega arith)))

module _ (loaded : Loaded) (targets : List (List ℕ)) (is : targets ≡ map (need_targets loaded) (up_to (length loaded.objs))) where
  at_is : (k : ℕ) → k < length targets → targets_at targets k ≡ need_targets loaded k
  at_is k less =
      let x = some_at targets k less in
      let w = get_map (need_targets loaded) (up_to (length loaded.objs)) k x.0 (ap (λ xs. slice_get xs k) (sym is) ∙ x.1) in
      ap (λ o. unwrap_or o []) x.1 ∙ w.2 ∙ ap (need_targets loaded) (up_at (length loaded.objs) k w.0 w.1)

  same_reach : (root : ℕ) (ks : List ℕ) → AreBelow (length targets) ks → reached loaded root ks ≡ reached_in targets root ks
  same_reach root ks below = ap (with_numbers (root ∷ [])) (sym (same_flat (targets_at targets) (need_targets loaded) ks (λ k d b. at_is (get_or ks k d) (below k d b))))

  below_front : (ks : List ℕ) (i : ℕ) → AreBelow (length targets) ks → AreBelow (length targets) (take i ks)
  below_front ks zero h k d b = absurd (omega arith)
  below_front [] (suc i) h k d b = absurd (omega arith)
  below_front (x ∷ ks) (suc i) h zero d b = h 0 d (omega arith)
  below_front (x ∷ ks) (suc i) h (suc k) d b = below_front ks i (λ j e c. h (suc j) e (omega arith)) k d (omega arith)

  pub is_local : (root : ℕ) (ks : List ℕ) → AreBelow (length targets) ks → IsReach targets root ks → IsLocal loaded root ks
  is_local root ks below r =
      record {
        order = same_reach root ks below ∙ r.order;
        brought = λ i less.
            let a = r.brought i less in
            let b : length (reached loaded root (take i ks)) ≡ length (reached_in targets root (take i ks)) = ap length (same_reach root (take i ks) (below_front ks i below)) in
            omega arith;
      }

-- the name of this round
name_to : (opens : List (List ℕ)) (i : ℕ) (name : List ℕ) → i < length opens → name ≡ get_or opens i name → name ≡ get_or opens i []
name_to opens i name less is = sym (get_or_from_slice_get opens i name [] (slice_get-get_or opens i name less ∙ ap Some (sym is)))

module _ (setting : Setting) (v0 v1 v2 : OpenerView) (path : List ℕ) (program : Object) (opens : List (List ℕ)) (i : ℕ) (s s2 : Loading) (numbers : List ℕ) (name : List ℕ) (grew : OnlyGrew v0 v1) (less : i < length opens) (named : name ≡ get_or opens i name) (count : length numbers ≡ i) (some : 0 < length s.objs) (loaded : Loaded) (ends : List Loaded) (e : IsLoadEnd setting v0.told v1.faces path program (take i opens) s numbers loaded ends) where
  pub all_stop : (stop : LoadStop) → IsOpening setting v1 v2 s s2 loaded name (Err stop) → WhereTold v0.told (λ world. IsRefusedBy (λ r. run (goes_to face_or_flaw setting world path) MOST_OBJECTS program opens ≡ Err r) (refusal_of stop)) × (IsRead stop → Rose v0.faults v2.faults)
  all_stop stop o = (
    ended_stop setting v0.told v1 v2 path program opens i s s2 numbers loaded ends grew.world less count some e stop (subst (λ n. IsOpening setting v1 v2 s s2 loaded n (Err stop)) (name_to opens i name less named) o),
    λ r. rose_on v0.faults v1.faults v2.faults grew.faults (o.1 r),
  )

  pub all_more : (target : ℕ) (new : List ℕ) (starts : ℕ) → IsPhaseMore s s2 → IsPhaseEnd setting v1 v2 s s2 loaded name target → new ≡ numbers ++ target ∷ [] → start_count ends ≡ starts → (end : Loaded) × (more : List Loaded) × IsLoadEnd setting v0.told v2.faces path program (take (i + 1) opens) s2 new end more × (start_count more ≡ starts)
  all_more target new starts more o is from =
      let there : IsPhaseEnd setting v1 v2 s s2 loaded (get_or opens i []) target = subst (λ n. IsPhaseEnd setting v1 v2 s s2 loaded n target) (name_to opens i name less named) o in
      (there.end, ends ++ there.end ∷ [], ended_more setting v0.told v1 v2 path program opens i s s2 numbers loaded ends grew.world less count some e target more there new is, start_more ends there.end s.phase e.count ∙ from)

pub all_done : (setting : Setting) (told : Option World) (faces : List Face) (path : List ℕ) (program : Object) (opens : List (List ℕ)) (i : ℕ) (s : Loading) (numbers : List ℕ) (loaded : Loaded) (ends : List Loaded) → length opens ≤ i → IsLoadEnd setting told faces path program (take i opens) s numbers loaded ends → IsLoadEnd setting told faces path program opens s numbers loaded ends
all_done setting told faces path program opens i s numbers loaded ends le e = subst (λ xs. IsLoadEnd setting told faces path program xs s numbers loaded ends) (take_all i opens le) e

pub ready_done : (old new : Loading) (i n : ℕ) (numbers : List ℕ) → i ≡ n → IsPhaseReady old new i numbers → IsPhaseReady old new n numbers
ready_done old new i n numbers e r = subst (λ k. IsPhaseReady old new k numbers) e r

pub start_stops : (setting : Setting) (told : Option World) (path : List ℕ) (opens : List (List ℕ)) (stop : LoadStop) → WhereTold told (λ world. IsRefusedBy (λ r. program_at face_or_flaw setting world path ≡ Err r) (refusal_of stop)) → WhereTold told (λ world. IsRefusedBy (IsStopped face_or_flaw setting world path opens) (refusal_of stop))
start_stops setting told path opens stop h world e =
    refused_by (λ r. program_at face_or_flaw setting world path ≡ Err r) (IsStopped face_or_flaw setting world path opens) (refusal_of stop) (λ r g. inl g) (h world e)

-- all numbers of the run are in range
module _ (faces : List Face) (s : Loading) (opens : List (List ℕ)) (numbers : List ℕ) (locals : List (List ℕ)) (global : ℕ) (safe : IsSafe faces s) (all : length s.targets ≡ length s.objs) (phase_le : s.phase ≤ length opens) (count : length numbers ≡ length opens) (below : AreBelow (length s.objs) numbers) (reaches : AreReaches s.targets numbers locals) (global_le : global ≤ length s.objs) where
  abbrev pub made_run : Run
  made_run = record { objs = s.objs; targets = s.targets; global = global; opens = opens; roots = numbers; locals = locals }

  loader_small : (k : ℕ) (x : Obj) → slice_get s.objs k ≡ Some x → x.loader < length s.objs
  loader_small zero x h = let a = safe.own x h in let b = safe.program in omega arith
  loader_small (suc k) x h = let a = safe.smaller (suc k) x (omega arith) h in let b = slice_get_within s.objs (suc k) x h in omega arith

  counts_by : (j : ℕ) (face : Face) (ts : List ℕ) (o : Option Obj) → slice_get s.objs j ≡ o → option_and_then (λ x. slice_get faces x.face) o ≡ Some face → slice_get s.targets j ≡ Some ts → length ts ≡ length face.needs
  counts_by j face ts None h f g = cc
  counts_by j face ts (Some x) h f g = safe.counts j x face ts h f g

  pub run_over : IsRunOver faces made_run
  run_over =
      let few = safe.few in
      record {
        program = safe.program;
        few = omega arith;
        objs = λ k d b. record { face = safe.faces_within k d b; loader = loader_small k (get_or s.objs k d) (slice_get-get_or s.objs k d b); phase = let p = safe.phases k d b in omega arith };
        global = global_le;
        lists = all;
        counts = λ j face ts f g. counts_by j face ts (slice_get s.objs j) refl f g;
        targets = safe.targets;
        root_count = count;
        roots = below;
        local_count = reaches.count ∙ count;
        locals = subst (λ n. All (AreBelow n) locals) all reaches.below;
      }

  pub small_loaders : HasSmallLoaders made_run
  small_loaders = record { program = safe.own; others = safe.smaller }

  module _ (setting : Setting) (told : Option World) (path : List ℕ) (program : Object) (loaded : Loaded) (ends : List Loaded) (e : IsLoadEnd setting told faces path program opens s numbers loaded ends) (global_is : global ≡ start_count ends) (world : World) (tell : told ≡ Some world) (starts : program_at face_or_flaw setting world path ≡ Ok program) where
    list : IsLoadList face_or_flaw setting world path opens loaded ends
    list = let r = e.recursion world tell in record { program = program; starts = starts; run = is_ended face_or_flaw setting world path program opens loaded ends r.0 r.1 }

    size_is : length loaded.objs ≡ length s.objs
    size_is = e.stands.objects.count

    went_is : (by : ℕ) (n : List ℕ) (t : ℕ) → WentFor loaded.log by n t → target_in loaded.log n ≡ t
    went_is by n t w = name_has_target face_or_flaw setting world path opens loaded ends list w.0 (record { request = record { by = by; name = n }; target = t }) w.1

    one_list : (k : ℕ) (o : Object) (ts : List ℕ) → slice_get loaded.objs k ≡ Some o → slice_get s.targets k ≡ Some ts → ts ≡ map (target_in loaded.log) o.face.needs
    one_list k o ts h g =
        let a = size_is in
        let within = slice_get_within loaded.objs k o h in
        let x = some_at s.objs k (omega arith) in
        let face = (e.stands.objects.each k x.0 o x.1 h).2 in
        ext_get ts (map (target_in loaded.log) o.face.needs) (safe.counts k x.0 o.face ts x.1 face g ∙ sym (length-map o.face.needs (target_in loaded.log)))
        (λ j t y p q.
        let n = get_map (target_in loaded.log) o.face.needs j y q in
        sym (went_is k n.0 t (e.noted k o ts h g j n.0 t n.1 p)) ∙ sym n.2)

    targets_is : s.targets ≡ map (need_targets loaded) (up_to (length loaded.objs))
    targets_is =
        ext_get s.targets (map (need_targets loaded) (up_to (length loaded.objs))) (all ∙ sym size_is ∙ sym (length-up_to (length loaded.objs)) ∙ sym (length-map (up_to (length loaded.objs)) (need_targets loaded)))
        (λ k ts y h g.
        let a = size_is in
        let n = get_map (need_targets loaded) (up_to (length loaded.objs)) k y g in
        let at = up_at (length loaded.objs) k n.0 n.1 in
        let within = slice_get_within s.targets k ts h in
        let o = some_at loaded.objs k (omega arith) in
        one_list k o.0 ts o.1 h ∙ ap (λ x. map (target_in loaded.log) (needs_at x)) (sym o.1) ∙ ap (need_targets loaded) (sym at) ∙ sym n.2)

    roots_is : numbers ≡ map (target_in loaded.log) opens
    roots_is =
        ext_get numbers (map (target_in loaded.log) opens) (count ∙ sym (length-map opens (target_in loaded.log)))
        (λ k t y h g.
        let n = get_map (target_in loaded.log) opens k y g in
        sym (went_is 0 n.0 t (e.roots k n.0 t n.1 h)) ∙ sym n.2)

    obj_is : (j : ℕ) (x : Obj) → slice_get s.objs j ≡ Some x → IsObjOf faces loaded ends j x
    obj_is j x h =
        let a = size_is in
        let within = slice_get_within s.objs j x h in
        let o = some_at loaded.objs j (omega arith) in
        let r = e.stands.objects.each j x o.0 h o.1 in
        record { object = o.0; stands = o.1; path = sym r.0; id = sym r.1; face = r.2; loader = e.stands.loaders j x h; phase = e.phases j x h }

    pub loads : Loads face_or_flaw setting world faces path opens made_run
    loads =
        record {
          loaded = loaded;
          ends = ends;
          list = list;
          run_is = record {
            count = sym size_is;
            objs = obj_is;
            targets = targets_is;
            global = global_is;
            opened = refl;
            roots = roots_is;
            local_count = reaches.count ∙ count;
            locals = λ k root ks h g. is_local loaded s.targets targets_is root ks (all_get (AreBelow (length s.targets)) locals k ks reaches.below g) (reaches.each k root ks h g);
          };
        }

-- the run that was made
pub made_is : (s : Loading) (global : ℕ) (opens : List (List ℕ)) (numbers : List ℕ) (run : Run) → IsMadeOf s global opens numbers run → record { objs = s.objs; targets = s.targets; global = global; opens = opens; roots = numbers; locals = run.locals } ≡ run
made_is s global opens numbers run m =
    ap (λ x. record { objs = x; targets = s.targets; global = global; opens = opens; roots = numbers; locals = run.locals }) (sym m.objs)
    ∙ ap (λ x. record { objs = run.objs; targets = x; global = global; opens = opens; roots = numbers; locals = run.locals }) (sym m.targets)
    ∙ ap (λ x. record { objs = run.objs; targets = run.targets; global = x; opens = opens; roots = numbers; locals = run.locals }) (sym m.global)
    ∙ ap (λ x. record { objs = run.objs; targets = run.targets; global = run.global; opens = x; roots = numbers; locals = run.locals }) (sym m.opens)
    ∙ ap (λ x. record { objs = run.objs; targets = run.targets; global = run.global; opens = run.opens; roots = x; locals = run.locals }) (sym m.roots)

-- how a load stops
pub walk_stopped : (setting : Setting) (v0 v1 v2 : OpenerView) (s0 s1 : Loading) (path : List ℕ) (opens : List (List ℕ)) → IsAlone s0 → IsSafe v1.faces s0 → OnlyGrew v0 v1 → (st : IsStarted setting v0 v1 path (Ok s0)) → (stop : LoadStop) → IsWalked setting v1 v2 s0 s1 (start_of st.0) (Err stop) → WhereTold v0.told (λ world. IsRefusedBy (IsStopped face_or_flaw setting world path opens) (refusal_of stop)) × (IsRead stop → Rose v0.faults v2.faults)
walk_stopped setting v0 v1 v2 s0 s1 path opens alone safe grew st stop w = (
  stopped setting v0.told path st.0 opens stop st.3 (λ world e. first_stop setting v1 v2 s0 s1 path st.0 alone safe st.1 st.2 opens stop w world (grew.world ∙ e)),
  λ r. rose_on v0.faults v1.faults v2.faults grew.faults (w.1 r),
)

pub open_stopped : (setting : Setting) (v0 v2 v3 : OpenerView) (path : List ℕ) (program : Object) (opens : List (List ℕ)) (s : Loading) (ends : List Loaded) → OnlyGrew v0 v2 → WhereTold v0.told (λ world. program_at face_or_flaw setting world path ≡ Ok program) → (stop : LoadStop) → IsOpeningAll setting v2 v3 path program opens s ends (Err stop) → WhereTold v0.told (λ world. IsRefusedBy (IsStopped face_or_flaw setting world path opens) (refusal_of stop)) × (IsRead stop → Rose v0.faults v3.faults)
open_stopped setting v0 v2 v3 path program opens s ends grew starts stop o = (
  stopped setting v0.told path program opens stop starts (λ world e. o.0 world (grew.world ∙ e)),
  λ r. rose_on v0.faults v2.faults v3.faults grew.faults (o.1 r),
)

-- the load before any name is opened
pub before_opens : (setting : Setting) (v0 v1 v2 : OpenerView) (s0 s1 : Loading) (path : List ℕ) → IsAlone s0 → IsSafe v1.faces s0 → (st : IsStarted setting v0 v1 path (Ok s0)) → IsWalking s0 s1 → OnlyGrew v1 v2 → (w : IsWalkedTo setting v1 v2 s0 s1 (start_of st.0)) → IsLoadEnd setting v2.told v2.faces path st.0 [] s1 [] w.end (w.end ∷ [])
before_opens setting v0 v1 v2 s0 s1 path alone safe st walking grew w =
    subst (λ told. IsLoadEnd setting told v2.faces path st.0 [] s1 [] w.end (w.end ∷ [])) (sym grew.world) (first_ended setting v1 v2 s0 s1 path st.0 alone safe st.1 st.2 walking grew w)

pub load_made : (setting : Setting) (v0 v2 v3 : OpenerView) (path : List ℕ) (program : Object) (opens : List (List ℕ)) (s1 s : Loading) (starts : List Loaded) (numbers : List ℕ) (global : ℕ) (run : Run) → OnlyGrew v0 v2 → WhereTold v0.told (λ world. program_at face_or_flaw setting world path ≡ Ok program) → IsSafe v3.faces s → IsPhaseReady s1 s (length opens) numbers → s1.phase ≡ 0 → global ≡ length s1.objs → start_count starts ≡ length s1.objs → IsMadeOf s global opens numbers run → IsOpeningAll setting v2 v3 path program opens s starts (Ok numbers) → IsRunOver v3.faces run × HasSmallLoaders run × (run.opens ≡ opens) × WhereTold v0.told (λ world. Loads face_or_flaw setting world v3.faces path opens run)
load_made setting v0 v2 v3 path program opens s1 s starts numbers global run grew begins safe ready zero_is global_is starts_is made o =
    let a = ready.phase in
    let b = ready.longer in
    let phase_le : s.phase ≤ length opens = omega arith in
    let global_le : global ≤ length s.objs = omega arith in
    let global_start : global ≡ start_count o.1 = global_is ∙ sym starts_is ∙ sym o.3 in
    subst (λ (r : Run). IsRunOver v3.faces r × HasSmallLoaders r × (r.opens ≡ opens) × WhereTold v0.told (λ world. Loads face_or_flaw setting world v3.faces path opens r)) (made_is s global opens numbers run made) (
      run_over v3.faces s opens numbers run.locals global safe ready.all phase_le ready.count ready.below made.locals global_le,
      small_loaders v3.faces s opens numbers run.locals global safe ready.all phase_le ready.count ready.below made.locals global_le,
      refl,
      λ world e. loads v3.faces s opens numbers run.locals global safe ready.all phase_le ready.count ready.below made.locals global_le setting v2.told path program o.0 o.1 o.2 global_start world (grew.world ∙ e) (begins world e),
    )
