-- One object after the other: what a walk did so far, and one object more.
use Rattle.std.proofs.Common.{◌≡◌, ◌∙◌, sym, ap, refl, subst, ℕ, zero, suc, ◌+◌, ◌-◌, ◌≤◌, ◌<◌, List, [], ◌∷◌, ◌++◌, Some, Result, Ok, Err, length, take, drop, slice_get, arith, inl, inr, append_assoc}
use Rattle.std.specs.Prelude.{All}
use Rattle.std.proofs.lemmas.List.{append-nil, drop-append-le, drop_all, length-drop, length_push, take_all, take-append-le}
use Rattle.std.proofs.lemmas.List.Elements.{All-push}
use Rattle.std.proofs.lemmas.Option.{slice_get_past}
use Rattle.answers.specs.Told.{WhereTold}
use Rattle.load_model.specs.Faces.{face_or_flaw}
use Rattle.load_model.specs.LoadList.{Asked, Found, Loaded, Object, Request, ask_all, ask_needs, next, walk}
use Rattle.load_model.specs.Loads.{goes_to}
use Rattle.load_model.specs.Opening.{OnlyGrew, OpenerView}
use Rattle.load_model.specs.Runs.{AreBelow}
use Rattle.load_model.specs.declared.faces.Face.{Face}
use Rattle.load_model.specs.declared.runs.Obj.{Obj}
use Rattle.load_model.specs.declared.setting.Setting.{Setting}
use Rattle.load_requests.specs.Known.{AreIds, first_known}
use Rattle.load_requests.specs.Loading.{refusal_of}
use Rattle.load_order.specs.Needing.{AreAsked, AreAskedTo, AreNeedsOf, requests_by}
use Rattle.load_requests.specs.Standing.{IsAsking, IsSafe, IsWalked, IsWalkedTo, IsWalking, Stands, asked_to, needs_asked, start_path}
use Rattle.load_requests.specs.declared.loading.Loading.{Loading}
use Rattle.load_requests.specs.declared.stops.LoadStop.{LoadStop}
use Rattle.load_requests.specs.declared.stops.LoadStop.TheVariants.{NoMemory}
use Rattle.load_order.proofs.WalkingLists.{front_on, get_cases, get_kept, get_push, get_there, needs_front, needs_push, start_kept}
use Rattle.load_order.proofs.WalkingAsks.{grew_not, grew_on, refused_by, rose_on, within}

-- ---- the recursion

module _ {X : Type 0} (answer : List Object → List Asked → Request → Result Found X) where
  pub walk_over : (more i : ℕ) (s : Loaded) → length s.objs ≤ i → walk answer more i s ≡ Ok s
  unfolding walk
  walk_over zero i s h = refl
  walk_over (suc more) i s h =
      ap (λ o. next (ask_needs answer s i o) (λ t. walk answer more (suc i) t)) (slice_get_past s.objs i h)
      ∙ walk_over more (suc i) s (omega (arith, h))

  pub walk_one : (more i : ℕ) (s : Loaded) (o : Object) (needs : List (List ℕ)) (r : Result Loaded X) → slice_get s.objs i ≡ Some o → needs ≡ o.face.needs → ask_all answer s (requests_by i needs) ≡ r → walk answer (suc more) i s ≡ next r (λ t. walk answer more (suc i) t)
  unfolding walk
  walk_one more i s o needs r h e asked =
      ap (λ q. next (ask_needs answer s i q) (λ t. walk answer more (suc i) t)) h
      ∙ ap (λ ns. next (ask_all answer s (requests_by i ns)) (λ t. walk answer more (suc i) t)) (sym e)
      ∙ ap (λ q. next q (λ t. walk answer more (suc i) t)) asked

-- ---- what is walked so far

-- The first objects are walked, and the others, from what is loaded now, answer as all do.
pub record AreWalkedTo (setting : Setting) (before now : OpenerView) (old new : Loading) (loaded : Loaded) : Type 0 where
  pub at : Loaded
  pub stands : Stands now.faces new at
  pub brought : List Object
  pub objs : at.objs ≡ loaded.objs ++ brought
  pub log : at.log ≡ loaded.log ++ needs_asked (length old.targets) (drop (length old.targets) at.objs) (drop (length old.targets) new.targets)
  pub left : (more rest : ℕ) → length old.targets + more ≡ length new.targets + rest → WhereTold before.told (λ world. walk (goes_to face_or_flaw setting world (start_path loaded)) more (length old.targets) loaded ≡ walk (goes_to face_or_flaw setting world (start_path loaded)) rest (length new.targets) at)

pub record WalksTo (setting : Setting) (before now : OpenerView) (old new : Loading) : Type 0 where
  pub safe : IsSafe now.faces new
  pub objs : take (length old.objs) new.objs ≡ old.objs
  pub longer : length old.objs ≤ length new.objs
  pub targets : take (length old.targets) new.targets ≡ old.targets
  pub further : length old.targets ≤ length new.targets
  pub phase : new.phase ≡ old.phase
  pub new_phase : (j : ℕ) (x : Obj) → length old.objs ≤ j → slice_get new.objs j ≡ Some x → x.phase ≡ old.phase
  pub answer : (loaded : Loaded) → Stands before.faces old loaded → AreWalkedTo setting before now old new loaded
  pub grew : OnlyGrew before now

nothing_asked : (k : ℕ) (os : List Object) → needs_asked k os [] ≡ []
nothing_asked k [] = refl
nothing_asked k (o ∷ os) = refl

walked_none_to : (setting : Setting) (b : OpenerView) (s : Loading) (loaded : Loaded) → Stands b.faces s loaded → AreWalkedTo setting b b s s loaded
walked_none_to setting b s loaded stands = record {
  at = loaded;
  stands = stands;
  brought = [];
  objs = sym (append-nil loaded.objs);
  log = sym (append-nil loaded.log)
      ∙ ap (λ log. loaded.log ++ log) (sym (nothing_asked (length s.targets) (drop (length s.targets) loaded.objs)))
      ∙ ap (λ tss. loaded.log ++ needs_asked (length s.targets) (drop (length s.targets) loaded.objs) tss) (sym (drop_all (length s.targets) s.targets (omega arith)));
  left = λ more rest e world told. let same : more ≡ rest = omega (arith, e) in ap (λ n. walk (goes_to face_or_flaw setting world (start_path loaded)) n (length s.targets) loaded) same;
}

pub walks_none : (setting : Setting) (b : OpenerView) (s : Loading) → IsSafe b.faces s → WalksTo setting b b s s
walks_none setting b s safe = record {
  safe = safe;
  objs = take_all (length s.objs) s.objs (omega arith);
  longer = omega arith;
  targets = take_all (length s.targets) s.targets (omega arith);
  further = omega arith;
  phase = refl;
  new_phase = λ j x le h. absurd (let w = within s.objs j x h in omega (arith, le, w));
  answer = walked_none_to setting b s;
  grew = grew_not b;
}

get_dropped : {X : Type 0} (k : ℕ) (xs : List X) (i : ℕ) → slice_get (drop k xs) i ≡ slice_get xs (k + i)
get_dropped zero xs i = let z : i ≡ 0 + i = omega arith in ap (λ n. slice_get xs n) z
get_dropped (suc k) [] i = refl
get_dropped (suc k) (x ∷ xs) i = let z : suc k + i ≡ suc (k + i) = omega arith in rw z (get_dropped k xs i)

-- the targets of the needs of an object are added
pub record AddsTargets (before after : Loading) (ts : List ℕ) : Type 0 where
  pub objs : after.objs ≡ before.objs
  pub known : after.known ≡ before.known
  pub ids : after.ids ≡ before.ids
  pub phase : after.phase ≡ before.phase
  pub targets : after.targets ≡ before.targets ++ ts ∷ []

stands_on : (faces : List Face) (s2 s3 : Loading) (ts : List ℕ) (loaded : Loaded) → AddsTargets s2 s3 ts → Stands faces s2 loaded → Stands faces s3 loaded
stands_on faces s2 s3 ts loaded adds h = record {
  objects = record {
    count = h.objects.count ∙ sym (ap length adds.objs);
    each = λ j x o at there. h.objects.each j x o (ap (λ os. slice_get os j) (sym adds.objs) ∙ at) there;
  };
  names = λ n. ap (first_known n) adds.known ∙ h.names n;
  loaders = λ j x at. h.loaders j x (ap (λ os. slice_get os j) (sym adds.objs) ∙ at);
  within = h.within;
  brought = h.brought;
}

-- the object of this number, as the list has it
object_at : (faces : List Face) (s : Loading) (k : ℕ) (needs : List (List ℕ)) (loaded : Loaded) → AreNeedsOf faces s k needs → Stands faces s loaded → (o : Object) × (slice_get loaded.objs k ≡ Some o) × (needs ≡ o.face.needs)
object_at faces s k needs loaded are h =
    let here = within s.objs k are.obj are.stands in
    let there = get_there loaded.objs k (omega (arith, here, h.objects.count)) in
    let each = h.objects.each k are.obj there.0 are.stands there.1 in
    let same : Some are.face ≡ Some there.0.face = sym are.face_is ∙ each.2 in
    let face : are.face ≡ there.0.face = cc in
    (there.0, there.1, are.needs_are ∙ ap (λ f. f.needs) face)

module _ (setting : Setting) (b0 b1 b2 : OpenerView) (s0 s1 s2 s3 : Loading) (needs : List (List ℕ)) (program : 0 < length s0.objs) (so_far : WalksTo setting b0 b1 s0 s1) (are : AreNeedsOf b1.faces s1 (length s1.targets) needs) where
  start_is : (loaded : Loaded) (stands : Stands b0.faces s0 loaded) → start_path (so_far.answer loaded stands).at ≡ start_path loaded
  start_is loaded stands =
      let a = so_far.answer loaded stands in
      start_kept loaded.objs a.brought a.at.objs (omega (arith, program, stands.objects.count)) a.objs

  module _ (ts : List ℕ) (safe : IsSafe b2.faces s2) (asking : IsAsking s1 s2) (count : length ts ≡ length needs) (below : AreBelow (length s2.objs) ts) (answer : (loaded : Loaded) → Stands b1.faces s1 loaded → AreAskedTo setting b1 b2 s2 loaded (length s1.targets) needs ts) (grew : OnlyGrew b1 b2) (adds : AddsTargets s2 s3 ts) where
    all_targets : s3.targets ≡ s1.targets ++ ts ∷ []
    all_targets = adds.targets ∙ ap (λ tss. tss ++ ts ∷ []) asking.targets

    one_more : length s3.targets ≡ suc (length s1.targets)
    one_more = let e = ap length all_targets ∙ length_push s1.targets ts in omega (arith, e)

    last_count : (x : Obj) (face : Face) → slice_get s2.objs (length s1.targets) ≡ Some x → slice_get b2.faces x.face ≡ Some face → length ts ≡ length face.needs
    last_count x face at is =
        let kept = get_kept (length s1.objs) s1.objs s2.objs (length s1.targets) are.obj asking.objs are.stands in
        let same : Some are.obj ≡ Some x = sym kept ∙ at in
        let obj : are.obj ≡ x = cc in
        let face_kept = get_kept (length b1.faces) b1.faces b2.faces are.obj.face are.face grew.faces are.face_is in
        let both : Some are.face ≡ Some face = sym face_kept ∙ ap (λ y. slice_get b2.faces y.face) obj ∙ is in
        let faces : are.face ≡ face = cc in
        count ∙ ap length are.needs_are ∙ ap (λ f. length f.needs) faces

    counts_on : (k : ℕ) (x : Obj) (face : Face) (us : List ℕ) → slice_get s2.objs k ≡ Some x → slice_get b2.faces x.face ≡ Some face → slice_get (s2.targets ++ ts ∷ []) k ≡ Some us → length us ≡ length face.needs
    counts_on k x face us at is went =
        elim (get_push s2.targets ts k us went) [
          | inl w ↦ safe.counts k x face us at is w
          | inr w ↦
              let place : k ≡ length s1.targets = w.0 ∙ ap length asking.targets in
              ap length (sym w.1) ∙ last_count x face (ap (λ i. slice_get s2.objs i) (sym place) ∙ at) is
        ]

    safe_on : IsSafe b2.faces s3
    safe_on =
        let here = within s1.objs (length s1.targets) are.obj are.stands in
        record {
          program = omega (arith, safe.program, ap length adds.objs);
          few = omega (arith, safe.few, ap length adds.objs);
          known = subst (λ os. (n : List ℕ) (j : ℕ) → first_known n s3.known ≡ Some j → j < length os) (sym adds.objs) (subst (λ k. (n : List ℕ) (j : ℕ) → first_known n k ≡ Some j → j < length s2.objs) (sym adds.known) safe.known);
          ids = subst (λ os. AreIds s3.ids os) (sym adds.objs) (subst (λ i. AreIds i s2.objs) (sym adds.ids) safe.ids);
          faces_within = subst (λ os. All (λ (x : Obj). x.face < length b2.faces) os) (sym adds.objs) safe.faces_within;
          own = λ x at. safe.own x (ap (λ os. slice_get os 0) (sym adds.objs) ∙ at);
          smaller = λ j x some at. safe.smaller j x some (ap (λ os. slice_get os j) (sym adds.objs) ∙ at);
          phases = subst (λ p. All (λ (x : Obj). x.phase ≤ p) s3.objs) (sym adds.phase) (subst (λ os. All (λ (x : Obj). x.phase ≤ s2.phase) os) (sym adds.objs) safe.phases);
          walked = omega (arith, here, one_more, asking.longer, ap length adds.objs);
          targets = subst (λ n. All (AreBelow n) s3.targets) (sym (ap length adds.objs)) (subst (λ tss. All (AreBelow (length s2.objs)) tss) (sym adds.targets) (All-push (AreBelow (length s2.objs)) s2.targets ts safe.targets below));
          counts = λ k x face us at is went. counts_on k x face us (ap (λ os. slice_get os k) (sym adds.objs) ∙ at) is (ap (λ tss. slice_get tss k) (sym adds.targets) ∙ went);
        }

    log_on : (loaded : Loaded) (stands : Stands b0.faces s0 loaded) (a : AreWalkedTo setting b0 b1 s0 s1 loaded) (o : Object) (end_objs brought : List Object) (end_log : List Asked) → slice_get a.at.objs (length s1.targets) ≡ Some o → needs ≡ o.face.needs
        → end_objs ≡ a.at.objs ++ brought → end_log ≡ a.at.log ++ asked_to (length s1.targets) needs ts
        → end_log ≡ loaded.log ++ needs_asked (length s0.targets) (drop (length s0.targets) end_objs) (drop (length s0.targets) s3.targets)
    log_on loaded stands a o end_objs brought end_log at needs_are objs log =
        let k : ℕ = length s0.targets in
        let here = within a.at.objs (length s1.targets) o at in
        let tail_long = length-drop k s1.targets in
        let objs_long = length-drop k a.at.objs in
        let from : k + length (drop k s1.targets) ≡ length s1.targets = omega (arith, tail_long, so_far.further) in
        let place : slice_get (drop k a.at.objs) (length (drop k s1.targets)) ≡ Some o = get_dropped k a.at.objs (length (drop k s1.targets)) ∙ ap (λ i. slice_get a.at.objs i) from ∙ at in
        let both : needs_asked k (drop k end_objs) (drop k s3.targets) ≡ needs_asked k (drop k a.at.objs) (drop k s1.targets) ++ asked_to (length s1.targets) needs ts =
        ap (λ os. needs_asked k (drop k os) (drop k s3.targets)) objs
        ∙ ap (λ os. needs_asked k os (drop k s3.targets)) (drop-append-le k a.at.objs brought (omega (arith, here, so_far.further)))
        ∙ ap (λ tss. needs_asked k (drop k a.at.objs ++ brought) (drop k tss)) all_targets
        ∙ ap (λ tss. needs_asked k (drop k a.at.objs ++ brought) tss) (drop-append-le k s1.targets (ts ∷ []) so_far.further)
        ∙ needs_front k (drop k a.at.objs) brought (drop k s1.targets ++ ts ∷ []) (let l = length_push (drop k s1.targets) ts in omega (arith, l, here, tail_long, objs_long, so_far.further))
        ∙ needs_push k (drop k a.at.objs) (drop k s1.targets) ts o place
        ∙ ap (λ ns. needs_asked k (drop k a.at.objs) (drop k s1.targets) ++ asked_to (k + length (drop k s1.targets)) ns ts) (sym needs_are)
        ∙ ap (λ i. needs_asked k (drop k a.at.objs) (drop k s1.targets) ++ asked_to i needs ts) from in
        log ∙ ap (λ l. l ++ asked_to (length s1.targets) needs ts) a.log
        ∙ append_assoc loaded.log (needs_asked k (drop k a.at.objs) (drop k s1.targets)) (asked_to (length s1.targets) needs ts)
        ∙ ap (λ l. loaded.log ++ l) (sym both)

    more_to : (loaded : Loaded) → Stands b0.faces s0 loaded → AreWalkedTo setting b0 b2 s0 s3 loaded
    more_to loaded stands =
        let a : AreWalkedTo setting b0 b1 s0 s1 loaded = so_far.answer loaded stands in
        let object = object_at b1.faces s1 (length s1.targets) needs a.at are a.stands in
        let one : AreAskedTo setting b1 b2 s2 a.at (length s1.targets) needs ts = answer a.at a.stands in
        record {
          at = one.end;
          stands = stands_on b2.faces s2 s3 ts one.end adds one.stands;
          brought = a.brought ++ one.brought;
          objs = one.objs ∙ ap (λ os. os ++ one.brought) a.objs ∙ append_assoc loaded.objs a.brought one.brought;
          log = log_on loaded stands a object.0 one.end.objs one.brought one.end.log object.1 object.2 one.objs one.log;
          left = λ more rest e world told.
              let next_rest : length s0.targets + more ≡ length s1.targets + suc rest = omega (arith, e, one_more) in
              a.left more (suc rest) next_rest world told
              ∙ walk_one (goes_to face_or_flaw setting world (start_path loaded)) rest (length s1.targets) a.at object.0 needs (Ok one.end) object.1 object.2
              (ap (λ p. ask_all (goes_to face_or_flaw setting world p) a.at (requests_by (length s1.targets) needs)) (sym (start_is loaded stands)) ∙ one.recursion world (so_far.grew.world ∙ told))
              ∙ ap (λ i. walk (goes_to face_or_flaw setting world (start_path loaded)) rest i one.end) (sym one_more);
        }

    pub walks_more : WalksTo setting b0 b2 s0 s3
    walks_more = record {
      safe = safe_on;
      objs = ap (take (length s0.objs)) adds.objs ∙ front_on (length s0.objs) (length s1.objs) s0.objs s1.objs s2.objs so_far.longer asking.objs so_far.objs;
      longer = omega (arith, so_far.longer, asking.longer, ap length adds.objs);
      targets = ap (take (length s0.targets)) all_targets ∙ take-append-le (length s0.targets) s1.targets (ts ∷ []) so_far.further ∙ so_far.targets;
      further = omega (arith, so_far.further, one_more);
      phase = adds.phase ∙ asking.phase ∙ so_far.phase;
      new_phase = λ j x le at. elim (get_cases (length s1.objs) s1.objs s2.objs j x asking.objs (ap (λ os. slice_get os j) (sym adds.objs) ∙ at)) [
        | inl w ↦ asking.new_phase j x w (ap (λ os. slice_get os j) (sym adds.objs) ∙ at) ∙ so_far.phase
        | inr w ↦ so_far.new_phase j x le w
      ];
      answer = more_to;
      grew = grew_on b0 b1 b2 so_far.grew grew;
    }

  -- a need of the next object has no target
  pub walks_stop : (stop : LoadStop)
      → ((loaded : Loaded) → Stands b1.faces s1 loaded → AreAsked setting b1 b2 s2 loaded (length s1.targets) needs (Err stop))
      → (loaded : Loaded) → Stands b0.faces s0 loaded → IsWalked setting b0 b2 s0 s2 loaded (Err stop)
  walks_stop stop answer loaded stands =
      let a : AreWalkedTo setting b0 b1 s0 s1 loaded = so_far.answer loaded stands in
      let object = object_at b1.faces s1 (length s1.targets) needs a.at are a.stands in
      let one : AreAsked setting b1 b2 s2 a.at (length s1.targets) needs (Err stop) = answer a.at a.stands in
      let here = within s1.objs (length s1.targets) are.obj are.stands in (
        λ more enough world told.
            let rest : ℕ = length s0.targets + more - suc (length s1.targets) in
            let e : length s0.targets + more ≡ length s1.targets + suc rest = omega (arith, enough, here, so_far.safe.few) in
            refused_by
            (λ refusal. ask_all (goes_to face_or_flaw setting world (start_path a.at)) a.at (requests_by (length s1.targets) needs) ≡ Err refusal)
            (λ refusal. walk (goes_to face_or_flaw setting world (start_path loaded)) more (length s0.targets) loaded ≡ Err refusal)
            (refusal_of stop)
            (λ refusal is.
            a.left more (suc rest) e world told
            ∙ walk_one (goes_to face_or_flaw setting world (start_path loaded)) rest (length s1.targets) a.at object.0 needs (Err refusal) object.1 object.2
            (ap (λ p. ask_all (goes_to face_or_flaw setting world p) a.at (requests_by (length s1.targets) needs)) (sym (start_is loaded stands)) ∙ is))
            (one.0 world (so_far.grew.world ∙ told)),
        λ read. rose_on b0.faults b1.faults b2.faults so_far.grew.faults (one.1 read),
      )

-- ---- the end of a walk

module _ (setting : Setting) (b0 b1 : OpenerView) (s0 s1 : Loading) (so_far : WalksTo setting b0 b1 s0 s1) (over : length s1.objs ≤ length s1.targets) where
  pub walks_all : (loaded : Loaded) → Stands b0.faces s0 loaded → IsWalkedTo setting b0 b1 s0 s1 loaded
  walks_all loaded stands =
      let a : AreWalkedTo setting b0 b1 s0 s1 loaded = so_far.answer loaded stands in
      record {
        end = a.at;
        stands = a.stands;
        log = a.log;
        recursion = λ more enough world told.
            let rest : ℕ = length s0.targets + more - length s1.targets in
            let e : length s0.targets + more ≡ length s1.targets + rest = omega (arith, enough, so_far.safe.walked, so_far.safe.few) in
            a.left more rest e world told
            ∙ walk_over (goes_to face_or_flaw setting world (start_path loaded)) rest (length s1.targets) a.at (omega (arith, over, a.stands.objects.count));
      }

  pub is_walking : IsWalking s0 s1
  is_walking = record {
    objs = so_far.objs;
    longer = so_far.longer;
    targets = so_far.targets;
    all = omega (arith, over, so_far.safe.walked);
    phase = so_far.phase;
    new_phase = so_far.new_phase;
  }

-- want of memory says nothing of the list
pub no_memory : (setting : Setting) (b0 b2 : OpenerView) (s0 s2 : Loading) (loaded : Loaded) → IsWalked setting b0 b2 s0 s2 loaded (Err NoMemory)
no_memory setting b0 b2 s0 s2 loaded = (λ more enough world told. tt, λ read. cc)

-- the same needs
pub are_needs : (faces : List Face) (s : Loading) (k : ℕ) (needs names : List (List ℕ)) → names ≡ needs → AreNeedsOf faces s k needs → AreNeedsOf faces s k names
are_needs faces s k needs names same are = record { obj = are.obj; stands = are.stands; face = are.face; face_is = are.face_is; needs_are = same ∙ are.needs_are }
