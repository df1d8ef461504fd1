-- A phase that opens a name, and the openings so far with one more.
use Rattle.std.proofs.Common.{◌≡◌, ◌∙◌, sym, ap, ℕ, zero, suc, ◌+◌, ◌≤◌, ◌<◌, List, [], ◌∷◌, ◌++◌, Option, Some, None, Result, Ok, Err, length, take, drop, map, slice_get, get_or, arith, subst, ◌⊎◌, inl, inr}
use Rattle.std.specs.List.{All}
use Rattle.std.proofs.lemmas.Bool.{cases_lt}
use Rattle.std.proofs.lemmas.List.{length-append, take-append-drop, take-append-le}
use Rattle.std.proofs.lemmas.List.Elements.{All-append}
use Rattle.std.proofs.lemmas.Option.{get_or_from_slice_get, slice_get_within}
use Rattle.answers.specs.Faults.{Rose}
use Rattle.answers.specs.Told.{WhereTold}
use Rattle.load_model.specs.Faces.{face_or_flaw}
use Rattle.load_model.specs.LoadList.{Loaded, Object, Request, ends_from, phase, phases_of, run, run_from, start_of, walk, with_found}
use Rattle.load_model.specs.Loads.{goes_to}
use Rattle.load_model.specs.Opening.{OnlyGrew, OpenerView}
use Rattle.load_model.specs.Runs.{phase_of}
use Rattle.load_model.specs.World.{World}
use Rattle.load_model.specs.declared.faces.Face.{Face}
use Rattle.load_model.specs.declared.limits.TheConstants.{MOST_OBJECTS}
use Rattle.load_model.specs.declared.refusals.LoadRefusal.{LoadRefusal}
use Rattle.load_model.specs.declared.runs.Obj.{Obj}
use Rattle.load_model.specs.declared.setting.Setting.{Setting}
use Rattle.load_model.proofs.Places.{slice_get-take, slice_get_front}
use Rattle.load_order.specs.Ending.{AreNoted, IsLoadEnd, StaysInFront, IsPhaseEnd, IsOpening, IsPhaseMore, IsPhaseReady, WentFor}
use Rattle.load_requests.specs.Loading.{IsRefusedBy, refusal_of}
use Rattle.load_requests.specs.Standing.{IsAskedFor, IsAsking, IsSafe, IsWalked, IsWalkedTo, IsWalking, Stands, start_path}
use Rattle.load_requests.specs.declared.loading.Loading.{Loading}
use Rattle.load_requests.specs.declared.stops.LoadStop.{LoadStop}
use Rattle.load_order.proofs.OrderingLemmas.{at_end, kept_found, kept_log, kept_on, kept_start, noted_kept, noted_walk, phase_err, phase_new, phase_ok, phase_old, phases_more, phases_rest, run_step, run_stop, ends_step, same_object, went_found}
use Rattle.load_order.proofs.ReachingLemmas.{pushed}

pub refused_by : (P Q : LoadRefusal → Type 0) (r : Option LoadRefusal) → ((x : LoadRefusal) → P x → Q x) → IsRefusedBy P r → IsRefusedBy Q r
refused_by P Q None f h = tt
refused_by P Q (Some x) f h = f x h

pub rose_on : (a b c : ℕ) → a ≤ b → Rose b c → Rose a c
rose_on a b c le h = omega arith

pub rose_till : (a b c : ℕ) → Rose a b → b ≤ c → Rose a c
rose_till a b c h le = omega arith

pub take_on : {X : Type 0} (xs ys zs : List X) → take (length xs) ys ≡ xs → length xs ≤ length ys → take (length ys) zs ≡ ys → take (length xs) zs ≡ xs
take_on xs ys zs front le next =
    ap (take (length xs)) (sym (take-append-drop (length ys) zs) ∙ ap (λ ws. ws ++ drop (length ys) zs) next) ∙ take-append-le (length xs) ys (drop (length ys) zs) le ∙ front

pub grew_on : (a b c : OpenerView) → OnlyGrew a b → OnlyGrew b c → OnlyGrew a c
grew_on a b c p q =
    let x = p.longer in
    let y = q.longer in
    let f = p.faults in
    let h = q.faults in
    record {
      loan = q.loan ∙ p.loan;
      world = q.world ∙ p.world;
      machine = q.machine ∙ p.machine;
      faces = take_on a.faces b.faces c.faces p.faces p.longer q.faces;
      longer = omega arith;
      faults = omega arith;
    }

-- the same load in a later phase
abbrev pub raised : Loading → ℕ → Loading
raised s p = record { objs = s.objs; known = s.known; ids = s.ids; targets = s.targets; phase = p }

module _ (faces : List Face) (s : Loading) (p : ℕ) where
  pub raised_safe : s.phase ≤ p → IsSafe faces s → IsSafe faces (raised s p)
  raised_safe le h =
      record {
        program = h.program;
        few = h.few;
        known = h.known;
        ids = h.ids;
        faces_within = h.faces_within;
        own = h.own;
        smaller = h.smaller;
        phases = λ k d b. let old = h.phases k d b in omega arith;
        walked = h.walked;
        targets = h.targets;
        counts = h.counts;
      }

  pub raised_stands : (loaded : Loaded) → Stands faces s loaded → Stands faces (raised s p) loaded
  raised_stands loaded h = record { objects = h.objects; names = h.names; loaders = h.loaders; within = h.within; brought = h.brought }

pub one_phase_more : (old s1 s2 : Loading) (p : ℕ) → p ≡ old.phase + 1 → IsAsking (raised old p) s1 → IsWalking s1 s2 → IsPhaseMore old s2
one_phase_more old s1 s2 p up a w =
    let up2 : p ≡ suc old.phase = up ∙ (let e : old.phase + 1 ≡ suc old.phase = omega arith in e) in
    let before = a.longer in
    let after = w.longer in
    record {
      objs = take_on old.objs s1.objs s2.objs a.objs a.longer w.objs;
      longer = omega arith;
      all = w.all;
      phase = w.phase ∙ a.phase ∙ up2;
      new_phase = λ j x past h.
          elim (cases_lt j (length s1.objs)) [
            | inl less ↦ a.new_phase j x past (ap (λ xs. slice_get xs j) (sym w.objs) ∙ slice_get_front (length s1.objs) s2.objs j x less h) ∙ sym a.phase ∙ sym w.phase
            | inr more ↦ w.new_phase j x more h ∙ sym w.phase
          ];
    }

module _ (setting : Setting) (v0 v1 : OpenerView) (old s1 : Loading) (p : ℕ) (all : length old.targets ≡ length old.objs) (loaded : Loaded) (stands : Stands v0.faces old loaded) (some : 0 < length old.objs) (name : List ℕ) where
  abbrev request : Request
  request = record { by = 0; name = name }

  module _ (v2 : OpenerView) (s2 : Loading) (t : ℕ) (asking : IsAsking (raised old p) s1) (grew : OnlyGrew v0 v1) (asked : IsAskedFor setting v0 v1 s1 loaded request (Ok t)) where
    abbrev mid : Loaded
    mid = with_found loaded request asked.0

    mid_size : length mid.objs ≡ length s1.objs
    mid_size = asked.2.objects.count

    loaded_size : length loaded.objs ≡ length old.objs
    loaded_size = stands.objects.count

    start_mid : start_path mid ≡ start_path loaded
    start_mid = let a = loaded_size in kept_start loaded mid (omega arith) (kept_found loaded request asked.0)

    from_is : length s1.targets ≡ length loaded.objs
    from_is = ap length asking.targets ∙ all ∙ sym loaded_size

    -- the walk is that of the phase
    as_walked : (world : World) → walk (goes_to face_or_flaw setting world (start_path loaded)) MOST_OBJECTS (length loaded.objs) mid ≡ walk (goes_to face_or_flaw setting world (start_path mid)) MOST_OBJECTS (length s1.targets) mid
    as_walked world =
        ap (λ q. walk (goes_to face_or_flaw setting world q) MOST_OBJECTS (length loaded.objs) mid) (sym start_mid)
        ∙ ap (λ i. walk (goes_to face_or_flaw setting world (start_path mid)) MOST_OBJECTS i mid) (sym from_is)

    pub opened : IsWalking s1 s2 → OnlyGrew v1 v2 → IsWalkedTo setting v1 v2 s1 s2 mid → IsPhaseEnd setting v0 v2 old s2 loaded name t
    opened walking grew2 w =
        let a = loaded_size in
        let b = mid_size in
        let c = from_is in
        let d = asking.longer in
        let kept_mid : StaysInFront mid w.end = kept_log mid w.end _ (same_object v1.faces v2.faces s1.objs s2.objs mid.objs w.end.objs grew2.faces walking.objs walking.longer asked.2.objects w.stands.objects) w.log in
        let kept_first : StaysInFront loaded mid = kept_found loaded request asked.0 in
        let went = went_found loaded 0 name t asked.0 asked.1 in
        record {
          end = w.end;
          stands = w.stands;
          kept = kept_on loaded mid w.end kept_first kept_mid;
          noted = λ n. noted_walk mid w.end s1.targets s2.targets (omega arith) kept_mid walking.targets w.log
              (noted_kept loaded mid s1.targets (omega arith) kept_first (subst (λ ts. AreNoted loaded ts) (sym asking.targets) n));
          root = (went.0, kept_mid.log went.0 _ went.1);
          recursion = λ world e. phase_ok (goes_to face_or_flaw setting world (start_path loaded)) MOST_OBJECTS loaded name asked.0 (Ok w.end) (asked.3 world e) (as_walked world ∙ w.recursion MOST_OBJECTS (omega arith) world (grew.world ∙ e));
        }

    pub walk_stops : (stop : LoadStop) → IsWalked setting v1 v2 s1 s2 mid (Err stop) → IsOpening setting v0 v2 old s2 loaded name (Err stop)
    walk_stops stop w =
        let f = grew.faults in (
          λ world e. refused_by (λ r. walk (goes_to face_or_flaw setting world (start_path mid)) MOST_OBJECTS (length s1.targets) mid ≡ Err r) (λ r. phase (goes_to face_or_flaw setting world (start_path loaded)) MOST_OBJECTS loaded (name ∷ []) ≡ Err r) (refusal_of stop)
              (λ r h. phase_ok (goes_to face_or_flaw setting world (start_path loaded)) MOST_OBJECTS loaded name asked.0 (Err r) (asked.3 world e) (as_walked world ∙ h)) (w.0 MOST_OBJECTS (omega arith) world (grew.world ∙ e)),
          λ r. rose_on v0.faults v1.faults v2.faults f (w.1 r),
        )

  pub ask_stops : (new : Loading) (stop : LoadStop) → IsAskedFor setting v0 v1 s1 loaded request (Err stop) → IsOpening setting v0 v1 old new loaded name (Err stop)
  ask_stops new stop h = (
    λ world e. refused_by (λ r. goes_to face_or_flaw setting world (start_path loaded) loaded.objs loaded.log request ≡ Err r) (λ r. phase (goes_to face_or_flaw setting world (start_path loaded)) MOST_OBJECTS loaded (name ∷ []) ≡ Err r) (refusal_of stop)
        (λ r g. phase_err (goes_to face_or_flaw setting world (start_path loaded)) MOST_OBJECTS loaded name r g) (h.0 world e),
    h.1,
  )

-- one opening more
module _ (setting : Setting) (told : Option World) (v1 v2 : OpenerView) (path : List ℕ) (program : Object) (opens : List (List ℕ)) (i : ℕ) (s s2 : Loading) (numbers : List ℕ) (loaded : Loaded) (ends : List Loaded) (tells : v1.told ≡ told) (less : i < length opens) (count : length numbers ≡ i) (some : 0 < length s.objs) (e : IsLoadEnd setting told v1.faces path program (take i opens) s numbers loaded ends) where
  size_is : length loaded.objs ≡ length s.objs
  size_is = e.stands.objects.count

  phase_to : (world : World) (r : Result Loaded LoadRefusal) → phase (goes_to face_or_flaw setting world (start_path loaded)) MOST_OBJECTS loaded (get_or opens i [] ∷ []) ≡ r → phase (goes_to face_or_flaw setting world path) MOST_OBJECTS loaded (get_or opens i [] ∷ []) ≡ r
  phase_to world r h = ap (λ q. phase (goes_to face_or_flaw setting world q) MOST_OBJECTS loaded (get_or opens i [] ∷ [])) (sym e.start) ∙ h

  module _ (target : ℕ) (more : IsPhaseMore s s2) (o : IsPhaseEnd setting v1 v2 s s2 loaded (get_or opens i []) target) where
    end_size : length o.end.objs ≡ length s2.objs
    end_size = o.stands.objects.count

    phase_is : (j : ℕ) (x : Obj) → slice_get s2.objs j ≡ Some x → x.phase ≡ phase_of (ends ++ o.end ∷ []) j
    phase_is j x h =
        let a = size_is in
        let b = end_size in
        let within : j < length s2.objs = slice_get_within s2.objs j x h in
        elim (cases_lt j (length s.objs)) [
          | inl early ↦
              let old : slice_get s.objs j ≡ Some x = ap (λ xs. slice_get xs j) (sym more.objs) ∙ slice_get_front (length s.objs) s2.objs j x early h in
              e.phases j x old ∙ sym (phase_old ends o.end loaded s.phase j e.last (omega arith))
          | inr late ↦ more.new_phase j x late h ∙ more.phase ∙ sym e.count ∙ sym (phase_new ends o.end j (length loaded.objs) e.most (omega arith) (omega arith))
        ]

    most_is : (k : ℕ) (end : Loaded) → (slice_get ends k ≡ Some end) ⊎ ((k ≡ length ends) × (o.end ≡ end)) → length end.objs ≤ length o.end.objs
    most_is k end (inl h) = let a = size_is in let b = end_size in let c = more.longer in let d = e.most k end h in omega arith
    most_is k end (inr h) = let same : length o.end.objs ≡ length end.objs = ap (λ (x : Loaded). length x.objs) h.1 in omega arith

    root_is : (k : ℕ) (n : List ℕ) (t : ℕ) → slice_get (take (i + 1) opens) k ≡ Some n → (slice_get numbers k ≡ Some t) ⊎ ((k ≡ length numbers) × (target ≡ t)) → WentFor o.end.log 0 n t
    root_is k n t h (inl g) =
        let within : k < length numbers = slice_get_within numbers k t g in
        let there = slice_get-take (i + 1) opens k n h in
        let r = e.roots k n t (slice_get_front i opens k n (omega arith) there.1) g in
        (r.0, o.kept.log r.0 _ r.1)
    root_is k n t h (inr g) =
        let there = slice_get-take (i + 1) opens k n h in
        let at : k ≡ i = g.0 ∙ count in
        let same : get_or opens i [] ≡ n = ap (λ j. get_or opens j []) (sym at) ∙ get_or_from_slice_get opens k n [] there.1 in
        subst (λ x. WentFor o.end.log 0 n x) g.1 (subst (λ x. WentFor o.end.log 0 x target) same o.root)

    pub ended_more : (new : List ℕ) → new ≡ numbers ++ target ∷ [] → IsLoadEnd setting told v2.faces path program (take (i + 1) opens) s2 new o.end (ends ++ o.end ∷ [])
    ended_more new is =
        let a = size_is in
        let size : length (ends ++ o.end ∷ []) ≡ length ends + 1 = length-append ends (o.end ∷ []) in
        let c = e.count in
        let d = more.phase in
        let at : s2.phase ≡ length ends = omega arith in
        record {
          stands = o.stands;
          start = kept_start loaded o.end (omega arith) o.kept ∙ e.start;
          noted = o.noted e.noted;
          count = omega arith;
          last = ap (slice_get (ends ++ o.end ∷ [])) at ∙ at_end ends o.end;
          most = λ k end h. most_is k end (pushed ends o.end k end h);
          phases = phase_is;
          roots = λ k n t h g. root_is k n t h (pushed numbers target k t (ap (λ xs. slice_get xs k) (sym is) ∙ g));
          recursion = λ world h.
              let r = e.recursion world h in
              let p = phase_to world (Ok o.end) (o.recursion world (tells ∙ h)) in (
                ap (run_from (goes_to face_or_flaw setting world path) MOST_OBJECTS (start_of program)) (phases_more program opens i less)
                    ∙ run_step (goes_to face_or_flaw setting world path) MOST_OBJECTS (phases_of program (take i opens)) (start_of program) loaded o.end (get_or opens i [] ∷ []) r.0 p,
                ap (ends_from (goes_to face_or_flaw setting world path) MOST_OBJECTS (start_of program)) (phases_more program opens i less)
                    ∙ ends_step (goes_to face_or_flaw setting world path) MOST_OBJECTS (phases_of program (take i opens)) (start_of program) loaded o.end (get_or opens i [] ∷ []) ends r.0 r.1 p,
              );
        }

  pub ended_stop : (stop : LoadStop) → IsOpening setting v1 v2 s s2 loaded (get_or opens i []) (Err stop) → WhereTold told (λ world. IsRefusedBy (λ r. run (goes_to face_or_flaw setting world path) MOST_OBJECTS program opens ≡ Err r) (refusal_of stop))
  ended_stop stop o world h =
      let r = e.recursion world h in
      refused_by (λ x. phase (goes_to face_or_flaw setting world (start_path loaded)) MOST_OBJECTS loaded (get_or opens i [] ∷ []) ≡ Err x) (λ x. run (goes_to face_or_flaw setting world path) MOST_OBJECTS program opens ≡ Err x) (refusal_of stop)
      (λ x g. ap (run_from (goes_to face_or_flaw setting world path) MOST_OBJECTS (start_of program)) (phases_rest program opens i less)
      ∙ run_stop (goes_to face_or_flaw setting world path) MOST_OBJECTS (phases_of program (take i opens)) (map (λ n. n ∷ []) (drop (suc i) opens)) (start_of program) loaded (get_or opens i [] ∷ []) x r.0 (phase_to world (Err x) g))
      (o.0 world (tells ∙ h))

one_below : (bound t k d : ℕ) → t < bound → k < 1 → get_or (t ∷ []) k d < bound
one_below bound t zero d h b = h
one_below bound t (suc k) d h b = absurd (omega arith)

pub ready_more : (s0 s s2 : Loading) (i : ℕ) (numbers new : List ℕ) (target : ℕ) → IsPhaseReady s0 s i numbers → IsPhaseMore s s2 → target < length s2.objs → new ≡ numbers ++ target ∷ [] → IsPhaseReady s0 s2 (i + 1) new
ready_more s0 s s2 i numbers new target r more below is =
    let a = r.longer in
    let b = more.longer in
    let c = r.phase in
    let d = more.phase in
    let e = r.count in
    let size : length new ≡ length numbers + 1 = ap length is ∙ length-append numbers (target ∷ []) in
    record {
      all = more.all;
      longer = omega arith;
      phase = omega arith;
      count = omega arith;
      below = subst (λ xs. All (λ n. n < length s2.objs) xs) (sym is) (All-append (λ n. n < length s2.objs) numbers (target ∷ []) (λ k x h. let old = r.below k x h in omega arith) (λ k x h. one_below (length s2.objs) target k x below h));
    }
