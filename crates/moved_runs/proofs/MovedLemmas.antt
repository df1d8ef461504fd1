-- The run of a moved program.
use Rattle.std.proofs.Common.{◌≡◌, ◌∙◌, sym, ap, refl, ℕ, zero, suc, ◌+◌, ◌-◌, ◌≤◌, ◌<◌, ◌↔◌, List, [], ◌∷◌, ◌++◌, true, false, Some, None, Result, Ok, length, take, drop, map, max, slice_get, arith, subst, inl, inr, nat_lt}
use Rattle.std.specs.Str.{bytes_eq}
use Rattle.std.proofs.lemmas.Bool.{cases_Bool, cases_lt}
use Rattle.std.proofs.lemmas.List.{append-nil, map-append, take-map, length-take, length-take-le, length-drop, take_all}
use Rattle.std.proofs.lemmas.Option.{slice_get_within}
use Rattle.load_model.specs.LoadList.{Object, Request, Asked, Found, Known, Brought, Loaded, Search, count_from, count_after, needs_from, requests_of, WentTo, IsAnswered, IsPhase, IsRun, IsEndedFrom, IsEndedRun, is_named, is_known, found_for}
use Rattle.load_model.proofs.AskedNeeds.{get_map, map_get}
use Rattle.load_model.proofs.Ended.{run_of_ends}
use Rattle.load_model.proofs.History.{IsHistory, IsGrown, take_front, at_second, in_front, target_count, count_at, less_answered, run_history, run_grown, phase_size, brought_by, start_history}
use Rattle.load_model.proofs.Machine.{slice_get-drop}
use Rattle.load_model.proofs.OneName.{one_name, first_in}
use Rattle.load_model.proofs.OneRun.{there}
use Rattle.load_model.proofs.Places.{slice_get-take, slice_get_front, first_none, first_some}
use Rattle.load_model.proofs.TwoWorlds.{target_le, known_cases, known_by, brought_new, by_known, by_new, named_some, front_one}
use Rattle.moved_runs.specs.Moved.{renamed, all_renamed, new_name, new_names, loaded_there, AreMoved}

pub same_rest : {X Y Z W : Type 0} (f : X → Y) (g : Y → W) (k : X → Z) (l : Z → W) (xs : List X) → ((m : ℕ) (x : X) → slice_get xs m ≡ Some x → g (f x) ≡ l (k x)) → map g (map f xs) ≡ map l (map k xs)
same_rest f g k l [] h = refl
same_rest f g k l (x ∷ xs) h =
    ap (λ w. w ∷ map g (map f xs)) (h 0 x refl) ∙ ap (λ ws. l (k x) ∷ ws) (same_rest f g k l xs (λ m y e. h (suc m) y e))

module _ (name_of : ℕ → List ℕ) where
  pub count_renamed : (k : ℕ) (log : List Asked) → count_from k (all_renamed name_of log) ≡ count_from k log
  unfolding count_from
  count_renamed k [] = refl
  count_renamed k (a ∷ log) = count_renamed (max k (suc a.target)) log

  pub renamed_entry : (log : List Asked) (i : ℕ) (b : Asked) → slice_get (all_renamed name_of log) i ≡ Some b → (a : Asked) × (slice_get log i ≡ Some a) × (b ≡ renamed name_of a)
  renamed_entry log i b h = get_map (λ a. renamed name_of a) log i b h

  -- where each need went to the object of its new name
  module _ {X : Type 0} (too_many too_many_there : X) (limit : ℕ) (here search_there : Search X) (run : Loaded) (objs_there : List Object) (hist : IsHistory (found_for too_many limit here) run.objs run.log) (moved : AreMoved name_of search_there run objs_there) where
    abbrev new : List Asked → List Asked
    new xs = all_renamed name_of xs

    abbrev answer_there : List Object → List Asked → Request → Result Found X
    answer_there = found_for too_many_there limit search_there

    named_there : (j : ℕ) (n : List ℕ) (y : Object) → slice_get objs_there j ≡ Some y → is_named y.face.soname n ≡ true → (0 < j) × (name_of j ≡ n)
    named_there zero n y gy t =
        let w = named_some y.face.soname n t in
        let no : Some w.0 ≡ None = sym w.1 ∙ moved.program y gy in
        cc
    named_there (suc j) n y gy t =
        let w = named_some y.face.soname n t in
        let is = moved.sonames (suc j) y w.0 (omega arith) gy w.1 in
        (omega arith, sym is ∙ w.2)

    -- a name that is known there is the object's new name
    pub known_there : (m j : ℕ) (n : List ℕ) (y : Object) → slice_get objs_there j ≡ Some y → is_known (new (take m run.log)) n j y ≡ true → (0 < j) × (name_of j ≡ n)
    known_there m j n y gy h =
        elim (known_cases (new (take m run.log)) n j y h) [
          | inl w ↦
              let v = renamed_entry (take m run.log) w.0 w.1 w.2 in
              let old = slice_get-take m run.log w.0 v.0 v.1 in
              let some : 0 < v.0.target = moved.never w.0 v.0 old.1 in
              let at : v.0.target ≡ j = ap (λ (b : Asked). b.target) (sym v.2) ∙ w.4 in
              let name : name_of v.0.target ≡ n = ap (λ (b : Asked). b.request.name) (sym v.2) ∙ w.3 in
              (omega arith, ap name_of (sym at) ∙ name)
          | inr t ↦ named_there j n y gy t
        ]

    -- and an object that is loaded is known by its new name
    pub loaded_known : (m j : ℕ) (y : Object) → m ≤ length run.log → 0 < j → j < count_after (take m run.log) → is_known (new (take m run.log)) (name_of j) j y ≡ true
    loaded_known m j y le some below =
        let w = brought_by (found_for too_many limit here) run.objs run.log hist m j le some below in
        known_by (new (take m run.log)) (name_of j) j w.0 (renamed name_of w.1) y
        (map_get (λ a. renamed name_of a) (take m run.log) w.0 w.1 (slice_get_front m run.log w.0 w.1 w.2 w.3)) (ap name_of w.4) w.4

    within : (m : ℕ) (a : Asked) → slice_get run.log m ≡ Some a → a.target < length objs_there
    within m a g =
        let size = moved.count in
        let all = hist.whole in
        let below = target_count run.log m a g in
        omega arith

    -- the new name of a target is known for it alone
    only : (m : ℕ) (a : Asked) → slice_get run.log m ≡ Some a → (j : ℕ) (y : Object) → j < count_after (take m run.log) → slice_get objs_there j ≡ Some y → is_known (new (take m run.log)) (name_of a.target) j y ≡ true → j ≡ a.target
    only m a g j y below gy known =
        let w = known_there m j (name_of a.target) y gy known in
        let some : 0 < j = w.0 in
        let size = moved.count in
        let most = count_at run.log m in
        let all = hist.whole in
        let in_there = within m a g in
        moved.distinct j a.target some (omega arith) (moved.never m a g) (omega arith) w.1

    room : (m : ℕ) (a : Asked) (f : Found) → found_for too_many limit here (take (count_after (take m run.log)) run.objs) (take m run.log) a.request ≡ Ok f → WentTo run.objs (count_after (take m run.log)) a.target f → count_after (take m run.log) ≤ a.target → nat_lt (count_after (take m run.log)) limit ≡ true
    room m a (Known k) is t past = let e : a.target ≡ k = t.0 in let b : k < count_after (take m run.log) = t.1 in absurd (omega arith)
    room m a (Brought o) is t past =
        let c = count_after (take m run.log) in
        let most = count_at run.log m in
        let all = hist.whole in
        ap (λ n. nat_lt n limit) (sym (length-take-le c run.objs (omega arith))) ∙ (brought_new too_many limit here (take c run.objs) (take m run.log) a.request o is).1

    known_target : (m : ℕ) (a : Asked) → slice_get run.log m ≡ Some a → a.target < count_after (take m run.log) → answer_there (take (count_after (take m run.log)) objs_there) (new (take m run.log)) (renamed name_of a).request ≡ Ok (Known a.target)
    known_target m a g b =
        let c = count_after (take m run.log) in
        let o = there objs_there a.target (within m a g) in
        let le : m < length run.log = slice_get_within run.log m a g in
        by_known too_many_there limit search_there (take c objs_there) (new (take m run.log)) (renamed name_of a).request a.target
        (first_some (is_known (new (take m run.log)) (name_of a.target)) a.target o.0 (take c objs_there) (slice_get_front c objs_there a.target o.0 b o.1) (loaded_known m a.target o.0 (omega arith) (moved.never m a g) b)
        (λ j y gy h. let t = slice_get-take c objs_there j y gy in only m a g j y t.0 t.1 h))

    new_target : (m : ℕ) (a : Asked) (o : Object) → slice_get run.log m ≡ Some a → count_after (take m run.log) ≡ a.target → slice_get objs_there a.target ≡ Some o → answer_there (take (count_after (take m run.log)) objs_there) (new (take m run.log)) (renamed name_of a).request ≡ Ok (Brought o)
    new_target m a o g e go =
        let c = count_after (take m run.log) in
        let r = hist.answered m a g in
        let size = within m a g in
        let fail : (j : ℕ) (y : Object) → slice_get (take c objs_there) j ≡ Some y → is_known (new (take m run.log)) (name_of a.target) j y ≡ false = λ j y gy.
        let t = slice_get-take c objs_there j y gy in
        elim (cases_Bool (is_known (new (take m run.log)) (name_of a.target) j y)) [
          | inl h ↦ let at = only m a g j y t.0 t.1 h in let below : j < c = t.0 in absurd (omega arith)
          | inr h ↦ h
        ] in
        let fail_id : (j : ℕ) (y : Object) → slice_get (take c objs_there) j ≡ Some y → bytes_eq y.id o.id ≡ false = λ j y gy.
        let t = slice_get-take c objs_there j y gy in
        elim (cases_Bool (bytes_eq y.id o.id)) [
          | inl h ↦ let at = moved.ids j a.target y o t.1 go h in let below : j < c = t.0 in absurd (omega arith)
          | inr h ↦ h
        ] in
        let room_there : nat_lt (length (take c objs_there)) limit ≡ true = ap (λ n. nat_lt n limit) (length-take-le c objs_there (omega arith)) ∙ room m a r.found r.found_is r.target (omega arith) in
        by_new too_many_there limit search_there (take c objs_there) (new (take m run.log)) (renamed name_of a).request o
        (first_none (is_known (new (take m run.log)) (name_of a.target)) (take c objs_there) fail)
        (ap (λ n. search_there (take n objs_there) (new (take m run.log)) (renamed name_of a).request) e ∙ moved.found m a o g e go)
        (first_none (λ j x. bytes_eq x.id o.id) (take c objs_there) fail_id)
        room_there

    answered_there : (m : ℕ) (a : Asked) → slice_get run.log m ≡ Some a → IsAnswered answer_there objs_there (new (take m run.log)) (renamed name_of a)
    answered_there m a g =
        let r = hist.answered m a g in
        let same : count_after (new (take m run.log)) ≡ count_after (take m run.log) = count_renamed 1 (take m run.log) in
        let near : a.target ≤ count_after (take m run.log) = target_le run.objs (count_after (take m run.log)) a.target r.found r.target in
        let asker : a.request.by < count_after (take m run.log) = r.asker in
        let o = there objs_there a.target (within m a g) in
        elim (cases_lt a.target (count_after (take m run.log))) [
          | inl b ↦ record {
            asker = omega arith;
            found = Known a.target;
            found_is = ap (λ n. answer_there (take n objs_there) (new (take m run.log)) (renamed name_of a).request) same ∙ known_target m a g b;
            target = (refl, omega arith);
          }
          | inr b ↦
              let e : count_after (take m run.log) ≡ a.target = omega arith in
              record {
                asker = omega arith;
                found = Brought o.0;
                found_is = ap (λ n. answer_there (take n objs_there) (new (take m run.log)) (renamed name_of a).request) same ∙ new_target m a o.0 g e o.1;
                target = (omega arith, ap (slice_get objs_there) (same ∙ e) ∙ o.1);
              }
        ]

    pub need_name : (m : ℕ) (a : Asked) → slice_get run.log m ≡ Some a → new_name name_of run.log a.request.name ≡ name_of a.target
    need_name m a g =
        ap name_of (first_in run.log a.request.name a.target (λ i b h e. one_name too_many limit here run.objs run.log hist i m b a h g e) m a g refl)

    abbrev new_request : Request → Request
    new_request r = record { by = r.by; name = new_name name_of run.log r.name }

    new_asks : (i : ℕ) (ns : List (List ℕ)) → map new_request (map (λ n. record { by = i; name = n }) ns) ≡ map (λ n. record { by = i; name = n }) (new_names name_of run.log ns)
    new_asks i ns = same_rest (λ n. record { by = i; name = n }) new_request (λ n. new_name name_of run.log n) (λ n. record { by = i; name = n }) ns (λ m x g. refl)

    new_needs : (i : ℕ) (xs ys : List Object) → length xs ≡ length ys → ((j : ℕ) (x y : Object) → slice_get xs j ≡ Some x → slice_get ys j ≡ Some y → y.face.needs ≡ new_names name_of run.log x.face.needs) → map new_request (needs_from i xs) ≡ needs_from i ys
    new_needs i [] [] e h = refl
    new_needs i [] (y ∷ ys) e h = absurd (omega arith)
    new_needs i (x ∷ xs) [] e h = absurd (omega arith)
    new_needs i (x ∷ xs) (y ∷ ys) e h =
        map-append new_request (map (λ n. record { by = i; name = n }) x.face.needs) (needs_from (suc i) xs)
        ∙ ap (λ rs. rs ++ map new_request (needs_from (suc i) xs)) (new_asks i x.face.needs ∙ ap (map (λ n. record { by = i; name = n })) (sym (h 0 x y refl refl)))
        ∙ ap (λ rs. map (λ n. record { by = i; name = n }) y.face.needs ++ rs) (new_needs (suc i) xs ys (omega arith) (λ j a b g k. h (suc j) a b g k))

    -- the same point of the run there
    abbrev pub moved_at : Loaded → Loaded
    moved_at s = loaded_there name_of objs_there s

    pub moved_size : (s : Loaded) → IsGrown s run → length s.objs ≤ length objs_there
    moved_size s grown =
        let size = moved.count in
        let most = length-take (length s.objs) run.objs in
        let front : length (take (length s.objs) run.objs) ≡ length s.objs = ap length grown.objs in
        omega arith

    module _ (before mid : Loaded) (o : List (List ℕ)) (even : count_after before.log ≡ length before.objs) (p : IsPhase (found_for too_many limit here) before o mid) (grown : IsGrown mid run) where
      in_log : (m : ℕ) (a : Asked) → slice_get p.more m ≡ Some a → (i : ℕ) × (slice_get mid.log i ≡ Some a) × (take i mid.log ≡ before.log ++ take m p.more) × (slice_get run.log i ≡ Some a) × (take i run.log ≡ before.log ++ take m p.more)
      in_log m a g =
          let w = at_second before.log p.more m a g in
          let g_mid : slice_get mid.log w.0 ≡ Some a = ap (λ xs. slice_get xs w.0) p.log ∙ w.1 in
          let t_mid : take w.0 mid.log ≡ before.log ++ take m p.more = ap (take w.0) p.log ∙ w.2 in
          let f = in_front mid.log grown.more w.0 a g_mid in
          (w.0, g_mid, t_mid, ap (λ xs. slice_get xs w.0) grown.log ∙ f.0, ap (take w.0) grown.log ∙ f.1 ∙ t_mid)

      in_objs : (j : ℕ) (x : Object) → slice_get mid.objs j ≡ Some x → slice_get run.objs j ≡ Some x
      in_objs j x g = (slice_get-take (length mid.objs) run.objs j x (ap (λ os. slice_get os j) grown.objs ∙ g)).1

      phase_asked : map (λ (a : Asked). a.request) (new p.more) ≡ requests_of (new_names name_of run.log o) (length before.objs) (take (length mid.objs) objs_there)
      phase_asked =
          let k : ℕ = length before.objs in
          let size = moved_size mid grown in
          let cut : length (take (length mid.objs) objs_there) ≡ length mid.objs = length-take-le (length mid.objs) objs_there size in
          same_rest (λ (a : Asked). renamed name_of a) (λ (a : Asked). a.request) (λ (a : Asked). a.request) new_request p.more
          (λ m a g. let w = in_log m a g in ap (λ n. record { by = a.request.by; name = n }) (sym (need_name w.0 a w.3)))
          ∙ ap (map new_request) (sym (append-nil (map (λ (a : Asked). a.request) p.more)) ∙ p.asked)
          ∙ map-append new_request (map (λ n. record { by = 0; name = n }) o) (needs_from k (drop k mid.objs))
          ∙ ap (λ rs. rs ++ map new_request (needs_from k (drop k mid.objs))) (new_asks 0 o)
          ∙ ap (λ rs. map (λ n. record { by = 0; name = n }) (new_names name_of run.log o) ++ rs)
          (new_needs k (drop k mid.objs) (drop k (take (length mid.objs) objs_there))
          (length-drop k mid.objs ∙ ap (λ n. n - k) (sym cut) ∙ sym (length-drop k (take (length mid.objs) objs_there)))
          (λ j x y g h.
          moved.needs (k + j) x y
          (in_objs (k + j) x (sym (slice_get-drop k mid.objs j) ∙ g))
          (slice_get-take (length mid.objs) objs_there (k + j) y (sym (slice_get-drop k (take (length mid.objs) objs_there) j) ∙ h)).1))

      phase_answered : (m : ℕ) (b : Asked) → slice_get (new p.more) m ≡ Some b → IsAnswered answer_there (take (length mid.objs) objs_there) (new before.log ++ take m (new p.more)) b
      phase_answered m b h =
          let v = renamed_entry p.more m b h in
          let w = in_log m v.0 v.1 in
          let before_is : new (take w.0 run.log) ≡ new before.log ++ take m (new p.more) =
          ap (λ xs. new xs) w.4 ∙ map-append (λ a. renamed name_of a) before.log (take m p.more) ∙ ap (λ xs. new before.log ++ xs) (sym (take-map (λ a. renamed name_of a) m p.more)) in
          let count : count_after (new (take w.0 run.log)) ≡ count_after (take w.0 mid.log) = count_renamed 1 (take w.0 run.log) ∙ ap count_after (w.4 ∙ sym w.2) in
          let most = count_at mid.log w.0 in
          let below = target_count mid.log w.0 v.0 w.1 in
          let whole = p.whole in
          let one = less_answered answer_there objs_there (length mid.objs) (new (take w.0 run.log)) (renamed name_of v.0) (omega arith) (omega arith) (answered_there w.0 v.0 w.3) in
          let two = subst (λ (xs : List Asked). IsAnswered answer_there (take (length mid.objs) objs_there) xs (renamed name_of v.0)) before_is one in
          subst (λ (x : Asked). IsAnswered answer_there (take (length mid.objs) objs_there) (new before.log ++ take m (new p.more)) x) (sym v.2) two

      pub phase_there : IsPhase answer_there (moved_at before) (new_names name_of run.log o) (moved_at mid)
      phase_there =
          let size = moved_size mid grown in
          let less = phase_size (found_for too_many limit here) before mid o even p in
          let cut : length (take (length before.objs) objs_there) ≡ length before.objs = length-take-le (length before.objs) objs_there (omega arith) in
          record {
            objs = ap (λ n. take n (take (length mid.objs) objs_there)) cut ∙ take_front (length before.objs) (length mid.objs) objs_there less;
            more = new p.more;
            log = ap (λ xs. new xs) p.log ∙ map-append (λ a. renamed name_of a) before.log p.more;
            asked = append-nil (map (λ (a : Asked). a.request) (new p.more)) ∙ phase_asked ∙ ap (λ n. requests_of (new_names name_of run.log o) n (take (length mid.objs) objs_there)) (sym cut);
            answered = phase_answered;
            whole = count_renamed 1 mid.log ∙ p.whole ∙ sym (length-take-le (length mid.objs) objs_there size);
          }

    ended_there : (os : List (List (List ℕ))) (before : Loaded) (ends : List Loaded) → count_after before.log ≡ length before.objs → IsEndedFrom (found_for too_many limit here) before os run ends → IsEndedFrom answer_there (moved_at before) (map (λ o. new_names name_of run.log o) os) (moved_at run) (map (λ s. moved_at s) ends)
    ended_there [] before [] even p = ap (λ (s : Loaded). moved_at s) p
    ended_there [] before (end ∷ ends) even p = absurd p
    ended_there (o ∷ os) before [] even p = absurd p
    ended_there (o ∷ os) before (end ∷ ends) even p =
        (phase_there before end o even p.0 (run_grown (found_for too_many limit here) os end run p.0.whole (run_of_ends (found_for too_many limit here) os end run ends p.1)), ended_there os end ends p.0.whole p.1)

pub one_each : (f : List ℕ → List ℕ) (ns : List (List ℕ)) → map (λ o. map (λ n. f n) o) (map (λ n. n ∷ []) ns) ≡ map (λ n. n ∷ []) (map (λ n. f n) ns)
one_each f [] = refl
one_each f (n ∷ ns) = ap (λ os. (f n ∷ []) ∷ os) (one_each f ns)

module _ {X : Type 0} (too_many too_many_there : X) (limit : ℕ) (here search_there : Search X) (name_of : ℕ → List ℕ) (program program_there : Object) (opens : List (List ℕ)) (run : Loaded) (objs_there : List Object) where
  abbrev answer : List Object → List Asked → Request → Result Found X
  answer = found_for too_many limit here

  abbrev start : Loaded
  start = record { objs = program ∷ []; log = [] }

  abbrev openings : List (List (List ℕ))
  openings = program.face.needs ∷ map (λ n. n ∷ []) opens

  pub run_hist : IsRun answer program opens run → IsHistory answer run.objs run.log
  run_hist p = run_history answer openings start run (start_history answer program) p

  pub moved_run : (ends : List Loaded) → IsEndedRun answer program opens run ends → AreMoved name_of search_there run objs_there → slice_get objs_there 0 ≡ Some program_there → IsEndedRun (found_for too_many_there limit search_there) program_there (new_names name_of run.log opens) (record { objs = objs_there; log = all_renamed name_of run.log }) (map (loaded_there name_of objs_there) ends)
  unfolding count_from
  moved_run ends p moved first =
      let plain = run_of_ends answer openings start run ends p in
      let hist = run_hist plain in
      let grown = run_grown answer openings start run refl plain in
      let at_0 : slice_get run.objs 0 ≡ Some program = (slice_get-take 1 run.objs 0 program (ap (λ xs. slice_get xs 0) grown.objs)).1 in
      let needs : program_there.face.needs ≡ new_names name_of run.log program.face.needs = moved.needs 0 program program_there at_0 first in
      let there_run = ended_there name_of too_many too_many_there limit here search_there run objs_there hist moved openings start ends refl p in
      let openings_there : map (λ o. new_names name_of run.log o) openings ≡ program_there.face.needs ∷ map (λ n. n ∷ []) (new_names name_of run.log opens) =
      ap (λ ns. new_names name_of run.log program.face.needs ∷ ns) (one_each (λ n. new_name name_of run.log n) opens) ∙ ap (λ ns. ns ∷ map (λ n. n ∷ []) (new_names name_of run.log opens)) (sym needs) in
      let front : take 1 objs_there ≡ program_there ∷ [] = front_one objs_there program_there first in
      let all : take (length run.objs) objs_there ≡ objs_there = ap (λ n. take n objs_there) (sym moved.count) ∙ take_all (length objs_there) objs_there (omega arith) in
      let ends_there : List Loaded = map (loaded_there name_of objs_there) ends in
      let one = subst (λ (xs : List Object). IsEndedFrom (found_for too_many_there limit search_there) (record { objs = xs; log = [] }) (map (λ o. new_names name_of run.log o) openings) (record { objs = take (length run.objs) objs_there; log = all_renamed name_of run.log }) ends_there) front there_run in
      let two = subst (λ (xs : List (List (List ℕ))). IsEndedFrom (found_for too_many_there limit search_there) (record { objs = program_there ∷ []; log = [] }) xs (record { objs = take (length run.objs) objs_there; log = all_renamed name_of run.log }) ends_there) openings_there one in
      subst (λ (xs : List Object). IsEndedFrom (found_for too_many_there limit search_there) (record { objs = program_there ∷ []; log = [] }) (program_there.face.needs ∷ map (λ n. n ∷ []) (new_names name_of run.log opens)) (record { objs = xs; log = all_renamed name_of run.log }) ends_there) all two

  -- after equally many requests a name is known there for an object exactly if the object is loaded, not the program, and this is its name
  pub known_exactly : IsRun answer program opens run → AreMoved name_of search_there run objs_there → (m j : ℕ) (n : List ℕ) (y : Object) → m ≤ length run.log → j < count_after (take m run.log) → slice_get objs_there j ≡ Some y → (is_known (all_renamed name_of (take m run.log)) n j y ≡ true) ↔ ((0 < j) × (name_of j ≡ n))
  known_exactly p moved m j n y le below gy =
      let hist = run_hist p in
      let known = λ (t : is_known (all_renamed name_of (take m run.log)) n j y ≡ true). known_there name_of too_many too_many_there limit here search_there run objs_there hist moved m j n y gy t in
      let loaded : (0 < j) × (name_of j ≡ n) → is_known (all_renamed name_of (take m run.log)) n j y ≡ true = λ t.
      ap (λ k. is_known (all_renamed name_of (take m run.log)) k j y) (sym t.1) ∙ loaded_known name_of too_many too_many_there limit here search_there run objs_there hist moved m j y le t.0 below in
      (known, loaded)
