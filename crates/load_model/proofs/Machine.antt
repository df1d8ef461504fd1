-- What the recursion answers is a run.
use Rattle.std.proofs.Common.{◌≡◌, ◌∙◌, sym, ap, refl, ℕ, zero, suc, ◌+◌, ◌≤◌, ◌<◌, List, [], ◌∷◌, ◌++◌, Option, Some, Result, Ok, Err, length, take, drop, map, max, slice_get, arith, subst, ◌⊎◌, inl, inr, append_assoc}
use Rattle.std.proofs.lemmas.List.{append-nil, take-append-drop, take_all, take_at, take-append-le, drop-append-le, length-append, length-drop, length-take, length-take-le, length_push, map_push}
use Rattle.std.proofs.lemmas.Option.{slice_get_cases}
use Rattle.load_model.specs.LoadList.{Object, Request, Asked, Found, Known, Brought, Loaded, count_after, needs_from, requests_of, WentTo, IsAnswered, IsPhase, IsStop, IsRunFrom, IsStopFrom, IsSound, next, with_found, ask, ask_all, ask_needs, walk, phase, run_from}
use Rattle.load_model.proofs.Counts.{count_push, count_front, slice_get_left, needs-append}
use Rattle.load_model.proofs.OneRun.{taken}

pub next_ok : {A B X : Type 0} (r : Result A X) (f : A → Result B X) (y : B) → next r f ≡ Ok y → (x : A) × (r ≡ Ok x) × (f x ≡ Ok y)
next_ok (Ok x) f y h = (x, refl, h)
next_ok (Err e) f y h = cc

pub next_err : {A B X : Type 0} (r : Result A X) (f : A → Result B X) (e : X) → next r f ≡ Err e → (r ≡ Err e) ⊎ ((x : A) × (r ≡ Ok x) × (f x ≡ Err e))
next_err (Ok x) f e h = inr (x, refl, h)
next_err (Err d) f e h = let s : d ≡ e = cc in inl (cc)

slice_get_push : {X : Type 0} (xs : List X) (x : X) (m : ℕ) (y : X) → slice_get (xs ++ x ∷ []) m ≡ Some y → ((m ≤ length xs) × (slice_get xs m ≡ Some y)) ⊎ ((m ≡ length xs) × (x ≡ y))
slice_get_push [] x zero y h = inr (refl, cc)
slice_get_push [] x (suc m) y h = cc
slice_get_push (z ∷ xs) x zero y h = inl (omega arith, h)
slice_get_push (z ∷ xs) x (suc m) y h =
    elim (slice_get_push xs x m y h) [
      | inl e ↦ inl (omega arith, e.1)
      | inr e ↦ inr (ap suc e.0, e.1)
    ]

pub slice_get-drop : {X : Type 0} (k : ℕ) (xs : List X) (e : ℕ) → slice_get (drop k xs) e ≡ slice_get xs (k + e)
slice_get-drop zero xs e = let z : 0 + e ≡ e = omega arith in rw z refl
slice_get-drop (suc k) [] e = refl
slice_get-drop (suc k) (x ∷ xs) e = let z : suc k + e ≡ suc (k + e) = omega arith in rw z (slice_get-drop k xs e)

at_end : {X : Type 0} (xs : List X) (x : X) → slice_get (xs ++ x ∷ []) (length xs) ≡ Some x
at_end [] x = refl
at_end (y ∷ xs) x = at_end xs x

module _ {X : Type 0} (answer : List Object → List Asked → Request → Result Found X) (limit : ℕ) (sound : IsSound answer limit) where
  grow_target : (objs added : List Object) (c t : ℕ) (f : Found) → WentTo objs c t f → WentTo (objs ++ added) c t f
  grow_target objs added c t (Known i) p = p
  grow_target objs added c t (Brought o) p = (p.0, slice_get_left objs added c o p.1)

  grow_answer : (objs added : List Object) (log : List Asked) (a : Asked) → count_after log ≤ length objs → IsAnswered answer objs log a → IsAnswered answer (objs ++ added) log a
  grow_answer objs added log a le r =
      record {
        asker = r.asker;
        found = r.found;
        found_is = ap (λ os. answer os log a.request) (take-append-le (count_after log) objs added le) ∙ r.found_is;
        target = grow_target objs added (count_after log) a.target r.found r.target;
      }

  record IsSoFar (before s : Loaded) (asked : List Request) : Type 0 where
    new : List Object
    objs : s.objs ≡ before.objs ++ new
    more : List Asked
    log : s.log ≡ before.log ++ more
    asked_is : map (λ (a : Asked). a.request) more ≡ asked
    answered : (m : ℕ) (a : Asked) → slice_get more m ≡ Some a → IsAnswered answer s.objs (before.log ++ take m more) a
    whole : count_after s.log ≡ length s.objs
    short : length s.objs ≤ limit

  record Grows (before s t : Loaded) (asked : List Request) : Type 0 where
    so_far : IsSoFar before t asked
    added : List Object
    objs : t.objs ≡ s.objs ++ added

  all_answered : (before s : Loaded) (asked : List Request) (f : IsSoFar before s asked) (objs added : List Object) (a : Asked) → objs ≡ s.objs ++ added → IsAnswered answer objs s.log a → (m : ℕ) (x : Asked) → slice_get (f.more ++ a ∷ []) m ≡ Some x → IsAnswered answer objs (before.log ++ take m (f.more ++ a ∷ [])) x
  all_answered before s asked f objs added a e last m x h =
      elim (slice_get_push f.more a m x h) [
        | inl w ↦
            let old = f.answered m x w.1 in
            let whole : (before.log ++ take m f.more) ++ drop m f.more ≡ s.log = append_assoc before.log (take m f.more) (drop m f.more) ∙ ap (λ xs. before.log ++ xs) (take-append-drop m f.more) ∙ sym f.log in
            let le : count_after (before.log ++ take m f.more) ≤ count_after s.log = subst (λ (xs : List Asked). count_after (before.log ++ take m f.more) ≤ count_after xs) whole (count_front (before.log ++ take m f.more) (drop m f.more)) in
            let all = f.whole in
            let grown = grow_answer s.objs added (before.log ++ take m f.more) x (omega arith) old in
            let here : IsAnswered answer objs (before.log ++ take m f.more) x = subst (λ (os : List Object). IsAnswered answer os (before.log ++ take m f.more) x) (sym e) grown in
            subst (λ (xs : List Asked). IsAnswered answer objs (before.log ++ xs) x) (sym (take-append-le m f.more (a ∷ []) w.0)) here
        | inr w ↦
            let cut : take m (f.more ++ a ∷ []) ≡ f.more = take_at f.more (a ∷ []) m (sym w.0) in
            let log : s.log ≡ before.log ++ take m (f.more ++ a ∷ []) = f.log ∙ ap (λ xs. before.log ++ xs) (sym cut) in
            subst (λ (y : Asked). IsAnswered answer objs (before.log ++ take m (f.more ++ a ∷ [])) y) w.1 (subst (λ (xs : List Asked). IsAnswered answer objs xs a) log last)
      ]

  -- one request more
  pushed : (before s t : Loaded) (asked : List Request) (r : Request) (i : ℕ) (f : Found) (added : List Object) → IsSoFar before s asked → r.by < length s.objs → answer s.objs s.log r ≡ Ok f → t.objs ≡ s.objs ++ added → t.log ≡ s.log ++ record { request = r; target = i } ∷ [] → WentTo t.objs (length s.objs) i f → max (length s.objs) (suc i) ≡ length t.objs → length t.objs ≤ limit → Grows before s t (asked ++ r ∷ [])
  pushed before s t asked r i f added p by is objs log target count short =
      let a : Asked = record { request = r; target = i } in
      let last : IsAnswered answer t.objs s.log a = record {
        asker = rw p.whole by;
        found = f;
        found_is = ap (λ n. answer (take n t.objs) s.log r) p.whole ∙ ap (λ os. answer os s.log r) (ap (take (length s.objs)) objs ∙ take_at s.objs added (length s.objs) refl) ∙ is;
        target = subst (λ (n : ℕ). WentTo t.objs n i f) (sym p.whole) target;
      } in
      record {
        so_far = record {
          new = p.new ++ added;
          objs = objs ∙ ap (λ os. os ++ added) p.objs ∙ append_assoc before.objs p.new added;
          more = p.more ++ a ∷ [];
          log = log ∙ ap (λ xs. xs ++ a ∷ []) p.log ∙ append_assoc before.log p.more (a ∷ []);
          asked_is = map_push (λ (x : Asked). x.request) p.more a ∙ ap (λ rs. rs ++ r ∷ []) p.asked_is;
          answered = all_answered before s asked p t.objs added a objs last;
          whole = ap count_after log ∙ count_push s.log a ∙ ap (λ n. max n (suc i)) p.whole ∙ count;
          short = short;
        };
        added = added;
        objs = objs;
      }

  found_keeps : (before s t : Loaded) (asked : List Request) (r : Request) (f : Found) → IsSoFar before s asked → r.by < length s.objs → answer s.objs s.log r ≡ Ok f → with_found s r f ≡ t → Grows before s t (asked ++ r ∷ [])
  found_keeps before s t asked r (Known i) p by is h =
      let below : i < length s.objs = sound.known s.objs s.log r i is in
      let same : t.objs ≡ s.objs = sym (ap (λ (x : Loaded). x.objs) h) in
      let size : length t.objs ≡ length s.objs = ap length same in
      pushed before s t asked r i (Known i) [] p by is (same ∙ sym (append-nil s.objs)) (sym (ap (λ (x : Loaded). x.log) h)) (refl, below) (omega arith) (omega (arith, p.short))
  found_keeps before s t asked r (Brought o) p by is h =
      let below : length s.objs < limit = sound.brought s.objs s.log r o is in
      let grown : t.objs ≡ s.objs ++ o ∷ [] = sym (ap (λ (x : Loaded). x.objs) h) in
      let size : length t.objs ≡ length s.objs + 1 = ap length grown ∙ length_push s.objs o in
      let here : slice_get t.objs (length s.objs) ≡ Some o = ap (λ os. slice_get os (length s.objs)) grown ∙ at_end s.objs o in
      pushed before s t asked r (length s.objs) (Brought o) (o ∷ []) p by is grown (sym (ap (λ (x : Loaded). x.log) h)) (refl, here) (omega arith) (omega arith)

  names_keep : (ns : List (List ℕ)) (before s t : Loaded) (asked : List Request) (i : ℕ) → IsSoFar before s asked → i < length s.objs → ask_all answer s (map (λ n. record { by = i; name = n }) ns) ≡ Ok t → Grows before s t (asked ++ map (λ n. record { by = i; name = n }) ns)
  names_keep [] before s t asked i p by h =
      let same : s ≡ t = cc in
      subst (λ (x : Loaded). Grows before s x (asked ++ [])) same (record { so_far = subst (λ (rs : List Request). IsSoFar before s rs) (sym (append-nil asked)) p; added = []; objs = sym (append-nil s.objs) })
  names_keep (n ∷ ns) before s t asked i p by h =
      let r : Request = record { by = i; name = n } in
      let two = next_ok (ask answer s r) (λ u. ask_all answer u (map (λ n. record { by = i; name = n }) ns)) t h in
      let got = next_ok (answer s.objs s.log r) (λ f. Ok (with_found s r f)) two.0 two.1 in
      let made : with_found s r got.0 ≡ two.0 = let e = got.2 in cc in
      let one = found_keeps before s two.0 asked r got.0 p by got.1 made in
      let longer : length two.0.objs ≡ length s.objs + length one.added = ap length one.objs ∙ length-append s.objs one.added in
      let rest = names_keep ns before two.0 t (asked ++ r ∷ []) i one.so_far (omega arith) two.2 in
      record {
        so_far = subst (λ (rs : List Request). IsSoFar before t rs) (append_assoc asked (r ∷ []) (map (λ n. record { by = i; name = n }) ns)) rest.so_far;
        added = one.added ++ rest.added;
        objs = rest.objs ∙ ap (λ os. os ++ rest.added) one.objs ∙ append_assoc s.objs one.added rest.added;
      }

  opened : List (List ℕ) → List Request
  opened opening = map (λ n. record { by = 0; name = n }) opening

  -- the needs of e objects from the k-th on are asked
  so_far_at : Loaded → List (List ℕ) → ℕ → List Object → List Request
  so_far_at before opening e objs = map (λ n. record { by = 0; name = n }) opening ++ needs_from (length before.objs) (take e (drop (length before.objs) objs))

  turn_within : (before s t : Loaded) (opening : List (List ℕ)) (e : ℕ) (o : Object) → IsSoFar before s (so_far_at before opening e s.objs) → length before.objs + e < length s.objs → slice_get s.objs (length before.objs + e) ≡ Some o → ask_all answer s (map (λ n. record { by = length before.objs + e; name = n }) o.face.needs) ≡ Ok t → IsSoFar before t (so_far_at before opening (suc e) t.objs)
  unfolding so_far_at
  turn_within before s t opening e o p below is h =
      let k = length before.objs in
      let g = names_keep o.face.needs before s t (so_far_at before opening e s.objs) (k + e) p below h in
      let size = length-drop k s.objs in
      let cut : drop k t.objs ≡ drop k s.objs ++ g.added = ap (drop k) g.objs ∙ drop-append-le k s.objs g.added (omega arith) in
      let front : take (suc e) (drop k t.objs) ≡ take e (drop k s.objs) ++ o ∷ [] =
      ap (take (suc e)) cut ∙ take-append-le (suc e) (drop k s.objs) g.added (omega arith) ∙ taken (drop k s.objs) e o (slice_get-drop k s.objs e ∙ is) in
      let count : length (take e (drop k s.objs)) ≡ e = length-take-le e (drop k s.objs) (omega arith) in
      let mine : List Request = map (λ n. record { by = k + e; name = n }) o.face.needs in
      let needs : needs_from k (take (suc e) (drop k t.objs)) ≡ needs_from k (take e (drop k s.objs)) ++ mine =
      ap (needs_from k) front ∙ needs-append k (take e (drop k s.objs)) (o ∷ []) ∙ ap (λ n. needs_from k (take e (drop k s.objs)) ++ needs_from (k + n) (o ∷ [])) count
      ∙ ap (λ rs. needs_from k (take e (drop k s.objs)) ++ rs) (append-nil mine) in
      let whole : so_far_at before opening e s.objs ++ mine ≡ so_far_at before opening (suc e) t.objs =
      append_assoc (map (λ n. record { by = 0; name = n }) opening) (needs_from k (take e (drop k s.objs))) mine ∙ ap (λ rs. map (λ n. record { by = 0; name = n }) opening ++ rs) (sym needs) in
      subst (λ (rs : List Request). IsSoFar before t rs) whole g.so_far

  turn_past : (before s : Loaded) (opening : List (List ℕ)) (e : ℕ) → IsSoFar before s (so_far_at before opening e s.objs) → length s.objs ≤ length before.objs + e → IsSoFar before s (so_far_at before opening (suc e) s.objs)
  unfolding so_far_at
  turn_past before s opening e p past =
      let k = length before.objs in
      let size = length-drop k s.objs in
      let same : take e (drop k s.objs) ≡ take (suc e) (drop k s.objs) = take_all e (drop k s.objs) (omega arith) ∙ sym (take_all (suc e) (drop k s.objs) (omega arith)) in
      subst (λ (os : List Object). IsSoFar before s (map (λ n. record { by = 0; name = n }) opening ++ needs_from k os)) same p

  turn : (before s t : Loaded) (opening : List (List ℕ)) (e : ℕ) → IsSoFar before s (so_far_at before opening e s.objs) → ask_needs answer s (length before.objs + e) (slice_get s.objs (length before.objs + e)) ≡ Ok t → IsSoFar before t (so_far_at before opening (suc e) t.objs)
  turn before s t opening e p h =
      let i = length before.objs + e in
      elim (slice_get_cases s.objs i).1 [
        | inl w ↦ turn_within before s t opening e w.0 p w.1 w.2 (subst (λ (x : Option Object). ask_needs answer s i x ≡ Ok t) w.2 h)
        | inr w ↦
            let same : Ok s ≡ Ok t = subst (λ (x : Option Object). ask_needs answer s i x ≡ Ok t) w.1 h in
            let is : s ≡ t = cc in
            subst (λ (x : Loaded). IsSoFar before x (so_far_at before opening (suc e) x.objs)) is (turn_past before s opening e p w.0)
      ]

  walk_keeps : (f i e m : ℕ) (before s t : Loaded) (opening : List (List ℕ)) → i ≡ length before.objs + e → f + e ≡ m → IsSoFar before s (so_far_at before opening e s.objs) → walk answer f i s ≡ Ok t → IsSoFar before t (so_far_at before opening m t.objs)
  unfolding walk
  walk_keeps zero i e m before s t opening at sum p h =
      let is : s ≡ t = cc in
      let last : e ≡ m = omega arith in
      subst (λ (x : Loaded). IsSoFar before x (so_far_at before opening m x.objs)) is (subst (λ (x : ℕ). IsSoFar before s (so_far_at before opening x s.objs)) last p)
  walk_keeps (suc f) i e m before s t opening at sum p h =
      let two = next_ok (ask_needs answer s i (slice_get s.objs i)) (λ u. walk answer f (suc i) u) t h in
      let one = turn before s two.0 opening e p (subst (λ (x : ℕ). ask_needs answer s x (slice_get s.objs x) ≡ Ok two.0) at two.1) in
      walk_keeps f (suc i) (suc e) m before two.0 t opening (omega arith) (omega arith) one two.2

  pub phase_is : (before after : Loaded) (opening : List (List ℕ)) → count_after before.log ≡ length before.objs → 0 < length before.objs → length before.objs ≤ limit → phase answer limit before opening ≡ Ok after → IsPhase answer before opening after × (length after.objs ≤ limit)
  unfolding phase so_far_at
  phase_is before after opening even some short h =
      let k = length before.objs in
      let two = next_ok (ask_all answer before (map (λ n. record { by = 0; name = n }) opening)) (λ t. walk answer limit k t) after h in
      let none : IsSoFar before before [] = record {
        new = [];
        objs = sym (append-nil before.objs);
        more = [];
        log = sym (append-nil before.log);
        asked_is = refl;
        answered = λ m a g. cc;
        whole = even;
        short = short;
      } in
      let first = names_keep opening before before two.0 [] 0 none some two.1 in
      let start : IsSoFar before two.0 (so_far_at before opening 0 two.0.objs) = subst (λ (rs : List Request). IsSoFar before two.0 rs) (sym (append-nil (map (λ n. record { by = 0; name = n }) opening))) first.so_far in
      let done = walk_keeps limit k 0 limit before two.0 after opening (omega arith) (omega arith) start two.2 in
      let size = length-drop k after.objs in
      let all : take limit (drop k after.objs) ≡ drop k after.objs = take_all limit (drop k after.objs) (omega (arith, done.short)) in (
        record {
          objs = ap (take k) done.objs ∙ take_at before.objs done.new k refl;
          more = done.more;
          log = done.log;
          asked = append-nil (map (λ (a : Asked). a.request) done.more) ∙ done.asked_is ∙ ap (λ os. map (λ n. record { by = 0; name = n }) opening ++ needs_from k os) all;
          answered = done.answered;
          whole = done.whole;
        },
        done.short,
      )

  pub longer : (before after : Loaded) (opening : List (List ℕ)) → IsPhase answer before opening after → length before.objs ≤ length after.objs
  longer before after opening p =
      let e = count_front before.log p.more in
      omega (arith, length-take (length before.objs) after.objs, ap length p.objs)

  pub run_is : (openings : List (List (List ℕ))) (before after : Loaded) → count_after before.log ≡ length before.objs → 0 < length before.objs → length before.objs ≤ limit → run_from answer limit before openings ≡ Ok after → IsRunFrom answer before openings after
  run_is [] before after even some short h = cc
  run_is (o ∷ os) before after even some short h =
      let two = next_ok (phase answer limit before o) (λ t. run_from answer limit t os) after h in
      let one = phase_is before two.0 o even some short two.1 in
      let le = longer before two.0 o one.0 in
      (two.0, one.0, run_is os two.0 after one.0.whole (omega arith) one.1 two.2)

  -- the requests stop at one of them
  record Stops (before s : Loaded) (asked rs : List Request) (stop : X) : Type 0 where
    at : Loaded
    done : List Request
    next : Request
    left : List Request
    so_far : IsSoFar before at (asked ++ done)
    all : done ++ next ∷ left ≡ rs
    stops : answer at.objs at.log next ≡ Err stop
    added : List Object
    objs : at.objs ≡ s.objs ++ added

  ask_stops : (s : Loaded) (r : Request) (w : Result Found X) (stop : X) → answer s.objs s.log r ≡ w → next w (λ f. Ok (with_found s r f)) ≡ Err stop → answer s.objs s.log r ≡ Err stop
  ask_stops s r (Ok f) stop e h = cc
  ask_stops s r (Err x) stop e h = let d : x ≡ stop = cc in cc

  names_stop : (ns : List (List ℕ)) (before s : Loaded) (asked : List Request) (i : ℕ) (stop : X) → IsSoFar before s asked → i < length s.objs → ask_all answer s (map (λ n. record { by = i; name = n }) ns) ≡ Err stop → Stops before s asked (map (λ n. record { by = i; name = n }) ns) stop
  names_stop [] before s asked i stop p by h = cc
  names_stop (n ∷ ns) before s asked i stop p by h =
      let r : Request = record { by = i; name = n } in
      elim (next_err (ask answer s r) (λ u. ask_all answer u (map (λ n. record { by = i; name = n }) ns)) stop h) [
        | inl w ↦ record {
          at = s;
          done = [];
          next = r;
          left = map (λ n. record { by = i; name = n }) ns;
          so_far = subst (λ (rs : List Request). IsSoFar before s rs) (sym (append-nil asked)) p;
          all = refl;
          stops = ask_stops s r (answer s.objs s.log r) stop refl w;
          added = [];
          objs = sym (append-nil s.objs);
        }
        | inr two ↦
            let got = next_ok (answer s.objs s.log r) (λ f. Ok (with_found s r f)) two.0 two.1 in
            let made : with_found s r got.0 ≡ two.0 = let e = got.2 in cc in
            let one = found_keeps before s two.0 asked r got.0 p by got.1 made in
            let longer : length two.0.objs ≡ length s.objs + length one.added = ap length one.objs ∙ length-append s.objs one.added in
            let rest = names_stop ns before two.0 (asked ++ r ∷ []) i stop one.so_far (omega arith) two.2 in
            record {
              at = rest.at;
              done = r ∷ rest.done;
              next = rest.next;
              left = rest.left;
              so_far = subst (λ (rs : List Request). IsSoFar before rest.at rs) (append_assoc asked (r ∷ []) rest.done) rest.so_far;
              all = ap (λ rs. r ∷ rs) rest.all;
              stops = rest.stops;
              added = one.added ++ rest.added;
              objs = rest.objs ∙ ap (λ os. os ++ rest.added) one.objs ∙ append_assoc s.objs one.added rest.added;
            }
      ]

  -- what stops is a stop of the phase
  stop_is : (before s : Loaded) (opening : List (List ℕ)) (asked rs tail : List Request) (stop : X) (w : Stops before s asked rs stop) → asked ++ (rs ++ tail) ≡ requests_of opening (length before.objs) w.at.objs → IsStop answer before opening w.at stop
  stop_is before s opening asked rs tail stop w e =
      let f = w.so_far in
      record {
        next = w.next;
        left = w.left ++ tail;
        part = record {
          objs = ap (take (length before.objs)) f.objs ∙ take_at before.objs f.new (length before.objs) refl;
          more = f.more;
          log = f.log;
          asked = ap (λ xs. xs ++ w.next ∷ (w.left ++ tail)) f.asked_is ∙ append_assoc asked w.done (w.next ∷ (w.left ++ tail))
              ∙ ap (λ xs. asked ++ xs) (sym (append_assoc w.done (w.next ∷ w.left) tail) ∙ ap (λ xs. xs ++ tail) w.all) ∙ e;
          answered = f.answered;
          whole = f.whole;
        };
        stops = w.stops;
      }

  cut_at : (xs : List Object) (e : ℕ) (o : Object) → slice_get xs e ≡ Some o → xs ≡ take e xs ++ o ∷ drop (suc e) xs
  cut_at [] e o h = cc
  cut_at (x ∷ xs) zero o h = let same : x ≡ o = cc in ap (λ y. y ∷ xs) same
  cut_at (x ∷ xs) (suc e) o h = ap (λ ys. x ∷ ys) (cut_at xs e o h)

  turn_stops : (before s : Loaded) (opening : List (List ℕ)) (e : ℕ) (o : Object) (stop : X) → IsSoFar before s (so_far_at before opening e s.objs) → length before.objs + e < length s.objs → slice_get s.objs (length before.objs + e) ≡ Some o → ask_all answer s (map (λ n. record { by = length before.objs + e; name = n }) o.face.needs) ≡ Err stop → (at : Loaded) × IsStop answer before opening at stop
  unfolding so_far_at
  turn_stops before s opening e o stop p below is h =
      let k = length before.objs in
      let w = names_stop o.face.needs before s (so_far_at before opening e s.objs) (k + e) stop p below h in
      let mine : List Request = map (λ n. record { by = k + e; name = n }) o.face.needs in
      let size = length-drop k s.objs in
      let xs : List Object = drop k w.at.objs in
      let cut : xs ≡ drop k s.objs ++ w.added = ap (drop k) w.objs ∙ drop-append-le k s.objs w.added (omega arith) in
      let front : take e xs ≡ take e (drop k s.objs) = ap (take e) cut ∙ take-append-le e (drop k s.objs) w.added (omega arith) in
      let count : length (take e xs) ≡ e = ap length front ∙ length-take-le e (drop k s.objs) (omega arith) in
      let here : slice_get xs e ≡ Some o = ap (λ ys. slice_get ys e) cut ∙ slice_get_left (drop k s.objs) w.added e o (slice_get-drop k s.objs e ∙ is) in
      let tail : List Request = needs_from (suc (k + e)) (drop (suc e) xs) in
      let needs : needs_from k xs ≡ needs_from k (take e (drop k s.objs)) ++ (mine ++ tail) =
      ap (needs_from k) (cut_at xs e o here) ∙ needs-append k (take e xs) (o ∷ drop (suc e) xs)
      ∙ ap (λ n. needs_from k (take e xs) ++ needs_from (k + n) (o ∷ drop (suc e) xs)) count ∙ ap (λ ys. needs_from k ys ++ (mine ++ tail)) front in (
        w.at,
        stop_is before s opening (so_far_at before opening e s.objs) mine tail stop w
            (append_assoc (map (λ n. record { by = 0; name = n }) opening) (needs_from k (take e (drop k s.objs))) (mine ++ tail) ∙ ap (λ rs. map (λ n. record { by = 0; name = n }) opening ++ rs) (sym needs)),
      )

  walk_stops : (f i e : ℕ) (before s : Loaded) (opening : List (List ℕ)) (stop : X) → i ≡ length before.objs + e → IsSoFar before s (so_far_at before opening e s.objs) → walk answer f i s ≡ Err stop → (at : Loaded) × IsStop answer before opening at stop
  unfolding walk
  walk_stops zero i e before s opening stop at p h = cc
  walk_stops (suc f) i e before s opening stop at p h =
      elim (next_err (ask_needs answer s i (slice_get s.objs i)) (λ u. walk answer f (suc i) u) stop h) [
        | inl w ↦
            let here : ask_needs answer s (length before.objs + e) (slice_get s.objs (length before.objs + e)) ≡ Err stop = subst (λ (x : ℕ). ask_needs answer s x (slice_get s.objs x) ≡ Err stop) at w in
            elim (slice_get_cases s.objs (length before.objs + e)).1 [
              | inl v ↦ turn_stops before s opening e v.0 stop p v.1 v.2 (subst (λ (x : Option Object). ask_needs answer s (length before.objs + e) x ≡ Err stop) v.2 here)
              | inr v ↦ let no : Ok s ≡ Err stop = subst (λ (x : Option Object). ask_needs answer s (length before.objs + e) x ≡ Err stop) v.1 here in cc
            ]
        | inr two ↦
            walk_stops f (suc i) (suc e) before two.0 opening stop (omega arith) (turn before s two.0 opening e p (subst (λ (x : ℕ). ask_needs answer s x (slice_get s.objs x) ≡ Ok two.0) at two.1)) two.2
      ]

  nothing : (before : Loaded) → count_after before.log ≡ length before.objs → length before.objs ≤ limit → IsSoFar before before []
  nothing before even short =
      record { new = []; objs = sym (append-nil before.objs); more = []; log = sym (append-nil before.log); asked_is = refl; answered = λ m a g. cc; whole = even; short = short }

  phase_stops : (before : Loaded) (opening : List (List ℕ)) (stop : X) → count_after before.log ≡ length before.objs → 0 < length before.objs → length before.objs ≤ limit → phase answer limit before opening ≡ Err stop → (at : Loaded) × IsStop answer before opening at stop
  unfolding phase so_far_at
  phase_stops before opening stop even some short h =
      let k = length before.objs in
      let none = nothing before even short in
      elim (next_err (ask_all answer before (map (λ n. record { by = 0; name = n }) opening)) (λ t. walk answer limit k t) stop h) [
        | inl v ↦
            let w = names_stop opening before before [] 0 stop none some v in
            (w.at, stop_is before before opening [] (map (λ n. record { by = 0; name = n }) opening) (needs_from k (drop k w.at.objs)) stop w refl)
        | inr two ↦
            let first = names_keep opening before before two.0 [] 0 none some two.1 in
            let start : IsSoFar before two.0 (so_far_at before opening 0 two.0.objs) = subst (λ (rs : List Request). IsSoFar before two.0 rs) (sym (append-nil (map (λ n. record { by = 0; name = n }) opening))) first.so_far in
            walk_stops limit k 0 before two.0 opening stop (omega arith) start two.2
      ]

  pub run_stops : (openings : List (List (List ℕ))) (before : Loaded) (stop : X) → count_after before.log ≡ length before.objs → 0 < length before.objs → length before.objs ≤ limit → run_from answer limit before openings ≡ Err stop → IsStopFrom answer before openings stop
  run_stops [] before stop even some short h = cc
  run_stops (o ∷ os) before stop even some short h =
      elim (next_err (phase answer limit before o) (λ t. run_from answer limit t os) stop h) [
        | inl w ↦ inl (phase_stops before o stop even some short w)
        | inr two ↦
            let one = phase_is before two.0 o even some short two.1 in
            let le = longer before two.0 o one.0 in
            inr (two.0, one.0, run_stops os two.0 stop one.0.whole (omega arith) one.1 two.2)
      ]
