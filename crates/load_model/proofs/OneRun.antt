-- At most one run meets the relation.
use Rattle.std.proofs.Common.{◌≡◌, ◌∙◌, sym, ap, refl, ℕ, zero, suc, ◌≤◌, ◌<◌, List, [], ◌∷◌, ◌++◌, Some, Result, Ok, Err, length, take, drop, map, max, slice_get, arith, subst, inl, inr, append_assoc}
use Rattle.std.proofs.lemmas.List.{take-append-drop, append-nil, take_all, length-take-le, length-map, append_cancel_left}
use Rattle.std.proofs.lemmas.Option.{slice_get-map, slice_get_within}
use Rattle.std.specs.Option.{option_map}
use Rattle.load_model.specs.LoadList.{Object, Request, Asked, Found, Known, Brought, Loaded, count_after, requests_of, WentTo, IsAnswered, IsPart, IsPhase, IsStop, IsRunFrom, IsStopFrom}
use Rattle.load_model.proofs.Counts.{count_push, count_front, early_request, slice_get_left}

pub there : {X : Type 0} (xs : List X) (m : ℕ) → m < length xs → (x : X) × (slice_get xs m ≡ Some x)
there [] m h = absurd (omega arith)
there (x ∷ xs) zero h = (x, refl)
there (x ∷ xs) (suc m) h = there xs m (omega arith)

pub taken : {X : Type 0} (xs : List X) (m : ℕ) (x : X) → slice_get xs m ≡ Some x → take (suc m) xs ≡ take m xs ++ x ∷ []
taken [] m x h = cc
taken (y ∷ xs) zero x h = cc
taken (y ∷ xs) (suc m) x h = ap (λ ys. y ∷ ys) (taken xs m x h)

at_middle : {X : Type 0} (xs : List X) (x : X) (ys : List X) (n : ℕ) → length xs ≡ n → slice_get (xs ++ x ∷ ys) n ≡ Some x
at_middle [] x ys n h = ap (slice_get (x ∷ ys)) (sym h)
at_middle (z ∷ xs) x ys n h = ap (slice_get (z ∷ (xs ++ x ∷ ys))) (sym h) ∙ at_middle xs x ys (length xs) refl

same_asked : (x y : Asked) → x.request ≡ y.request → x.target ≡ y.target → x ≡ y
same_asked x y e f = ap (λ r. record { request = r; target = x.target }) e ∙ ap (λ t. record { request = y.request; target = t }) f

same_loaded : (a b : Loaded) → a.objs ≡ b.objs → a.log ≡ b.log → a ≡ b
same_loaded a b e f = ap (λ os. record { objs = os; log = a.log }) e ∙ ap (λ xs. record { objs = b.objs; log = xs }) f

module _ {X : Type 0} (answer : List Object → List Asked → Request → Result Found X) where
  same_target : (xs ys : List Object) (c t u : ℕ) (f : Found) → WentTo xs c t f → WentTo ys c u f → t ≡ u
  same_target xs ys c t u (Known i) p q = p.0 ∙ sym q.0
  same_target xs ys c t u (Brought o) p q = p.0 ∙ sym q.0

  same_objs : (xs ys : List Object) (c t u : ℕ) (f : Found) → take c xs ≡ take c ys → WentTo xs c t f → WentTo ys c u f → take (max c (suc t)) xs ≡ take (max c (suc t)) ys
  same_objs xs ys c t u (Known i) e p q =
      let i_is : t ≡ i = p.0 in
      let below : i < c = p.1 in
      let m : max c (suc t) ≡ c = omega arith in
      rw m e
  same_objs xs ys c t u (Brought o) e p q =
      let t_is : t ≡ c = p.0 in
      let m : max c (suc t) ≡ suc c = omega arith in
      rw m (taken xs c o p.1 ∙ ap (λ os. os ++ o ∷ []) e ∙ sym (taken ys c o q.1))

  module _ (before : Loaded) (opening : List (List ℕ)) (even : count_after before.log ≡ length before.objs) where
    abbrev at : List Asked → ℕ → List Asked
    at more m = before.log ++ take m more

    bound : (after : Loaded) (k : List Request) (p : IsPart answer before opening after k) (m : ℕ) → count_after (at p.more m) ≤ length after.objs
    bound after k p m =
        let whole : at p.more m ++ drop m p.more ≡ after.log = append_assoc before.log (take m p.more) (drop m p.more) ∙ ap (λ xs. before.log ++ xs) (take-append-drop m p.more) ∙ sym p.log in
        let le = count_front (at p.more m) (drop m p.more) in
        let here : count_after (at p.more m) ≤ count_after after.log = subst (λ (xs : List Asked). count_after (at p.more m) ≤ count_after xs) whole le in
        let all = p.whole in
        omega arith

    over : (more : List Asked) (m : ℕ) → length before.objs ≤ count_after (at more m)
    over more m = let le = count_front before.log (take m more) in omega arith

    -- the request at m is one of the objects that are loaded then
    asked_early : (after : Loaded) (k : List Request) (p : IsPart answer before opening after k) (m : ℕ) (a : Asked) → slice_get p.more m ≡ Some a → slice_get (requests_of opening (length before.objs) (take (count_after (at p.more m)) after.objs)) m ≡ Some a.request
    asked_early after k p m a h =
        let c = count_after (at p.more m) in
        let size : length (take c after.objs) ≡ c = length-take-le c after.objs (bound after k p m) in
        let r = p.answered m a h in
        let whole : slice_get (requests_of opening (length before.objs) (take c after.objs ++ drop c after.objs)) m ≡ Some a.request =
        ap (λ os. slice_get (requests_of opening (length before.objs) os) m) (take-append-drop c after.objs)
        ∙ ap (λ rs. slice_get rs m) (sym p.asked) ∙ slice_get_left (map (λ (x : Asked). x.request) p.more) k m a.request (slice_get-map (λ (x : Asked). x.request) p.more m ∙ ap (option_map (λ (x : Asked). x.request)) h) in
        early_request opening (length before.objs) (take c after.objs) (drop c after.objs) m a.request (rw size (over p.more m)) whole (rw size r.asker)

    record Same (a b : Loaded) (k l : List Request) (p : IsPart answer before opening a k) (q : IsPart answer before opening b l) (m : ℕ) : Type 0 where
      logs : take m p.more ≡ take m q.more
      objs : take (count_after (at p.more m)) a.objs ≡ take (count_after (at p.more m)) b.objs

    same_more : (a b : Loaded) (k l : List Request) (p : IsPart answer before opening a k) (q : IsPart answer before opening b l) (m : ℕ) (x y : Asked) → Same a b k l p q m → slice_get p.more m ≡ Some x → slice_get q.more m ≡ Some y → Same a b k l p q (suc m)
    same_more a b k l p q m x y s h g =
        let c = count_after (at p.more m) in
        let early = asked_early a k p m x h in
        let early_there : slice_get (requests_of opening (length before.objs) (take c b.objs)) m ≡ Some y.request =
        subst (λ (xs : List Asked). slice_get (requests_of opening (length before.objs) (take (count_after (before.log ++ xs)) b.objs)) m ≡ Some y.request) (sym s.logs) (asked_early b l q m y g) in
        let both : Some x.request ≡ Some y.request = sym early ∙ ap (λ os. slice_get (requests_of opening (length before.objs) os) m) s.objs ∙ early_there in
        let request : x.request ≡ y.request = cc in
        let r = p.answered m x h in
        let t : IsAnswered answer b.objs (at p.more m) y = subst (λ (xs : List Asked). IsAnswered answer b.objs (before.log ++ xs) y) (sym s.logs) (q.answered m y g) in
        let found_same : Ok r.found ≡ Ok t.found =
        sym r.found_is ∙ ap (λ os. answer os (at p.more m) x.request) s.objs ∙ ap (answer (take c b.objs) (at p.more m)) request ∙ t.found_is in
        let found : t.found ≡ r.found = cc in
        let given : WentTo b.objs c y.target r.found = subst (λ (f : Found). WentTo b.objs c y.target f) found t.target in
        let target : x.target ≡ y.target = same_target a.objs b.objs c x.target y.target r.found r.target given in
        let same = same_asked x y request target in
        let more : count_after (at p.more (suc m)) ≡ max c (suc x.target) =
        ap (λ xs. count_after (before.log ++ xs)) (taken p.more m x h) ∙ ap count_after (sym (append_assoc before.log (take m p.more) (x ∷ []))) ∙ count_push (at p.more m) x in
        record {
          logs = taken p.more m x h ∙ ap (λ xs. xs ++ x ∷ []) s.logs ∙ ap (λ z. take m q.more ++ z ∷ []) same ∙ sym (taken q.more m y g);
          objs = subst (λ (n : ℕ). take n a.objs ≡ take n b.objs) (sym more) (same_objs a.objs b.objs c x.target y.target r.found s.objs r.target given);
        }

    same_at : (a b : Loaded) (k l : List Request) (p : IsPart answer before opening a k) (q : IsPart answer before opening b l) (m : ℕ) → m ≤ length p.more → m ≤ length q.more → Same a b k l p q m
    same_at a b k l p q zero h g =
        let start : count_after (at p.more 0) ≡ length before.objs = ap count_after (append-nil before.log) ∙ even in
        record { logs = refl; objs = subst (λ (n : ℕ). take n a.objs ≡ take n b.objs) (sym start) (p.objs ∙ sym q.objs) }
    same_at a b k l p q (suc m) h g =
        let x = there p.more m h in
        let y = there q.more m g in
        same_more a b k l p q m x.0 y.0 (same_at a b k l p q m (omega arith) (omega arith)) x.1 y.1

    -- where the first list ends, all of it is there
    ended : (a : Loaded) (k : List Request) (p : IsPart answer before opening a k) → count_after (at p.more (length p.more)) ≡ length a.objs
    ended a k p = ap (λ xs. count_after (before.log ++ xs)) (take_all (length p.more) p.more (omega arith)) ∙ ap count_after (sym p.log) ∙ p.whole

    -- a request that another run has past the end of this one stands among those of these objects
    next_there : (a b : Loaded) (k l : List Request) (p : IsPart answer before opening a k) (q : IsPart answer before opening b l) (y : Asked) → length p.more ≤ length q.more → slice_get q.more (length p.more) ≡ Some y → (slice_get (map (λ (x : Asked). x.request) p.more ++ k) (length p.more) ≡ Some y.request) × (take (length p.more) q.more ≡ p.more) × (take (count_after (at p.more (length p.more))) b.objs ≡ a.objs)
    next_there a b k l p q y h g =
        let m = length p.more in
        let s = same_at a b k l p q m (omega arith) h in
        let objs : take (count_after (at p.more m)) b.objs ≡ a.objs = sym s.objs ∙ ap (λ n. take n a.objs) (ended a k p) ∙ take_all (length a.objs) a.objs (omega arith) in
        let early : slice_get (requests_of opening (length before.objs) (take (count_after (at p.more m)) b.objs)) m ≡ Some y.request =
        subst (λ (xs : List Asked). slice_get (requests_of opening (length before.objs) (take (count_after (before.log ++ xs)) b.objs)) m ≡ Some y.request) (sym s.logs) (asked_early b l q m y g) in (
          ap (λ rs. slice_get rs m) p.asked ∙ ap (λ os. slice_get (requests_of opening (length before.objs) os) m) (sym objs) ∙ early,
          sym s.logs ∙ take_all m p.more (omega arith),
          objs,
        )

    not_longer : (a b : Loaded) (l : List Request) (p : IsPart answer before opening a []) (q : IsPart answer before opening b l) → length p.more < length q.more → ⊥
    not_longer a b l p q h =
        let y = there q.more (length p.more) h in
        let here = next_there a b [] l p q y.0 (omega arith) y.1 in
        let within = slice_get_within (map (λ (x : Asked). x.request) p.more ++ []) (length p.more) y.0.request here.0 in
        let size = length-map p.more (λ (x : Asked). x.request) in
        let none = ap length (append-nil (map (λ (x : Asked). x.request) p.more)) in
        omega arith

    -- the same number of requests: the same objects and targets
    same_length : (a b : Loaded) (k l : List Request) (p : IsPart answer before opening a k) (q : IsPart answer before opening b l) → length p.more ≡ length q.more → (a ≡ b) × (p.more ≡ q.more)
    same_length a b k l p q size =
        let n = length p.more in
        let s = same_at a b k l p q n (omega arith) (omega arith) in
        let more : p.more ≡ q.more = sym (take_all n p.more (omega arith)) ∙ s.logs ∙ take_all n q.more (omega arith) in
        let logs : a.log ≡ b.log = p.log ∙ ap (λ xs. before.log ++ xs) more ∙ sym q.log in
        let c : length a.objs ≡ length b.objs = sym p.whole ∙ ap count_after logs ∙ q.whole in
        let objs : a.objs ≡ b.objs =
        sym (take_all (length a.objs) a.objs (omega arith)) ∙ ap (λ j. take j a.objs) (sym (ended a k p)) ∙ s.objs ∙ ap (λ j. take j b.objs) (ended a k p) ∙ take_all (length a.objs) b.objs (omega arith) in
        (same_loaded a b objs logs, more)

    pub one_phase : (a b : Loaded) → IsPhase answer before opening a → IsPhase answer before opening b → a ≡ b
    one_phase a b p q =
        let no_more : length p.more < length q.more → ⊥ = not_longer a b [] p q in
        let no_less : length q.more < length p.more → ⊥ = not_longer b a [] q p in
        (same_length a b [] [] p q (omega arith)).0

    -- past a stop there is no request
    stop_last : (a b : Loaded) (l : List Request) (stop : X) (p : IsStop answer before opening a stop) (q : IsPart answer before opening b l) → length p.part.more < length q.more → ⊥
    stop_last a b l stop p q h =
        let m = length p.part.more in
        let y = there q.more m h in
        let here = next_there a b (p.next ∷ p.left) l p.part q y.0 (omega arith) y.1 in
        let size = length-map p.part.more (λ (x : Asked). x.request) in
        let one : Some p.next ≡ Some y.0.request = sym (at_middle (map (λ (x : Asked). x.request) p.part.more) p.next p.left m (length-map p.part.more (λ (x : Asked). x.request))) ∙ here.0 in
        let same : p.next ≡ y.0.request = cc in
        let r : IsAnswered answer b.objs (before.log ++ p.part.more) y.0 = subst (λ (xs : List Asked). IsAnswered answer b.objs (before.log ++ xs) y.0) here.1 (q.answered m y.0 y.1) in
        let all : at p.part.more m ≡ before.log ++ p.part.more = ap (λ xs. before.log ++ xs) (take_all m p.part.more (omega arith)) in
        let objs : take (count_after (before.log ++ p.part.more)) b.objs ≡ a.objs = ap (λ xs. take (count_after xs) b.objs) (sym all) ∙ here.2 in
        let no : Ok r.found ≡ Err stop =
        sym r.found_is ∙ ap (λ os. answer os (before.log ++ p.part.more) y.0.request) objs ∙ ap (λ xs. answer a.objs xs y.0.request) (sym p.part.log) ∙ ap (answer a.objs a.log) (sym same) ∙ p.stops in
        cc

    -- a phase is not whole where it stops
    pub not_both : (a b : Loaded) (stop : X) → IsStop answer before opening a stop → IsPhase answer before opening b → ⊥
    not_both a b stop p q =
        let no_more : length p.part.more < length q.more → ⊥ = stop_last a b [] stop p q in
        let no_less : length q.more < length p.part.more → ⊥ = not_longer b a (p.next ∷ p.left) q p.part in
        let s = same_length b a [] (p.next ∷ p.left) q p.part (omega arith) in
        let all : map (λ (x : Asked). x.request) q.more ++ [] ≡ map (λ (x : Asked). x.request) p.part.more ++ p.next ∷ p.left =
        q.asked ∙ ap (λ (x : Loaded). requests_of opening (length before.objs) x.objs) s.0 ∙ sym p.part.asked in
        let more : map (λ (x : Asked). x.request) q.more ≡ map (λ (x : Asked). x.request) p.part.more = ap (map (λ (x : Asked). x.request)) s.1 in
        let none : [] ≡ p.next ∷ p.left = append_cancel_left (map (λ (x : Asked). x.request) p.part.more) [] (p.next ∷ p.left) (ap (λ rs. rs ++ []) (sym more) ∙ all) in
        cc

    pub one_stop : (a b : Loaded) (s t : X) → IsStop answer before opening a s → IsStop answer before opening b t → s ≡ t
    one_stop a b s t p q =
        let no_more : length p.part.more < length q.part.more → ⊥ = stop_last a b (q.next ∷ q.left) s p q.part in
        let no_less : length q.part.more < length p.part.more → ⊥ = stop_last b a (p.next ∷ p.left) t q p.part in
        let w = same_length a b (p.next ∷ p.left) (q.next ∷ q.left) p.part q.part (omega arith) in
        let all : map (λ (x : Asked). x.request) p.part.more ++ p.next ∷ p.left ≡ map (λ (x : Asked). x.request) p.part.more ++ q.next ∷ q.left =
        p.part.asked ∙ ap (λ (x : Loaded). requests_of opening (length before.objs) x.objs) w.0 ∙ sym q.part.asked ∙ ap (λ xs. map (λ (x : Asked). x.request) xs ++ q.next ∷ q.left) (sym w.1) in
        let rest = append_cancel_left (map (λ (x : Asked). x.request) p.part.more) (p.next ∷ p.left) (q.next ∷ q.left) all in
        let same : p.next ≡ q.next = cc in
        let both : Err s ≡ Err t = sym p.stops ∙ ap (λ (x : Loaded). answer x.objs x.log p.next) w.0 ∙ ap (answer b.objs b.log) same ∙ q.stops in
        cc

  pub one_run : (openings : List (List (List ℕ))) (before a b : Loaded) → count_after before.log ≡ length before.objs → IsRunFrom answer before openings a → IsRunFrom answer before openings b → a ≡ b
  one_run [] before a b even p q = p ∙ sym q
  one_run (o ∷ os) before a b even p q =
      let mid : q.0 ≡ p.0 = one_phase before o even q.0 p.0 q.1 p.1 in
      one_run os p.0 a b p.1.whole p.2 (subst (λ (s : Loaded). IsRunFrom answer s os b) mid q.2)

  pub run_or_stop : (openings : List (List (List ℕ))) (before a : Loaded) (stop : X) → count_after before.log ≡ length before.objs → IsRunFrom answer before openings a → IsStopFrom answer before openings stop → ⊥
  run_or_stop [] before a stop even p q = q
  run_or_stop (o ∷ os) before a stop even p (inl q) = not_both before o even q.0 p.0 stop q.1 p.1
  run_or_stop (o ∷ os) before a stop even p (inr q) =
      let mid : q.0 ≡ p.0 = one_phase before o even q.0 p.0 q.1 p.1 in
      run_or_stop os p.0 a stop p.1.whole p.2 (subst (λ (s : Loaded). IsStopFrom answer s os stop) mid q.2)

  pub first_stop : (openings : List (List (List ℕ))) (before : Loaded) (s t : X) → count_after before.log ≡ length before.objs → IsStopFrom answer before openings s → IsStopFrom answer before openings t → s ≡ t
  first_stop [] before s t even p q = absurd p
  first_stop (o ∷ os) before s t even (inl p) (inl q) = one_stop before o even p.0 q.0 s t p.1 q.1
  first_stop (o ∷ os) before s t even (inl p) (inr q) = absurd (not_both before o even p.0 q.0 s p.1 q.1)
  first_stop (o ∷ os) before s t even (inr p) (inl q) = absurd (not_both before o even q.0 p.0 t q.1 p.1)
  first_stop (o ∷ os) before s t even (inr p) (inr q) =
      let mid : q.0 ≡ p.0 = one_phase before o even q.0 p.0 q.1 p.1 in
      first_stop os p.0 s t p.1.whole p.2 (subst (λ (x : Loaded). IsStopFrom answer x os t) mid q.2)
