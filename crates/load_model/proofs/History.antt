-- Each request of a run, at its place in the whole log.
use Rattle.std.proofs.Common.{◌≡◌, ◌∙◌, sym, ap, refl, ℕ, zero, suc, ◌≤◌, ◌<◌, List, [], ◌∷◌, ◌++◌, Some, Result, length, take, drop, max, slice_get, arith, subst, ◌⊎◌, inl, inr, append_assoc}
use Rattle.std.proofs.lemmas.List.{take-append-drop, take-append-le, take_all, append-nil}
use Rattle.std.proofs.lemmas.Option.{slice_get_within}
use Rattle.std.proofs.lemmas.Bool.{cases_lt}
use Rattle.load_model.specs.LoadList.{Object, Request, Asked, Found, Known, Brought, Loaded, count_from, count_after, WentTo, IsAnswered, IsPhase, IsRunFrom}
use Rattle.load_model.proofs.Counts.{count_push, count_front, slice_get_left}
use Rattle.load_model.proofs.OneRun.{taken, there}
use Rattle.load_model.proofs.Places.{slice_get-take, slice_get_front}
use Rattle.load_model.proofs.TwoWorlds.{target_le}

pub take_front : {X : Type 0} (c n : ℕ) (xs : List X) → c ≤ n → take c (take n xs) ≡ take c xs
take_front zero n xs h = refl
take_front (suc c) zero xs h = absurd (omega arith)
take_front (suc c) (suc n) [] h = refl
take_front (suc c) (suc n) (x ∷ xs) h = ap (λ ys. x ∷ ys) (take_front c n xs (omega arith))

-- an element of two lists stands in the first, or in the second
pub slice_get_split : {X : Type 0} (xs ys : List X) (m : ℕ) (x : X) → slice_get (xs ++ ys) m ≡ Some x → ((slice_get xs m ≡ Some x) × (take m (xs ++ ys) ≡ take m xs)) ⊎ ((j : ℕ) × (slice_get ys j ≡ Some x) × (take m (xs ++ ys) ≡ xs ++ take j ys))
slice_get_split [] ys m x h = inr (m, h, refl)
slice_get_split (y ∷ xs) ys zero x h = inl (h, refl)
slice_get_split (y ∷ xs) ys (suc m) x h =
    elim (slice_get_split xs ys m x h) [
      | inl e ↦ inl (e.0, ap (λ zs. y ∷ zs) e.1)
      | inr e ↦ inr (e.0, e.1, ap (λ zs. y ∷ zs) e.2)
    ]

-- where an element of the second list stands in both
pub at_second : {X : Type 0} (xs ys : List X) (m : ℕ) (x : X) → slice_get ys m ≡ Some x → (i : ℕ) × (slice_get (xs ++ ys) i ≡ Some x) × (take i (xs ++ ys) ≡ xs ++ take m ys)
at_second [] ys m x h = (m, h, refl)
at_second (y ∷ xs) ys m x h = let r = at_second xs ys m x h in (suc r.0, r.1, ap (λ zs. y ∷ zs) r.2)

pub in_front : {X : Type 0} (xs ys : List X) (m : ℕ) (x : X) → slice_get xs m ≡ Some x → (slice_get (xs ++ ys) m ≡ Some x) × (take m (xs ++ ys) ≡ take m xs)
in_front xs ys m x h = let within = slice_get_within xs m x h in (slice_get_left xs ys m x h, take-append-le m xs ys (omega arith))

-- the target of a request is one of the objects after it
pub target_count : (log : List Asked) (m : ℕ) (a : Asked) → slice_get log m ≡ Some a → a.target < count_after log
target_count log m a g =
    let now : count_after (take (suc m) log) ≡ max (count_after (take m log)) (suc a.target) = ap count_after (taken log m a g) ∙ count_push (take m log) a in
    let le = count_front (take (suc m) log) (drop (suc m) log) in
    let all = ap count_after (take-append-drop (suc m) log) in
    omega arith

pub count_at : (log : List Asked) (m : ℕ) → count_after (take m log) ≤ count_after log
count_at log m = let le = count_front (take m log) (drop m log) in let all = ap count_after (take-append-drop m log) in omega arith

more_target : (objs : List Object) (n c t : ℕ) (f : Found) → WentTo (take n objs) c t f → WentTo objs c t f
more_target objs n c t (Known i) p = p
more_target objs n c t (Brought o) p = (p.0, (slice_get-take n objs c o p.1).1)

less_target : (objs : List Object) (n c t : ℕ) (f : Found) → t < n → WentTo objs c t f → WentTo (take n objs) c t f
less_target objs n c t (Known i) b p = p
less_target objs n c t (Brought o) b p = let e : t ≡ c = p.0 in (e, slice_get_front n objs c o (omega arith) p.1)

-- what the log shows of the run that made it
pub record IsHistory {X : Type 0} (answer : List Object → List Asked → Request → Result Found X) (objs : List Object) (log : List Asked) : Type 0 where
  pub answered : (m : ℕ) (a : Asked) → slice_get log m ≡ Some a → IsAnswered answer objs (take m log) a
  pub whole : count_after log ≡ length objs

-- what was loaded and asked stays in front
pub record IsGrown (before after : Loaded) : Type 0 where
  pub objs : take (length before.objs) after.objs ≡ before.objs
  pub more : List Asked
  pub log : after.log ≡ before.log ++ more

module _ {X : Type 0} (answer : List Object → List Asked → Request → Result Found X) where
  pub more_answered : (objs : List Object) (n : ℕ) (before : List Asked) (a : Asked) → count_after before ≤ n → IsAnswered answer (take n objs) before a → IsAnswered answer objs before a
  more_answered objs n before a le r =
      record {
        asker = r.asker;
        found = r.found;
        found_is = ap (λ os. answer os before a.request) (sym (take_front (count_after before) n objs le)) ∙ r.found_is;
        target = more_target objs n (count_after before) a.target r.found r.target;
      }

  pub less_answered : (objs : List Object) (n : ℕ) (before : List Asked) (a : Asked) → count_after before ≤ n → a.target < n → IsAnswered answer objs before a → IsAnswered answer (take n objs) before a
  less_answered objs n before a le b r =
      record {
        asker = r.asker;
        found = r.found;
        found_is = ap (λ os. answer os before a.request) (take_front (count_after before) n objs le) ∙ r.found_is;
        target = less_target objs n (count_after before) a.target r.found b r.target;
      }

  phase_history : (before mid : Loaded) (o : List (List ℕ)) → IsHistory answer before.objs before.log → IsPhase answer before o mid → IsHistory answer mid.objs mid.log
  phase_history before mid o h p =
      record {
        whole = p.whole;
        answered = λ m a g.
            elim (slice_get_split before.log p.more m a (ap (λ xs. slice_get xs m) (sym p.log) ∙ g)) [
              | inl e ↦
                  let was : IsAnswered answer (take (length before.objs) mid.objs) (take m before.log) a = subst (λ (os : List Object). IsAnswered answer os (take m before.log) a) (sym p.objs) (h.answered m a e.0) in
                  let le = count_at before.log m in
                  let all = h.whole in
                  subst (λ (xs : List Asked). IsAnswered answer mid.objs xs a) (sym e.1 ∙ ap (take m) (sym p.log)) (more_answered mid.objs (length before.objs) (take m before.log) a (omega arith) was)
              | inr e ↦
                  subst (λ (xs : List Asked). IsAnswered answer mid.objs xs a) (sym e.2 ∙ ap (take m) (sym p.log)) (p.answered e.0 a e.1)
            ];
      }

  pub run_history : (os : List (List (List ℕ))) (before after : Loaded) → IsHistory answer before.objs before.log → IsRunFrom answer before os after → IsHistory answer after.objs after.log
  run_history [] before after h p = subst (λ (s : Loaded). IsHistory answer s.objs s.log) (sym p) h
  run_history (o ∷ os) before after h p = run_history os p.0 after (phase_history before p.0 o h p.1) p.2

  pub phase_size : (before mid : Loaded) (o : List (List ℕ)) → count_after before.log ≡ length before.objs → IsPhase answer before o mid → length before.objs ≤ length mid.objs
  phase_size before mid o even p =
      let le = count_front before.log p.more in
      let all = ap count_after p.log in
      let size = p.whole in
      omega arith

  pub run_grown : (os : List (List (List ℕ))) (before after : Loaded) → count_after before.log ≡ length before.objs → IsRunFrom answer before os after → IsGrown before after
  run_grown [] before after even p =
      record { objs = ap (λ (s : Loaded). take (length before.objs) s.objs) p ∙ take_all (length before.objs) before.objs (omega arith); more = []; log = ap (λ (s : Loaded). s.log) p ∙ sym (append-nil before.log) }
  run_grown (o ∷ os) before after even p =
      let rest = run_grown os p.0 after p.1.whole p.2 in
      record {
        objs = sym (take_front (length before.objs) (length p.0.objs) after.objs (phase_size before p.0 o even p.1)) ∙ ap (take (length before.objs)) rest.objs ∙ p.1.objs;
        more = p.1.more ++ rest.more;
        log = rest.log ∙ ap (λ xs. xs ++ rest.more) p.1.log ∙ append_assoc before.log p.1.more rest.more;
      }

  -- each object but the program was brought by a request that it is the next object of
  pub brought_by : (objs : List Object) (log : List Asked) → IsHistory answer objs log → (m j : ℕ) → m ≤ length log → 0 < j → j < count_after (take m log) → (i : ℕ) × (a : Asked) × (i < m) × (slice_get log i ≡ Some a) × (a.target ≡ j) × (count_after (take i log) ≡ j)
  unfolding count_from
  brought_by objs log hist zero j le some h = absurd (omega arith)
  brought_by objs log hist (suc m) j le some h =
      let a = there log m le in
      let r = hist.answered m a.0 a.1 in
      let now : count_after (take (suc m) log) ≡ max (count_after (take m log)) (suc a.0.target) = ap count_after (taken log m a.0 a.1) ∙ count_push (take m log) a.0 in
      let near : a.0.target ≤ count_after (take m log) = target_le objs (count_after (take m log)) a.0.target r.found r.target in
      elim (cases_lt j (count_after (take m log))) [
        | inl b ↦ let w = brought_by objs log hist m j (omega arith) some b in (w.0, w.1, omega arith, w.3, w.4, w.5)
        | inr b ↦ (m, a.0, omega arith, a.1, omega arith, omega arith)
      ]

  pub start_history : (program : Object) → IsHistory answer (program ∷ []) []
  unfolding count_from
  start_history program = record { answered = λ m a g. cc; whole = refl }
