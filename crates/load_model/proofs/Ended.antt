-- The ends of the phases of a run.
use Rattle.std.proofs.Common.{◌≡◌, ◌∙◌, sym, ap, refl, ℕ, ◌≤◌, ◌<◌, List, [], ◌∷◌, Result, Ok, Err, length, arith, subst, inl, inr}
use Rattle.load_model.specs.LoadList.{Object, Request, Asked, Found, Loaded, count_after, IsSound, IsRunFrom, IsEndedFrom, next, phase, run_from, ends_from}
use Rattle.load_model.proofs.OneRun.{one_phase}
use Rattle.load_model.proofs.Machine.{next_ok, next_err, phase_is, longer}

module _ {X : Type 0} (answer : List Object → List Asked → Request → Result Found X) where
  pub run_of_ends : (os : List (List (List ℕ))) (before after : Loaded) (ends : List Loaded) → IsEndedFrom answer before os after ends → IsRunFrom answer before os after
  run_of_ends [] before after [] p = p
  run_of_ends [] before after (end ∷ ends) p = absurd p
  run_of_ends (o ∷ os) before after [] p = absurd p
  run_of_ends (o ∷ os) before after (end ∷ ends) p = (end, p.0, run_of_ends os end after ends p.1)

  pub one_end : (os : List (List (List ℕ))) (before a b : Loaded) (es fs : List Loaded) → count_after before.log ≡ length before.objs → IsEndedFrom answer before os a es → IsEndedFrom answer before os b fs → es ≡ fs
  one_end [] before a b [] [] even p q = refl
  one_end [] before a b [] (f ∷ fs) even p q = absurd q
  one_end [] before a b (e ∷ es) fs even p q = absurd p
  one_end (o ∷ os) before a b [] fs even p q = absurd p
  one_end (o ∷ os) before a b (e ∷ es) [] even p q = absurd q
  one_end (o ∷ os) before a b (e ∷ es) (f ∷ fs) even p q =
      let mid : f ≡ e = one_phase answer before o even f e q.0 p.0 in
      let rest : es ≡ fs = one_end os e a b es fs p.0.whole p.1 (subst (λ (s : Loaded). IsEndedFrom answer s os b fs) mid q.1) in
      ap (λ s. s ∷ es) (sym mid) ∙ ap (λ xs. f ∷ xs) rest

  -- the recursion for the ends stops where the run does
  pub ends_stop : (limit : ℕ) (os : List (List (List ℕ))) (before : Loaded) (stop : X) → ends_from answer limit before os ≡ Err stop → run_from answer limit before os ≡ Err stop
  ends_stop limit [] before stop h = cc
  ends_stop limit (o ∷ os) before stop h =
      elim (next_err (phase answer limit before o) (λ t. next (ends_from answer limit t os) (λ ends. Ok (t ∷ ends))) stop h) [
        | inl w ↦ ap (λ r. next r (λ t. run_from answer limit t os)) w
        | inr two ↦
            elim (next_err (ends_from answer limit two.0 os) (λ ends. Ok (two.0 ∷ ends)) stop two.2) [
              | inl v ↦ ap (λ r. next r (λ t. run_from answer limit t os)) two.1 ∙ ends_stop limit os two.0 stop v
              | inr v ↦ let e = v.2 in cc
            ]
      ]

  pub ends_run : (limit : ℕ) (os : List (List (List ℕ))) (before : Loaded) (ends : List Loaded) → ends_from answer limit before os ≡ Ok ends → (after : Loaded) × (run_from answer limit before os ≡ Ok after)
  ends_run limit [] before ends h = (before, refl)
  ends_run limit (o ∷ os) before ends h =
      let two = next_ok (phase answer limit before o) (λ t. next (ends_from answer limit t os) (λ xs. Ok (t ∷ xs))) ends h in
      let three = next_ok (ends_from answer limit two.0 os) (λ xs. Ok (two.0 ∷ xs)) ends two.2 in
      let rest = ends_run limit os two.0 three.0 three.1 in
      (rest.0, ap (λ r. next r (λ t. run_from answer limit t os)) two.1 ∙ rest.1)

  module _ (limit : ℕ) (sound : IsSound answer limit) where
    pub ended_is : (os : List (List (List ℕ))) (before after : Loaded) (ends : List Loaded) → count_after before.log ≡ length before.objs → 0 < length before.objs → length before.objs ≤ limit → run_from answer limit before os ≡ Ok after → ends_from answer limit before os ≡ Ok ends → IsEndedFrom answer before os after ends
    ended_is [] before after ends even some short h e =
        let none : [] ≡ ends = cc in
        let last : after ≡ before = cc in
        subst (λ (xs : List Loaded). IsEndedFrom answer before [] after xs) none last
    ended_is (o ∷ os) before after ends even some short h e =
        let run = next_ok (phase answer limit before o) (λ t. run_from answer limit t os) after h in
        let two = next_ok (phase answer limit before o) (λ t. next (ends_from answer limit t os) (λ xs. Ok (t ∷ xs))) ends e in
        let three = next_ok (ends_from answer limit two.0 os) (λ xs. Ok (two.0 ∷ xs)) ends two.2 in
        let both : Ok run.0 ≡ Ok two.0 = sym run.1 ∙ two.1 in
        let mid : run.0 ≡ two.0 = cc in
        let more : run_from answer limit two.0 os ≡ Ok after = ap (λ s. run_from answer limit s os) (sym mid) ∙ run.2 in
        let one = phase_is answer limit sound before two.0 o even some short two.1 in
        let le = longer answer limit sound before two.0 o one.0 in
        let all : two.0 ∷ three.0 ≡ ends = let s = three.2 in cc in
        subst (λ (xs : List Loaded). IsEndedFrom answer before (o ∷ os) after xs) all
        (one.0, ended_is os two.0 after three.0 one.0.whole (omega arith) one.1 more three.1)
