-- Each need of each object is a request of it, and each opened name one of the program.
use Rattle.std.proofs.Common.{◌≡◌, ◌∙◌, sym, ap, refl, ℕ, zero, suc, ◌+◌, ◌-◌, ◌≤◌, List, [], ◌∷◌, Some, Result, length, drop, map, slice_get, arith, subst, inl, inr}
use Rattle.std.proofs.lemmas.Bool.{cases_lt}
use Rattle.std.proofs.lemmas.List.{append-nil}
use Rattle.load_model.specs.LoadList.{Object, Request, Asked, Found, Loaded, needs_from, requests_of, IsPhase, IsRunFrom, IsRun}
use Rattle.load_model.proofs.Counts.{slice_get_left}
use Rattle.load_model.proofs.Machine.{slice_get-drop}
use Rattle.load_model.proofs.Places.{slice_get_front}
use Rattle.load_model.proofs.History.{IsGrown, at_second, in_front, run_grown}

pub get_map : {X Y : Type 0} (f : X → Y) (xs : List X) (i : ℕ) (y : Y) → slice_get (map f xs) i ≡ Some y → (x : X) × (slice_get xs i ≡ Some x) × (y ≡ f x)
get_map f [] i y h = cc
get_map f (x ∷ xs) zero y h = (x, refl, let e : y ≡ f x = cc in e)
get_map f (x ∷ xs) (suc i) y h = get_map f xs i y h

pub map_get : {X Y : Type 0} (f : X → Y) (xs : List X) (i : ℕ) (x : X) → slice_get xs i ≡ Some x → slice_get (map f xs) i ≡ Some (f x)
map_get f [] i x h = cc
map_get f (y ∷ xs) zero x h = let e : y ≡ x = cc in ap (λ z. Some (f z)) e
map_get f (y ∷ xs) (suc i) x h = map_get f xs i x h

abbrev pub IsAsked : List Asked → ℕ → List ℕ → Type 0
IsAsked log k n = (m : ℕ) × (a : Asked) × (slice_get log m ≡ Some a) × (a.request ≡ record { by = k; name = n })

pub record AreAsked (objs : List Object) (log : List Asked) : Type 0 where
  pub asked : (k : ℕ) (o : Object) → slice_get objs k ≡ Some o → (e : ℕ) (n : List ℕ) → slice_get o.face.needs e ≡ Some n → IsAsked log k n

need_in : (i : ℕ) (os : List Object) (k : ℕ) (o : Object) → slice_get os k ≡ Some o → (e : ℕ) (n : List ℕ) → slice_get o.face.needs e ≡ Some n → (j : ℕ) × (slice_get (needs_from i os) j ≡ Some (record { by = i + k; name = n }))
need_in i [] k o h e n g = cc
need_in i (x ∷ os) zero o h e n g =
    let same : x ≡ o = cc in
    let here : slice_get x.face.needs e ≡ Some n = ap (λ (y : Object). slice_get y.face.needs e) same ∙ g in
    let z : i ≡ i + 0 = omega arith in (
      e,
      slice_get_left (map (λ n. record { by = i; name = n }) x.face.needs) (needs_from (suc i) os) e (record { by = i; name = n }) (map_get (λ n. record { by = i; name = n }) x.face.needs e n here)
          ∙ ap (λ k. Some (record { by = k; name = n })) z,
    )
need_in i (x ∷ os) (suc k) o h e n g =
    let r = need_in (suc i) os k o h e n g in
    let up : suc i + k ≡ i + suc k = omega arith in
    let w = at_second (map (λ n. record { by = i; name = n }) x.face.needs) (needs_from (suc i) os) r.0 (record { by = suc i + k; name = n }) r.1 in
    (w.0, w.1 ∙ ap (λ k. Some (record { by = k; name = n })) up)

module _ {X : Type 0} (answer : List Object → List Asked → Request → Result Found X) where
  module _ (before mid : Loaded) (o : List (List ℕ)) (p : IsPhase answer before o mid) where
    asked_of : (j k : ℕ) (n : List ℕ) → slice_get (requests_of o (length before.objs) mid.objs) j ≡ Some (record { by = k; name = n }) → IsAsked mid.log k n
    asked_of j k n h =
        let all : map (λ (a : Asked). a.request) p.more ≡ requests_of o (length before.objs) mid.objs = sym (append-nil (map (λ (a : Asked). a.request) p.more)) ∙ p.asked in
        let v = get_map (λ (a : Asked). a.request) p.more j (record { by = k; name = n }) (ap (λ rs. slice_get rs j) all ∙ h) in
        let w = at_second before.log p.more j v.0 v.1 in
        (w.0, v.0, ap (λ xs. slice_get xs w.0) p.log ∙ w.1, sym v.2)

    pub asked_opening : (e : ℕ) (n : List ℕ) → slice_get o e ≡ Some n → IsAsked mid.log 0 n
    asked_opening e n g =
        asked_of e 0 n (slice_get_left (map (λ n. record { by = 0; name = n }) o) (needs_from (length before.objs) (drop (length before.objs) mid.objs)) e (record { by = 0; name = n }) (map_get (λ n. record { by = 0; name = n }) o e n g))

    asked_new : (k : ℕ) (x : Object) → length before.objs ≤ k → slice_get mid.objs k ≡ Some x → (e : ℕ) (n : List ℕ) → slice_get x.face.needs e ≡ Some n → IsAsked mid.log k n
    asked_new k x le h e n g =
        let c : ℕ = length before.objs in
        let at : c + (k - c) ≡ k = omega arith in
        let here : slice_get (drop c mid.objs) (k - c) ≡ Some x = slice_get-drop c mid.objs (k - c) ∙ ap (slice_get mid.objs) at ∙ h in
        let r = need_in c (drop c mid.objs) (k - c) x here e n g in
        let w = at_second (map (λ n. record { by = 0; name = n }) o) (needs_from c (drop c mid.objs)) r.0 (record { by = c + (k - c); name = n }) r.1 in
        asked_of w.0 k n (w.1 ∙ ap (λ i. Some (record { by = i; name = n })) at)

    pub phase_asks : AreAsked before.objs before.log → AreAsked mid.objs mid.log
    phase_asks was =
        record {
          asked = λ k x h e n g.
              elim (cases_lt k (length before.objs)) [
                | inl b ↦
                    let old : slice_get before.objs k ≡ Some x = ap (λ os. slice_get os k) (sym p.objs) ∙ slice_get_front (length before.objs) mid.objs k x b h in
                    let a = was.asked k x old e n g in
                    let f = in_front before.log p.more a.0 a.1 a.2 in
                    (a.0, a.1, ap (λ xs. slice_get xs a.0) p.log ∙ f.0, a.3)
                | inr b ↦ asked_new k x b h e n g
              ];
        }

  run_asks : (os : List (List (List ℕ))) (before after : Loaded) → AreAsked before.objs before.log → IsRunFrom answer before os after → AreAsked after.objs after.log
  run_asks [] before after was p = subst (λ (s : Loaded). AreAsked s.objs s.log) (sym p) was
  run_asks (o ∷ os) before after was p = run_asks os p.0 after (phase_asks before p.0 o p.1 was) p.2

  first_asks : (program : Object) (mid : Loaded) → IsPhase answer (record { objs = program ∷ []; log = [] }) program.face.needs mid → AreAsked mid.objs mid.log
  first_asks program mid p =
      record {
        asked = λ k x h e n g.
            elim (cases_lt k 1) [
              | inl b ↦
                  let zero_is : k ≡ 0 = omega arith in
                  let start : slice_get (program ∷ []) 0 ≡ Some x = ap (λ os. slice_get os 0) (sym p.objs) ∙ slice_get_front 1 mid.objs 0 x (omega arith) (ap (slice_get mid.objs) (sym zero_is) ∙ h) in
                  let same : program ≡ x = cc in
                  let asked = asked_opening (record { objs = program ∷ []; log = [] }) mid program.face.needs p e n (ap (λ (y : Object). slice_get y.face.needs e) same ∙ g) in
                  (asked.0, asked.1, asked.2, asked.3 ∙ ap (λ (i : ℕ). record { by = i; name = n }) (sym zero_is))
              | inr b ↦ asked_new (record { objs = program ∷ []; log = [] }) mid program.face.needs p k x b h e n g
            ];
      }

  pub all_asked : (program : Object) (opens : List (List ℕ)) (run : Loaded) → IsRun answer program opens run → AreAsked run.objs run.log
  all_asked program opens run p = run_asks (map (λ n. n ∷ []) opens) p.0 run (first_asks program p.0 p.1) p.2

  later_asked : (mid after : Loaded) (k : ℕ) (n : List ℕ) → IsGrown mid after → IsAsked mid.log k n → IsAsked after.log k n
  later_asked mid after k n grown a =
      let f = in_front mid.log grown.more a.0 a.1 a.2 in
      (a.0, a.1, ap (λ xs. slice_get xs a.0) grown.log ∙ f.0, a.3)

  opened_from : (opens : List (List ℕ)) (before after : Loaded) → IsRunFrom answer before (map (λ n. n ∷ []) opens) after → (k : ℕ) (n : List ℕ) → slice_get opens k ≡ Some n → IsAsked after.log 0 n
  opened_from [] before after p k n g = cc
  opened_from (x ∷ opens) before after p zero n g =
      let same : x ≡ n = cc in
      later_asked p.0 after 0 n (run_grown answer (map (λ n. n ∷ []) opens) p.0 after p.1.whole p.2) (asked_opening before p.0 (x ∷ []) p.1 0 n (ap Some same))
  opened_from (x ∷ opens) before after p (suc k) n g = opened_from opens p.0 after p.2 k n g

  pub opened_asked : (program : Object) (opens : List (List ℕ)) (run : Loaded) → IsRun answer program opens run → (k : ℕ) (n : List ℕ) → slice_get opens k ≡ Some n → IsAsked run.log 0 n
  opened_asked program opens run p k n g = opened_from opens p.0 run p.2 k n g
