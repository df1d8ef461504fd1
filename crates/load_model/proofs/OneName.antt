-- In a run all requests of a name go to one object.
use Rattle.std.proofs.Common.{◌≡◌, ◌∙◌, sym, ap, refl, ℕ, zero, suc, ◌+◌, ◌≤◌, ◌<◌, List, [], ◌∷◌, Bool, true, false, cond, Option, Some, None, Result, Ok, length, take, slice_get, arith, ◌⊎◌, inl, inr, ◌&&◌, ◌==◌}
use Rattle.std.specs.Str.{bytes_eq}
use Rattle.std.proofs.lemmas.Bool.{or_right, cases_Bool, cases_lt, both_ways}
use Rattle.std.specs.List.{list_any}
use Rattle.std.proofs.lemmas.Cmp.{nat_list_eq_equiv}
use Rattle.std.proofs.lemmas.Option.{slice_get_within}
use Rattle.load_model.specs.LoadList.{Object, Request, Asked, Found, Known, Brought, count_after, WentTo, IsAnswered, is_named, is_known, first_place, by_name, found_for}
use Rattle.load_model.specs.Runs.{target_in}
use Rattle.load_model.proofs.OneRun.{there}
use Rattle.load_model.proofs.Places.{slice_get-take, slice_get_front, none_passes}
use Rattle.load_model.proofs.TwoWorlds.{same_bytes, target_le, known_cases, known_by}
use Rattle.load_model.proofs.History.{IsHistory, target_count, count_at}

pub record IsFirst (test : ℕ → Object → Bool) (k t : ℕ) (os : List Object) : Type 0 where
  pub place : ℕ
  pub place_is : t ≡ k + place
  pub object : Object
  pub object_is : slice_get os place ≡ Some object
  pub passes : test t object ≡ true
  pub least : (j : ℕ) (y : Object) → slice_get os j ≡ Some y → test (k + j) y ≡ true → place ≤ j

least_more : (test : ℕ → Object → Bool) (k : ℕ) (o : Object) (os : List Object) (d : ℕ) → test k o ≡ false → ((j : ℕ) (y : Object) → slice_get os j ≡ Some y → test (suc k + j) y ≡ true → d ≤ j) → (j : ℕ) (y : Object) → slice_get (o ∷ os) j ≡ Some y → test (k + j) y ≡ true → suc d ≤ j
least_more test k o os d e least zero y g p =
    let z : k ≡ k + 0 = omega arith in
    let same : o ≡ y = cc in
    absurd (both_ways (test k o) e (ap (test k) same ∙ ap (λ i. test i y) z ∙ p))
least_more test k o os d e least (suc j) y g p =
    let up : suc k + j ≡ k + suc j = omega arith in
    let rest = least j y g (ap (λ i. test i y) up ∙ p) in
    omega arith

first_cases : (test : ℕ → Object → Bool) (k t : ℕ) (o : Object) (os : List Object) (b : Bool) → test k o ≡ b → cond b (Some k) (first_place test (suc k) os) ≡ Some t → (first_place test (suc k) os ≡ Some t → IsFirst test (suc k) t os) → IsFirst test k t (o ∷ os)
first_cases test k t o os true e h rest =
    let at : k ≡ t = cc in
    record { place = 0; place_is = omega arith; object = o; object_is = refl; passes = ap (λ i. test i o) (sym at) ∙ e; least = λ j y g p. omega arith }
first_cases test k t o os false e h rest =
    let r = rest h in
    let at = r.place_is in
    let least : (j : ℕ) (y : Object) → slice_get (o ∷ os) j ≡ Some y → test (k + j) y ≡ true → suc r.place ≤ j = least_more test k o os r.place e r.least in
    record { place = suc r.place; place_is = omega arith; object = r.object; object_is = r.object_is; passes = r.passes; least = least }

first_at : (test : ℕ → Object → Bool) (k t : ℕ) (os : List Object) → first_place test k os ≡ Some t → IsFirst test k t os
first_at test k t [] h = cc
first_at test k t (o ∷ os) h = first_cases test k t o os (test k o) refl h (λ g. first_at test (suc k) t os g)

module _ {X : Type 0} (too_many : X) (limit : ℕ) (search : List Object → List Asked → Request → Result Object X) where
  known_name : (objs : List Object) (log : List Asked) (r : Request) (f : Found) (p : Option ℕ) → by_name too_many limit search objs log r p ≡ Ok f → (p ≡ None) ⊎ ((t : ℕ) × (p ≡ Some t) × (f ≡ Known t))
  known_name objs log r f None h = inl refl
  known_name objs log r f (Some t) h = inr (t, refl, let e : f ≡ Known t = cc in e)

  known_or_not : (objs : List Object) (log : List Asked) (r : Request) (f : Found) → found_for too_many limit search objs log r ≡ Ok f → (first_place (is_known log r.name) 0 objs ≡ None) ⊎ ((t : ℕ) × (first_place (is_known log r.name) 0 objs ≡ Some t) × (f ≡ Known t))
  unfolding found_for
  known_or_not objs log r f h = known_name objs log r f (first_place (is_known log r.name) 0 objs) h

  known_target : (objs : List Object) (c u : ℕ) (f : Found) (t : ℕ) → f ≡ Known t → WentTo objs c u f → u ≡ t
  known_target objs c u (Known i) t e p = let same : i ≡ t = cc in let at : u ≡ i = p.0 in omega arith
  known_target objs c u (Brought o) t e p = cc

  -- an object for which the name of a request is known at that point: the target is it, or one before it
  no_later : (objs : List Object) (before : List Asked) (a : Asked) → IsAnswered (found_for too_many limit search) objs before a → (j : ℕ) (x : Object) → j < count_after before → slice_get objs j ≡ Some x → is_known before a.request.name j x ≡ true → IsFirst (is_known before a.request.name) 0 a.target (take (count_after before) objs) × (a.target ≤ j)
  no_later objs before a r j x b g k =
      let c = count_after before in
      let front = slice_get_front c objs j x b g in
      let z : j ≡ 0 + j = omega arith in
      elim (known_or_not (take c objs) before a.request r.found r.found_is) [
        | inl none ↦ absurd (both_ways (is_known before a.request.name j x) (none_passes (is_known before a.request.name) (take c objs) none j x front) k)
        | inr w ↦
            let at : a.target ≡ w.0 = known_target objs c a.target r.found w.0 w.2 r.target in
            let first : IsFirst (is_known before a.request.name) 0 a.target (take c objs) = first_at (is_known before a.request.name) 0 a.target (take c objs) (w.1 ∙ ap Some (sym at)) in
            let place = first.place_is in
            let least = first.least j x front (ap (λ i. is_known before a.request.name i x) (sym z) ∙ k) in
            (first, omega arith)
      ]

  module _ (objs : List Object) (log : List Asked) (h : IsHistory (found_for too_many limit search) objs log) where
    abbrev IsOneBelow : ℕ → Type 0
    IsOneBelow m = (i j : ℕ) (a b : Asked) → i < m → j < m → slice_get log i ≡ Some a → slice_get log j ≡ Some b → a.request.name ≡ b.request.name → a.target ≡ b.target

    -- the first place for which the name is known at m is the target of an earlier request of it
    no_earlier : (m i : ℕ) (a b : Asked) → IsOneBelow m → i < m → m ≤ length log → slice_get log i ≡ Some a → slice_get log m ≡ Some b → a.request.name ≡ b.request.name → (t : ℕ) (x : Object) → slice_get objs t ≡ Some x → t < a.target → is_known (take m log) b.request.name t x ≡ true → ⊥
    no_earlier m i a b one less le ga gb same t x gx below k =
        elim (known_cases (take m log) b.request.name t x k) [
          | inl w ↦
              let old = slice_get-take m log w.0 w.1 w.2 in
              let in_m : w.0 < m = old.0 in
              let e : a.target ≡ w.1.target = one i w.0 a w.1 less in_m ga old.1 (same ∙ sym w.3) in
              let at : w.1.target ≡ t = w.4 in
              omega arith
          | inr named ↦
              let r = h.answered i a ga in
              let near : a.target ≤ count_after (take i log) = target_le objs (count_after (take i log)) a.target r.found r.target in
              let known : is_known (take i log) a.request.name t x ≡ true =
              or_right (list_any (λ (y : Asked). bytes_eq y.request.name a.request.name && (y.target == t)) (take i log)) (is_named x.face.soname a.request.name) (ap (is_named x.face.soname) same ∙ named) in
              let w = no_later objs (take i log) a r t x (omega arith) gx known in
              let no : a.target ≤ t = w.1 in
              omega arith
        ]

    one_more : (m i : ℕ) (a b : Asked) → IsOneBelow m → i < m → m ≤ length log → slice_get log i ≡ Some a → slice_get log m ≡ Some b → a.request.name ≡ b.request.name → a.target ≡ b.target
    one_more m i a b one less le ga gb same =
        let r = h.answered m b gb in
        let inside : a.target < count_after (take m log) = target_count (take m log) i a (slice_get_front m log i a less ga) in
        let all = h.whole in
        let most = count_at log m in
        let x = there objs a.target (omega arith) in
        let known = known_by (take m log) b.request.name a.target i a x.0 (slice_get_front m log i a less ga) same refl in
        let w = no_later objs (take m log) b r a.target x.0 inside x.1 known in
        let f : IsFirst (is_known (take m log) b.request.name) 0 b.target (take (count_after (take m log)) objs) = w.0 in
        let no_more : b.target ≤ a.target = w.1 in
        let place = f.place_is in
        let at : b.target ≡ f.place = omega arith in
        let gx : slice_get objs b.target ≡ Some f.object = ap (slice_get objs) at ∙ (slice_get-take (count_after (take m log)) objs f.place f.object f.object_is).1 in
        let no_less : b.target < a.target → ⊥ = λ below. no_earlier m i a b one less le ga gb same b.target f.object gx below f.passes in
        omega arith

    one_below : (m : ℕ) → m ≤ length log → IsOneBelow m
    one_below zero le i j a b li lj ga gb same = absurd (omega arith)
    one_below (suc m) le i j a b li lj ga gb same =
        elim (cases_lt i m) [
          | inl bi ↦ elim (cases_lt j m) [
            | inl bj ↦ one_below m (omega arith) i j a b bi bj ga gb same
            | inr bj ↦
                let e : j ≡ m = omega arith in
                one_more m i a b (one_below m (omega arith)) bi (omega arith) ga (ap (slice_get log) (sym e) ∙ gb) same
          ]
          | inr bi ↦
              let d : i ≡ m = omega arith in
              let ga_m : slice_get log m ≡ Some a = ap (slice_get log) (sym d) ∙ ga in
              elim (cases_lt j m) [
                | inl bj ↦ sym (one_more m j b a (one_below m (omega arith)) bj (omega arith) gb ga_m (sym same))
                | inr bj ↦
                    let e : i ≡ j = omega arith in
                    let one : Some a ≡ Some b = sym ga ∙ ap (slice_get log) e ∙ gb in
                    cc
              ]
        ]

    pub one_name : (i j : ℕ) (a b : Asked) → slice_get log i ≡ Some a → slice_get log j ≡ Some b → a.request.name ≡ b.request.name → a.target ≡ b.target
    one_name i j a b ga gb same =
        one_below (length log) (omega arith) i j a b (slice_get_within log i a ga) (slice_get_within log j b gb) ga gb same

-- the function that looks for a name gives the target of each request of it
pub first_in : (log : List Asked) (n : List ℕ) (t : ℕ) → ((i : ℕ) (a : Asked) → slice_get log i ≡ Some a → a.request.name ≡ n → a.target ≡ t) → (m : ℕ) (a : Asked) → slice_get log m ≡ Some a → a.request.name ≡ n → target_in log n ≡ t
unfolding target_in
first_in [] n t all m a g e = cc
first_in (x ∷ log) n t all zero a g e =
    let same : x ≡ a = cc in
    let test : bytes_eq x.request.name n ≡ true = ap (λ (y : Asked). bytes_eq y.request.name n) same ∙ ap (λ k. bytes_eq k n) e ∙ nat_list_eq_equiv.refl n in
    ap (λ b. cond b x.target (target_in log n)) test ∙ all 0 x refl (ap (λ (y : Asked). y.request.name) same ∙ e)
first_in (x ∷ log) n t all (suc m) a g e =
    elim (cases_Bool (bytes_eq x.request.name n)) [
      | inl y ↦ ap (λ b. cond b x.target (target_in log n)) y ∙ all 0 x refl (same_bytes x.request.name n y)
      | inr y ↦ ap (λ b. cond b x.target (target_in log n)) y ∙ first_in log n t (λ i b h k. all (suc i) b h k) m a g e
    ]
