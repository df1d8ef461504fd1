-- The same run in two worlds.
use Rattle.std.proofs.Common.{◌≡◌, ◌∙◌, sym, ap, refl, ℕ, zero, suc, ◌+◌, ◌-◌, ◌≤◌, ◌<◌, List, [], ◌∷◌, ◌++◌, true, false, cond, Option, Some, None, Result, Ok, Err, length, take, drop, map, max, slice_get, arith, subst, ◌⊎◌, inl, inr, ◌&&◌, ◌==◌, nat_lt}
use Rattle.std.specs.List.{list_any}
use Rattle.std.specs.Str.{bytes_eq}
use Rattle.std.proofs.lemmas.Bool.{or_left, or_cases, and_parts, and_from, cases_Bool, cases_lt, both_ways, eqb-true, eq-eqb}
use Rattle.std.specs.Cmp.Lexicographic.{same_text}
use Rattle.std.proofs.lemmas.Cmp.{nat_list_eq_equiv}
use Rattle.std.proofs.lemmas.List.{take-append-drop, length-take-le, length-drop}
use Rattle.std.proofs.lemmas.Option.{slice_get_within}
use Rattle.load_model.specs.LoadList.{Object, Request, Asked, Found, Known, Brought, Loaded, count_from, count_after, needs_from, WentTo, IsAnswered, IsPhase, IsRun, is_named, is_known, first_place, by_id, by_search, by_name, found_for, GoesByKey, AreAlike}
use Rattle.load_model.proofs.Counts.{count_push, count_front}
use Rattle.load_model.proofs.OneRun.{taken, there}
use Rattle.load_model.proofs.Machine.{slice_get-drop}
use Rattle.load_model.proofs.Places.{any_here, any_place, slice_get-take, slice_get_front, first_none, first_some, none_passes}

pub same_bytes : (xs ys : List ℕ) → bytes_eq xs ys ≡ true → xs ≡ ys
same_bytes xs ys h = same_text xs ys (sym h)

pub target_le : (objs : List Object) (c t : ℕ) (f : Found) → WentTo objs c t f → t ≤ c
target_le objs c t (Known i) p = let e : t ≡ i = p.0 in let b : i < c = p.1 in omega arith
target_le objs c t (Brought o) p = let e : t ≡ c = p.0 in omega arith

-- the name is known by an earlier request, or by the soname
pub known_cases : (log : List Asked) (n : List ℕ) (j : ℕ) (o : Object) → is_known log n j o ≡ true → ((i : ℕ) × (a : Asked) × (slice_get log i ≡ Some a) × (a.request.name ≡ n) × (a.target ≡ j)) ⊎ (is_named o.face.soname n ≡ true)
known_cases log n j o h =
    elim (or_cases (list_any (λ (a : Asked). bytes_eq a.request.name n && (a.target == j)) log) (is_named o.face.soname n) h) [
      | inl t ↦
          let w = any_place (λ (a : Asked). bytes_eq a.request.name n && (a.target == j)) log t in
          let parts = and_parts (bytes_eq w.1.request.name n) (w.1.target == j) w.3 in
          inl (w.0, w.1, w.2, same_bytes w.1.request.name n parts.0, eqb-true w.1.target j parts.1)
      | inr t ↦ inr t
    ]

pub known_by : (log : List Asked) (n : List ℕ) (j i : ℕ) (a : Asked) (o : Object) → slice_get log i ≡ Some a → a.request.name ≡ n → a.target ≡ j → is_known log n j o ≡ true
known_by log n j i a o g name at =
    let test : bytes_eq a.request.name n ≡ true = ap (λ m. bytes_eq m n) name ∙ nat_list_eq_equiv.refl n in
    or_left (list_any (λ (x : Asked). bytes_eq x.request.name n && (x.target == j)) log) (is_named o.face.soname n)
    (any_here (λ (x : Asked). bytes_eq x.request.name n && (x.target == j)) log i a g (and_from (bytes_eq a.request.name n) (a.target == j) test (eq-eqb a.target j at)))

module _ {X : Type 0} (too_many : X) (limit : ℕ) (search_here : List Object → List Asked → Request → Result Object X) where
  brought_id : (objs : List Object) (o q : Object) (p : Option ℕ) → by_id too_many limit search_here objs o p ≡ Ok (Brought q) → nat_lt (length objs) limit ≡ true
  brought_id objs o q (Some j) h = let e : Known j ≡ Brought q = cc in cc
  brought_id objs o q None h = elim (cases_Bool (nat_lt (length objs) limit)) [
    | inl t ↦ t
    | inr t ↦ let e : ◌≡◌ {A = Result Found X} (Err too_many) (Ok (Brought q)) = sym (ap (λ b. cond b (Ok (Brought o)) (Err too_many)) t) ∙ h in cc
  ]

  brought_search : (objs : List Object) (q : Object) (s : Result Object X) → by_search too_many limit search_here objs s ≡ Ok (Brought q) → nat_lt (length objs) limit ≡ true
  brought_search objs q (Err r) h = cc
  brought_search objs q (Ok o) h = brought_id objs o q (first_place (λ j x. bytes_eq x.id o.id) 0 objs) h

  brought_name : (objs : List Object) (log : List Asked) (r : Request) (q : Object) (p : Option ℕ) → by_name too_many limit search_here objs log r p ≡ Ok (Brought q) → (p ≡ None) × (nat_lt (length objs) limit ≡ true)
  brought_name objs log r q (Some j) h = let e : Known j ≡ Brought q = cc in cc
  brought_name objs log r q None h = (refl, brought_search objs q (search_here objs log r) h)

  -- an object is brought by a name by which no other is known, and where there is room
  pub brought_new : (objs : List Object) (log : List Asked) (r : Request) (q : Object) → found_for too_many limit search_here objs log r ≡ Ok (Brought q) → (first_place (is_known log r.name) 0 objs ≡ None) × (nat_lt (length objs) limit ≡ true)
  unfolding found_for
  brought_new objs log r q h = brought_name objs log r q (first_place (is_known log r.name) 0 objs) h

  pub by_known : (objs : List Object) (log : List Asked) (r : Request) (t : ℕ) → first_place (is_known log r.name) 0 objs ≡ Some t → found_for too_many limit search_here objs log r ≡ Ok (Known t)
  unfolding found_for
  by_known objs log r t h = ap (λ p. by_name too_many limit search_here objs log r p) h

  pub by_new : (objs : List Object) (log : List Asked) (r : Request) (o : Object) → first_place (is_known log r.name) 0 objs ≡ None → search_here objs log r ≡ Ok o → first_place (λ j x. bytes_eq x.id o.id) 0 objs ≡ None → nat_lt (length objs) limit ≡ true → found_for too_many limit search_here objs log r ≡ Ok (Brought o)
  unfolding found_for
  by_new objs log r o h s i room =
      ap (λ p. by_name too_many limit search_here objs log r p) h ∙ ap (λ x. by_search too_many limit search_here objs x) s ∙ ap (λ p. by_id too_many limit search_here objs o p) i ∙ ap (λ b. cond b (Ok (Brought o)) (Err too_many)) room

pub named_some : (s : Option (List ℕ)) (n : List ℕ) → is_named s n ≡ true → (t : List ℕ) × (s ≡ Some t) × (t ≡ n)
named_some None n h = cc
named_some (Some t) n h = (t, refl, same_bytes t n h)

same_needs : (i : ℕ) (xs ys : List Object) → length xs ≡ length ys → ((j : ℕ) (x y : Object) → slice_get xs j ≡ Some x → slice_get ys j ≡ Some y → x.face.needs ≡ y.face.needs) → needs_from i xs ≡ needs_from i ys
same_needs i [] [] e h = refl
same_needs i [] (y ∷ ys) e h = absurd (omega arith)
same_needs i (x ∷ xs) [] e h = absurd (omega arith)
same_needs i (x ∷ xs) (y ∷ ys) e h =
    ap (λ ns. map (λ n. record { by = i; name = n }) ns ++ needs_from (suc i) xs) (h 0 x y refl refl)
    ∙ ap (λ rs. map (λ n. record { by = i; name = n }) y.face.needs ++ rs) (same_needs (suc i) xs ys (omega arith) (λ j a b g k. h (suc j) a b g k))

pub front_one : (xs : List Object) (q : Object) → slice_get xs 0 ≡ Some q → take 1 xs ≡ q ∷ []
front_one [] q h = cc
front_one (x ∷ xs) q h = let e : x ≡ q = cc in ap (λ y. y ∷ []) e

module _ {X : Type 0} (too_many : X) (limit : ℕ) (search_here search_there : List Object → List Asked → Request → Result Object X) (key : Object → List ℕ) (objs objs_there : List Object) (log : List Asked) (answered : (m : ℕ) (a : Asked) → slice_get log m ≡ Some a → IsAnswered (found_for too_many limit search_here) objs (take m log) a) (goes : GoesByKey key objs log) (size : count_after log ≡ length objs) where
  count_at : (m : ℕ) → count_after (take m log) ≤ length objs
  count_at m = let le = count_front (take m log) (drop m log) in let all = ap count_after (take-append-drop m log) in omega arith

  -- each object but the program was brought by a request that it is the next object of
  pub brought_by : (m j : ℕ) → m ≤ length log → 0 < j → j < count_after (take m log) → (i : ℕ) × (a : Asked) × (i < m) × (slice_get log i ≡ Some a) × (a.target ≡ j) × (count_after (take i log) ≡ j)
  unfolding count_from
  brought_by zero j le some h = absurd (omega arith)
  brought_by (suc m) j le some h =
      let a = there log m le in
      let r = answered m a.0 a.1 in
      let now : count_after (take (suc m) log) ≡ max (count_after (take m log)) (suc a.0.target) = ap count_after (taken log m a.0 a.1) ∙ count_push (take m log) a.0 in
      let near : a.0.target ≤ count_after (take m log) = target_le objs (count_after (take m log)) a.0.target r.found r.target in
      elim (cases_lt j (count_after (take m log))) [
        | inl b ↦ let w = brought_by m j (omega arith) some b in (w.0, w.1, omega arith, w.3, w.4, w.5)
        | inr b ↦ (m, a.0, omega arith, a.1, omega arith, omega arith)
      ]

  apart_found : (i' i : ℕ) (a : Asked) (x : Object) (f : Found) → slice_get log i' ≡ Some a → i' ≤ length log → 0 < i → i < a.target → a.target ≡ count_after (take i' log) → slice_get objs i ≡ Some x → key x ≡ a.request.name → found_for too_many limit search_here (take (count_after (take i' log)) objs) (take i' log) a.request ≡ Ok f → WentTo objs (count_after (take i' log)) a.target f → ⊥
  apart_found i' i a x (Known k) g le some below here gx same is t =
      let e : a.target ≡ k = t.0 in
      let b : k < count_after (take i' log) = t.1 in
      omega arith
  apart_found i' i a x (Brought o) g le some below here gx same is t =
      let c = count_after (take i' log) in
      let new = brought_new too_many limit search_here (take c objs) (take i' log) a.request o is in
      let fails = none_passes (is_known (take i' log) a.request.name) (take c objs) new.0 i x (slice_get_front c objs i x (omega arith) gx) in
      let w = brought_by i' i le some (omega arith) in
      let k = goes.by_key w.0 w.1 w.3 in
      let obj : slice_get objs i ≡ Some k.0 = ap (slice_get objs) (sym w.4) ∙ k.1 in
      let one : Some x ≡ Some k.0 = sym gx ∙ obj in
      let same_obj : x ≡ k.0 = cc in
      let name : w.1.request.name ≡ a.request.name = sym k.3 ∙ ap key (sym same_obj) ∙ same in
      let passes = known_by (take i' log) a.request.name i w.0 w.1 x (slice_get_front i' log w.0 w.1 w.2 w.3) name w.4 in
      both_ways (is_known (take i' log) a.request.name i x) fails passes

  -- two objects have two keys
  keys_apart : (m i j : ℕ) (x y : Object) → m ≤ length log → 0 < i → i < j → j < count_after (take m log) → slice_get objs i ≡ Some x → slice_get objs j ≡ Some y → key x ≡ key y → ⊥
  keys_apart m i j x y le some less below gx gy same =
      let w = brought_by m j le (omega arith) below in
      let a : Asked = w.1 in
      let k = goes.by_key w.0 a w.3 in
      let obj : slice_get objs j ≡ Some k.0 = ap (slice_get objs) (sym w.4) ∙ k.1 in
      let one : Some y ≡ Some k.0 = sym gy ∙ obj in
      let same_obj : y ≡ k.0 = cc in
      let r = answered w.0 a w.3 in
      apart_found w.0 i a x r.found w.3 (omega arith) some (omega arith) (w.4 ∙ sym w.5) gx (same ∙ ap key same_obj ∙ k.3) r.found_is r.target

  module _ (alike : AreAlike search_there key objs objs_there) where
    named_there : (j : ℕ) (n : List ℕ) (x y : Object) → slice_get objs j ≡ Some x → slice_get objs_there j ≡ Some y → is_named y.face.soname n ≡ true → (0 < j) × (key x ≡ n)
    named_there zero n x y gx gy t =
        let w = named_some y.face.soname n t in
        let no : Some w.0 ≡ None = sym w.1 ∙ (alike.program x y gx gy).1 in
        cc
    named_there (suc j) n x y gx gy t =
        let w = named_some y.face.soname n t in
        let is = (alike.others (suc j) x y (omega arith) gx gy).soname w.0 w.1 in
        (omega arith, sym is ∙ w.2)

    -- a name that is known there is the object's key
    known_there : (m j : ℕ) (n : List ℕ) (x y : Object) → slice_get objs j ≡ Some x → slice_get objs_there j ≡ Some y → is_known (take m log) n j y ≡ true → (0 < j) × (key x ≡ n)
    known_there m j n x y gx gy h =
        elim (known_cases (take m log) n j y h) [
          | inl w ↦
              let old = slice_get-take m log w.0 w.1 w.2 in
              let k = goes.by_key w.0 w.1 old.1 in
              let obj : slice_get objs j ≡ Some k.0 = ap (slice_get objs) (sym w.4) ∙ k.1 in
              let one : Some x ≡ Some k.0 = sym gx ∙ obj in
              let same : x ≡ k.0 = cc in
              let some : 0 < w.1.target = k.2 in
              let at : w.1.target ≡ j = w.4 in
              (omega arith, ap key same ∙ k.3 ∙ w.3)
          | inr t ↦ named_there j n x y gx gy t
        ]

    room : (m : ℕ) (a : Asked) (f : Found) → found_for too_many limit search_here (take (count_after (take m log)) objs) (take m log) a.request ≡ Ok f → WentTo objs (count_after (take m log)) a.target f → count_after (take m log) ≤ a.target → nat_lt (count_after (take m log)) limit ≡ true
    room m a (Known k) is t past = let e : a.target ≡ k = t.0 in let b : k < count_after (take m log) = t.1 in absurd (omega arith)
    room m a (Brought o) is t past =
        let c = count_after (take m log) in
        ap (λ n. nat_lt n limit) (sym (length-take-le c objs (count_at m))) ∙ (brought_new too_many limit search_here (take c objs) (take m log) a.request o is).1

    -- the key is known for one object alone
    only_key : (m : ℕ) (a : Asked) → slice_get log m ≡ Some a → (j : ℕ) (y : Object) → j < count_after (take m log) → slice_get objs_there j ≡ Some y → is_known (take m log) a.request.name j y ≡ true → j ≡ a.target
    only_key m a g j y below gy known =
        let k = goes.by_key m a g in
        let le : m < length log = slice_get_within log m a g in
        let c = count_at m in
        let x = there objs j (omega arith) in
        let w = known_there m j a.request.name x.0 y x.1 gy known in
        let same : key x.0 ≡ key k.0 = w.1 ∙ sym k.3 in
        let r = answered m a g in
        let near : a.target ≤ count_after (take m log) = target_le objs (count_after (take m log)) a.target r.found r.target in
        let now : count_after (take (suc m) log) ≡ max (count_after (take m log)) (suc a.target) = ap count_after (taken log m a g) ∙ count_push (take m log) a in
        let some : 0 < j = w.0 in
        let some_target : 0 < a.target = k.2 in
        let no_less : j < a.target → ⊥ = λ b. keys_apart (suc m) j a.target x.0 k.0 le some b (omega arith) x.1 k.1 same in
        let no_more : a.target < j → ⊥ = λ b. keys_apart (suc m) a.target j k.0 x.0 le some_target b (omega arith) k.1 x.1 (sym same) in
        omega arith

    known_target : (m : ℕ) (a : Asked) → slice_get log m ≡ Some a → a.target < count_after (take m log) → found_for too_many limit search_there (take (count_after (take m log)) objs_there) (take m log) a.request ≡ Ok (Known a.target)
    known_target m a g b =
        let c = count_after (take m log) in
        let k = goes.by_key m a g in
        let le : m < length log = slice_get_within log m a g in
        let size_there = alike.count in
        let cm = count_at m in
        let o = there objs_there a.target (omega arith) in
        let w = brought_by m a.target (omega arith) k.2 b in
        let v = goes.by_key w.0 w.1 w.3 in
        let one : Some v.0 ≡ Some k.0 = sym v.1 ∙ ap (slice_get objs) w.4 ∙ k.1 in
        let same : v.0 ≡ k.0 = cc in
        let name : w.1.request.name ≡ a.request.name = sym v.3 ∙ ap key same ∙ k.3 in
        let known = known_by (take m log) a.request.name a.target w.0 w.1 o.0 (slice_get_front m log w.0 w.1 w.2 w.3) name w.4 in
        by_known too_many limit search_there (take c objs_there) (take m log) a.request a.target
        (first_some (is_known (take m log) a.request.name) a.target o.0 (take c objs_there) (slice_get_front c objs_there a.target o.0 b o.1) known
        (λ j y gy h. let t = slice_get-take c objs_there j y gy in only_key m a g j y t.0 t.1 h))

    new_target : (m : ℕ) (a : Asked) (o : Object) → slice_get log m ≡ Some a → count_after (take m log) ≡ a.target → slice_get objs_there a.target ≡ Some o → found_for too_many limit search_there (take (count_after (take m log)) objs_there) (take m log) a.request ≡ Ok (Brought o)
    new_target m a o g e go =
        let c = count_after (take m log) in
        let k = goes.by_key m a g in
        let r = answered m a g in
        let size_there = alike.count in
        let cm = count_at m in
        let fail : (j : ℕ) (y : Object) → slice_get (take c objs_there) j ≡ Some y → is_known (take m log) a.request.name j y ≡ false = λ j y gy.
        let t = slice_get-take c objs_there j y gy in
        elim (cases_Bool (is_known (take m log) a.request.name j y)) [
          | inl h ↦ let at = only_key m a g j y t.0 t.1 h in let below : j < c = t.0 in absurd (omega arith)
          | inr h ↦ h
        ] in
        let fail_id : (j : ℕ) (y : Object) → slice_get (take c objs_there) j ≡ Some y → bytes_eq y.id o.id ≡ false = λ j y gy.
        let t = slice_get-take c objs_there j y gy in
        elim (cases_Bool (bytes_eq y.id o.id)) [
          | inl h ↦ let at = alike.ids j a.target y o t.1 go h in let below : j < c = t.0 in absurd (omega arith)
          | inr h ↦ h
        ] in
        let room_there : nat_lt (length (take c objs_there)) limit ≡ true = ap (λ n. nat_lt n limit) (length-take-le c objs_there (omega arith)) ∙ room m a r.found r.found_is r.target (omega arith) in
        by_new too_many limit search_there (take c objs_there) (take m log) a.request o
        (first_none (is_known (take m log) a.request.name) (take c objs_there) fail)
        (ap (λ n. search_there (take n objs_there) (take m log) a.request) e ∙ (alike.others a.target k.0 o k.2 k.1 go).found (take m log) a.request (sym k.3))
        (first_none (λ j x. bytes_eq x.id o.id) (take c objs_there) fail_id)
        room_there

    answered_there : (m : ℕ) (a : Asked) → slice_get log m ≡ Some a → IsAnswered (found_for too_many limit search_there) objs_there (take m log) a
    answered_there m a g =
        let r = answered m a g in
        let k = goes.by_key m a g in
        let near : a.target ≤ count_after (take m log) = target_le objs (count_after (take m log)) a.target r.found r.target in
        let within : a.target < length objs = slice_get_within objs a.target k.0 k.1 in
        let size_there = alike.count in
        let o = there objs_there a.target (omega arith) in
        elim (cases_lt a.target (count_after (take m log))) [
          | inl b ↦ record { asker = r.asker; found = Known a.target; found_is = known_target m a g b; target = (refl, b) }
          | inr b ↦
              let e : count_after (take m log) ≡ a.target = omega arith in
              record { asker = r.asker; found = Brought o.0; found_is = new_target m a o.0 g e o.1; target = (sym e, ap (slice_get objs_there) e ∙ o.1) }
        ]

module _ {X : Type 0} (too_many : X) (limit : ℕ) (search_here search_there : List Object → List Asked → Request → Result Object X) (key : Object → List ℕ) (p q : Object) (objs_there : List Object) where
  one_phase : (here : Loaded) → IsPhase (found_for too_many limit search_here) (record { objs = p ∷ []; log = [] }) p.face.needs here → GoesByKey key here.objs here.log → AreAlike search_there key here.objs objs_there → slice_get objs_there 0 ≡ Some q → IsPhase (found_for too_many limit search_there) (record { objs = q ∷ []; log = [] }) q.face.needs (record { objs = objs_there; log = here.log })
  one_phase here w goes alike first =
      let log : here.log ≡ w.more = w.log in
      let start : slice_get here.objs 0 ≡ Some p = (slice_get-take 1 here.objs 0 p (ap (λ os. slice_get os 0) w.objs)).1 in
      let own = alike.program p q start first in
      let size_more : count_after w.more ≡ length here.objs = ap count_after (sym log) ∙ w.whole in
      let goes_more : GoesByKey key here.objs w.more = subst (λ (xs : List Asked). GoesByKey key here.objs xs) log goes in
      let needs : needs_from 1 (drop 1 objs_there) ≡ needs_from 1 (drop 1 here.objs) =
      same_needs 1 (drop 1 objs_there) (drop 1 here.objs) (length-drop 1 objs_there ∙ ap (λ n. n - 1) alike.count ∙ sym (length-drop 1 here.objs))
      (λ j x y g k. (alike.others (1 + j) y x (omega arith) (sym (slice_get-drop 1 here.objs j) ∙ k) (sym (slice_get-drop 1 objs_there j) ∙ g)).needs) in
      record {
        objs = front_one objs_there q first;
        more = w.more;
        log = log;
        asked = w.asked ∙ ap (λ rs. map (λ n. record { by = 0; name = n }) p.face.needs ++ rs) (sym needs) ∙ ap (λ ns. map (λ n. record { by = 0; name = n }) ns ++ needs_from 1 (drop 1 objs_there)) (sym own.0);
        answered = answered_there too_many limit search_here search_there key here.objs objs_there w.more w.answered goes_more size_more alike;
        whole = w.whole ∙ sym alike.count;
      }

  pub same_run : (here : Loaded) → IsRun (found_for too_many limit search_here) p [] here → GoesByKey key here.objs here.log → AreAlike search_there key here.objs objs_there → slice_get objs_there 0 ≡ Some q → IsRun (found_for too_many limit search_there) q [] (record { objs = objs_there; log = here.log })
  same_run here w goes alike first =
      (record { objs = objs_there; log = here.log }, one_phase here (subst (λ (s : Loaded). IsPhase (found_for too_many limit search_here) (record { objs = p ∷ []; log = [] }) p.face.needs s) (sym w.2) w.1) goes alike first, refl)
