-- Names that are reached by recorded needs, one after the other.
use Rattle.std.proofs.Common.{◌≡◌, ◌∙◌, sym, ap, refl, subst, ℕ, zero, suc, ◌+◌, ◌-◌, ◌<◌, ◌≤◌, ◌||◌, ◌&&◌, List, [], ◌∷◌, ◌++◌, Bool, true, false, cond, Option, Some, None, Bor, bytes_eq, filter, length, map, slice_get, arith, inl, inr}
use Rattle.std.specs.Prelude.{◌⊎◌, fold}
use Rattle.std.specs.List.{Contains, find, list_all, list_any}
use Rattle.std.proofs.lemmas.Bool.{cases_lt}
use Rattle.std.proofs.lemmas.Cmp.{nat_list_eq_equiv}
use Rattle.std.proofs.lemmas.List.{length-append, length-map, map-append}
use Rattle.std.proofs.lemmas.List.Folds.{list_any-append}
use Rattle.std.proofs.lemmas.Option.{slice_get_within}
use Rattle.indexmap.specs.IndexSet.{insert_key}
use Rattle.load_model.proofs.Counts.{slice_get_left}
use Rattle.load_model.proofs.TwoWorlds.{same_bytes}
use Rattle.load_requests.proofs.AskingPlaces.{pushed_get}
use Rattle.lib_closure.proofs.ContainedLemmas.{any_in, at_place, cases, found_in, here, in_map, in_none, is_there, later, of_any, place_of}
use Rattle.host_list.specs.Meeting.{is_reached, needs_of_lib, recorded_needs}
use Rattle.host_record.specs.Said.{is_declared, lib_names, needs_declared}
use Rattle.host_record.specs.declared.records.RecLib.{RecLib}
use Rattle.host_meeting.specs.Reaching.{AreReached}

-- ---- tests

left : (b c : Bool) → b ≡ true → (b || c) ≡ true
left true c h = refl
left false c h = absurd (cc)

right : (b c : Bool) → c ≡ true → (b || c) ≡ true
right true c h = refl
right false c h = h

either : (b c : Bool) → (b || c) ≡ true → (b ≡ true) ⊎ (c ≡ true)
either true c h = inl refl
either false c h = inr h

same_test : (b c : Bool) → (b ≡ true → c ≡ true) → (c ≡ true → b ≡ true) → b ≡ c
same_test true true f g = refl
same_test true false f g = sym (f refl)
same_test false true f g = g refl
same_test false false f g = refl

both_true : (b c : Bool) → (b && c) ≡ true → (b ≡ true) × (c ≡ true)
both_true true c h = (refl, h)
both_true false c h = absurd (cc)

all_pass : {X : Type 0} (t : X → Bool) (xs : List X) (x : X) → list_all t xs ≡ true → Contains xs x → t x ≡ true
all_pass t [] x h in_it = absurd (in_none x in_it)
all_pass t (y ∷ xs) x h in_it =
    let both = both_true (t y) (list_all t xs) h in
    elim (cases y x xs in_it) [
      | inl same ↦ ap t (sym same) ∙ both.0
      | inr more ↦ all_pass t xs x both.1 more
    ]

named : (names : List (List ℕ)) (name : List ℕ) → is_declared names name ≡ true → Contains names name
named names name h =
    let p = of_any (λ n. bytes_eq name n) names h in
    subst (λ n. Contains names n) (sym (same_bytes name p.it p.passes)) p.there

is_named : (names : List (List ℕ)) (name : List ℕ) → Contains names name → is_declared names name ≡ true
is_named names name h = any_in (λ n. bytes_eq name n) names name h (nat_list_eq_equiv.refl name)

-- ---- steps

module _ (libs : List RecLib) where
  itself : (n : ℕ) (name : List ℕ) → is_reached libs n name name ≡ true
  unfolding is_reached
  itself zero name = nat_list_eq_equiv.refl name
  itself (suc n) name = left (bytes_eq name name) (list_any (is_reached libs n name) (recorded_needs libs name)) (nat_list_eq_equiv.refl name)

  -- A need of what is reached is reached by one step more.
  one_more : (n : ℕ) (from b c : List ℕ) → is_reached libs n b from ≡ true → Contains (recorded_needs libs b) c → is_reached libs (suc n) c from ≡ true
  unfolding is_reached
  one_more zero from b c h need =
      let there : Contains (recorded_needs libs from) c = subst (λ m. Contains (recorded_needs libs m) c) (sym (same_bytes from b h)) need in
      right (bytes_eq from c) (list_any (is_reached libs zero c) (recorded_needs libs from)) (any_in (is_reached libs zero c) (recorded_needs libs from) c there (itself zero c))
  one_more (suc n) from b c h need =
      right (bytes_eq from c) (list_any (is_reached libs (suc n) c) (recorded_needs libs from))
      (elim (either (bytes_eq from b) (list_any (is_reached libs n b) (recorded_needs libs from)) h) [
        | inl e ↦
            any_in (is_reached libs (suc n) c) (recorded_needs libs from) c
            (subst (λ m. Contains (recorded_needs libs m) c) (sym (same_bytes from b e)) need) (itself (suc n) c)
        | inr a ↦
            let p = of_any (is_reached libs n b) (recorded_needs libs from) a in
            any_in (is_reached libs (suc n) c) (recorded_needs libs from) p.it p.there (one_more n p.it b c p.passes need)
      ])

  -- What is reached is reached by more steps.
  further : (n : ℕ) (name from : List ℕ) → is_reached libs n name from ≡ true → is_reached libs (suc n) name from ≡ true
  unfolding is_reached
  further zero name from h = left (bytes_eq from name) (list_any (is_reached libs zero name) (recorded_needs libs from)) h
  further (suc n) name from h =
      elim (either (bytes_eq from name) (list_any (is_reached libs n name) (recorded_needs libs from)) h) [
        | inl e ↦ left (bytes_eq from name) (list_any (is_reached libs (suc n) name) (recorded_needs libs from)) e
        | inr a ↦
            let p = of_any (is_reached libs n name) (recorded_needs libs from) a in
            right (bytes_eq from name) (list_any (is_reached libs (suc n) name) (recorded_needs libs from))
            (any_in (is_reached libs (suc n) name) (recorded_needs libs from) p.it p.there (further n name p.it p.passes))
      ]

  further_by : (d n : ℕ) (name from : List ℕ) → is_reached libs n name from ≡ true → is_reached libs (d + n) name from ≡ true
  further_by zero n name from h = let e : n ≡ 0 + n = omega arith in subst (λ m. is_reached libs m name from ≡ true) e h
  further_by (suc d) n name from h =
      let e : suc (d + n) ≡ suc d + n = omega arith in
      subst (λ m. is_reached libs m name from ≡ true) e (further (d + n) name from (further_by d n name from h))

  within : (n m : ℕ) (name from : List ℕ) → n ≤ m → is_reached libs n name from ≡ true → is_reached libs m name from ≡ true
  within n m name from less h =
      let e : m - n + n ≡ m = omega (arith, less) in
      subst (λ k. is_reached libs k name from ≡ true) e (further_by (m - n) n name from h)

  -- Names that have all their needs among them have all that they reach.
  all_reached : (names : List (List ℕ)) → ((b c : List ℕ) → Contains names b → Contains (recorded_needs libs b) c → Contains names c) → (n : ℕ) (name from : List ℕ) → Contains names from → is_reached libs n name from ≡ true → Contains names name
  unfolding is_reached
  all_reached names closed zero name from h r = subst (λ m. Contains names m) (same_bytes from name r) h
  all_reached names closed (suc n) name from h r =
      elim (either (bytes_eq from name) (list_any (is_reached libs n name) (recorded_needs libs from)) r) [
        | inl e ↦ subst (λ m. Contains names m) (same_bytes from name e) h
        | inr a ↦
            let p = of_any (is_reached libs n name) (recorded_needs libs from) a in
            all_reached names closed n name p.it (closed from p.it h p.there) p.passes
      ]

  declared_by : (name need : List ℕ) (lib : Option RecLib) → needs_declared libs ≡ true → find (λ (l : RecLib). bytes_eq l.name name) libs ≡ lib → Contains (needs_of_lib lib) need → is_declared (lib_names libs) need ≡ true
  declared_by name need None declared e h = absurd (in_none need h)
  declared_by name need (Some lib) declared e h =
      all_pass (is_declared (lib_names libs)) lib.needs need
      (all_pass (λ l. list_all (is_declared (lib_names libs)) l.needs) libs lib declared (found_in (λ (l : RecLib). bytes_eq l.name name) libs lib e)) h

  -- Recorded needs are names of libraries.
  need_declared : (name need : List ℕ) → needs_declared libs ≡ true → Contains (recorded_needs libs name) need → is_declared (lib_names libs) need ≡ true
  need_declared name need declared h = declared_by name need (find (λ (l : RecLib). bytes_eq l.name name) libs) declared refl h

-- ---- distinct names are no more than the libraries

more_passes : {X : Type 0} (p q : X → Bool) (ys : List X) → ((y : X) → p y ≡ true → q y ≡ true) → length (filter p ys) ≤ length (filter q ys)
more_passes p q [] f = omega arith
more_passes p q (y ∷ ys) f = by (p y) (q y) (f y) (more_passes p q ys f)
  where
    by : (b c : Bool) → (b ≡ true → c ≡ true) → length (filter p ys) ≤ length (filter q ys) → length (cond b (y ∷ filter p ys) (filter p ys)) ≤ length (cond c (y ∷ filter q ys) (filter q ys))
    by true true g h = omega (arith, h)
    by true false g h = absurd (let e : false ≡ true = g refl in cc)
    by false true g h = omega (arith, h)
    by false false g h = h

one_more_passes : {X : Type 0} (p q : X → Bool) (ys : List X) (x : X) → ((y : X) → p y ≡ true → q y ≡ true) → Contains ys x → p x ≡ false → q x ≡ true → length (filter p ys) + 1 ≤ length (filter q ys)
one_more_passes p q [] x f h np qx = absurd (in_none x h)
one_more_passes p q (y ∷ ys) x f h np qx =
    elim (cases y x ys h) [
      | inl same ↦ here_is (p y) (q y) (ap p same ∙ np) (ap q same ∙ qx) (more_passes p q ys f)
      | inr more ↦ later_is (p y) (q y) (f y) (one_more_passes p q ys x f more np qx)
    ]
  where
    here_is : (b c : Bool) → b ≡ false → c ≡ true → length (filter p ys) ≤ length (filter q ys) → length (cond b (y ∷ filter p ys) (filter p ys)) + 1 ≤ length (cond c (y ∷ filter q ys) (filter q ys))
    here_is true c e g h = absurd (cc)
    here_is false true e g h = omega (arith, h)
    here_is false false e g h = absurd (cc)

    later_is : (b c : Bool) → (b ≡ true → c ≡ true) → length (filter p ys) + 1 ≤ length (filter q ys) → length (cond b (y ∷ filter p ys) (filter p ys)) + 1 ≤ length (cond c (y ∷ filter q ys) (filter q ys))
    later_is true true g h = omega (arith, h)
    later_is true false g h = absurd (let e : false ≡ true = g refl in cc)
    later_is false true g h = omega (arith, h)
    later_is false false g h = h

no_more : {X : Type 0} (p : X → Bool) (ys : List X) → length (filter p ys) ≤ length ys
no_more p [] = omega arith
no_more p (y ∷ ys) = by (p y) (no_more p ys)
  where
    by : (b : Bool) → length (filter p ys) ≤ length ys → length (cond b (y ∷ filter p ys) (filter p ys)) ≤ length (y ∷ ys)
    by true h = omega (arith, h)
    by false h = omega (arith, h)

-- ---- names that are reached so far

pub record IsReaching (libs : List RecLib) (from : List ℕ) (names : List (List ℕ)) : Type 0 where
  pub first : Contains names from
  pub known : (k : ℕ) (name : List ℕ) → slice_get names k ≡ Some name → is_declared (lib_names libs) name ≡ true
  -- by as many steps as names come before
  pub steps : (k : ℕ) (name : List ℕ) → slice_get names k ≡ Some name → is_reached libs k name from ≡ true
  pub few : length names ≤ length (filter (is_declared names) (lib_names libs))

-- The needs of the first of them are among them.
abbrev pub AreFollowed : List RecLib → List (List ℕ) → ℕ → Type 0
AreFollowed libs names next =
    (k : ℕ) (name need : List ℕ) → k < next → slice_get names k ≡ Some name → Contains (recorded_needs libs name) need → Contains names need

pub not_more : (libs : List RecLib) (from : List ℕ) (names : List (List ℕ)) → IsReaching libs from names → length names ≤ length libs
not_more libs from names r =
    let some : length (filter (is_declared names) (lib_names libs)) ≤ length (lib_names libs) = no_more (is_declared names) (lib_names libs) in
    let count : length (lib_names libs) ≡ length libs = length-map libs (λ lib. lib.name) in
    let few = r.few in
    omega (arith, some, count, few)

declared_more : (names : List (List ℕ)) (x y : List ℕ) → is_declared names y ≡ true → is_declared (names ++ x ∷ []) y ≡ true
declared_more names x y h = list_any-append (λ n. bytes_eq y n) names (x ∷ []) ∙ left (is_declared names y) (is_declared (x ∷ []) y) h

declared_last : (names : List (List ℕ)) (x : List ℕ) → is_declared (names ++ x ∷ []) x ≡ true
declared_last names x =
    list_any-append (λ n. bytes_eq x n) names (x ∷ [])
    ∙ right (is_declared names x) (is_declared (x ∷ []) x) (left (bytes_eq x x) false (nat_list_eq_equiv.refl x))

few_more : (libs : List RecLib) (names : List (List ℕ)) (x : List ℕ) → is_declared (lib_names libs) x ≡ true → is_declared names x ≡ false → length names ≤ length (filter (is_declared names) (lib_names libs)) → length (names ++ x ∷ []) ≤ length (filter (is_declared (names ++ x ∷ [])) (lib_names libs))
few_more libs names x known new few =
    let more : length (filter (is_declared names) (lib_names libs)) + 1 ≤ length (filter (is_declared (names ++ x ∷ [])) (lib_names libs)) =
    one_more_passes (is_declared names) (is_declared (names ++ x ∷ [])) (lib_names libs) x (declared_more names x) (named (lib_names libs) x known) new (declared_last names x) in
    let one : length (names ++ x ∷ []) ≡ length names + 1 = length-append names (x ∷ []) in
    omega (arith, more, one, few)

-- A library reaches itself.
pub begun : (libs : List RecLib) (from : List ℕ) → is_declared (lib_names libs) from ≡ true → IsReaching libs from (insert_key bytes_eq [] from)
begun libs from known = record {
  first = here from [];
  known = λ k name h. alone k name h;
  steps = λ k name h. at_start k name h;
  few = few_more libs [] from known refl (omega arith);
}
  where
    alone : (k : ℕ) (name : List ℕ) → slice_get (from ∷ []) k ≡ Some name → is_declared (lib_names libs) name ≡ true
    alone zero name h = let e : from ≡ name = cc in ap (is_declared (lib_names libs)) (sym e) ∙ known
    alone (suc k) name h = cc

    at_start : (k : ℕ) (name : List ℕ) → slice_get (from ∷ []) k ≡ Some name → is_reached libs k name from ≡ true
    at_start zero name h = let e : from ≡ name = cc in subst (λ n. is_reached libs 0 n from ≡ true) e (itself libs 0 from)
    at_start (suc k) name h = cc

-- What more names come to: those that were there stay at their places, and these are there.
pub record AreAdded (libs : List RecLib) (from : List ℕ) (names needs after : List (List ℕ)) : Type 0 where
  pub reaching : IsReaching libs from after
  pub stay : (k : ℕ) (name : List ℕ) → slice_get names k ≡ Some name → slice_get after k ≡ Some name
  pub there : (need : List ℕ) → Contains needs need → Contains after need

module _ (libs : List RecLib) (from b : List ℕ) (p : ℕ) where
  joined : (names : List (List ℕ)) (c : List ℕ) → IsReaching libs from names → slice_get names p ≡ Some b → Contains (recorded_needs libs b) c → is_declared (lib_names libs) c ≡ true → is_declared names c ≡ false → IsReaching libs from (names ++ c ∷ [])
  joined names c r at need known new = record {
    first = let h = r.first in at_place (names ++ c ∷ []) h.0 from (slice_get_left names (c ∷ []) h.0 from (place_of names from h));
    known = λ k name h. elim (pushed_get names c k name h) [
      | inl before ↦ r.known k name before
      | inr last ↦ subst (λ n. is_declared (lib_names libs) n ≡ true) last.1 known
    ];
    steps = λ k name h. elim (pushed_get names c k name h) [
      | inl before ↦ r.steps k name before
      | inr last ↦
          let less : p < length names = slice_get_within names p b at in
          let e = last.0 in
          subst (λ n. is_reached libs k n from ≡ true) last.1
          (within libs (suc p) k c from (omega (arith, less, e)) (one_more libs p from b c (r.steps p b at) need))
    ];
    few = few_more libs names c known new r.few;
  }

  one_by : (names : List (List ℕ)) (c : List ℕ) (old : Bool) → list_any (bytes_eq c) names ≡ old → IsReaching libs from names → slice_get names p ≡ Some b → Contains (recorded_needs libs b) c → is_declared (lib_names libs) c ≡ true → AreAdded libs from names (c ∷ []) (cond old names (names ++ c ∷ []))
  one_by names c true e r at need known = record {
    reaching = r;
    stay = λ k name h. h;
    there = λ x h. elim (cases c x [] h) [
      | inl same ↦ subst (λ n. Contains names n) same (named names c e)
      | inr more ↦ absurd (in_none x more)
    ];
  }
  one_by names c false e r at need known = record {
    reaching = joined names c r at need known e;
    stay = λ k name h. slice_get_left names (c ∷ []) k name h;
    there = λ x h. elim (cases c x [] h) [
      | inl same ↦ subst (λ n. Contains (names ++ c ∷ []) n) same (named (names ++ c ∷ []) c (declared_last names c))
      | inr more ↦ absurd (in_none x more)
    ];
  }

  one : (names : List (List ℕ)) (c : List ℕ) → IsReaching libs from names → slice_get names p ≡ Some b → Contains (recorded_needs libs b) c → is_declared (lib_names libs) c ≡ true → AreAdded libs from names (c ∷ []) (insert_key bytes_eq names c)
  one names c r at need known = one_by names c (list_any (bytes_eq c) names) refl r at need known

  -- All needs of the name at this place are added.
  pub all_added : (names needs : List (List ℕ)) → needs_declared libs ≡ true → IsReaching libs from names → slice_get names p ≡ Some b → ((c : List ℕ) → Contains needs c → Contains (recorded_needs libs b) c) → AreAdded libs from names needs (fold (insert_key bytes_eq) names needs)
  all_added names [] declared r at these = record { reaching = r; stay = λ k name h. h; there = λ x h. absurd (in_none x h) }
  all_added names (c ∷ needs) declared r at these =
      let need : Contains (recorded_needs libs b) c = these c (here c needs) in
      let a : AreAdded libs from names (c ∷ []) (insert_key bytes_eq names c) = one names c r at need (need_declared libs b c declared need) in
      let m : AreAdded libs from (insert_key bytes_eq names c) needs (fold (insert_key bytes_eq) (insert_key bytes_eq names c) needs) =
      all_added (insert_key bytes_eq names c) needs declared a.reaching (a.stay p b at) (λ x h. these x (later c x needs h)) in
      record {
        reaching = m.reaching;
        stay = λ k name h. m.stay k name (a.stay k name h);
        there = λ x h. elim (cases c x needs h) [
          | inl same ↦
              let was : Contains (insert_key bytes_eq names c) c = a.there c (here c []) in
              let now : Contains (fold (insert_key bytes_eq) (insert_key bytes_eq names c) needs) c = at_place (fold (insert_key bytes_eq) (insert_key bytes_eq names c) needs) was.0 c (m.stay was.0 c (place_of (insert_key bytes_eq names c) c was)) in
              subst (λ n. Contains (fold (insert_key bytes_eq) (insert_key bytes_eq names c) needs) n) same now
          | inr more ↦ m.there x more
        ];
      }

-- One name more is followed.
pub followed_next : (libs : List RecLib) (from b : List ℕ) (names after : List (List ℕ)) (next : ℕ) → needs_declared libs ≡ true → IsReaching libs from names → AreFollowed libs names next → slice_get names next ≡ Some b → after ≡ fold (insert_key bytes_eq) names (recorded_needs libs b) → IsReaching libs from after × AreFollowed libs after (next + 1)
followed_next libs from b names after next declared r followed at e =
    let a : AreAdded libs from names (recorded_needs libs b) after = subst (λ xs. AreAdded libs from names (recorded_needs libs b) xs) (sym e) (all_added libs from b next names (recorded_needs libs b) declared r at (λ c h. h)) in
    (a.reaching, λ k name need less h is. by a k name need less h is)
  where
    by : AreAdded libs from names (recorded_needs libs b) after → (k : ℕ) (name need : List ℕ) → k < next + 1 → slice_get after k ≡ Some name → Contains (recorded_needs libs name) need → Contains after need
    by a k name need less h is =
        let there : next < length names = slice_get_within names next b at in
        elim (cases_lt k next) [
          | inl below ↦
              let w = is_there names k (omega (arith, there, below)) in
              let same : w.it ≡ name = let s = a.stay k w.it w.is in cc in
              let was : Contains names need = followed k name need below (w.is ∙ ap Some same) is in
              at_place after was.0 need (a.stay was.0 need (place_of names need was))
          | inr not ↦
              let last : k ≡ next = omega (arith, less, not) in
              let here_b : slice_get after k ≡ Some b = a.stay k b (ap (slice_get names) last ∙ at) in
              let same : name ≡ b = cc in
              a.there need (subst (λ n. Contains (recorded_needs libs n) need) same is)
        ]

-- All are followed: these are the names that are reached.
pub ended : (libs : List RecLib) (from : List ℕ) (names : List (List ℕ)) (next : ℕ) → IsReaching libs from names → AreFollowed libs names next → length names ≤ next → AreReached libs from names
ended libs from names next r followed all name =
    same_test (list_any (bytes_eq name) names) (is_reached libs (length libs) name from)
    (λ h.
    let it : Contains names name = named names name h in
    let less = it.1 in
    let most : length names ≤ length libs = not_more libs from names r in
    within libs it.0 (length libs) name from (omega (arith, less, most)) (r.steps it.0 name (place_of names name it)))
    (λ h. is_named names name
    (all_reached libs names (λ b c in_it need. let less = in_it.1 in followed in_it.0 b c (omega (arith, less, all)) (place_of names b in_it) need) (length libs) name from r.first h))

-- A name more, in the set and in the list.
pub name_joined : (names after : List (Bor (List ℕ))) (n : Bor (List ℕ)) (set now : List (List ℕ)) → set ≡ map (λ (m : Bor (List ℕ)). m.now) names → list_any (bytes_eq n.now) set ≡ false → now ≡ insert_key bytes_eq set n.now → after ≡ names ++ n ∷ [] → now ≡ map (λ (m : Bor (List ℕ)). m.now) after
name_joined names after n set now are new e at =
    e ∙ ap (λ b. cond b set (set ++ n.now ∷ [])) new ∙ ap (λ l. l ++ n.now ∷ []) are
    ∙ sym (ap (map (λ (m : Bor (List ℕ)). m.now)) at ∙ map-append (λ (m : Bor (List ℕ)). m.now) names (n ∷ []))

-- What a library reaches are names of libraries.
pub reached_declared : (libs : List RecLib) (n : ℕ) (name from : List ℕ) → needs_declared libs ≡ true → is_declared (lib_names libs) from ≡ true → is_reached libs n name from ≡ true → is_declared (lib_names libs) name ≡ true
reached_declared libs n name from declared start h =
    is_named (lib_names libs) name
    (all_reached libs (lib_names libs) (λ b c in_it need. named (lib_names libs) c (need_declared libs b c declared need)) n name from (named (lib_names libs) from start) h)

pub lib_declared : (libs : List RecLib) (k : ℕ) (lib : RecLib) → slice_get libs k ≡ Some lib → is_declared (lib_names libs) lib.name ≡ true
lib_declared libs k lib at = is_named (lib_names libs) lib.name (in_map (λ (l : RecLib). l.name) libs lib (at_place libs k lib at))
