-- The first offer of a scope, and what it names.
use Rattle.std.proofs.Common.{◌≡◌, ◌≢◌, ◌∙◌, sym, ap, refl, ℕ, zero, suc, ◌+◌, ◌<◌, List, [], ◌∷◌, Bool, true, false, cond, Option, Some, None, map, slice_get, arith, ◌⊎◌, inl, inr, ◌&&◌, not}
use Rattle.std.specs.List.{list_any, position_from}
use Rattle.std.specs.Option.{option_map}
use Rattle.std.specs.Str.{bytes_eq}
use Rattle.std.proofs.lemmas.Bool.{and_parts}
use Rattle.answers.specs.First.{first_some}
use Rattle.load_model.specs.Offers.{Offered, has_wanted_version, is_accepted, is_candidate, is_early, is_first_version, is_local, is_one, is_open_to, is_shown, offer_of, real_syms}
use Rattle.load_model.specs.declared.runs.Def.{Def}
use Rattle.load_model.specs.declared.symbols.Class.{Class}
use Rattle.load_model.specs.declared.symbols.Sym.{Sym}
use Rattle.load_model.proofs.Machine.{slice_get-drop}
use Rattle.load_model.proofs.TwoWorlds.{same_bytes}
use Rattle.moved_runs.specs.Alike.{IsLookedIn}

-- ---- what an offer names

first_by : {A : Type 0} (test : A → Bool) (k i : ℕ) (x : A) (xs : List A) (b : Bool) → test x ≡ b → cond b (Some k) (position_from test (k + 1) xs) ≡ Some i → ((i ≡ k) × (b ≡ true)) ⊎ (position_from test (k + 1) xs ≡ Some i)
first_by test k i x xs true e h = inl (let s : i ≡ k = cc in s, refl)
first_by test k i x xs false e h = inr h

pub first_passes : {A : Type 0} (test : A → Bool) (k i : ℕ) (xs : List A) → position_from test k xs ≡ Some i → (j : ℕ) × (x : A) × (i ≡ k + j) × (slice_get xs j ≡ Some x) × (test x ≡ true)
first_passes test k i [] h = cc
first_passes test k i (x ∷ xs) h =
    elim (first_by test k i x xs (test x) refl h) [
      | inl w ↦ (0, x, let a = w.0 in let s : i ≡ k + 0 = omega arith in s, refl, w.1)
      | inr w ↦
          let v = first_passes test (k + 1) i xs w in
          let a = v.2 in
          (suc v.0, v.1, let s : i ≡ k + suc v.0 = omega arith in s, v.3, v.4)
    ]

candidate_named : (name : List ℕ) (class : Class) (s : Sym) → is_candidate name class s ≡ true → s.name ≡ name
candidate_named name class s h =
    same_bytes s.name name (and_parts (bytes_eq s.name name) (not (is_local s.version)) (and_parts (is_open_to class s) (bytes_eq s.name name && not (is_local s.version)) h).1).0

late_named : (syms : List Sym) (name : List ℕ) (class : Class) (s : Sym) (b : Bool) → cond b (is_early name class s) (is_shown name class s && is_one (is_shown name class) syms) ≡ true → s.name ≡ name
late_named syms name class s true h = candidate_named name class s (and_parts (is_candidate name class s) (is_first_version s.version) h).0
late_named syms name class s false h =
    candidate_named name class s (and_parts (is_candidate name class s) (not s.hidden) (and_parts (is_shown name class s) (is_one (is_shown name class) syms) h).0).0

accepted_named : (syms : List Sym) (name : List ℕ) (class : Class) (versioned : Bool) (version : Option (List ℕ)) (s : Sym) → is_accepted syms name class versioned version s ≡ true → s.name ≡ name
accepted_named syms name class false version s h = candidate_named name class s h
accepted_named syms name class true (Some wanted) s h = candidate_named name class s (and_parts (is_candidate name class s) (has_wanted_version wanted s) h).0
accepted_named syms name class true None s h = late_named syms name class s (list_any (is_early name class) syms) h

-- an offer is a symbol of the name
pub offer_named : (o : Offered) (name : List ℕ) (version : Option (List ℕ)) (class : Class) (i : ℕ) → offer_of o name version class ≡ Some i → (s : Sym) × (slice_get o.syms i ≡ Some s) × (s.name ≡ name)
unfolding offer_of
offer_named o name version class i h =
    let w = first_passes (is_accepted (real_syms o.syms) name class o.versioned version) 1 i (real_syms o.syms) h in
    let stands : slice_get o.syms i ≡ Some w.1 = ap (slice_get o.syms) w.2 ∙ sym (slice_get-drop 1 o.syms w.0) ∙ w.3 in
    (w.1, stands, accepted_named (real_syms o.syms) name class o.versioned version w.1 w.4)

-- ---- the first offers of one scope, here and there

abbrev pub def_at : ℕ → ℕ → Def
def_at k i = record { obj = k; sym = i }

abbrev pub defs_by : (ℕ → Option ℕ) → ℕ → Option Def
defs_by f k = option_map (λ i. def_at k i) (f k)

abbrev pub first_def : (ℕ → Option ℕ) → List ℕ → Option Def
first_def f ks = first_some (map (defs_by f) ks)

finds_by : (f : ℕ → Option ℕ) (k : ℕ) (ks : List ℕ) (d : Def) (x : Option ℕ) → f k ≡ x → first_some (option_map (λ i. def_at k i) x ∷ map (defs_by f) ks) ≡ Some d → (first_def f ks ≡ Some d → f d.obj ≡ Some d.sym) → f d.obj ≡ Some d.sym
finds_by f k ks d None e h rest = rest h
finds_by f k ks d (Some i) e h rest =
    let same : def_at k i ≡ d = cc in
    ap (λ (q : Def). f q.obj) (sym same) ∙ e ∙ ap (λ (q : Def). Some q.sym) same

pub first_finds : (f : ℕ → Option ℕ) (ks : List ℕ) (d : Def) → first_def f ks ≡ Some d → f d.obj ≡ Some d.sym
first_finds f [] d h = cc
first_finds f (k ∷ ks) d h = finds_by f k ks d (f k) refl h (first_finds f ks d)

module _ (f g : ℕ → Option ℕ) (Pairs : ℕ → ℕ → ℕ → Type 0) where
  abbrev pub IsSameOffer : ℕ → Option ℕ → Option ℕ → Type 0
  IsSameOffer k None None = Unit {0}
  IsSameOffer k None (Some j) = ⊥
  IsSameOffer k (Some i) None = ⊥
  IsSameOffer k (Some i) (Some j) = Pairs k i j

  abbrev pub IsSameFirst : Option Def → Option Def → Type 0
  IsSameFirst None None = Unit {0}
  IsSameFirst None (Some e) = ⊥
  IsSameFirst (Some d) None = ⊥
  IsSameFirst (Some d) (Some e) = (e.obj ≡ d.obj) × Pairs d.obj d.sym e.sym

  one_look : (k : ℕ) (x y : Option ℕ) (rest rest_there : List (Option Def)) → IsSameOffer k x y → (x ≡ None → IsSameFirst (first_some rest) (first_some rest_there)) → IsSameFirst (first_some (option_map (λ i. def_at k i) x ∷ rest)) (first_some (option_map (λ i. def_at k i) y ∷ rest_there))
  one_look k None None rest rest_there s more = more refl
  one_look k None (Some j) rest rest_there s more = absurd s
  one_look k (Some i) None rest rest_there s more = absurd s
  one_look k (Some i) (Some j) rest rest_there s more = (refl, s)

  no_here : (k : ℕ) (ks : List ℕ) (d : Def) → f k ≡ None → first_def f ks ≡ Some d → k ≢ d.obj
  no_here k ks d none h e = let no : None ≡ Some d.sym = sym none ∙ ap f e ∙ first_finds f ks d h in cc

  not_before : (k : ℕ) (ks : List ℕ) (h : ℕ) → f k ≡ None → (w : IsLookedIn (first_def f ks) ks h) → first_def f (k ∷ ks) ≡ first_def f ks → (i x : ℕ) (d : Def) → i < suc w.number → slice_get (k ∷ ks) i ≡ Some x → first_def f (k ∷ ks) ≡ Some d → x ≢ d.obj
  not_before k ks h none w same zero x d less g to = let e : k ≡ x = cc in (λ at. no_here k ks d none (sym same ∙ to) (e ∙ at))
  not_before k ks h none w same (suc i) x d less g to = w.before i x d (omega arith) g (sym same ∙ to)

  later : (k : ℕ) (ks : List ℕ) (h : ℕ) → f k ≡ None → IsLookedIn (first_def f ks) ks h → IsLookedIn (first_def f (k ∷ ks)) (k ∷ ks) h
  later k ks h none w =
      let same : first_def f (k ∷ ks) ≡ first_def f ks = ap (λ x. first_some (option_map (λ i. def_at k i) x ∷ map (defs_by f) ks)) none in
      record { number = suc w.number; stands = w.stands; before = not_before k ks h none w same }

  -- where each object that is looked in offers the same, the first offer is the same
  pub same_first : (ks : List ℕ) → ((k : ℕ) → IsLookedIn (first_def f ks) ks k → IsSameOffer k (f k) (g k)) → IsSameFirst (first_def f ks) (first_def g ks)
  same_first [] h = tt
  same_first (k ∷ ks) h =
      one_look k (f k) (g k) (map (defs_by f) ks) (map (defs_by g) ks)
      (h k (record { number = 0; stands = refl; before = λ i x d less g to. absurd (omega arith) }))
      (λ none. same_first ks (λ j w. h j (later k ks j none w)))
