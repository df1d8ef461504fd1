-- Names that are given are not on the host list.
use Rattle.std.proofs.Common.{◌≡◌, ◌∙◌, sym, ap, refl, ℕ, zero, suc, ◌≤◌, List, [], ◌∷◌, ◌++◌, Bool, true, false, cond, not, ◌&&◌, Option, Some, None, bytes_eq, get_or, length, map, slice_get, take, arith}
use Rattle.std.specs.List.{find, position}
use Rattle.std.specs.Option.{option_and_then, option_map}
use Rattle.std.proofs.lemmas.List.Elements.{All-from_get_or}
use Rattle.std.proofs.lemmas.Option.{slice_get-get_or, slice_get_within}
use Rattle.answers.specs.First.{first_some, some_where}
use Rattle.load_model.specs.declared.faces.Face.{Face}
use Rattle.load_model.specs.declared.runs.Run.{Run}
use Rattle.listed_runs.specs.Fitting.{is_on_list}
use Rattle.text_sets.proofs.FoundLemmas.{bytes_eq-sym, find_passes}
use Rattle.text_sets.proofs.MappedLemmas.{find-position}
use Rattle.lib_closure.specs.declared.splits.Member.{Member}
use Rattle.lib_closure.specs.declared.splits.Split.{Split}
use Rattle.name_layout.specs.Laws.{AreOffList}
use Rattle.name_layout.specs.Layouts.{AreNames, HasName, first_bad_key, first_name_stop, given_names}
use Rattle.name_layout.specs.Openings.{Opening, bundled_stop, first_opening_stop, lib_with, opened_as_host, opening_stop, openings}

-- ---- none of the first ones

pub none_first : {A : Type 0} (a : Option A) (more : List (Option A)) → first_some (a ∷ more) ≡ None → a ≡ None
none_first None more h = refl
none_first (Some x) more h = cc

pub none_then : {A : Type 0} (a : Option A) (more : List (Option A)) → first_some (a ∷ more) ≡ None → first_some more ≡ None
none_then None more h = h
none_then (Some x) more h = cc

pub nowhere : {A : Type 0} (b : Bool) (a : A) → some_where b a ≡ None → b ≡ false
nowhere true a h = cc
nowhere false a h = refl

none_by : {X A : Type 0} (f : X → Option A) (p : X → Bool) (b : Bool) (x y : X) (xs : List X) → (find p xs ≡ Some y → first_some (map f xs) ≡ None → f y ≡ None) → cond b (Some x) (find p xs) ≡ Some y → first_some (f x ∷ map f xs) ≡ None → f y ≡ None
none_by f p true x y xs h e g = let same : x ≡ y = cc in ap f (sym same) ∙ none_first (f x) (map f xs) g
none_by f p false x y xs h e g = h e (none_then (f x) (map f xs) g)

pub none_of : {X A : Type 0} (f : X → Option A) (p : X → Bool) (xs : List X) (y : X) → find p xs ≡ Some y → first_some (map f xs) ≡ None → f y ≡ None
none_of f p [] y h g = cc
none_of f p (x ∷ xs) y h g = none_by f p (p x) x y xs (none_of f p xs y) h g

pub missed_by : {X : Type 0} (p : X → Bool) (b : Bool) (x y : X) (xs : List X) → p x ≡ b → p y ≡ true → x ≡ y → cond b (Some x) (find p xs) ≡ None → ⊥
missed_by p true x y xs h g e m = cc
missed_by p false x y xs h g e m = let same : p x ≡ p y = ap p e in cc

pub missed_more : {X : Type 0} (p : X → Bool) (b : Bool) (x : X) (xs : List X) → cond b (Some x) (find p xs) ≡ None → find p xs ≡ None
missed_more p true x xs h = cc
missed_more p false x xs h = h

-- One that passes is not missed.
pub missed : {X : Type 0} (p : X → Bool) (xs : List X) (i : ℕ) (y : X) → slice_get xs i ≡ Some y → p y ≡ true → find p xs ≡ None → ⊥
missed p [] i y h g m = cc
missed p (x ∷ xs) zero y h g m = let same : x ≡ y = cc in missed_by p (p x) x y xs refl g same m
missed p (x ∷ xs) (suc i) y h g m = missed p xs i y h g (missed_more p (p x) x xs m)

pub missing : {X : Type 0} (xs : List X) (i : ℕ) → slice_get xs i ≡ None → length xs ≤ i
missing [] i h = omega arith
missing (x ∷ xs) zero h = cc
missing (x ∷ xs) (suc i) h = let more = missing xs i h in omega arith

-- ---- what is found

-- What is found stands somewhere.
standing_by : {X : Type 0} (xs : List X) (place : Option ℕ) (y : X) → option_and_then (slice_get xs) place ≡ Some y → (i : ℕ) × (slice_get xs i ≡ Some y)
standing_by xs None y h = cc
standing_by xs (Some i) y h = (i, h)

pub stands_at : {X : Type 0} (p : X → Bool) (xs : List X) (y : X) → find p xs ≡ Some y → (i : ℕ) × (slice_get xs i ≡ Some y)
stands_at p xs y h = standing_by xs (position p xs) y (sym (find-position p xs) ∙ h)

-- ---- opened names

module _ (faces : List Face) (runs : List Run) (split : Split) (names : List (List ℕ)) where
  bundled_off : (o : Opening) (lib : Option Member) → (lib ≡ None → ⊥) → bundled_stop split names runs o lib ≡ None → is_on_list names o.name ≡ false
  bundled_off o None n h = absurd (n refl)
  bundled_off o (Some lib) n h = nowhere (is_on_list names o.name) _ (none_first (opened_as_host split names runs o) _ h)

  opening_off : (lib : Member) (i : ℕ) (o : Opening) → slice_get split.libs i ≡ Some lib → find (λ (o : Opening). bytes_eq lib.id o.root) (openings runs) ≡ Some o → first_opening_stop split names runs ≡ None → is_on_list names o.name ≡ false
  unfolding first_opening_stop
  opening_off lib i o at found none =
      let passes : bytes_eq lib.id o.root ≡ true = find_passes (λ (o : Opening). bytes_eq lib.id o.root) (openings runs) o found in
      let other : bytes_eq o.root lib.id ≡ true = bytes_eq-sym o.root lib.id ∙ passes in
      let stop : opening_stop split names runs o ≡ None = none_of (opening_stop split names runs) (λ (o : Opening). bytes_eq lib.id o.root) (openings runs) o found none in
      bundled_off o (lib_with split o.root) (missed (λ (l : Member). bytes_eq o.root l.id) split.libs i lib at other)
      (none_first (bundled_stop split names runs o (lib_with split o.root)) [] (none_then _ (bundled_stop split names runs o (lib_with split o.root) ∷ []) stop))

  free_off : (a b : Bool) → (not a && not b) ≡ true → b ≡ false
  free_off true b h = cc
  free_off false true h = cc
  free_off false false h = refl

  name_off : (taken : List (List ℕ)) (lib : Member) (i : ℕ) (name : List ℕ) (found : Option Opening) → slice_get split.libs i ≡ Some lib → find (λ (o : Opening). bytes_eq lib.id o.root) (openings runs) ≡ found → first_opening_stop split names runs ≡ None → HasName faces runs split names taken lib name (option_map (λ (o : Opening). o.name) found) → is_on_list names name ≡ false
  name_off taken lib i name None at found none h = free_off (is_on_list taken name) (is_on_list names name) h.free
  name_off taken lib i name (Some o) at found none h = ap (is_on_list names) h ∙ opening_off lib i o at found none

  pub stop_none : first_name_stop faces runs split names ≡ None → first_opening_stop split names runs ≡ None
  unfolding first_name_stop
  stop_none h = none_first (first_opening_stop split names runs) (first_bad_key faces runs split names ∷ []) h

  off_by : (layout : List (List ℕ)) (i : ℕ) (lib : Option Member) (name : List ℕ) → AreNames faces runs split names layout → first_opening_stop split names runs ≡ None → slice_get split.libs i ≡ lib → slice_get layout i ≡ Some name → is_on_list names name ≡ false
  off_by layout i None name are none at got =
      let past = missing split.libs i at in
      let within = slice_get_within layout i name got in
      let count = are.count in absurd (omega arith)
  off_by layout i (Some lib) name are none at got =
      name_off (given_names runs split ++ take i layout) lib i name (find (λ (o : Opening). bytes_eq lib.id o.root) (openings runs)) at refl none (are.each i lib name at got)

  -- No name is on the host list, where no opened name is refused.
  pub all_off : (layout : List (List ℕ)) → AreNames faces runs split names layout → first_name_stop faces runs split names ≡ None → AreOffList names layout
  all_off layout are none =
      All-from_get_or (λ name. is_on_list names name ≡ false) layout []
      (λ i less. off_by layout i (slice_get split.libs i) (get_or layout i []) are (stop_none none) refl (slice_get-get_or layout i [] less))
