-- Names that are given are distinct.
use Rattle.std.proofs.Common.{◌≡◌, ◌≢◌, ◌∙◌, sym, ap, refl, ℕ, zero, suc, ◌<◌, List, [], ◌∷◌, ◌++◌, Bool, true, false, cond, not, ◌&&◌, ◌||◌, Option, Some, None, bytes_eq, filter, get_or, is_some, slice_get, take, arith}
use Rattle.std.specs.Prelude.{AllPairs}
use Rattle.std.specs.List.{find, list_any}
use Rattle.std.specs.Option.{option_and_then, option_map}
use Rattle.std.proofs.Math.Bool.{or-true}
use Rattle.std.proofs.lemmas.List.Folds.{list_any-append}
use Rattle.std.proofs.lemmas.Option.{slice_get-get_or, slice_get_within}
use Rattle.std.proofs.lemmas.Slice.Eq.{bytes_eq-Decides}
use Rattle.load_model.proofs.TwoWorlds.{same_bytes}
use Rattle.load_model.specs.declared.faces.Face.{Face}
use Rattle.load_model.specs.declared.runs.Run.{Run}
use Rattle.listed_runs.specs.Fitting.{is_on_list}
use Rattle.text_sets.proofs.FoundLemmas.{bytes_eq-sym}
use Rattle.text_sets.proofs.FoundLemmas.{find_passes}
use Rattle.text_sets.proofs.MappedLemmas.{any-map}
use Rattle.lib_closure.specs.declared.splits.Member.{Member}
use Rattle.lib_closure.specs.declared.splits.Split.{Split}
use Rattle.name_layout.proofs.LawLemmas.{missed, missed_by, missed_more, missing, none_first, none_of, none_then, nowhere, stands_at, stop_none}
use Rattle.name_layout.specs.Layouts.{AreNames, HasName, first_name_stop, given_names}
use Rattle.name_layout.specs.Openings.{Opening, bundled_openings, bundled_stop, first_of_root, first_opening_stop, host_with, lib_with, name_given, opened_alias, opened_as_host, opening_stop, openings, renamed}

-- ---- lists

-- What is kept is not missed.
kept_here : {X : Type 0} (f q : X → Bool) (b : Bool) (x y : X) (xs : List X) → f x ≡ b → f y ≡ true → q y ≡ true → x ≡ y → find q (cond b (x ∷ filter f xs) (filter f xs)) ≡ None → ⊥
kept_here f q true x y xs e g h same none = missed_by q (q x) x y (filter f xs) refl h same none
kept_here f q false x y xs e g h same none = let both : f x ≡ f y = ap f same in cc

kept_more : {X : Type 0} (f q : X → Bool) (b : Bool) (x : X) (xs : List X) → find q (cond b (x ∷ filter f xs) (filter f xs)) ≡ None → find q (filter f xs) ≡ None
kept_more f q true x xs none = missed_more q (q x) x (filter f xs) none
kept_more f q false x xs none = none

missed_kept : {X : Type 0} (f q : X → Bool) (xs : List X) (i : ℕ) (y : X) → slice_get xs i ≡ Some y → f y ≡ true → q y ≡ true → find q (filter f xs) ≡ None → ⊥
missed_kept f q [] i y at g h none = cc
missed_kept f q (x ∷ xs) zero y at g h none = let same : x ≡ y = cc in kept_here f q (f x) x y xs refl g h same none
missed_kept f q (x ∷ xs) (suc i) y at g h none = missed_kept f q xs i y at g h (kept_more f q (f x) x xs none)

-- What is found of those that are kept is kept.
found_by : {X : Type 0} (f q : X → Bool) (c : Bool) (x y : X) (xs : List X) → (find q (filter f xs) ≡ Some y → f y ≡ true) → f x ≡ true → cond c (Some x) (find q (filter f xs)) ≡ Some y → f y ≡ true
found_by f q true x y xs more e h = let same : x ≡ y = cc in sym (ap f same) ∙ e
found_by f q false x y xs more e h = more h

kept_by : {X : Type 0} (f q : X → Bool) (b : Bool) (x y : X) (xs : List X) → (find q (filter f xs) ≡ Some y → f y ≡ true) → f x ≡ b → find q (cond b (x ∷ filter f xs) (filter f xs)) ≡ Some y → f y ≡ true
kept_by f q true x y xs more e h = found_by f q (q x) x y xs more e h
kept_by f q false x y xs more e h = more h

found_kept : {X : Type 0} (f q : X → Bool) (xs : List X) (y : X) → find q (filter f xs) ≡ Some y → f y ≡ true
found_kept f q [] y h = cc
found_kept f q (x ∷ xs) y h = kept_by f q (f x) x y xs (found_kept f q xs y) refl h

any_of : {X : Type 0} (q : X → Bool) (c : Bool) (x y : X) (xs : List X) → (find q xs ≡ Some y → list_any q xs ≡ true) → cond c (Some x) (find q xs) ≡ Some y → (c || list_any q xs) ≡ true
any_of q true x y xs more h = refl
any_of q false x y xs more h = more h

found_any : {X : Type 0} (q : X → Bool) (xs : List X) (y : X) → find q xs ≡ Some y → list_any q xs ≡ true
found_any q [] y h = cc
found_any q (x ∷ xs) y h = any_of q (q x) x y xs (found_any q xs y) h

any_by : {X : Type 0} (q : X → Bool) (xs : List X) (found : Option X) → find q xs ≡ found → (found ≡ None → ⊥) → list_any q xs ≡ true
any_by q xs None h there = absurd (there refl)
any_by q xs (Some y) h there = found_any q xs y h

same_text : (name : List ℕ) → bytes_eq name name ≡ true
same_text name = (bytes_eq-Decides name name).1 refl

on_list : (names : List (List ℕ)) (i : ℕ) (name : List ℕ) → slice_get names i ≡ Some name → is_on_list names name ≡ true
on_list [] i name h = cc
on_list (n ∷ names) zero name h = let same : n ≡ name = cc in ap (λ t. bytes_eq t name || is_on_list names name) same ∙ ap (λ b. b || is_on_list names name) (same_text name)
on_list (n ∷ names) (suc i) name h = ap (λ b. bytes_eq n name || b) (on_list names i name h) ∙ or-true (bytes_eq n name)

in_front : (names : List (List ℕ)) (i j : ℕ) (name : List ℕ) → i < j → slice_get names i ≡ Some name → slice_get (take j names) i ≡ Some name
in_front [] i j name less h = cc
in_front (n ∷ names) i zero name less h = absurd (omega arith)
in_front (n ∷ names) zero (suc j) name less h = h
in_front (n ∷ names) (suc i) (suc j) name less h = in_front names i j name (omega arith) h

not_taken : (a b : Bool) → (not a && not b) ≡ true → a ≡ false
not_taken true b h = cc
not_taken false b h = refl

neither : (a b : Bool) → (a || b) ≡ false → (a ≡ false) × (b ≡ false)
neither true b h = cc
neither false b h = (refl, h)

not_false : (b : Bool) → not b ≡ false → b ≡ true
not_false true h = refl
not_false false h = cc

turned : (es : List Opening) (name : List ℕ) → list_any (λ (e : Opening). bytes_eq e.name name) es ≡ list_any (λ (e : Opening). bytes_eq name e.name) es
turned [] name = refl
turned (e ∷ es) name =
    ap (λ b. b || list_any (λ (x : Opening). bytes_eq x.name name) es) (bytes_eq-sym e.name name)
    ∙ ap (λ b. bytes_eq name e.name || b) (turned es name)

module _ (faces : List Face) (runs : List Run) (split : Split) (names : List (List ℕ)) where
  -- ---- opened libraries

  -- The library that is opened first under a name.
  abbrev owner : List ℕ → Option Member
  owner name = option_and_then (λ (e : Opening). lib_with split e.root) (find (λ (e : Opening). bytes_eq name e.name) (bundled_openings split runs))

  -- The library, not refused, is the one that is opened first under its name.
  owned_by : (o : Opening) (l : Member) (found : Option Member) → bytes_eq o.root l.id ≡ true → (found ≡ None → ⊥) → name_given split names runs o l found ≡ None → (m : Member) × (found ≡ Some m) × (bytes_eq o.root m.id ≡ true)
  owned_by o l None is there none = absurd (there refl)
  owned_by o l (Some m) is there none =
      let same : bytes_eq l.id m.id ≡ true = not_false (bytes_eq l.id m.id) (nowhere (not (bytes_eq l.id m.id)) _ none) in
      (m, refl, ap (λ id. bytes_eq id m.id) (same_bytes o.root l.id is) ∙ same)

  some_owner : (name : List ℕ) (found : Option Opening) (lib : Option Member) → find (λ (e : Opening). bytes_eq name e.name) (bundled_openings split runs) ≡ found → (found ≡ None → ⊥) → option_and_then (λ (e : Opening). lib_with split e.root) found ≡ lib → lib ≡ None → ⊥
  unfolding bundled_openings
  some_owner name None lib h there e none = there refl
  some_owner name (Some e) (Some m) h there is none = cc
  some_owner name (Some e) None h there is none =
      let kept : is_some (lib_with split e.root) ≡ true = found_kept (λ (o : Opening). is_some (lib_with split o.root)) (λ (o : Opening). bytes_eq name o.name) (openings runs) e h in
      let gone : is_some (lib_with split e.root) ≡ false = ap is_some is in cc

  bundled_by : (o : Opening) (found : Option Member) → lib_with split o.root ≡ found → (found ≡ None → ⊥) → is_some (lib_with split o.root) ≡ true
  bundled_by o None h there = absurd (there refl)
  bundled_by o (Some l) h there = ap is_some h

  -- The name of a library that is opened is among those of opened libraries.
  opened_there : (lib : Member) (i : ℕ) (o : Opening) → slice_get split.libs i ≡ Some lib → find (λ (o : Opening). bytes_eq lib.id o.root) (openings runs) ≡ Some o → find (λ (e : Opening). bytes_eq o.name e.name) (bundled_openings split runs) ≡ None → ⊥
  unfolding bundled_openings
  opened_there lib i o at found none =
      let passes : bytes_eq lib.id o.root ≡ true = find_passes (λ (o : Opening). bytes_eq lib.id o.root) (openings runs) o found in
      let other : bytes_eq o.root lib.id ≡ true = bytes_eq-sym o.root lib.id ∙ passes in
      let place = stands_at (λ (o : Opening). bytes_eq lib.id o.root) (openings runs) o found in
      missed_kept (λ (e : Opening). is_some (lib_with split e.root)) (λ (e : Opening). bytes_eq o.name e.name) (openings runs) place.0 o place.1
      (bundled_by o (lib_with split o.root) refl (missed (λ (l : Member). bytes_eq o.root l.id) split.libs i lib at other))
      (same_text o.name) none

  owned_of : (o : Opening) (lib : Option Member) → lib_with split o.root ≡ lib → (lib ≡ None → ⊥) → (owner o.name ≡ None → ⊥) → bundled_stop split names runs o lib ≡ None → (m : Member) × (owner o.name ≡ Some m) × (bytes_eq o.root m.id ≡ true)
  owned_of o None h there some none = absurd (there refl)
  owned_of o (Some l) h there some none =
      owned_by o l (owner o.name) (find_passes (λ (l : Member). bytes_eq o.root l.id) split.libs l h) some
      (none_first (name_given split names runs o l (owner o.name)) []
      (none_then (renamed split names runs o l (first_of_root split names runs o)) (name_given split names runs o l (owner o.name) ∷ [])
      (none_then (opened_as_host split names runs o) (renamed split names runs o l (first_of_root split names runs o) ∷ name_given split names runs o l (owner o.name) ∷ []) none)))

  owned : (lib : Member) (i : ℕ) (o : Opening) → slice_get split.libs i ≡ Some lib → find (λ (o : Opening). bytes_eq lib.id o.root) (openings runs) ≡ Some o → first_opening_stop split names runs ≡ None → (m : Member) × (owner o.name ≡ Some m) × (bytes_eq lib.id m.id ≡ true)
  unfolding first_opening_stop
  owned lib i o at found none =
      let passes : bytes_eq lib.id o.root ≡ true = find_passes (λ (o : Opening). bytes_eq lib.id o.root) (openings runs) o found in
      let other : bytes_eq o.root lib.id ≡ true = bytes_eq-sym o.root lib.id ∙ passes in
      let stop : opening_stop split names runs o ≡ None = none_of (opening_stop split names runs) (λ (o : Opening). bytes_eq lib.id o.root) (openings runs) o found none in
      let has = owned_of o (lib_with split o.root) refl (missed (λ (l : Member). bytes_eq o.root l.id) split.libs i lib at other)
      (some_owner o.name (find (λ (e : Opening). bytes_eq o.name e.name) (bundled_openings split runs)) (owner o.name) refl (opened_there lib i o at found) refl)
      (none_first (bundled_stop split names runs o (lib_with split o.root)) [] (none_then (opened_alias split names runs o (host_with split o.root)) (bundled_stop split names runs o (lib_with split o.root) ∷ []) stop)) in
      (has.0, has.1, ap (λ id. bytes_eq id has.0.id) (same_bytes lib.id o.root passes) ∙ has.2)

  -- Two libraries that are opened under one name are one.
  one_library : (a b : Member) (i j : ℕ) (o p : Opening) → slice_get split.libs i ≡ Some a → slice_get split.libs j ≡ Some b → find (λ (e : Opening). bytes_eq a.id e.root) (openings runs) ≡ Some o → find (λ (e : Opening). bytes_eq b.id e.root) (openings runs) ≡ Some p → first_opening_stop split names runs ≡ None → o.name ≡ p.name → bytes_eq a.id b.id ≡ true
  one_library a b i j o p at_i at_j found_a found_b none same =
      let one = owned a i o at_i found_a none in
      let other = owned b j p at_j found_b none in
      let both : Some one.0 ≡ Some other.0 = sym one.1 ∙ ap owner same ∙ other.1 in
      let is : one.0 ≡ other.0 = cc in
      let a_is : a.id ≡ other.0.id = same_bytes a.id one.0.id one.2 ∙ ap (λ (m : Member). m.id) is in
      let b_is : b.id ≡ other.0.id = same_bytes b.id other.0.id other.2 in
      ap (λ id. bytes_eq id b.id) (a_is ∙ sym b_is) ∙ same_text b.id

  -- The name of a library that is opened is given.
  given_there : (lib : Member) (i : ℕ) (o : Opening) → slice_get split.libs i ≡ Some lib → find (λ (o : Opening). bytes_eq lib.id o.root) (openings runs) ≡ Some o → is_on_list (given_names runs split) o.name ≡ true
  unfolding given_names
  given_there lib i o at found =
      any-map (λ (n : List ℕ). bytes_eq n o.name) (λ (e : Opening). e.name) (bundled_openings split runs)
      ∙ turned (bundled_openings split runs) o.name
      ∙ any_by (λ (e : Opening). bytes_eq o.name e.name) (bundled_openings split runs)
      (find (λ (e : Opening). bytes_eq o.name e.name) (bundled_openings split runs)) refl (opened_there lib i o at found)

  -- ---- all names

  two_names : (layout : List (List ℕ)) (i j : ℕ) (a b : Member) (name : List ℕ) (o p : Option Opening) → i < j → bytes_eq a.id b.id ≡ false → first_opening_stop split names runs ≡ None
      → slice_get split.libs i ≡ Some a → slice_get split.libs j ≡ Some b → slice_get layout i ≡ Some name
      → find (λ (e : Opening). bytes_eq a.id e.root) (openings runs) ≡ o → find (λ (e : Opening). bytes_eq b.id e.root) (openings runs) ≡ p
      → HasName faces runs split names (given_names runs split ++ take i layout) a name (option_map (λ (e : Opening). e.name) o)
      → HasName faces runs split names (given_names runs split ++ take j layout) b name (option_map (λ (e : Opening). e.name) p)
      → ⊥
  two_names layout i j a b name o None less others none at_i at_j at_name found_a found_b has_a has_b =
      let free : is_on_list (given_names runs split ++ take j layout) name ≡ false = not_taken (is_on_list (given_names runs split ++ take j layout) name) (is_on_list names name) has_b.free in
      let parts = neither (is_on_list (given_names runs split) name) (is_on_list (take j layout) name) (sym (list_any-append (λ n. bytes_eq n name) (given_names runs split) (take j layout)) ∙ free) in
      let there : is_on_list (take j layout) name ≡ true = on_list (take j layout) i name (in_front layout i j name less at_name) in
      let gone = parts.1 in cc
  two_names layout i j a b name None (Some p) less others none at_i at_j at_name found_a found_b has_a has_b =
      let free : is_on_list (given_names runs split ++ take i layout) name ≡ false = not_taken (is_on_list (given_names runs split ++ take i layout) name) (is_on_list names name) has_a.free in
      let parts = neither (is_on_list (given_names runs split) name) (is_on_list (take i layout) name) (sym (list_any-append (λ n. bytes_eq n name) (given_names runs split) (take i layout)) ∙ free) in
      let there : is_on_list (given_names runs split) name ≡ true = ap (is_on_list (given_names runs split)) has_b ∙ given_there b j p at_j found_b in
      let gone = parts.0 in cc
  two_names layout i j a b name (Some o) (Some p) less others none at_i at_j at_name found_a found_b has_a has_b =
      let one : bytes_eq a.id b.id ≡ true = one_library a b i j o p at_i at_j found_a found_b none (sym has_a ∙ has_b) in cc

  -- The libraries of the split have distinct identities.
  abbrev pub AreDistinctLibs : Type 0
  AreDistinctLibs = (i j : ℕ) (a b : Member) → i < j → slice_get split.libs i ≡ Some a → slice_get split.libs j ≡ Some b → bytes_eq a.id b.id ≡ false

  apart_by : (layout : List (List ℕ)) (i j : ℕ) (a b : Option Member) (name : List ℕ) → AreNames faces runs split names layout → first_opening_stop split names runs ≡ None → AreDistinctLibs → i < j → slice_get split.libs i ≡ a → slice_get split.libs j ≡ b → slice_get layout i ≡ Some name → slice_get layout j ≡ Some name → ⊥
  apart_by layout i j None b name are none distinct less at_i at_j one other =
      let past = missing split.libs i at_i in
      let within = slice_get_within layout i name one in
      let count = are.count in omega arith
  apart_by layout i j (Some a) None name are none distinct less at_i at_j one other =
      let past = missing split.libs j at_j in
      let within = slice_get_within layout j name other in
      let count = are.count in omega arith
  apart_by layout i j (Some a) (Some b) name are none distinct less at_i at_j one other =
      two_names layout i j a b name (find (λ (e : Opening). bytes_eq a.id e.root) (openings runs)) (find (λ (e : Opening). bytes_eq b.id e.root) (openings runs)) less (distinct i j a b less at_i at_j) none at_i at_j one refl refl
      (are.each i a name at_i one) (are.each j b name at_j other)

  -- No two names are one, where no opened name is refused.
  pub all_distinct : (layout : List (List ℕ)) → AreNames faces runs split names layout → first_name_stop faces runs split names ≡ None → AreDistinctLibs → AllPairs (λ a b. a ≢ b) layout
  all_distinct layout are none distinct i j d less within same =
      let one : slice_get layout i ≡ Some (get_or layout i d) = slice_get-get_or layout i d (omega arith) in
      let other : slice_get layout j ≡ Some (get_or layout j d) = slice_get-get_or layout j d within in
      apart_by layout i j (slice_get split.libs i) (slice_get split.libs j) (get_or layout j d) are (stop_none faces runs split names none) distinct less refl refl (one ∙ ap Some same) other
