-- Symbols that are kept by their names, and what is offered among those of one name.
use Rattle.std.proofs.Common.{◌≡◌, ◌≢◌, ◌∙◌, sym, ap, refl, ℕ, suc, ◌+◌, ◌<◌, ◌==◌, ◌&&◌, ◌||◌, List, [], ◌∷◌, ◌++◌, Bool, true, false, cond, not, Option, Some, None, Bor, bytes_eq, drop, filter, get_or, length, map, slice_get, take, arith}
use Rattle.std.specs.Cmp.Lexicographic.{bytes_decides}
use Rattle.std.specs.Global.{Vec}
use Rattle.std.specs.List.{find, list_any, position_from}
use Rattle.std.specs.Map.{lookup}
use Rattle.std.specs.Option.{option_and_then, option_copied, option_map}
use Rattle.std.proofs.lemmas.Bool.{and_parts, both_ways, ne_eqb}
use Rattle.std.proofs.lemmas.List.{append-nil, map-append}
use Rattle.std.proofs.lemmas.Option.{slice_get-map}
use Rattle.indexmap.specs.IndexMap.{insert_entry}
use Rattle.load_model.specs.Offers.{has_wanted_version, is_accepted, is_candidate, is_early, is_first_version, is_local, is_one, is_open_to, is_shown, offer_of, real_syms}
use Rattle.load_model.specs.declared.symbols.Class.{Class}
use Rattle.load_model.specs.declared.symbols.Sym.{Sym}
use Rattle.text_sets.proofs.FoundLemmas.{bytes_eq-sym, none_any}
use Rattle.version_files.proofs.TakenLemmas.{take_next}
use Rattle.host_meeting.specs.Named.{kept_for, kept_syms, named, seen_sym, seen_syms}
use Rattle.host_meeting.specs.declared.files.LibFile.{LibFile}
use Rattle.host_meeting.specs.declared.named.NamedFile.{NamedFile}

abbrev pub key_eq : Bor (List ℕ) → Bor (List ℕ) → Bool
key_eq a b = bytes_eq a.now b.now

unlike : (a b c : List ℕ) → bytes_eq a b ≡ true → bytes_eq a c ≡ true → bytes_eq b c ≡ false → ⊥
unlike a b c h g e = both_ways (bytes_eq b c) e ((bytes_decides b c).1 (sym ((bytes_decides a b).0 h) ∙ (bytes_decides a c).0 g))

alike : (a b c : List ℕ) → bytes_eq b c ≡ true → bytes_eq a c ≡ bytes_eq a b
alike a b c e = sym (ap (bytes_eq a) ((bytes_decides b c).0 e))

-- what is found is what was inserted, or what was there
module _ {V : Type 0} (q : List ℕ) (k : Bor (List ℕ)) (v : V) where
  abbrev test : Bor (List ℕ) → Bool
  test b = bytes_eq q b.now

  first_by : (e : Bor (List ℕ) × V) (es inserted : List (Bor (List ℕ) × V)) (same mine its : Bool) → bytes_eq k.now e.0.now ≡ same → bytes_eq q k.now ≡ mine → bytes_eq q e.0.now ≡ its → lookup test inserted ≡ cond mine (Some v) (lookup test es) → lookup test (cond same ((e.0, v) ∷ es) (e ∷ inserted)) ≡ cond mine (Some v) (cond its (Some e.1) (lookup test es))
  first_by e es inserted true true its s m i h = ap (λ b. cond b (Some v) (lookup test es)) (alike q k.now e.0.now s ∙ m)
  first_by e es inserted true false true s m i h = absurd (both_ways (bytes_eq q e.0.now) (alike q k.now e.0.now s ∙ m) i)
  first_by e es inserted true false false s m i h = ap (λ b. cond b (Some v) (lookup test es)) i
  first_by e es inserted false true true s m i h = absurd (unlike q k.now e.0.now m i s)
  first_by e es inserted false true false s m i h = ap (λ b. cond b (Some e.1) (lookup test inserted)) i ∙ h
  first_by e es inserted false false true s m i h = ap (λ b. cond b (Some e.1) (lookup test inserted)) i
  first_by e es inserted false false false s m i h = ap (λ b. cond b (Some e.1) (lookup test inserted)) i ∙ h

  pub found_by : (es : List (Bor (List ℕ) × V)) → lookup test (insert_entry key_eq es k v) ≡ cond (bytes_eq q k.now) (Some v) (lookup test es)
  found_by [] = refl
  found_by (e ∷ es) =
      first_by e es (insert_entry key_eq es k v) (bytes_eq k.now e.0.now) (bytes_eq q k.now) (bytes_eq q e.0.now) refl refl refl (found_by es)
      ∙ ap (λ b. cond (bytes_eq q k.now) (Some v) b) refl

module _ (es after : List (Bor (List ℕ) × Vec (Bor Sym))) (k : Bor (List ℕ)) (v : Vec (Bor Sym)) (at : after ≡ insert_entry key_eq es k v) where
  looked_up : (q : List ℕ) (b : Bool) → bytes_eq q k.now ≡ b → kept_for after q ≡ kept_syms (cond b (Some v) (lookup (λ (x : Bor (List ℕ)). bytes_eq q x.now) es))
  looked_up q b e =
      ap kept_syms
      (ap (lookup (λ (x : Bor (List ℕ)). bytes_eq q x.now)) at ∙ found_by q k v es
      ∙ ap (λ t. cond t (Some v) (lookup (λ (x : Bor (List ℕ)). bytes_eq q x.now) es)) e)

  -- Nothing changes for other names.
  pub others_stay : (q : List ℕ) → bytes_eq q k.now ≡ false → kept_for after q ≡ kept_for es q
  others_stay q e = looked_up q false e

  -- A symbol more is kept for its name.
  pub one_more : (before : List (Bor (List ℕ) × Vec (Bor Sym))) (s : Bor Sym) (old : Vec (Bor Sym)) → k.now ≡ s.now.name → seen_syms old.items ≡ kept_for before k.now → ((q : List ℕ) → bytes_eq q k.now ≡ false → kept_for es q ≡ kept_for before q) → v.items ≡ old.items ++ s ∷ [] → (q : List ℕ) → kept_for after q ≡ kept_for before q ++ cond (bytes_eq s.now.name q) (s.now ∷ []) []
  one_more before s old named was others more q = by (bytes_eq q k.now) refl ∙ ap (λ b. kept_for before q ++ cond b (s.now ∷ []) []) (bytes_eq-sym q k.now ∙ ap (λ n. bytes_eq n q) named)
    where
      by : (b : Bool) → bytes_eq q k.now ≡ b → kept_for after q ≡ kept_for before q ++ cond b (s.now ∷ []) []
      by true e =
          looked_up q true e ∙ ap (map (λ (t : Bor Sym). t.now)) more ∙ map-append (λ (t : Bor Sym). t.now) old.items (s ∷ [])
          ∙ ap (λ l. l ++ s.now ∷ []) (was ∙ ap (kept_for before) (sym ((bytes_decides q k.now).0 e)))
      by false e = looked_up q false e ∙ others q e ∙ sym (append-nil (kept_for before q))

-- ---- lists, and those of their elements that pass a test

module _ {X : Type 0} where
  same_found : (p r : X → Bool) (xs : List X) → ((x : X) → p x ≡ r x) → find p xs ≡ find r xs
  same_found p r [] h = refl
  same_found p r (x ∷ xs) h = ap (λ b. cond b (Some x) (find p xs)) (h x) ∙ ap (λ o. cond (r x) (Some x) o) (same_found p r xs h)

  module _ (p q : X → Bool) (implies : (x : X) → p x ≡ true → q x ≡ true) where
    find_by : (a b : Bool) (x : X) (xs : List X) → p x ≡ a → q x ≡ b → find p (filter q xs) ≡ find p xs → find p (cond b (x ∷ filter q xs) (filter q xs)) ≡ cond a (Some x) (find p xs)
    find_by a true x xs h g e = ap (λ t. cond t (Some x) (find p (filter q xs))) h ∙ ap (λ o. cond a (Some x) o) e
    find_by true false x xs h g e = absurd (both_ways (q x) g (implies x h))
    find_by false false x xs h g e = e

    -- What passes the narrower test is found among those that pass the wider one.
    pub found_among : (xs : List X) → find p (filter q xs) ≡ find p xs
    found_among [] = refl
    found_among (x ∷ xs) = find_by (p x) (q x) x xs refl refl (found_among xs)

    any_by : (a b : Bool) (x : X) (xs : List X) → p x ≡ a → q x ≡ b → list_any p (filter q xs) ≡ list_any p xs → list_any p (cond b (x ∷ filter q xs) (filter q xs)) ≡ (a || list_any p xs)
    any_by a true x xs h g e = ap (λ t. t || list_any p (filter q xs)) h ∙ ap (λ o. a || o) e
    any_by true false x xs h g e = absurd (both_ways (q x) g (implies x h))
    any_by false false x xs h g e = e

    any_among : (xs : List X) → list_any p (filter q xs) ≡ list_any p xs
    any_among [] = refl
    any_among (x ∷ xs) = any_by (p x) (q x) x xs refl refl (any_among xs)

    all_by : (a b : Bool) (x : X) (xs : List X) → p x ≡ a → q x ≡ b → filter p (filter q xs) ≡ filter p xs → filter p (cond b (x ∷ filter q xs) (filter q xs)) ≡ cond a (x ∷ filter p xs) (filter p xs)
    all_by a true x xs h g e = ap (λ t. cond t (x ∷ filter p (filter q xs)) (filter p (filter q xs))) h ∙ ap (λ l. cond a (x ∷ l) l) e
    all_by true false x xs h g e = absurd (both_ways (q x) g (implies x h))
    all_by false false x xs h g e = e

    all_among : (xs : List X) → filter p (filter q xs) ≡ filter p xs
    all_among [] = refl
    all_among (x ∷ xs) = all_by (p x) (q x) x xs refl refl (all_among xs)

  module _ (p : X → Bool) (ys : List X) where
    stands_by : (b : Bool) (x : X) (xs : List X) (i : ℕ) → slice_get ys i ≡ Some x → option_and_then (slice_get ys) (position_from p (i + 1) xs) ≡ find p xs → option_and_then (slice_get ys) (cond b (Some i) (position_from p (i + 1) xs)) ≡ cond b (Some x) (find p xs)
    stands_by true x xs i h e = h
    stands_by false x xs i h e = e

    -- What stands at the first place is what is found.
    stands_at : (xs : List X) (i : ℕ) → ((j : ℕ) → slice_get ys (i + j) ≡ slice_get xs j) → option_and_then (slice_get ys) (position_from p i xs) ≡ find p xs
    stands_at [] i h = refl
    stands_at (x ∷ xs) i h =
        let here : i + 0 ≡ i = omega arith in
        stands_by (p x) x xs i (ap (slice_get ys) (sym here) ∙ h 0)
        (stands_at xs (i + 1) (λ j. let next : i + 1 + j ≡ i + suc j = omega arith in ap (slice_get ys) next ∙ h (suc j)))

  found_real : (p : X → Bool) (xs : List X) → option_and_then (slice_get xs) (position_from p 1 (drop 1 xs)) ≡ find p (drop 1 xs)
  found_real p [] = refl
  found_real p (x ∷ xs) = stands_at p (x ∷ xs) xs 1 (λ j. let next : 1 + j ≡ suc j = omega arith in ap (slice_get (x ∷ xs)) next)

-- ---- what is offered among the symbols of one name

module _ (name : List ℕ) (class : Class) where
  abbrev is_named : Sym → Bool
  is_named s = bytes_eq s.name name

  candidate_named : (s : Sym) → is_candidate name class s ≡ true → is_named s ≡ true
  candidate_named s h = (and_parts (is_named s) (not (is_local s.version)) (and_parts (is_open_to class s) (is_named s && not (is_local s.version)) h).1).0

  early_named : (s : Sym) → is_early name class s ≡ true → is_named s ≡ true
  early_named s h = candidate_named s (and_parts (is_candidate name class s) (is_first_version s.version) h).0

  shown_named : (s : Sym) → is_shown name class s ≡ true → is_named s ≡ true
  shown_named s h = candidate_named s (and_parts (is_candidate name class s) (not s.hidden) h).0

  without_by : (a b : Bool) (s : Sym) → cond a (is_early name class s) (is_shown name class s && b) ≡ true → is_named s ≡ true
  without_by true b s h = early_named s h
  without_by false b s h = shown_named s (and_parts (is_shown name class s) b h).0

  accepted_named : (syms : List Sym) (versioned : Bool) (version : Option (List ℕ)) (s : Sym) → is_accepted syms name class versioned version s ≡ true → is_named s ≡ true
  accepted_named syms false version s h = candidate_named s h
  accepted_named syms true (Some wanted) s h = candidate_named s (and_parts (is_candidate name class s) (has_wanted_version wanted s) h).0
  accepted_named syms true None s h = without_by (list_any (is_early name class) syms) (is_one (is_shown name class) syms) s h

  -- The symbols of other names do not count.
  accepted_alike : (syms : List Sym) (versioned : Bool) (version : Option (List ℕ)) (s : Sym) → is_accepted (filter is_named syms) name class versioned version s ≡ is_accepted syms name class versioned version s
  accepted_alike syms false version s = refl
  accepted_alike syms true (Some wanted) s = refl
  accepted_alike syms true None s =
      ap (λ a. cond a (is_early name class s) (is_shown name class s && (length (filter (is_shown name class) (filter is_named syms)) == 1))) (any_among (is_early name class) is_named early_named syms)
      ∙ ap (λ (l : List Sym). cond (list_any (is_early name class) syms) (is_early name class s) (is_shown name class s && (length l == 1))) (all_among (is_shown name class) is_named shown_named syms)

  pub offered_among : (syms : List Sym) (versioned : Bool) (version : Option (List ℕ)) → option_and_then (λ i. slice_get syms i) (offer_of (record { syms = syms; versioned = versioned }) name version class) ≡ find (is_accepted (named syms name) name class versioned version) (named syms name)
  unfolding offer_of
  offered_among syms versioned version =
      found_real (is_accepted (real_syms syms) name class versioned version) syms
      ∙ sym (found_among (is_accepted (real_syms syms) name class versioned version) is_named (accepted_named (real_syms syms) versioned version) (real_syms syms))
      ∙ sym (same_found (is_accepted (named syms name) name class versioned version) (is_accepted (real_syms syms) name class versioned version) (named syms name) (accepted_alike (real_syms syms) versioned version))

-- ---- symbols behind references

module _ {X Y : Type 0} (f : X → Y) (p : Y → Bool) where
  first_seen : (b : Bool) (x : X) (found : Option Y) (later : Option X) → found ≡ option_map f later → cond b (Some (f x)) found ≡ option_map f (cond b (Some x) later)
  first_seen true x found later h = refl
  first_seen false x found later h = h

  find-map : (xs : List X) → find p (map f xs) ≡ option_map f (find (λ x. p (f x)) xs)
  find-map [] = refl
  find-map (x ∷ xs) = first_seen (p (f x)) x (find p (map f xs)) (find (λ y. p (f y)) xs) (find-map xs)

  more_seen : (b : Bool) (y : Y) (x : X) (ys : List Y) (xs : List X) → length ys ≡ length xs → length (cond b (y ∷ ys) ys) ≡ length (cond b (x ∷ xs) xs)
  more_seen true y x ys xs h = ap suc h
  more_seen false y x ys xs h = h

  many-map : (xs : List X) → length (filter p (map f xs)) ≡ length (filter (λ x. p (f x)) xs)
  many-map [] = refl
  many-map (x ∷ xs) = more_seen (p (f x)) (f x) x (filter p (map f xs)) (filter (λ y. p (f y)) xs) (many-map xs)

pub seen_copied : (o : Option (Bor (Bor Sym))) → seen_sym o ≡ option_map (λ (s : Bor Sym). s.now) (option_copied o)
seen_copied None = refl
seen_copied (Some s) = refl

pub copied_seen : (o : Option (Bor (Bor Sym))) (c : Option (Bor Sym)) → c ≡ option_copied o → option_copied c ≡ seen_sym o
copied_seen None None h = refl
copied_seen None (Some c) h = cc
copied_seen (Some s) None h = cc
copied_seen (Some s) (Some c) h = let same : c ≡ s.now = cc in ap (λ (b : Bor Sym). Some b.now) same

-- What is found behind references.
pub find_seen : (p : Sym → Bool) (xs : List (Bor Sym)) (found : Option (Bor (Bor Sym))) → option_copied found ≡ find (λ (s : Bor Sym). p s.now) xs → seen_sym found ≡ find p (seen_syms xs)
find_seen p xs found h = seen_copied found ∙ ap (option_map (λ (s : Bor Sym). s.now)) h ∙ sym (find-map (λ (s : Bor Sym). s.now) p xs)

pub many_seen : (p : Sym → Bool) (xs : List (Bor Sym)) → length (filter p (seen_syms xs)) ≡ length (filter (λ (s : Bor Sym). p s.now) xs)
many_seen p xs = many-map (λ (s : Bor Sym). s.now) p xs

-- ---- the first that is accepted, by the table of versions and the version that is asked for

module _ (syms : List Sym) (name : List ℕ) (class : Class) (found : Option Sym) where
  pub accepted_plain : (versioned : Bool) (version : Option (List ℕ)) → versioned ≡ false → found ≡ find (is_candidate name class) syms → found ≡ find (is_accepted syms name class versioned version) syms
  accepted_plain false version h e = e
  accepted_plain true version h e = cc

  pub accepted_version : (versioned : Bool) (version : Option (List ℕ)) (wanted : List ℕ) → versioned ≡ true → version ≡ Some wanted → found ≡ find (λ s. is_candidate name class s && has_wanted_version wanted s) syms → found ≡ find (is_accepted syms name class versioned version) syms
  accepted_version false version wanted h is e = cc
  accepted_version true None wanted h is e = cc
  accepted_version true (Some w) wanted h is e =
      let same : w ≡ wanted = cc in
      e ∙ sym (ap (λ v. find (λ s. is_candidate name class s && has_wanted_version v s) syms) same)

  pub accepted_without : (versioned : Bool) (version : Option (List ℕ)) → versioned ≡ true → version ≡ None → found ≡ find (is_accepted syms name class true None) syms → found ≡ find (is_accepted syms name class versioned version) syms
  accepted_without false version h is e = cc
  accepted_without true None h is e = e
  accepted_without true (Some w) h is e = cc

any_found : {X : Type 0} (t : X → Bool) (b : Bool) (x y : X) (xs : List X) → t x ≡ b → (find t xs ≡ Some y → list_any t xs ≡ true) → cond b (Some x) (find t xs) ≡ Some y → (b || list_any t xs) ≡ true
any_found t true x y xs h more e = refl
any_found t false x y xs h more e = more e

found_any : {X : Type 0} (t : X → Bool) (xs : List X) (y : X) → find t xs ≡ Some y → list_any t xs ≡ true
found_any t [] y e = cc
found_any t (x ∷ xs) y e = any_found t (t x) x y xs refl (found_any t xs y) e

none_by : {X : Type 0} (t : X → Bool) (b : Bool) (x : X) (xs : List X) → find (λ y. t y && false) xs ≡ None → cond (b && false) (Some x) (find (λ y. t y && false) xs) ≡ None
none_by t true x xs h = h
none_by t false x xs h = h

none_passes : {X : Type 0} (t : X → Bool) (xs : List X) → find (λ y. t y && false) xs ≡ None
none_passes t [] = refl
none_passes t (x ∷ xs) = none_by t (t x) x xs (none_passes t xs)

with_true : (b : Bool) → (b && true) ≡ b
with_true true = refl
with_true false = refl

module _ (syms : List Sym) (name : List ℕ) (class : Class) where
  by_tests : (a b : Bool) → list_any (is_early name class) syms ≡ a → is_one (is_shown name class) syms ≡ b → find (is_accepted syms name class true None) syms ≡ find (λ s. cond a (is_early name class s) (is_shown name class s && b)) syms
  by_tests a b h g =
      ap (λ t. find (λ s. cond t (is_early name class s) (is_shown name class s && is_one (is_shown name class) syms)) syms) h
      ∙ ap (λ t. find (λ s. cond a (is_early name class s) (is_shown name class s && t)) syms) g

  pub early_first : (s : Sym) → Some s ≡ find (is_early name class) syms → Some s ≡ find (is_accepted syms name class true None) syms
  early_first s h = h ∙ sym (by_tests true (is_one (is_shown name class) syms) (found_any (is_early name class) syms s (sym h)) refl)

  pub one_shown : (found : Option Sym) → None ≡ find (is_early name class) syms → length (filter (is_shown name class) syms) ≡ 1 → found ≡ find (is_shown name class) syms → found ≡ find (is_accepted syms name class true None) syms
  one_shown found none one h =
      h ∙ sym (by_tests false true (none_any (is_early name class) syms (sym none)) (ap (λ n. n == 1) one)
      ∙ same_found (λ s. is_shown name class s && true) (is_shown name class) syms (λ s. with_true (is_shown name class s)))

  pub none_shown : None ≡ find (is_early name class) syms → length (filter (is_shown name class) syms) ≢ 1 → None ≡ find (is_accepted syms name class true None) syms
  none_shown none other =
      sym (by_tests false false (none_any (is_early name class) syms (sym none)) (ne_eqb (length (filter (is_shown name class) syms)) 1 other) ∙ none_passes (is_shown name class) syms)

-- ---- what a file offers

module _ (syms : List Sym) (versioned : Bool) (name : List ℕ) (version : Option (List ℕ)) (class : Class) where
  abbrev offered : Option Sym
  offered = option_and_then (λ i. slice_get syms i) (offer_of (record { syms = syms; versioned = versioned }) name version class)

  pub offered_in : (same : List (Bor Sym)) (found : Option (Bor (Bor Sym))) (copied : Option (Bor Sym)) → seen_syms same ≡ named syms name → seen_sym found ≡ find (is_accepted (seen_syms same) name class versioned version) (seen_syms same) → copied ≡ option_copied found → option_copied copied ≡ offered
  offered_in same found copied are h e =
      copied_seen found copied e ∙ h ∙ ap (λ l. find (is_accepted l name class versioned version) l) are ∙ sym (offered_among name class syms versioned version)

  pub offered_none : [] ≡ named syms name → None ≡ offered
  offered_none none = ap (λ l. find (is_accepted l name class versioned version) l) none ∙ sym (offered_among name class syms versioned version)

-- ---- files one after the other

abbrev file_of : NamedFile → LibFile
file_of n = n.file

pub files_next : (named now : List NamedFile) (files : List LibFile) (i : ℕ) (n : NamedFile) (f : LibFile) → i < length files → f ≡ get_or files i f → map file_of named ≡ take i files → n.file ≡ f → now ≡ named ++ n ∷ [] → map file_of now ≡ take (i + 1) files
files_next named now files i n f less at was is more =
    ap (map file_of) more ∙ map-append file_of named (n ∷ []) ∙ ap (λ (g : LibFile). map file_of named ++ g ∷ []) is
    ∙ ap (λ l. l ++ f ∷ []) was ∙ sym (take_next files i f less at)

pub file_at : (named : List NamedFile) (k : ℕ) (n : NamedFile) → slice_get named k ≡ Some n → slice_get (map file_of named) k ≡ Some n.file
file_at named k n h = slice_get-map file_of named k ∙ ap (option_map file_of) h
