-- Versions of symbols.
use Rattle.std.proofs.Common.{◌≡◌, ℕ, ◌+◌, ◌*◌, ◌<◌, ◌==◌, ◌&&◌, Bool, true, false, cond, List, [], ◌∷◌, ◌++◌, Option, Some, None, map, refl, ◌∙◌, arith}
use Rattle.std.specs.Prelude.{nat_lt}
use Rattle.std.specs.List.{find, list_all}
use Rattle.std.specs.Option.{option_map}
use Rattle.std.proofs.lemmas.Bool.Decides.{nat_tests}
use Rattle.byte_view.specs.declared.flaws.TheConstants.{VERSION_RANGE}
use Rattle.byte_view.specs.Checks.{flaw}
use Rattle.byte_view.specs.Dynamic.{dynamic_entries, strings_size}
use Rattle.byte_view.specs.declared.constants.TheConstants.{DT_VERSYM}
use Rattle.byte_view.proofs.Loads.{none_first}
use Rattle.load_model.specs.VersionFlaws.{bad_versym, is_unbacked, index_flaw, symbols_version_flaw, verdefs_flaw, verneeds_flaw, version_flaw}
use Rattle.load_model.specs.VersionTables.{defined_name, indexed_names, is_hidden, is_versioned, memory_number, needed_name, place_by, text_of, verdefs, vernauxs, version_by, version_index, version_of, versym, versym_word}
use Rattle.two_files.specs.Alike.{KeepsVersions}
use Rattle.two_files.proofs.Asks.{AreFine, all_asked, all_defined, are_fine, indexed_same}
use Rattle.two_files.proofs.Records.{backed_same, each_none, none_each, number_same, text_same}
use Rattle.two_files.proofs.Versions.{definitions_kept, found_none, needs_kept}

-- the word of a symbol
pub record SameIndex (b c : List ℕ) (i : ℕ) : Type 0 where
  pub index : version_index c i ≡ version_index b i
  pub hidden : is_hidden c i ≡ is_hidden b i

versioned_same : (count : ℕ) (b c : List ℕ) → KeepsVersions count b c → (is_versioned c ≡ is_versioned b) × (versym c ≡ versym b)
versioned_same count b c v = (rw (v.tags.tags DT_VERSYM refl) refl, rw (v.tags.tags DT_VERSYM refl) refl)

pub same_index : (count : ℕ) (b c : List ℕ) (i : ℕ) → KeepsVersions count b c → i < count → SameIndex b c i
same_index count b c i v h = go (is_versioned b) refl
  where
    go : (t : Bool) → is_versioned b ≡ t → SameIndex b c i
    go false t =
        let there : is_versioned c ≡ false = (versioned_same count b c v).0 ∙ t in
        record { index = rw (there, t) refl; hidden = rw (there, t) refl }
    go true t =
        let there : is_versioned c ≡ true = (versioned_same count b c v).0 ∙ t in
        let word : memory_number 2 c (versym b + 2 * i) ≡ memory_number 2 b (versym b + 2 * i) = number_same b c (versym b) (2 * count) 2 (2 * i) (v.indexes t) (omega arith) in
        let same : versym_word c i ≡ versym_word b i = rw (versioned_same count b c v).1 word in
        record { index = rw (there, t, same) refl; hidden = rw (there, t, same) refl }

-- a name of an index is one of the names
placed : (size index : ℕ) (names : List (ℕ × ℕ)) (p : ℕ) → list_all (λ n. nat_lt n.1 size) names ≡ true → place_by index names ≡ Some p → p < size
placed size index [] p all e = absurd (cc)
placed size index (n ∷ names) p all e = go (n.0 == index) (nat_lt n.1 size) refl (placed size index names p) all e
  where
    go : (s t : Bool) → nat_lt n.1 size ≡ t → (list_all (λ n. nat_lt n.1 size) names ≡ true → place_by index names ≡ Some p → p < size) → (t && list_all (λ n. nat_lt n.1 size) names) ≡ true → option_map (λ n. n.1) (cond s (Some n) (find (λ n. n.0 == index) names)) ≡ Some p → p < size
    go s false t later all e = absurd (cc)
    go true true t later all e = let same : n.1 ≡ p = cc in grind (arith, nat_tests)
    go false true t later all e = later all e

all_both : (p : ℕ × ℕ → Bool) (xs ys : List (ℕ × ℕ)) → list_all p xs ≡ true → list_all p ys ≡ true → list_all p (xs ++ ys) ≡ true
all_both p [] ys e f = f
all_both p (x ∷ xs) ys e f = go (p x) e (λ g. all_both p xs ys g f)
  where
    go : (t : Bool) → (t && list_all p xs) ≡ true → (list_all p xs ≡ true → list_all p (xs ++ ys) ≡ true) → (t && list_all p (xs ++ ys)) ≡ true
    go true e later = later e
    go false e later = absurd (cc)

names_placed : (b : List ℕ) → AreFine b → list_all (λ n. nat_lt n.1 (strings_size (dynamic_entries b))) (indexed_names b) ≡ true
unfolding indexed_names
names_placed b fine =
    all_both (λ n. nat_lt n.1 (strings_size (dynamic_entries b))) (map (defined_name b) (verdefs b)) (map (λ a. needed_name b a.1) (vernauxs b))
    (all_defined (defined_name b) (λ n. nat_lt n.1 (strings_size (dynamic_entries b))) b (λ k h. below (fine.definitions k h)))
    (all_asked (λ a. needed_name b a.1) (λ n. nat_lt n.1 (strings_size (dynamic_entries b))) b (λ k j h l. below (fine.asked k j h l)))
  where
    below : {x y : ℕ} → x < y → nat_lt x y ≡ true
    below h = grind (arith, nat_tests)

pub version_same : (count : ℕ) (b c : List ℕ) (i : ℕ) → KeepsVersions count b c → AreFine b → i < count → version_of c i ≡ version_of b i
version_same count b c i v fine h =
    let index : version_index c i ≡ version_index b i = (same_index count b c i v h).index in
    rw (index, indexed_same count b c v) (go (place_by (version_index b i) (indexed_names b)) refl)
  where
    go : (o : Option ℕ) → place_by (version_index b i) (indexed_names b) ≡ o → version_by c (version_index b i) o ≡ version_by b (version_index b i) o
    go None e = refl
    go (Some p) e =
        let text : text_of c p ≡ text_of b p = text_same b c p v.texts (placed (strings_size (dynamic_entries b)) (version_index b i) (indexed_names b) p (names_placed b fine) e) in
        rw text refl

symbol_kept : (count : ℕ) (b c : List ℕ) (i : ℕ) → KeepsVersions count b c → i < count → index_flaw b i ≡ None → index_flaw c i ≡ None
unfolding index_flaw
symbol_kept count b c i v h e =
    let index : version_index c i ≡ version_index b i = (same_index count b c i v h).index in
    rw (index, indexed_same count b c v) e

symbols_kept : (count : ℕ) (b c : List ℕ) → KeepsVersions count b c → symbols_version_flaw count b ≡ None → symbols_version_flaw count c ≡ None
unfolding symbols_version_flaw
symbols_kept count b c v e =
    each_none (index_flaw c) 0 count (λ i l h. let low : i < count = omega arith in symbol_kept count b c i v low (none_each (index_flaw b) 0 count e i l h))

versym_kept : (count : ℕ) (b c : List ℕ) → KeepsVersions count b c → bad_versym count b ≡ None → bad_versym count c ≡ None
versym_kept count b c v e =
    let same = versioned_same count b c v in
    rw (same.0, same.1) (go (is_versioned b) (found_none (is_versioned b && is_unbacked b (versym b) (2 * count)) (flaw VERSION_RANGE (versym b) 0) e))
  where
    go : (t : Bool) → (t && is_unbacked b (versym b) (2 * count)) ≡ false → cond (t && is_unbacked c (versym b) (2 * count)) (Some (flaw VERSION_RANGE (versym b) 0)) None ≡ None
    go false e = refl
    go true e = rw (backed_same b c (versym b) (2 * count) v.ranges e) refl

-- the parts of the check
pub record VersionsKept (count : ℕ) (b c : List ℕ) : Type 0 where
  pub unflawed : version_flaw count c ≡ None
  pub fine : AreFine b
  pub versions : (i : ℕ) → i < count → version_of c i ≡ version_of b i
  pub hidden : (i : ℕ) → i < count → is_hidden c i ≡ is_hidden b i
  pub versioned : is_versioned c ≡ is_versioned b

pub versions_kept : (count : ℕ) (b c : List ℕ) → KeepsVersions count b c → version_flaw count b ≡ None → VersionsKept count b c
unfolding version_flaw
versions_kept count b c v e =
    let first = none_first (bad_versym count b) (verdefs_flaw b ∷ verneeds_flaw b ∷ symbols_version_flaw count b ∷ []) e in
    let second = none_first (verdefs_flaw b) (verneeds_flaw b ∷ symbols_version_flaw count b ∷ []) first.1 in
    let third = none_first (verneeds_flaw b) (symbols_version_flaw count b ∷ []) second.1 in
    let fourth : symbols_version_flaw count b ≡ None = (none_first (symbols_version_flaw count b) [] third.1).0 in
    let fine : AreFine b = are_fine b second.0 third.0 in
    record {
      unflawed = rw (versym_kept count b c v first.0, definitions_kept count b c v second.0, needs_kept count b c v third.0, symbols_kept count b c v fourth) refl;
      fine = fine;
      versions = λ i h. version_same count b c i v fine h;
      hidden = λ i h. (same_index count b c i v h).hidden;
      versioned = (versioned_same count b c v).0;
    }
