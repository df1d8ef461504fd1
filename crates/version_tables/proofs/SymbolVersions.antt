-- What the words of the symbols say, by the names that were noted.
use Rattle.std.proofs.Common.{◌≡◌, ℕ, ◌+◌, ◌<◌, ◌≤◌, ◌&&◌, not, Bool, true, false, cond, List, Option, Some, None, length, get_or, map, refl, ap, ◌∙◌, arith}
use Rattle.std.specs.Prelude.{is_some, nat_lt, bit_and}
use Rattle.std.specs.List.{range_with_len}
use Rattle.std.proofs.lemmas.List.FromFn.{get_or-map-range_with_len, length-map-range_with_len}
use Rattle.std.proofs.lemmas.Nat.{and_le_r}
use Rattle.answers.specs.First.{first_some, some_where}
use Rattle.byte_view.specs.Checks.{flaw}
use Rattle.byte_view.specs.DynamicFlaws.{has_bit}
use Rattle.byte_view.specs.declared.constants.TheConstants.{DT_VERSYM, VER_NDX_GLOBAL, VERSYM_HIDDEN, VERSYM_VERSION}
use Rattle.byte_view.specs.declared.flaws.Flaw.{Flaw}
use Rattle.byte_view.specs.declared.flaws.TheConstants.{UNKNOWN_INDEX}
use Rattle.load_model.specs.VersionFlaws.{index_flaw, symbols_version_flaw, unknown_index}
use Rattle.load_model.specs.VersionTables.{dynamic_value, hidden_of, index_in, indexed_names, is_hidden, is_versioned, place_by, version_by, version_of, versions_of, versym_word}
use Rattle.version_tables.specs.Indexes.{AreFirst, index_count, index_count_by, symbol_word, unknown_at, unknown_word, version_in}
use Rattle.version_tables.specs.Walks.{from_on}
use Rattle.version_tables.proofs.Assembled.{map_twice}
use Rattle.version_tables.proofs.SymbolWords.{same_from}
use Rattle.version_tables.proofs.Walks.{from_on_all}

index_small : (w : ℕ) → index_in w < VERSYM_VERSION + 1
index_small w = let low : bit_and w VERSYM_VERSION ≤ VERSYM_VERSION = and_le_r w VERSYM_VERSION in omega arith

hidden_same : (file : List ℕ) (i : ℕ) → has_bit VERSYM_HIDDEN (symbol_word file i) ≡ is_hidden file i
hidden_same file i = go (is_versioned file) (versym_word file i)
  where
    go : (b : Bool) (w : ℕ) → has_bit VERSYM_HIDDEN (cond b w VER_NDX_GLOBAL) ≡ (b && has_bit VERSYM_HIDDEN w)
    go true w = refl
    go false w = refl

-- the version by a word, where there are words, and by the index 1 where there are none
version_cases : (file : List ℕ) (places : List (Option ℕ)) (versym : Option ℕ) (w : ℕ) → AreFirst (index_count_by versym) places (indexed_names file) →
    version_in file places (cond (is_some versym) w VER_NDX_GLOBAL) ≡ version_by file (cond (is_some versym) (index_in w) VER_NDX_GLOBAL) (place_by (cond (is_some versym) (index_in w) VER_NDX_GLOBAL) (indexed_names file))
unfolding version_in
version_cases file places (Some at) w f = ap (version_by file (index_in w)) (f.each (index_in w) (index_small w))
version_cases file places None w f = refl

version_same : (file : List ℕ) (places : List (Option ℕ)) (i : ℕ) → AreFirst (index_count file) places (indexed_names file) → version_in file places (symbol_word file i) ≡ version_of file i
version_same file places i f = version_cases file places (dynamic_value file DT_VERSYM) (versym_word file i) f

pub made_versions : (file words : List ℕ) (places : List (Option ℕ)) (count : ℕ) → words ≡ map (symbol_word file) (range_with_len 0 count) → AreFirst (index_count file) places (indexed_names file) → map (version_in file places) words ≡ versions_of count file
unfolding versions_of
made_versions file words places count e f =
    ap (map (version_in file places)) e ∙ map_twice (version_in file places) (symbol_word file) (version_of file) (range_with_len 0 count) (λ i. version_same file places i f)

pub made_hidden : (file words : List ℕ) (count : ℕ) → words ≡ map (symbol_word file) (range_with_len 0 count) → map (λ word. has_bit VERSYM_HIDDEN word) words ≡ hidden_of count file
unfolding hidden_of
made_hidden file words count e =
    ap (map (λ word. has_bit VERSYM_HIDDEN word)) e ∙ map_twice (λ word. has_bit VERSYM_HIDDEN word) (symbol_word file) (is_hidden file) (range_with_len 0 count) (hidden_same file)

-- the same of a symbol whose index has no name
unknown_cases : (file : List ℕ) (places : List (Option ℕ)) (versym : Option ℕ) (symbol w : ℕ) → AreFirst (index_count_by versym) places (indexed_names file) →
    unknown_word places symbol (cond (is_some versym) w VER_NDX_GLOBAL) ≡ unknown_index (indexed_names file) symbol (cond (is_some versym) (index_in w) VER_NDX_GLOBAL)
unknown_cases file places (Some at) symbol w f =
    ap (λ (p : Option ℕ). some_where (nat_lt VER_NDX_GLOBAL (index_in w) && not (is_some p)) (flaw UNKNOWN_INDEX symbol (index_in w))) (f.each (index_in w) (index_small w))
unknown_cases file places None symbol w f = refl

unknown_same : (file words : List ℕ) (places : List (Option ℕ)) (count i : ℕ) → words ≡ map (symbol_word file) (range_with_len 0 count) → AreFirst (index_count file) places (indexed_names file) → i < count → unknown_at places words i ≡ index_flaw file i
unfolding unknown_at index_flaw
unknown_same file words places count i e f h =
    let word : get_or words i 0 ≡ symbol_word file i = ap (λ (l : List ℕ). get_or l i 0) e ∙ get_or-map-range_with_len (symbol_word file) 0 count i i 0 h (omega arith) in
    ap (λ (w : ℕ). unknown_word places i w) word ∙ unknown_cases file places (dynamic_value file DT_VERSYM) i (versym_word file i) f

pub symbols_checked : (file words : List ℕ) (places : List (Option ℕ)) (count : ℕ) → words ≡ map (symbol_word file) (range_with_len 0 count) → AreFirst (index_count file) places (indexed_names file) → first_some (from_on (unknown_at places words) 0 (length words)) ≡ symbols_version_flaw count file
unfolding symbols_version_flaw
symbols_checked file words places count e f =
    let many : length words ≡ count = ap length e ∙ length-map-range_with_len (symbol_word file) 0 count in
    let all : from_on (unknown_at places words) 0 (length words) ≡ map (unknown_at places words) (range_with_len 0 count) = from_on_all (unknown_at places words) (length words) ∙ ap (λ (n : ℕ). map (unknown_at places words) (range_with_len 0 n)) many in
    let same : map (unknown_at places words) (range_with_len 0 count) ≡ map (index_flaw file) (range_with_len 0 count) = same_from (unknown_at places words) (index_flaw file) 0 count (λ i l h. unknown_same file words places count i e f (omega arith)) in
    ap first_some (all ∙ same)
