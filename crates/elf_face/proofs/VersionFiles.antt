-- The needs by the places of the words that name their files.
use Rattle.std.proofs.Common.{◌≡◌, ℕ, zero, suc, ◌+◌, ◌-◌, ◌<◌, ◌≤◌, ◌||◌, not, Bool, true, false, cond, List, [], ◌∷◌, Option, Some, None, length, map, refl, ap, sym, ◌∙◌, arith}
use Rattle.std.specs.Prelude.{◌==◌, is_some}
use Rattle.std.specs.List.{find, range_with_len}
use Rattle.std.specs.Option.{option_map, unwrap_or}
use Rattle.std.proofs.lemmas.Bool.Decides.{nat_tests}
use Rattle.answers.specs.First.{first_some}
use Rattle.byte_view.specs.Checks.{flaw}
use Rattle.byte_view.specs.HeaderFlaws.{header_flaw}
use Rattle.byte_view.specs.Headers.{headers}
use Rattle.byte_view.specs.Memory.{range_in}
use Rattle.byte_view.specs.Numbers.{number_at}
use Rattle.byte_view.specs.declared.constants.TheConstants.{VER_CURRENT}
use Rattle.byte_view.specs.declared.flaws.Flaw.{Flaw}
use Rattle.byte_view.specs.declared.flaws.TheConstants.{VERSION_RANGE}
use Rattle.byte_view.proofs.Loads.{none_first}
use Rattle.load_model.specs.Faces.{names_no_text}
use Rattle.load_model.specs.VersionFlaws.{bad_next, bad_text, bad_verneed, bad_versym, symbols_version_flaw, verdefs_flaw, verneed_flaw, verneeds_flaw, vernauxs_flaw, version_flaw}
use Rattle.load_model.specs.VersionTables.{file_place, file_words_of, memory_number, verneed_count, verneed_place, verneeds, vn_cnt, vn_file, vn_next, vn_version}
use Rattle.version_tables.specs.Backed.{IsBacked}
use Rattle.version_tables.proofs.Backed.{backed_there}
use Rattle.elf_face.specs.Words.{names_no_text_at, number_or_0}

-- what none of a list of checks found, no check of it did
none_each : (f : ℕ → Option Flaw) (a n : ℕ) → first_some (map f (range_with_len a n)) ≡ None → (k : ℕ) → a ≤ k → k < a + n → f k ≡ None
none_each f a zero e k l h = absurd (omega arith)
none_each f a (suc n) e k l h =
    let here = none_first (f a) (map f (range_with_len (a + 1) n)) e in
    grind (arith, here.0, none_each f (a + 1) n here.1 k)

-- what is found first among things that stand for the numbers in a row, by what each of them says
found_same : {X : Type 0} (p : X → Bool) (f : X → ℕ) (g : ℕ → X) (q : ℕ → Bool) (h : ℕ → ℕ) (a n : ℕ) → ((k : ℕ) → a ≤ k → k < a + n → (p (g k) ≡ q k) × (f (g k) ≡ h k)) → option_map f (find p (map g (range_with_len a n))) ≡ option_map h (find q (range_with_len a n))
found_same p f g q h a zero each = refl
found_same p f g q h a (suc n) each =
    go (p (g a)) (q a) (each a (omega arith) (omega arith)).0 (found_same p f g q h (a + 1) n (λ k l m. each k (omega arith) (omega arith)))
  where
    go : (b c : Bool) → b ≡ c → option_map f (find p (map g (range_with_len (a + 1) n))) ≡ option_map h (find q (range_with_len (a + 1) n)) → option_map f (cond b (Some (g a)) (find p (map g (range_with_len (a + 1) n)))) ≡ option_map h (cond c (Some a) (find q (range_with_len (a + 1) n)))
    go true true e later = ap Some (each a (omega arith) (omega arith)).1
    go true false e later = absurd (cc)
    go false true e later = absurd (cc)
    go false false e later = later

map_twice : {X Y Z : Type 0} (f : Y → Z) (g : X → Y) (xs : List X) → map f (map g xs) ≡ map (λ x. f (g x)) xs
map_twice f g [] = refl
map_twice f g (x ∷ xs) = ap (λ more. f (g x) ∷ more) (map_twice f g xs)

-- a number of a record of sixteen bytes
number_there : (file : List ℕ) (at from to k n : ℕ) → header_flaw file ≡ None → range_in (headers file) at 16 ≡ Some (from, to) → k + n ≤ 16 → number_or_0 n file (from + k) ≡ memory_number n file (at + k)
unfolding number_or_0
number_there file at from to k n unflawed e h =
    let b : IsBacked file at 16 from = backed_there (headers file) file at 16 from to (record { same = refl; unflawed = unflawed }) e in
    let same : memory_number n file (at + k) ≡ number_at n file (from + k) = b.words k n h in
    let fits : from + k + n ≤ length file = omega (arith, b.within) in
    grind (arith, nat_tests, same)

file_number : (file : List ℕ) (at k n : ℕ) → header_flaw file ≡ None → bad_verneed file at ≡ None → k + n ≤ 16 → number_or_0 n file (file_place file at 16 + k) ≡ memory_number n file (at + k)
unfolding file_place
file_number file at k n unflawed good h = go (range_in (headers file) at 16) refl good
  where
    go : (o : Option (ℕ × ℕ)) → range_in (headers file) at 16 ≡ o → cond (not (is_some o) || not (vn_version file at == VER_CURRENT)) (Some (flaw VERSION_RANGE at 0)) None ≡ None → number_or_0 n file ((unwrap_or o (0, 0)).0 + k) ≡ memory_number n file (at + k)
    go None r e = absurd (cc)
    go (Some range) r e = number_there file at range.0 range.1 k n unflawed r h

-- what is read by the place of the word with the file's name
by_file_word : (file : List ℕ) (at : ℕ) → header_flaw file ≡ None → bad_verneed file at ≡ None → (names_no_text_at file (file_place file at 16 + 4) ≡ names_no_text file at) × (number_or_0 4 file (file_place file at 16 + 4) ≡ vn_file file at)
by_file_word file at unflawed good =
    let before : file_place file at 16 + 4 - 2 ≡ file_place file at 16 + 2 = omega arith in
    let many : number_or_0 2 file (file_place file at 16 + 2) ≡ vn_cnt file at = file_number file at 2 2 unflawed good (omega arith) in
    let name : number_or_0 4 file (file_place file at 16 + 4) ≡ vn_file file at = file_number file at 4 4 unflawed good (omega arith) in
    (rw (before, many, name) refl, name)

good_verneed : (file : List ℕ) (k : ℕ) → verneed_flaw file k ≡ None → bad_verneed file (verneed_place file k) ≡ None
unfolding verneed_flaw
good_verneed file k e =
    (none_first (bad_verneed file (verneed_place file k)) (bad_text file (vn_file file (verneed_place file k)) ∷ vernauxs_flaw file (verneed_place file k) ∷ bad_next (verneed_count file) k (vn_next file (verneed_place file k)) ∷ []) e).0

good_verneeds : (file : List ℕ) (count : ℕ) → version_flaw count file ≡ None → verneeds_flaw file ≡ None
unfolding version_flaw
good_verneeds file count e =
    let indexes = none_first (bad_versym count file) (verdefs_flaw file ∷ verneeds_flaw file ∷ symbols_version_flaw count file ∷ []) e in
    let definitions = none_first (verdefs_flaw file) (verneeds_flaw file ∷ symbols_version_flaw count file ∷ []) indexes.1 in
    (none_first (verneeds_flaw file) (symbols_version_flaw count file ∷ []) definitions.1).0

-- what is found by the places of the words is found by the records
pub files_named : (file : List ℕ) (count : ℕ) → header_flaw file ≡ None → version_flaw count file ≡ None → option_map (number_or_0 4 file) (find (names_no_text_at file) (file_words_of file)) ≡ option_map (vn_file file) (find (names_no_text file) (verneeds file))
unfolding file_words_of verneeds_flaw
files_named file count unflawed good =
    let file_word : ℕ → ℕ = λ k. file_place file (verneed_place file k) 16 + 4 in
    let no_text : ℕ → Bool = λ k. names_no_text file (verneed_place file k) in
    let named : ℕ → ℕ = λ k. vn_file file (verneed_place file k) in
    let words : map (λ verneed. file_place file verneed 16 + 4) (verneeds file) ≡ map file_word (range_with_len 0 (verneed_count file)) = map_twice (λ verneed. file_place file verneed 16 + 4) (verneed_place file) (range_with_len 0 (verneed_count file)) in
    ap (λ ws. option_map (number_or_0 4 file) (find (names_no_text_at file) ws)) words
    ∙ (found_same (names_no_text_at file) (number_or_0 4 file) file_word no_text named 0 (verneed_count file)
    (λ k l h. by_file_word file (verneed_place file k) unflawed (good_verneed file k (none_each (verneed_flaw file) 0 (verneed_count file) (good_verneeds file count good) k l h)))
    ∙ sym (found_same (names_no_text file) (vn_file file) (verneed_place file) no_text named 0 (verneed_count file) (λ k l h. (refl, refl))))
