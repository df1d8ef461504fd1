-- The words of the symbols in the file are those of memory.
use Rattle.std.proofs.Common.{◌≡◌, ℕ, zero, suc, ◌+◌, ◌*◌, ◌<◌, ◌≤◌, List, Some, None, map, refl, sym, arith}
use Rattle.std.specs.List.{range_with_len}
use Rattle.byte_view.specs.Numbers.{number_at}
use Rattle.byte_view.specs.declared.constants.TheConstants.{DT_VERSYM, VER_NDX_GLOBAL}
use Rattle.load_model.specs.VersionTables.{dynamic_value, memory_number}
use Rattle.version_tables.specs.Backed.{IsBacked}
use Rattle.version_tables.specs.Indexes.{symbol_word}

pub same_from : {X : Type 0} (f g : ℕ → X) (a n : ℕ) → ((i : ℕ) → a ≤ i → i < a + n → f i ≡ g i) → map f (range_with_len a n) ≡ map g (range_with_len a n)
same_from f g a zero each = refl
same_from f g a (suc n) each =
    let here : f a ≡ g a = each a (omega arith) (omega arith) in
    let later : map f (range_with_len (a + 1) n) ≡ map g (range_with_len (a + 1) n) = same_from f g (a + 1) n (λ i l h. each i (omega arith) (omega arith)) in
    rw (here, later) refl

pub versym_words : (file : List ℕ) (at count place : ℕ) → IsBacked file at (2 * count) place → map (λ i. number_at 2 file (place + 2 * i)) (range_with_len 0 count) ≡ map (λ i. memory_number 2 file (at + 2 * i)) (range_with_len 0 count)
versym_words file at count place b =
    same_from (λ i. number_at 2 file (place + 2 * i)) (λ i. memory_number 2 file (at + 2 * i)) 0 count
    (λ i l h. let fits : 2 * i + 2 ≤ 2 * count = omega arith in sym (b.words (2 * i) 2 fits))

pub versym_symbol_words : (file : List ℕ) (at count : ℕ) → dynamic_value file DT_VERSYM ≡ Some at → map (λ i. memory_number 2 file (at + 2 * i)) (range_with_len 0 count) ≡ map (symbol_word file) (range_with_len 0 count)
versym_symbol_words file at count e = same_from (λ i. memory_number 2 file (at + 2 * i)) (symbol_word file) 0 count (λ i l h. rw e refl)

pub plain_symbol_words : (file : List ℕ) (count : ℕ) → dynamic_value file DT_VERSYM ≡ None → map (λ (i : ℕ). VER_NDX_GLOBAL) (range_with_len 0 count) ≡ map (symbol_word file) (range_with_len 0 count)
plain_symbol_words file count e = same_from (λ i. VER_NDX_GLOBAL) (symbol_word file) 0 count (λ i l h. rw e refl)
