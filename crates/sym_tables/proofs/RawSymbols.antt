-- The symbols in memory are those of the file.
use Rattle.std.proofs.Common.{◌≡◌, ℕ, ◌+◌, ◌*◌, ◌^◌, ◌<◌, ◌≤◌, Bool, true, false, List, [], ◌∷◌, Some, None, is_some, length, get_or, take, drop, map, refl, sym, ap, ◌∙◌, arith, lit≤, get_or-drop}
use Rattle.std.specs.Prelude.{nat_lt, slice_index}
use Rattle.std.specs.List.{range_with_len}
use Rattle.std.proofs.lemmas.Bool.Decides.{nat_tests}
use Rattle.std.proofs.lemmas.List.{drop-drop, drop-take}
use Rattle.byteorder.specs.Numbers.{little_from-take}
use Rattle.answers.specs.First.{some_where}
use Rattle.byte_view.specs.Checks.{flaw}
use Rattle.std.proofs.lemmas.List.FromFn.{length-map-range_with_len}
use Rattle.byte_view.specs.HeaderFlaws.{header_flaw, ident_flaw, not_elf, segment_flaw, short_header, too_big, word_flaw, wrong_class, wrong_ident_version, wrong_order, wrong_version}
use Rattle.byte_view.specs.Headers.{headers}
use Rattle.byte_view.proofs.Loads.{none_first}
use Rattle.byte_view.specs.Memory.{memory_bytes, range_in}
use Rattle.byte_view.specs.Numbers.{number_at}
use Rattle.byte_view.specs.Sound.{IsReadFrom}
use Rattle.byte_view.specs.declared.constants.TheConstants.{LONGEST_FILE}
use Rattle.byte_view.specs.declared.segments.Segment.{Segment}
use Rattle.byte_view.proofs.Ranges.{IsRead}
use Rattle.load_model.specs.SymbolFlaws.{unbacked_symbols}
use Rattle.load_model.specs.SymbolTable.{symbol_of, symbols_in}
use Rattle.load_model.specs.declared.symbols.RawSym.{RawSym}
use Rattle.sym_tables.proofs.Backing.{range_there, same_made}
use Rattle.sym_tables.proofs.Reach.{too_long}
use Rattle.byte_view.specs.declared.flaws.TheConstants.{SHORT, SYMBOL_RANGE, TOO_BIG}

-- a number of one byte
pub byte_is : (bytes : List ℕ) (at : ℕ) → number_at 1 bytes at ≡ slice_index bytes at
unfolding number_at
byte_is bytes at =
    let start : at + 0 ≡ at = omega arith in
    let byte : get_or (drop at bytes) 0 0 ≡ get_or bytes at 0 = rw start at (get_or-drop at bytes 0 0) in
    omega (arith, byte)

-- a number in a part of a file
number_of_part_at : (size k j at : ℕ) (file : List ℕ) → size ≤ k → number_at size (take (j + k) (drop at file)) j ≡ number_at size file (at + j)
unfolding number_at
number_of_part_at size k j at file h =
    let rest : drop j (take (j + k) (drop at file)) ≡ take k (drop (at + j) file) = drop-take j k (drop at file) ∙ ap (take k) (drop-drop j at file) in
    rw rest (little_from-take 0 size k (drop (at + j) file) (omega arith))

symbol_there : (file : List ℕ) (at : ℕ) → symbol_of (take 24 (drop at file)) 0 ≡ symbol_of file at
unfolding symbol_of
symbol_there file at =
    let name : number_at 4 (take 24 (drop at file)) 0 ≡ number_at 4 file (at + 0) = number_of_part_at 4 24 0 at file (lit≤ tt) in
    let start : at + 0 ≡ at = omega arith in
    rw (name, start, number_of_part_at 1 20 4 at file (lit≤ tt), number_of_part_at 1 19 5 at file (lit≤ tt), number_of_part_at 2 18 6 at file (lit≤ tt), number_of_part_at 8 16 8 at file (lit≤ tt)) refl

pub symbols_there : (file : List ℕ) (segments : List Segment) (addr count len from to : ℕ) (symbols : List RawSym) → IsReadFrom segments file → len ≡ count * 24 → range_in segments addr len ≡ Some (from, to) → symbols ≡ map (λ i. symbol_of file (from + 24 * i)) (range_with_len 0 count) → symbols ≡ symbols_in file segments addr count
unfolding symbols_in
symbols_there file segments addr count len from to symbols r l e made =
    let read : IsRead file segments addr len (from, to) = range_there segments file addr len (from, to) r e in
    made ∙ same_made (λ i. symbol_of file (from + 24 * i)) (λ i. symbol_of (memory_bytes file segments (addr + 24 * i) 24) 0) 0 count (λ i m h. one read i h)
  where
    one : IsRead file segments addr len (from, to) → (i : ℕ) → i < 0 + count → symbol_of file (from + 24 * i) ≡ symbol_of (memory_bytes file segments (addr + 24 * i) 24) 0
    one read i h =
        let bytes : memory_bytes file segments (addr + 24 * i) 24 ≡ take 24 (drop (from + 24 * i) file) = read.parts (24 * i) 24 (omega arith) in
        rw bytes (sym (symbol_there file (from + 24 * i)))

pub symbols_fit : (file : List ℕ) (segments : List Segment) (addr count len from to : ℕ) → IsReadFrom segments file → len ≡ count * 24 → range_in segments addr len ≡ Some (from, to) → from + 24 * count ≤ length file
symbols_fit file segments addr count len from to r l e =
    let read : IsRead file segments addr len (from, to) = range_there segments file addr len (from, to) r e in
    omega (arith, read.ends, read.within)

-- files are not long
pub file_limit : (segments : List Segment) (file : List ℕ) → IsReadFrom segments file → length file ≤ LONGEST_FILE
unfolding header_flaw ident_flaw
file_limit segments file r =
    let ident = none_first (ident_flaw file) (word_flaw file ∷ segment_flaw (length file) (headers file) ∷ []) r.unflawed in
    let big = none_first (too_big file) (not_elf file ∷ short_header file ∷ wrong_class file ∷ wrong_order file ∷ wrong_ident_version file ∷ wrong_version file ∷ []) ident.0 in
    go (nat_lt LONGEST_FILE (length file)) refl big.0
  where
    go : (b : Bool) → nat_lt LONGEST_FILE (length file) ≡ b → some_where b (flaw TOO_BIG (length file) 0) ≡ None → length file ≤ LONGEST_FILE
    go true h e = absurd (cc)
    go false h e = grind (arith, nat_tests)

pub header_there : (segments : List Segment) (file : List ℕ) → IsReadFrom segments file → 64 ≤ length file
unfolding header_flaw ident_flaw
header_there segments file r =
    let ident = none_first (ident_flaw file) (word_flaw file ∷ segment_flaw (length file) (headers file) ∷ []) r.unflawed in
    let big = none_first (too_big file) (not_elf file ∷ short_header file ∷ wrong_class file ∷ wrong_order file ∷ wrong_ident_version file ∷ wrong_version file ∷ []) ident.0 in
    let elf = none_first (not_elf file) (short_header file ∷ wrong_class file ∷ wrong_order file ∷ wrong_ident_version file ∷ wrong_version file ∷ []) big.1 in
    let short = none_first (short_header file) (wrong_class file ∷ wrong_order file ∷ wrong_ident_version file ∷ wrong_version file ∷ []) elf.1 in
    go (nat_lt (length file) 64) refl short.0
  where
    go : (b : Bool) → nat_lt (length file) 64 ≡ b → some_where b (flaw SHORT 64 (length file)) ≡ None → 64 ≤ length file
    go true h e = absurd (cc)
    go false h e = grind (arith, nat_tests)

pub symbols_few : (file : List ℕ) (segments : List Segment) (addr count len from to : ℕ) (symbols : List RawSym) → IsReadFrom segments file → len ≡ count * 24 → range_in segments addr len ≡ Some (from, to) → symbols ≡ map (λ i. symbol_of file (from + 24 * i)) (range_with_len 0 count) → length symbols < 2 ^ 32
symbols_few file segments addr count len from to symbols r l e made =
    let fit : from + 24 * count ≤ length file = symbols_fit file segments addr count len from to r l e in
    let limit : length file ≤ LONGEST_FILE = file_limit segments file r in
    let few : length symbols ≡ count = ap length made ∙ length-map-range_with_len (λ i. symbol_of file (from + 24 * i)) 0 count in
    omega arith

-- symbols that are not backed
pub unbacked : (segments : List Segment) (addr count len : ℕ) → len ≡ count * 24 → range_in segments addr len ≡ None → unbacked_symbols segments addr count ≡ Some (flaw SYMBOL_RANGE 0 0)
unbacked segments addr count len l e =
    let size : len ≡ 24 * count = omega arith in
    let none : range_in segments addr (24 * count) ≡ None = rw size at e in
    rw none refl

pub backed : (segments : List Segment) (addr count len : ℕ) (range : ℕ × ℕ) → len ≡ count * 24 → range_in segments addr len ≡ Some range → unbacked_symbols segments addr count ≡ None
backed segments addr count len range l e =
    let size : len ≡ 24 * count = omega arith in
    let some : range_in segments addr (24 * count) ≡ Some range = rw size at e in
    rw some refl

pub far_unbacked : (file : List ℕ) (segments : List Segment) (addr count : ℕ) → IsReadFrom segments file → 2 ^ 64 ≤ count * 24 → unbacked_symbols segments addr count ≡ Some (flaw SYMBOL_RANGE 0 0)
far_unbacked file segments addr count r h =
    let limit : length file ≤ LONGEST_FILE = file_limit segments file r in
    let none : is_some (range_in segments addr (24 * count)) ≡ false = too_long segments file addr (24 * count) r (omega arith) in
    rw none refl
