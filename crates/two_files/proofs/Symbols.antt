-- Symbols and hash tables without flaw stay so, and the symbols are the same.
use Rattle.std.proofs.Common.{◌≡◌, ℕ, zero, suc, ◌+◌, ◌*◌, ◌<◌, ◌≤◌, ◌&&◌, Bool, true, not, List, [], ◌∷◌, Option, Some, None, is_some, length, refl, ap, subst, arith}
use Rattle.std.specs.Prelude.{nat_le, slice_get}
use Rattle.std.specs.List.{find, position_from, range_with_len}
use Rattle.std.specs.Option.{option_and_then, option_map, unwrap_or}
use Rattle.std.proofs.lemmas.Bool.Decides.{nat_tests}
use Rattle.byte_view.specs.declared.flaws.TheConstants.{HASH_RANGE, SYMBOL_NAME, SYMBOL_RANGE}
use Rattle.byte_view.specs.Checks.{flaw, flaw_at}
use Rattle.byte_view.specs.Dynamic.{strings_of, strings_size, text_in, value_of}
use Rattle.byte_view.specs.Memory.{range_in}
use Rattle.byte_view.specs.declared.constants.TheConstants.{DT_GNU_HASH, DT_HASH, DT_SYMENT, DT_SYMTAB}
use Rattle.byte_view.specs.declared.dynamic.Entry.{Entry}
use Rattle.byte_view.specs.declared.segments.Segment.{Segment}
use Rattle.byte_view.proofs.Loads.{none_first}
use Rattle.load_model.specs.GnuTable.{GnuTable, gnu_reach, gnu_size, gnu_table}
use Rattle.load_model.specs.SymbolCount.{count_in, hash_count, reach_count}
use Rattle.load_model.specs.SymbolFlaws.{bad_gnu, bad_symbol_name, bad_sysv, broken_hash, count_by, count_flaw, first_lost, gnu_in, hash_flaw, is_gnu_whole, is_listed, is_lost, is_offerable, list_flaw, symbol_flaw_by, symbols_by, sysv_in, unbacked_symbols, wrong_symbol_size}
use Rattle.load_model.specs.SymbolTable.{symbol_size, symbols_at}
use Rattle.load_model.specs.SysvTable.{SysvTable, nchain, sysv_size, sysv_table}
use Rattle.load_model.specs.declared.symbols.RawSym.{RawSym}
use Rattle.two_files.specs.Alike.{KeepsRanges, KeepsSymbols, SameBytes}
use Rattle.two_files.proofs.Gnu.{SameGnu, whole_gnu}
use Rattle.two_files.proofs.Sysv.{SameSysv, flaw_gone, kept_sysv, same_sysv}
use Rattle.two_files.proofs.Words.{symbols_same}

-- the tables, where the file has them
sysv_kept : (b c : List ℕ) (bs cs : List Segment) (at : Option ℕ) → ((addr : ℕ) → at ≡ Some addr → SameBytes b c bs cs addr (sysv_size b bs addr)) → (option_map (λ addr. sysv_table c cs addr) at ≡ option_map (λ addr. sysv_table b bs addr) at) × (option_map (λ addr. nchain c cs addr) at ≡ option_map (λ addr. nchain b bs addr) at)
sysv_kept b c bs cs None s = (refl, refl)
sysv_kept b c bs cs (Some addr) s =
    let t : SameSysv b c bs cs addr = same_sysv b c bs cs addr (s addr refl) in
    (ap Some t.table, ap Some t.count)

abbrev GnuAlike : List ℕ → List ℕ → List Segment → List Segment → Option ℕ → Type 0
GnuAlike b c bs cs at = (addr : ℕ) → at ≡ Some addr → SameGnu b c bs cs addr

gnu_kept : (b c : List ℕ) (bs cs : List Segment) (at : Option ℕ) → length b ≤ length c → KeepsRanges bs cs → ((addr : ℕ) → at ≡ Some addr → SameBytes b c bs cs addr (gnu_size b bs addr)) → bad_gnu b bs at ≡ None → (bad_gnu c cs at ≡ None) × GnuAlike b c bs cs at
gnu_kept b c bs cs None longer keeps s e = (refl, λ addr e. absurd (cc))
gnu_kept b c bs cs (Some addr) longer keeps s e =
    let whole : is_gnu_whole b bs addr ≡ true = flaw_gone (is_gnu_whole b bs addr) (flaw HASH_RANGE DT_GNU_HASH 0) e in
    let w = whole_gnu b c bs cs addr longer keeps (s addr refl) whole in
    (rw w.0 refl, λ at same. let there : addr ≡ at = cc in subst (λ a. SameGnu b c bs cs a) there w.1)

gnu_same : (b c : List ℕ) (bs cs : List Segment) (at : Option ℕ) → GnuAlike b c bs cs at → option_map (λ addr. gnu_table c cs addr) at ≡ option_map (λ addr. gnu_table b bs addr) at
gnu_same b c bs cs None s = refl
gnu_same b c bs cs (Some addr) s = ap Some (s addr refl).table

reach_same : (b c : List ℕ) (bs cs : List Segment) (at : Option ℕ) → GnuAlike b c bs cs at → option_and_then (λ addr. gnu_reach c cs addr) at ≡ option_and_then (λ addr. gnu_reach b bs addr) at
reach_same b c bs cs None s = refl
reach_same b c bs cs (Some addr) s = (s addr refl).reach

-- no name of a symbol is past the longer table, and each reads the same
none_past : (size more : ℕ) (i : ℕ) (xs : List RawSym) → size ≤ more → position_from (λ s. nat_le size s.name) i xs ≡ None → position_from (λ s. nat_le more s.name) i xs ≡ None
none_past size more i [] h e = refl
none_past size more i (x ∷ xs) h e = grind (arith, nat_tests, none_past size more (i + 1) xs)

named_kept : (size more : ℕ) (xs : List RawSym) → size ≤ more → bad_symbol_name size xs ≡ None → (bad_symbol_name more xs ≡ None) × (position_from (λ s. nat_le size s.name) 0 xs ≡ None)
named_kept size more xs h e =
    let none : position_from (λ s. nat_le size s.name) 0 xs ≡ None = go (position_from (λ s. nat_le size s.name) 0 xs) e in
    (rw (none_past size more 0 xs h none) refl, none)
  where
    go : (o : Option ℕ) → flaw_at SYMBOL_NAME o ≡ None → o ≡ None
    go None e = refl
    go (Some i) e = absurd (cc)

name_below : (size i : ℕ) (xs : List RawSym) (k : ℕ) (s : RawSym) → position_from (λ s. nat_le size s.name) i xs ≡ None → slice_get xs k ≡ Some s → s.name < size
name_below size i [] k s e g = absurd (cc)
name_below size i (x ∷ xs) zero s e g = let same : x ≡ s = cc in grind (arith, nat_tests)
name_below size i (x ∷ xs) (suc k) s e g = name_below size (i + 1) xs k s (grind (arith, nat_tests)) g

find_same : (p q : ℕ → Bool) (xs : List ℕ) → ((i : ℕ) → q i ≡ p i) → find q xs ≡ find p xs
find_same p q [] alike = refl
find_same p q (x ∷ xs) alike = rw (alike x, find_same p q xs alike) refl

lost_same : (strings grown : List ℕ) (sysv : Option SysvTable) (gnu : Option GnuTable) (i : ℕ) (o : Option RawSym) → ((s : RawSym) → o ≡ Some s → text_in grown s.name ≡ text_in strings s.name) → is_lost sysv gnu grown i o ≡ is_lost sysv gnu strings i o
lost_same strings grown sysv gnu i None h = refl
lost_same strings grown sysv gnu i (Some s) h = ap (λ t. is_offerable i s && not (is_listed sysv gnu (unwrap_or t []) i)) (h s refl)

first_lost_same : (strings grown : List ℕ) (sysv : Option SysvTable) (gnu : Option GnuTable) (xs : List RawSym) → ((i : ℕ) (s : RawSym) → slice_get xs i ≡ Some s → text_in grown s.name ≡ text_in strings s.name) → first_lost sysv gnu grown xs ≡ first_lost sysv gnu strings xs
unfolding first_lost
first_lost_same strings grown sysv gnu xs h =
    find_same (λ i. is_lost sysv gnu strings i (slice_get xs i)) (λ i. is_lost sysv gnu grown i (slice_get xs i)) (range_with_len 0 (length xs))
    (λ i. lost_same strings grown sysv gnu i (slice_get xs i) (h i))

-- the parts of the check
pub record SymbolsKept (b c : List ℕ) (bs cs : List Segment) (be ce : List Entry) : Type 0 where
  pub unflawed : symbol_flaw_by c cs ce ≡ None
  pub count : count_by c cs ce ≡ count_by b bs be
  pub symbols : symbols_by c cs ce ≡ symbols_by b bs be
  pub named : (i : ℕ) (s : RawSym) → slice_get (symbols_by b bs be) i ≡ Some s → s.name < strings_size be

pub symbols_kept : (b c : List ℕ) (bs cs : List Segment) (be ce : List Entry) → KeepsSymbols b c bs cs be ce → symbol_flaw_by b bs be ≡ None → SymbolsKept b c bs cs be ce
unfolding symbol_flaw_by hash_flaw count_flaw count_in list_flaw
symbols_kept b c bs cs be ce k e =
    let sized = none_first (wrong_symbol_size be) (hash_flaw b bs be ∷ count_flaw b bs be ∷ unbacked_symbols bs (symbols_at be) (count_by b bs be) ∷ list_flaw b bs be (symbols_by b bs be) ∷ []) e in
    let hashed = none_first (hash_flaw b bs be) (count_flaw b bs be ∷ unbacked_symbols bs (symbols_at be) (count_by b bs be) ∷ list_flaw b bs be (symbols_by b bs be) ∷ []) sized.1 in
    let counted = none_first (count_flaw b bs be) (unbacked_symbols bs (symbols_at be) (count_by b bs be) ∷ list_flaw b bs be (symbols_by b bs be) ∷ []) hashed.1 in
    let backed = none_first (unbacked_symbols bs (symbols_at be) (count_by b bs be)) (list_flaw b bs be (symbols_by b bs be) ∷ []) counted.1 in
    let listed = (none_first (list_flaw b bs be (symbols_by b bs be)) [] backed.1).0 in
    let tables = none_first (bad_sysv b bs (value_of DT_HASH be)) (bad_gnu b bs (value_of DT_GNU_HASH be) ∷ []) hashed.0 in
    let gnu_fine : bad_gnu b bs (value_of DT_GNU_HASH be) ≡ None = (none_first (bad_gnu b bs (value_of DT_GNU_HASH be)) [] tables.1).0 in
    let names = none_first (bad_symbol_name (strings_size be) (symbols_by b bs be)) (broken_hash (sysv_in b bs be) (gnu_in b bs be) (strings_of b bs be) (symbols_by b bs be) ∷ []) listed in
    let broken : broken_hash (sysv_in b bs be) (gnu_in b bs be) (strings_of b bs be) (symbols_by b bs be) ≡ None = (none_first (broken_hash (sysv_in b bs be) (gnu_in b bs be) (strings_of b bs be) (symbols_by b bs be)) [] names.1).0 in
    let hash : value_of DT_HASH ce ≡ value_of DT_HASH be = k.tags.tags DT_HASH refl in
    let gnu : value_of DT_GNU_HASH ce ≡ value_of DT_GNU_HASH be = k.tags.tags DT_GNU_HASH refl in
    let at : symbols_at ce ≡ symbols_at be = ap (λ o. unwrap_or o 0) (k.tags.tags DT_SYMTAB refl) in
    let size : symbol_size ce ≡ symbol_size be = ap (λ o. unwrap_or o 0) (k.tags.tags DT_SYMENT refl) in
    let sysv_tables = sysv_kept b c bs cs (value_of DT_HASH be) k.sysv in
    let gnu_tables = gnu_kept b c bs cs (value_of DT_GNU_HASH be) k.longer k.ranges k.gnu gnu_fine in
    let sysv_there : sysv_in c cs ce ≡ sysv_in b bs be = rw hash sysv_tables.0 in
    let gnu_there : gnu_in c cs ce ≡ gnu_in b bs be = rw gnu (gnu_same b c bs cs (value_of DT_GNU_HASH be) gnu_tables.1) in
    let links : hash_count c cs ce ≡ hash_count b bs be = rw hash sysv_tables.1 in
    let reach : reach_count c cs ce ≡ reach_count b bs be = rw gnu (reach_same b c bs cs (value_of DT_GNU_HASH be) gnu_tables.1) in
    let counts : count_in c cs ce ≡ count_in b bs be = rw (k.sections, links, reach) refl in
    let count : count_by c cs ce ≡ count_by b bs be = ap (λ o. unwrap_or o 0) counts in
    let symbols : symbols_by c cs ce ≡ symbols_by b bs be = rw (at, count) (symbols_same b c bs cs (symbols_at be) (count_by b bs be) k.symbols) in
    let past = named_kept (strings_size be) (strings_size ce) (symbols_by b bs be) k.texts.size names.0 in
    let lost : first_lost (sysv_in b bs be) (gnu_in b bs be) (strings_of c cs ce) (symbols_by b bs be) ≡ first_lost (sysv_in b bs be) (gnu_in b bs be) (strings_of b bs be) (symbols_by b bs be) =
    first_lost_same (strings_of b bs be) (strings_of c cs ce) (sysv_in b bs be) (gnu_in b bs be) (symbols_by b bs be)
    (λ i s g. k.texts.texts s.name (name_below (strings_size be) 0 (symbols_by b bs be) i s past.1 g)) in
    let hash_fine : hash_flaw c cs ce ≡ None = rw (hash, gnu, kept_sysv b c bs cs (value_of DT_HASH be) k.ranges k.sysv tables.0, gnu_tables.0) refl in
    let count_fine : count_flaw c cs ce ≡ None = rw (k.sections, links, reach) counted.0 in
    let there : is_some (range_in bs (symbols_at be) (24 * count_by b bs be)) ≡ true = flaw_gone (is_some (range_in bs (symbols_at be) (24 * count_by b bs be))) (flaw SYMBOL_RANGE 0 0) backed.0 in
    let back_fine : unbacked_symbols cs (symbols_at ce) (count_by c cs ce) ≡ None = rw (at, count, k.ranges.keeps (symbols_at be) (24 * count_by b bs be) there) backed.0 in
    let list_fine : list_flaw c cs ce (symbols_by c cs ce) ≡ None = rw (symbols, past.0, sysv_there, gnu_there, lost, broken) refl in
    let size_fine : wrong_symbol_size ce ≡ None = rw size sized.0 in
    record {
      unflawed = rw (size_fine, hash_fine, count_fine, back_fine, list_fine) refl;
      count = count;
      symbols = symbols;
      named = λ i s g. name_below (strings_size be) 0 (symbols_by b bs be) i s past.1 g;
    }
