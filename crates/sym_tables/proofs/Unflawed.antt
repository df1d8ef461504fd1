-- What holds of a file whose symbols and hash tables have no flaw.
use Rattle.std.proofs.Common.{◌≡◌, ◌≢◌, ℕ, zero, suc, ◌+◌, ◌<◌, ◌≤◌, ◌==◌, ◌&&◌, not, Bool, true, false, cond, List, [], ◌∷◌, Option, Some, None, length, refl, ap, arith}
use Rattle.std.specs.Prelude.{nat_lt, slice_get, slice_index}
use Rattle.std.specs.List.{find, list_any, range_with_len}
use Rattle.std.proofs.lemmas.Bool.Decides.{nat_tests}
use Rattle.answers.specs.First.{some_where}
use Rattle.byte_view.specs.Checks.{flaw, flaw_at}
use Rattle.byte_view.specs.Dynamic.{dynamic_entries, strings_size}
use Rattle.byte_view.specs.Headers.{headers}
use Rattle.byte_view.proofs.Loads.{none_first}
use Rattle.load_model.specs.GnuTable.{GnuTable, gnu_lists}
use Rattle.load_model.specs.Hashes.{gnu_hash, sysv_hash}
use Rattle.load_model.specs.SymbolCount.{count_in, hash_count, reach_count, section_count}
use Rattle.load_model.specs.SymbolFlaws.{bad_symbol_name, broken_hash, count_by, count_flaw, differing_counts, first_lost, gnu_in, hash_flaw, is_listed, is_lost, is_offerable, list_flaw, name_in, no_count, reach_past, symbol_count, symbol_flaw, symbol_flaw_by, symbols_by, symbols_of, sysv_in, unbacked_symbols, wrong_symbol_size}
use Rattle.load_model.specs.SymbolTable.{symbols_at}
use Rattle.load_model.specs.SysvTable.{IsChain, SysvTable, chain, ends_in, is_in_chain, sysv_lists}
use Rattle.load_model.specs.declared.symbols.RawSym.{RawSym}
use Rattle.sym_tables.specs.Listing.{file_strings}

-- the parts of the flaw
record HasNone (file : List ℕ) : Type 0 where
  count : count_flaw file (headers file) (dynamic_entries file) ≡ None
  list : list_flaw file (headers file) (dynamic_entries file) (symbols_of file) ≡ None

has_none : (file : List ℕ) → symbol_flaw file ≡ None → HasNone file
unfolding symbol_flaw symbol_flaw_by symbols_of
has_none file e =
    let size = none_first (wrong_symbol_size (dynamic_entries file)) (hash_flaw file (headers file) (dynamic_entries file) ∷ count_flaw file (headers file) (dynamic_entries file) ∷ unbacked_symbols (headers file) (symbols_at (dynamic_entries file)) (count_by file (headers file) (dynamic_entries file)) ∷ list_flaw file (headers file) (dynamic_entries file) (symbols_by file (headers file) (dynamic_entries file)) ∷ []) e in
    let hash = none_first (hash_flaw file (headers file) (dynamic_entries file)) (count_flaw file (headers file) (dynamic_entries file) ∷ unbacked_symbols (headers file) (symbols_at (dynamic_entries file)) (count_by file (headers file) (dynamic_entries file)) ∷ list_flaw file (headers file) (dynamic_entries file) (symbols_by file (headers file) (dynamic_entries file)) ∷ []) size.1 in
    let count = none_first (count_flaw file (headers file) (dynamic_entries file)) (unbacked_symbols (headers file) (symbols_at (dynamic_entries file)) (count_by file (headers file) (dynamic_entries file)) ∷ list_flaw file (headers file) (dynamic_entries file) (symbols_by file (headers file) (dynamic_entries file)) ∷ []) hash.1 in
    let range = none_first (unbacked_symbols (headers file) (symbols_at (dynamic_entries file)) (count_by file (headers file) (dynamic_entries file))) (list_flaw file (headers file) (dynamic_entries file) (symbols_by file (headers file) (dynamic_entries file)) ∷ []) count.1 in
    let list = none_first (list_flaw file (headers file) (dynamic_entries file) (symbols_by file (headers file) (dynamic_entries file))) [] range.1 in
    record { count = count.0; list = list.0 }

no_flaw : (b : Bool) (code a c : ℕ) → some_where b (flaw code a c) ≡ None → b ≡ false
no_flaw true code a c e = absurd (cc)
no_flaw false code a c e = refl

no_place : (code : ℕ) (o : Option ℕ) → flaw_at code o ≡ None → o ≡ None
no_place code None e = refl
no_place code (Some i) e = absurd (cc)

-- the reach
pub reach_low : (file : List ℕ) (reach : ℕ) → symbol_flaw file ≡ None → reach_count file (headers file) (dynamic_entries file) ≡ Some reach → reach ≤ symbol_count file
unfolding symbol_count count_flaw
reach_low file reach e r =
    let parts : HasNone file = has_none file e in
    let number = none_first (no_count (count_in file (headers file) (dynamic_entries file))) (differing_counts (section_count file (dynamic_entries file)) (hash_count file (headers file) (dynamic_entries file)) ∷ reach_past (count_by file (headers file) (dynamic_entries file)) (reach_count file (headers file) (dynamic_entries file)) ∷ []) parts.count in
    let same = none_first (differing_counts (section_count file (dynamic_entries file)) (hash_count file (headers file) (dynamic_entries file))) (reach_past (count_by file (headers file) (dynamic_entries file)) (reach_count file (headers file) (dynamic_entries file)) ∷ []) number.1 in
    let past = none_first (reach_past (count_by file (headers file) (dynamic_entries file)) (reach_count file (headers file) (dynamic_entries file))) [] same.1 in
    let here : reach_past (count_by file (headers file) (dynamic_entries file)) (Some reach) ≡ None = rw r at past.0 in
    let low : nat_lt (count_by file (headers file) (dynamic_entries file)) reach ≡ false = no_flaw (nat_lt (count_by file (headers file) (dynamic_entries file)) reach) 26 (count_by file (headers file) (dynamic_entries file)) reach here in
    grind (arith, nat_tests)

-- where none of some numbers passes
find_none : (p : ℕ → Bool) (a n i : ℕ) → find p (range_with_len a n) ≡ None → a ≤ i → i < a + n → p i ≡ false
find_none p a zero i e l h = absurd (omega arith)
find_none p a (suc n) i e l h = go (p a) refl (λ f m. find_none p (a + 1) n i f m (omega arith)) e (i == a) refl
  where
    go : (b : Bool) → p a ≡ b → (find p (range_with_len (a + 1) n) ≡ None → a + 1 ≤ i → p i ≡ false) → cond b (Some a) (find p (range_with_len (a + 1) n)) ≡ None → (c : Bool) → (i == a) ≡ c → p i ≡ false
    go true k later e c m = absurd (cc)
    go false k later e true m = let here : i ≡ a = grind (arith, nat_tests) in rw here k
    go false k later e false m = later e (grind (arith, nat_tests))

within : (symbols : List RawSym) (i : ℕ) (s : RawSym) → slice_get symbols i ≡ Some s → i < length symbols
within [] i s e = absurd (cc)
within (x ∷ xs) zero s e = omega arith
within (x ∷ xs) (suc i) s e = omega (arith, within xs i s e)

-- a symbol that is not lost is listed
listed : (sysv : Option SysvTable) (gnu : Option GnuTable) (strings : List ℕ) (symbols : List RawSym) (i : ℕ) (s : RawSym) → first_lost sysv gnu strings symbols ≡ None → slice_get symbols i ≡ Some s → is_offerable i s ≡ true → is_listed sysv gnu (name_in strings s) i ≡ true
unfolding first_lost
listed sysv gnu strings symbols i s none at offered =
    let lost : is_lost sysv gnu strings i (slice_get symbols i) ≡ false = find_none (λ i. is_lost sysv gnu strings i (slice_get symbols i)) 0 (length symbols) i none (omega arith) (omega (arith, within symbols i s at)) in
    let test : (is_offerable i s && not (is_listed sysv gnu (name_in strings s) i)) ≡ false = rw at at lost in
    go (is_listed sysv gnu (name_in strings s) i) (rw offered at test)
  where
    go : (b : Bool) → not b ≡ false → b ≡ true
    go true e = refl
    go false e = absurd (cc)

none_lost : (file : List ℕ) → symbol_flaw file ≡ None → first_lost (sysv_in file (headers file) (dynamic_entries file)) (gnu_in file (headers file) (dynamic_entries file)) (file_strings file) (symbols_of file) ≡ None
unfolding list_flaw
none_lost file e =
    let parts : HasNone file = has_none file e in
    let name = none_first (bad_symbol_name (strings_size (dynamic_entries file)) (symbols_of file)) (broken_hash (sysv_in file (headers file) (dynamic_entries file)) (gnu_in file (headers file) (dynamic_entries file)) (file_strings file) (symbols_of file) ∷ []) parts.list in
    let hash = none_first (broken_hash (sysv_in file (headers file) (dynamic_entries file)) (gnu_in file (headers file) (dynamic_entries file)) (file_strings file) (symbols_of file)) [] name.1 in
    no_place 29 (first_lost (sysv_in file (headers file) (dynamic_entries file)) (gnu_in file (headers file) (dynamic_entries file)) (file_strings file) (symbols_of file)) hash.0

by_sysv : (t : SysvTable) (gnu : Option GnuTable) (name : List ℕ) (i : ℕ) → is_listed (Some t) gnu name i ≡ true → sysv_lists t (sysv_hash name) i ≡ true
by_sysv t None name i e = e
by_sysv t (Some g) name i e = go (sysv_lists t (sysv_hash name) i) (gnu_lists g (gnu_hash name) i) e
  where
    go : (a b : Bool) → (a && b) ≡ true → a ≡ true
    go true b e = refl
    go false b e = absurd (cc)

by_gnu : (sysv : Option SysvTable) (t : GnuTable) (name : List ℕ) (i : ℕ) → is_listed sysv (Some t) name i ≡ true → gnu_lists t (gnu_hash name) i ≡ true
by_gnu None t name i e = e
by_gnu (Some s) t name i e = go (sysv_lists s (sysv_hash name) i) (gnu_lists t (gnu_hash name) i) e
  where
    go : (a b : Bool) → (a && b) ≡ true → b ≡ true
    go true b e = e
    go false b e = absurd (cc)

pub sysv_lists_each : (file : List ℕ) (i : ℕ) (s : RawSym) (t : SysvTable) → symbol_flaw file ≡ None → slice_get (symbols_of file) i ≡ Some s → is_offerable i s ≡ true → sysv_in file (headers file) (dynamic_entries file) ≡ Some t → sysv_lists t (sysv_hash (name_in (file_strings file) s)) i ≡ true
sysv_lists_each file i s t e at offered there =
    let none = rw there at (none_lost file e) in
    by_sysv t (gnu_in file (headers file) (dynamic_entries file)) (name_in (file_strings file) s) i (listed (Some t) (gnu_in file (headers file) (dynamic_entries file)) (file_strings file) (symbols_of file) i s none at offered)

pub gnu_lists_each : (file : List ℕ) (i : ℕ) (s : RawSym) (t : GnuTable) → symbol_flaw file ≡ None → slice_get (symbols_of file) i ≡ Some s → is_offerable i s ≡ true → gnu_in file (headers file) (dynamic_entries file) ≡ Some t → gnu_lists t (gnu_hash (name_in (file_strings file) s)) i ≡ true
gnu_lists_each file i s t e at offered there =
    let none = rw there at (none_lost file e) in
    by_gnu (sysv_in file (headers file) (dynamic_entries file)) t (name_in (file_strings file) s) i (listed (sysv_in file (headers file) (dynamic_entries file)) (Some t) (file_strings file) (symbols_of file) i s none at offered)

-- the chain by steps is the list
steps_are_list : (n : ℕ) (chains : List ℕ) (at : ℕ) (list : List ℕ) → ends_in n chains at ≡ true → IsChain chains at list → chain n chains at ≡ list
unfolding chain ends_in
steps_are_list zero chains at [] e c = refl
steps_are_list (suc n) chains at [] e c = let yes : (at == 0) ≡ true = grind (arith, nat_tests) in rw yes refl
steps_are_list zero chains at (i ∷ rest) e c = absurd (c.1 (grind (arith, nat_tests)))
steps_are_list (suc n) chains at (i ∷ rest) e c =
    let no : (at == 0) ≡ false = let apart : at ≢ 0 = c.1 in grind (arith, nat_tests) in
    let ends : ends_in n chains (slice_index chains at) ≡ true = rw no at e in
    rw (no, steps_are_list n chains (slice_index chains at) rest ends c.2, c.0) refl

pub chain_lists : (chains list : List ℕ) (at i : ℕ) → ends_in (length chains) chains at ≡ true → IsChain chains at list → is_in_chain chains at i ≡ list_any (λ j. j == i) list
unfolding is_in_chain
chain_lists chains list at i e c = ap (list_any (λ j. j == i)) (steps_are_list (length chains) chains at list e c)

-- each symbol that other objects may bind to is listed by all tables that are there, and there is one
pub each_listed : (file : List ℕ) (i : ℕ) (s : RawSym) → symbol_flaw file ≡ None → slice_get (symbols_of file) i ≡ Some s → is_offerable i s ≡ true → is_listed (sysv_in file (headers file) (dynamic_entries file)) (gnu_in file (headers file) (dynamic_entries file)) (name_in (file_strings file) s) i ≡ true
each_listed file i s e at offered =
    listed (sysv_in file (headers file) (dynamic_entries file)) (gnu_in file (headers file) (dynamic_entries file)) (file_strings file) (symbols_of file) i s (none_lost file e) at offered
