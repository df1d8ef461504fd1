-- Symbols with their versions and marks, and which of them a hash table lists
use Rattle.std.proofs.Common.{◌≡◌, ◌≢◌, ℕ, zero, suc, ◌≤◌, ◌==◌, ◌&&◌, Bool, true, false, List, [], ◌∷◌, Option, Some, None, length, map, refl, sym, ap, ◌∙◌, arith}
use Rattle.std.specs.Prelude.{slice_get}
use Rattle.std.specs.List.{zip}
use Rattle.std.proofs.lemmas.Bool.Decides.{nat_tests}
use Rattle.byte_view.specs.Dynamic.{dynamic_entries, string_at}
use Rattle.byte_view.specs.Headers.{headers}
use Rattle.hash_lookup.specs.Listed.{ListsAll, file_table, sym_with, syms_with, table_from, table_lists}
use Rattle.load_model.specs.Faces.{sym_of}
use Rattle.load_model.specs.GnuTable.{GnuTable, gnu_lists}
use Rattle.load_model.specs.Hashes.{gnu_hash, sysv_hash}
use Rattle.load_model.specs.SymbolFlaws.{gnu_in, is_listed, is_offerable, name_in, symbols_of, sysv_in}
use Rattle.load_model.specs.SymbolWords.{has_bindable_words, is_bindable}
use Rattle.load_model.specs.SysvTable.{SysvTable, sysv_lists}
use Rattle.load_model.specs.VersionTables.{text_of}
use Rattle.load_model.specs.declared.symbols.RawSym.{RawSym}
use Rattle.load_model.specs.declared.symbols.Sym.{Sym}
use Rattle.load_model.specs.declared.symbols.Ver.{Ver}
use Rattle.sym_tables.specs.Listing.{file_strings}
use Rattle.sym_tables.specs.ReadSymbols.{IsSymsOf, Symbols}
use Rattle.sym_tables.proofs.Unflawed.{each_listed}

both_maps : {X : Type 0} (file : List ℕ) (g : X → (RawSym × Ver) × Bool) (xs : List X) → map (sym_with file) (map g xs) ≡ map (λ x. sym_with file (g x)) xs
both_maps file g [] = refl
both_maps file g (x ∷ xs) = ap (λ rest. sym_with file (g x) ∷ rest) (both_maps file g xs)

-- what was made of each of the three that stand side by side
pub all_symbols : {X : Type 0} (file : List ℕ) (g : X → (RawSym × Ver) × Bool) (xs : List X) (symbols : List RawSym) (versions : List Ver) (hidden : List Bool) → map g xs ≡ zip (zip symbols versions) hidden → map (λ x. sym_with file (g x)) xs ≡ syms_with file symbols versions hidden
unfolding syms_with
all_symbols file g xs symbols versions hidden e =
    sym (both_maps file g xs) ∙ ap (map (sym_with file)) e

-- they are no more than there are symbols
made_few : (file : List ℕ) (symbols : List RawSym) (versions : List Ver) (hidden : List Bool) → length (map (sym_with file) (zip (zip symbols versions) hidden)) ≤ length symbols
made_few file [] versions hidden = omega arith
made_few file (r ∷ symbols) [] hidden = omega arith
made_few file (r ∷ symbols) (v ∷ versions) [] = omega arith
made_few file (r ∷ symbols) (v ∷ versions) (h ∷ hidden) = omega (arith, made_few file symbols versions hidden)

pub few_made : (file : List ℕ) (symbols : List RawSym) (versions : List Ver) (hidden : List Bool) → length (syms_with file symbols versions hidden) ≤ length symbols
unfolding syms_with
few_made file symbols versions hidden = made_few file symbols versions hidden

-- a symbol with its version and its mark is one of those of the file
record IsMade (file : List ℕ) (symbols : List RawSym) (i : ℕ) (s : Sym) : Type 0 where
  raw : RawSym
  version : Ver
  hidden : Bool
  at : slice_get symbols i ≡ Some raw
  same : s ≡ sym_of file raw version hidden

made : (file : List ℕ) (symbols : List RawSym) (versions : List Ver) (hidden : List Bool) (i : ℕ) (s : Sym) → slice_get (map (sym_with file) (zip (zip symbols versions) hidden)) i ≡ Some s → IsMade file symbols i s
made file [] versions hidden i s e = absurd (cc)
made file (r ∷ symbols) [] hidden i s e = absurd (cc)
made file (r ∷ symbols) (v ∷ versions) [] i s e = absurd (cc)
made file (r ∷ symbols) (v ∷ versions) (h ∷ hidden) zero s e = record { raw = r; version = v; hidden = h; at = refl; same = cc }
made file (r ∷ symbols) (v ∷ versions) (h ∷ hidden) (suc i) s e =
    let m : IsMade file symbols i s = made file symbols versions hidden i s e in
    record { raw = m.raw; version = m.version; hidden = m.hidden; at = m.at; same = m.same }

-- the table that is kept lists what all tables list
kept_lists : (gnu : Option GnuTable) (sysv : Option SysvTable) (name : List ℕ) (i : ℕ) → is_listed sysv gnu name i ≡ true → table_lists (table_from gnu sysv) name i ≡ true
kept_lists None None name i e = e
kept_lists None (Some t) name i e = e
kept_lists (Some t) None name i e = e
kept_lists (Some g) (Some t) name i e = go (sysv_lists t (sysv_hash name) i) (gnu_lists g (gnu_hash name) i) e
  where
    go : (a b : Bool) → (a && b) ≡ true → b ≡ true
    go true b e = e
    go false b e = absurd (cc)

named : (file : List ℕ) (raw : RawSym) → name_in (file_strings file) raw ≡ text_of file raw.name
unfolding string_at
named file raw = refl

no_zero : (i : ℕ) → i ≢ 0 → (i == 0) ≡ false
no_zero i e = grind (arith, nat_tests)

pub lists_all : (file : List ℕ) (s : Symbols) (versions : List Ver) (hidden : List Bool) → IsSymsOf s file → ListsAll (table_from s.gnu s.sysv) (syms_with file s.raw versions hidden)
unfolding syms_with
lists_all file s versions hidden is = record { lists = λ i x z at may. go i x z (made file s.raw versions hidden i x at) may }
  where
    go : (i : ℕ) (x : Sym) → i ≢ 0 → IsMade file s.raw i x → is_bindable x.binding x.kind x.visibility x.value_set ≡ true → table_lists (table_from s.gnu s.sysv) x.name i ≡ true
    go i x z m may =
        let words : has_bindable_words m.raw ≡ true = rw m.same at may in
        let offered : is_offerable i m.raw ≡ true = rw (no_zero i z) words in
        let there : slice_get (symbols_of file) i ≡ Some m.raw = rw (← is.raw) m.at in
        let listed : is_listed (sysv_in file (headers file) (dynamic_entries file)) (gnu_in file (headers file) (dynamic_entries file)) (name_in (file_strings file) m.raw) i ≡ true = each_listed file i m.raw is.unflawed there offered in
        let here : is_listed s.sysv s.gnu (name_in (file_strings file) m.raw) i ≡ true = rw (is.sysv, is.gnu) listed in
        rw (m.same, ← named file m.raw) (kept_lists s.gnu s.sysv (name_in (file_strings file) m.raw) i here)

pub same_table : (file : List ℕ) (s : Symbols) → IsSymsOf s file → table_from s.gnu s.sysv ≡ file_table file
unfolding file_table
same_table file s is = rw (is.gnu, is.sysv) refl
