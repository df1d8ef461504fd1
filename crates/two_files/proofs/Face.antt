-- The face of the new file.
use Rattle.std.proofs.Common.{◌≡◌, ℕ, suc, ◌+◌, ◌<◌, List, [], ◌∷◌, Some, None, length, map, refl, subst, arith}
use Rattle.std.specs.Prelude.{slice_get}
use Rattle.std.specs.List.{enumerate_from}
use Rattle.std.proofs.lemmas.List.FromFn.{length-map-range_with_len}
use Rattle.byte_view.specs.Dynamic.{dynamic_entries}
use Rattle.byte_view.specs.DynamicFlaws.{dynamic_flaw}
use Rattle.byte_view.specs.HeaderFlaws.{header_flaw}
use Rattle.byte_view.specs.Headers.{headers}
use Rattle.byte_view.specs.declared.constants.TheConstants.{DT_FLAGS, DT_SYMBOLIC}
use Rattle.byte_view.proofs.Loads.{none_first}
use Rattle.load_model.specs.Faces.{face_of, first_flaw, is_symbolic, name_flaw, sym_at, syms_of}
use Rattle.load_model.specs.SymbolFlaws.{symbol_count, symbol_flaw, symbols_of}
use Rattle.load_model.specs.SymbolTable.{symbols_in}
use Rattle.load_model.specs.VersionFlaws.{version_flaw}
use Rattle.load_model.specs.VersionTables.{text_of}
use Rattle.load_model.specs.declared.symbols.RawSym.{RawSym}
use Rattle.two_files.specs.Alike.{IsRewritten, KeepsSymbols, Wanted, face_with}
use Rattle.two_files.proofs.Asks.{asks_replaced, definitions_same}
use Rattle.two_files.proofs.Entries.{tag_there}
use Rattle.two_files.proofs.Indexes.{VersionsKept, versions_kept}
use Rattle.two_files.proofs.Records.{text_same}
use Rattle.two_files.proofs.Symbols.{SymbolsKept, symbols_kept}

length_symbols : (file : List ℕ) → length (symbols_of file) ≡ symbol_count file
unfolding symbols_of symbols_in symbol_count
length_symbols file = length-map-range_with_len _ 0 _

numbered_same : {X Y : Type 0} (f g : ℕ × X → Y) (a : ℕ) (xs : List X) → ((i : ℕ) (x : X) → i < length xs → slice_get xs i ≡ Some x → f (a + i, x) ≡ g (a + i, x)) → map f (enumerate_from a xs) ≡ map g (enumerate_from a xs)
numbered_same f g a [] each = refl
numbered_same {X = X} f g a (x ∷ xs) each =
    let start : a + 0 ≡ a = omega arith in
    let first : f (a + 0, x) ≡ g (a + 0, x) = each 0 x (omega arith) refl in
    let here : f (a, x) ≡ g (a, x) = rw start at first in
    let rest : map f (enumerate_from (a + 1) xs) ≡ map g (enumerate_from (a + 1) xs) = numbered_same f g (a + 1) xs (λ i y h e. let place : a + (suc i) ≡ a + 1 + i = omega arith in subst (λ n. f (n, y) ≡ g (n, y)) place (each (suc i) y (omega arith) e)) in
    rw (here, rest) refl

-- symbols with their names and versions
syms_same : (b c : List ℕ) → KeepsSymbols b c (headers b) (headers c) (dynamic_entries b) (dynamic_entries c) → SymbolsKept b c (headers b) (headers c) (dynamic_entries b) (dynamic_entries c) → VersionsKept (symbol_count b) b c → syms_of c ≡ syms_of b
unfolding syms_of symbols_of
syms_same b c k s v =
    rw s.symbols (numbered_same (sym_at c) (sym_at b) 0 (symbols_of b) one)
  where
    one : (i : ℕ) (x : RawSym) → i < length (symbols_of b) → slice_get (symbols_of b) i ≡ Some x → sym_at c (0 + i, x) ≡ sym_at b (0 + i, x)
    one i x h e =
        let low : 0 + i < symbol_count b = omega (arith, length_symbols b) in
        let name : text_of c x.name ≡ text_of b x.name = text_same b c x.name k.texts (s.named i x e) in
        rw (name, v.versions (0 + i) low, v.hidden (0 + i) low) refl

symbolic_same : (b c : List ℕ) → KeepsSymbols b c (headers b) (headers c) (dynamic_entries b) (dynamic_entries c) → is_symbolic c ≡ is_symbolic b
unfolding is_symbolic
symbolic_same b c k =
    rw (k.tags.tags DT_FLAGS refl, tag_there DT_SYMBOLIC (dynamic_entries c), tag_there DT_SYMBOLIC (dynamic_entries b), k.tags.tags DT_SYMBOLIC refl) refl

-- the new file has a face, which is the old one with the texts that are wanted
pub new_face : (b c : List ℕ) (t : Wanted) → first_flaw b ≡ None → IsRewritten b c t → (first_flaw c ≡ None) × (face_of c ≡ face_with b t)
unfolding first_flaw face_of face_with symbol_flaw symbol_count
new_face b c t e r =
    let first = none_first (header_flaw b) (dynamic_flaw b ∷ symbol_flaw b ∷ version_flaw (symbol_count b) b ∷ name_flaw b ∷ []) e in
    let second = none_first (dynamic_flaw b) (symbol_flaw b ∷ version_flaw (symbol_count b) b ∷ name_flaw b ∷ []) first.1 in
    let third = none_first (symbol_flaw b) (version_flaw (symbol_count b) b ∷ name_flaw b ∷ []) second.1 in
    let fourth = none_first (version_flaw (symbol_count b) b) (name_flaw b ∷ []) third.1 in
    let s : SymbolsKept b c (headers b) (headers c) (dynamic_entries b) (dynamic_entries c) = symbols_kept b c (headers b) (headers c) (dynamic_entries b) (dynamic_entries c) r.symbols third.0 in
    let count : symbol_count c ≡ symbol_count b = s.count in
    let v : VersionsKept (symbol_count b) b c = versions_kept (symbol_count b) b c r.versions fourth.0 in
    let asks = asks_replaced (symbol_count b) b c t.files r.versions v.fine r.files in
    let defs = definitions_same (symbol_count b) b c r.versions v.fine in (
      rw (r.headers_fine, r.dynamic_fine, s.unflawed, count, v.unflawed, r.names_fine) refl,
      rw (r.machine, r.interp, r.needs, r.soname, r.rpath, r.runpath, symbolic_same b c r.symbols, syms_same b c r.symbols s v, v.versioned, asks, defs) refl,
    )
