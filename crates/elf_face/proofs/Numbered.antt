-- Symbols with their indexes, versions and marks.
use Rattle.std.proofs.Common.{◌≡◌, ℕ, ◌+◌, Bool, List, [], ◌∷◌, is_some, length, map, refl, ap, sym, ◌∙◌}
use Rattle.std.specs.List.{enumerate_from, range_with_len, zip}
use Rattle.std.proofs.lemmas.List.{length-map}
use Rattle.std.proofs.lemmas.List.FromFn.{length-enumerate_from, length-map-range_with_len}
use Rattle.byte_view.specs.Dynamic.{dynamic_entries, value_of}
use Rattle.byte_view.specs.declared.constants.TheConstants.{DT_VERSYM}
use Rattle.hash_lookup.specs.Listed.{sym_with, syms_with}
use Rattle.load_model.specs.Bindings.{offered_by}
use Rattle.load_model.specs.Faces.{face_of, sym_at, syms_of}
use Rattle.load_model.specs.SymbolFlaws.{symbol_count, symbols_of}
use Rattle.load_model.specs.SymbolTable.{symbols_in}
use Rattle.load_model.specs.VersionTables.{hidden_of, is_hidden, version_of, versions_of}
use Rattle.load_model.specs.declared.symbols.RawSym.{RawSym}
use Rattle.load_model.specs.declared.symbols.Ver.{Ver}

pub length_symbols : (file : List ℕ) → length (symbols_of file) ≡ symbol_count file
unfolding symbols_of symbols_in symbol_count
length_symbols file = length-map-range_with_len _ 0 _

pub length_syms : (file : List ℕ) → length (syms_of file) ≡ symbol_count file
unfolding syms_of
length_syms file =
    length-map (enumerate_from 0 (symbols_of file)) (sym_at file) ∙ (length-enumerate_from 0 (symbols_of file) ∙ length_symbols file)

-- the three lists side by side, from an index on
paired : (file : List ℕ) (a : ℕ) (symbols : List RawSym) → map (sym_with file) (zip (zip symbols (map (version_of file) (range_with_len a (length symbols)))) (map (is_hidden file) (range_with_len a (length symbols)))) ≡ map (sym_at file) (enumerate_from a symbols)
paired file a [] = refl
paired file a (s ∷ more) = ap (λ rest. sym_at file (a, s) ∷ rest) (paired file (a + 1) more)

pub all_paired : (file : List ℕ) (symbols : List RawSym) (versions : List Ver) (hidden : List Bool) → symbols ≡ symbols_of file → versions ≡ versions_of (symbol_count file) file → hidden ≡ hidden_of (symbol_count file) file → map (sym_with file) (zip (zip symbols versions) hidden) ≡ syms_of file
unfolding versions_of hidden_of syms_of
all_paired file symbols versions hidden s v h =
    let same : map (sym_with file) (zip (zip (symbols_of file) (map (version_of file) (range_with_len 0 (length (symbols_of file))))) (map (is_hidden file) (range_with_len 0 (length (symbols_of file))))) ≡ map (sym_at file) (enumerate_from 0 (symbols_of file)) = paired file 0 (symbols_of file) in
    let many : length (symbols_of file) ≡ symbol_count file = length_symbols file in
    rw (s, v, h) (rw many at same)

both_maps : {X : Type 0} (file : List ℕ) (g : X → (RawSym × Ver) × Bool) (xs : List X) → map (sym_with file) (map g xs) ≡ map (λ x. sym_with file (g x)) xs
both_maps file g [] = refl
both_maps file g (x ∷ xs) = ap (λ rest. sym_with file (g x) ∷ rest) (both_maps file g xs)

-- what was made of each of the three that stand side by side
pub all_symbols : {X : Type 0} (file : List ℕ) (g : X → (RawSym × Ver) × Bool) (xs : List X) (symbols : List RawSym) (versions : List Ver) (hidden : List Bool) → map g xs ≡ zip (zip symbols versions) hidden → symbols ≡ symbols_of file → versions ≡ versions_of (symbol_count file) file → hidden ≡ hidden_of (symbol_count file) file → map (λ x. sym_with file (g x)) xs ≡ syms_of file
all_symbols file g xs symbols versions hidden e s v h =
    sym (both_maps file g xs) ∙ (ap (map (sym_with file)) e ∙ all_paired file symbols versions hidden s v h)

-- so many versions and marks
pub many_versions : (file : List ℕ) (count : ℕ) → length (versions_of count file) ≡ count
unfolding versions_of
many_versions file count = length-map-range_with_len (version_of file) 0 count

pub many_hidden : (file : List ℕ) (count : ℕ) → length (hidden_of count file) ≡ count
unfolding hidden_of
many_hidden file count = length-map-range_with_len (is_hidden file) 0 count

-- the symbols of the face are those that are looked up
pub same_offer : (file : List ℕ) (symbols : List RawSym) (versions : List Ver) (hidden : List Bool) (versioned : Bool) → symbols ≡ symbols_of file → versions ≡ versions_of (symbol_count file) file → hidden ≡ hidden_of (symbol_count file) file → versioned ≡ is_some (value_of DT_VERSYM (dynamic_entries file)) → record { syms = syms_with file symbols versions hidden; versioned = versioned } ≡ offered_by (face_of file)
unfolding face_of syms_with
same_offer file symbols versions hidden versioned s v h e =
    rw (all_paired file symbols versions hidden s v h, e) refl
