-- Files that are added to a generated tree, one after the other.
use Rattle.std.proofs.Common.{◌≡◌, ◌∙◌, sym, ap, ℕ, ◌+◌, List, [], ◌∷◌, ◌++◌, arith, map, append_assoc, Result, Ok, Err}
use Rattle.std.specs.Prelude.{OnOk}
use Rattle.std.specs.List.{range_with_len}
use Rattle.std.proofs.lemmas.List.FromFn.{map-range_with_len_more}
use Rattle.elf_shape.specs.declared.shape.Shape.{Shape}
use Rattle.load_model.specs.World.{World}
use Rattle.elf_make.specs.Generator.{c_library_path, c_library_shape, host_files, library_file, loader_path, loader_shape, made_at}

on_ok : {T E P Q : Type 0} (result : Result T E) → (P → Q) → OnOk result P → OnOk result Q
on_ok (Ok x) f h = f h
on_ok (Err e) f h = tt

-- the file of a shape that is the wanted one, at a path that is the wanted one
pub added : {T E : Type 0} (result : Result T E) (old latest : World) (text path : List ℕ) (shape wanted : Shape) → text ≡ path → shape ≡ wanted → OnOk result (latest ≡ old ++ made_at text shape ∷ []) → OnOk result (latest ≡ old ++ made_at path wanted ∷ [])
added result old latest text path shape wanted e f h =
    on_ok result (λ is. is ∙ (ap (λ (t : List ℕ). old ++ made_at t shape ∷ []) e ∙ ap (λ (s : Shape). old ++ made_at path s ∷ []) f)) h

pub host_added : {T E : Type 0} (result : Result T E) (old mid latest : World) (loader c_library : Shape) → loader ≡ loader_shape → c_library ≡ c_library_shape → mid ≡ old ++ made_at loader_path loader ∷ [] → OnOk result (latest ≡ mid ++ made_at c_library_path c_library ∷ []) → OnOk result (latest ≡ old ++ host_files)
host_added result old mid latest loader c_library e f m h =
    on_ok result (λ is. is ∙ (ap (λ (w : World). w ++ made_at c_library_path c_library ∷ []) m
    ∙ (append_assoc old (made_at loader_path loader ∷ []) (made_at c_library_path c_library ∷ [])
    ∙ (ap (λ (s : Shape). old ++ (made_at loader_path s ∷ made_at c_library_path c_library ∷ [])) e
    ∙ ap (λ (s : Shape). old ++ (made_at loader_path loader_shape ∷ made_at c_library_path s ∷ [])) f)))) h

pub one_more : (count i : ℕ) (front before after : World) → before ≡ front ++ map (library_file count) (range_with_len 1 i) → after ≡ before ++ library_file count (i + 1) ∷ [] → after ≡ front ++ map (library_file count) (range_with_len 1 (i + 1))
one_more count i front before after e more =
    more ∙ (ap (λ (w : World). w ++ library_file count (i + 1) ∷ []) e
    ∙ (append_assoc front (map (library_file count) (range_with_len 1 i)) (library_file count (i + 1) ∷ [])
    ∙ ap (λ (w : World). front ++ w) (sym (map-range_with_len_more (library_file count) 1 i (i + 1) (omega arith)))))
