-- A change that passed the test fits
use Rattle.std.proofs.Common.{◌≡◌, ℕ, zero, suc, ◌<◌, ◌==◌, ◌&&◌, ◌||◌, Bool, true, false, not, is_some, List, [], ◌∷◌, Option, Some, None, length, refl, sym, ◌∙◌, arith}
use Rattle.std.specs.Prelude.{slice_index_or}
use Rattle.std.specs.List.{list_all}
use Rattle.std.specs.Str.{bytes_eq}
use Rattle.std.proofs.lemmas.Bool.Decides.{nat_tests}
use Rattle.std.proofs.lemmas.Slice.Eq.{bytes_eq-Decides}
use Rattle.load_model.specs.declared.faces.Face.{Face}
use Rattle.elf_rewrite.specs.FittingFace.{FitsFace}
use Rattle.elf_rewrite.specs.NewFile.{is_name_or_none, is_name_text}
use Rattle.elf_rewrite.specs.declared.change.Change.{Change}
use Rattle.rewrite_cases.specs.FittingChange.{is_fitting, is_one_text}

both : (a b : Bool) → (a && b) ≡ true → (a ≡ true) × (b ≡ true)
both true b e = (refl, e)
both false b e = absurd (cc)

all_one : (t : List ℕ) (xs : List (List ℕ)) (i : ℕ) → list_all (λ s. bytes_eq s t) xs ≡ true → i < length xs → slice_index_or xs i [] ≡ t
all_one t [] i h low = absurd (omega arith)
all_one t (x ∷ xs) zero h low = (bytes_eq-Decides x t).0 (both (bytes_eq x t) (list_all (λ s. bytes_eq s t) xs) h).0
all_one t (x ∷ xs) (suc i) h low = all_one t xs i (both (bytes_eq x t) (list_all (λ s. bytes_eq s t) xs) h).1 (omega arith)

same_number : (m n : ℕ) → (m == n) ≡ true → m ≡ n
same_number m n h = grind (arith, nat_tests)

where_some : (a b : Bool) → (not a || b) ≡ true → a ≡ true → b ≡ true
where_some true b h e = h
where_some false b h e = absurd (cc)

pub fits_face : (change : Change) (face : Face) → is_fitting change face ≡ true → FitsFace change face
fits_face change face h =
    let a = both (length change.needs == length face.needs) _ h in
    let b = both (length change.files == length face.asks) _ a.1 in
    let c = both (is_one_text change.files) _ b.1 in
    let d = both (not (is_some change.soname) || is_some face.soname) _ c.1 in
    let e = both (list_all is_name_text change.needs) _ d.1 in
    let f = both (list_all is_name_text change.files) _ e.1 in
    let g = both (is_name_or_none change.soname) (is_name_or_none change.runpath) f.1 in
    let count : length change.files ≡ length face.asks = same_number _ _ b.0 in
    let first : List ℕ = slice_index_or change.files 0 [] in
    record {
      needs = same_number _ _ a.0;
      files = count;
      alike = λ i j low high same. all_one first change.files i c.0 (omega arith) ∙ sym (all_one first change.files j c.0 (omega arith));
      soname = where_some (is_some change.soname) (is_some face.soname) d.0;
      need_texts = e.0;
      file_texts = f.0;
      soname_text = g.0;
      path_text = g.1;
    }
