-- What is written has the symbols of the file from here.
use Rattle.std.proofs.Common.{◌≡◌, ◌∙◌, sym, ap, refl, subst, ℕ, ◌<◌, ◌==◌, List, Bool, true, Some, arith, slice_get, ◌⊎◌, inl, inr}
use Rattle.std.proofs.lemmas.Bool.{cases_lt, eqb-true, or_cases}
use Rattle.build_plan.specs.Building.{Building}
use Rattle.elf_rewrite.specs.NewFile.{wanted_of}
use Rattle.elf_rewrite.specs.declared.change.Change.{Change}
use Rattle.load_model.specs.Faces.{face_of}
use Rattle.load_model.specs.LoadList.{Loaded, Object}
use Rattle.load_model.specs.declared.faces.Face.{Face}
use Rattle.load_model.specs.declared.runs.Run.{Run}
use Rattle.moved_runs.specs.Alike.{KeepsSymbols, is_written}
use Rattle.object_rewriting.proofs.NamingLemmas.{with_face}
use Rattle.two_files.specs.Alike.{face_with}
use Rattle.build_laws.specs.Renaming.{is_bundled_in}
use Rattle.build_laws.proofs.BesideLemmas.{IsLibThere, IsProgramThere, IsRewrittenBy}
use Rattle.build_laws.proofs.FaceLemmas.{new_face}

symbols_with : (file : List ℕ) (change : Change) → KeepsSymbols (face_of file) (face_with file (wanted_of file change))
unfolding face_of face_with
symbols_with file change = record { symbolic = refl; syms = refl; versioned = refl; defs = refl }

symbols_kept : (change : Change) (o q : Object) → IsRewrittenBy change o q → KeepsSymbols o.face q.face
symbols_kept change o q by =
    subst (λ (f : Face). KeepsSymbols f q.face) (sym (with_face by.bytes o.face by.reads).1)
    (subst (KeepsSymbols (face_of by.bytes)) (sym (new_face change o q by)) (symbols_with by.bytes change))

-- The program, or a bundled library behind it.
pub written_cases : (is_bundled : ℕ → Bool) (j : ℕ) → is_written is_bundled j ≡ true → (j ≡ 0) ⊎ ((0 < j) × (is_bundled j ≡ true))
written_cases is_bundled j h =
    elim (cases_lt 0 j) [
      | inl some ↦ elim (or_cases (j == 0) (is_bundled j) h) [
        | inl first ↦ let zero_is = eqb-true j 0 first in absurd (omega (arith, some, zero_is))
        | inr is ↦ inr (some, is)
      ]
      | inr none ↦ inl (omega (arith, none))
    ]

module _ (b : Building) (run : Run) (loaded : Loaded) (objs_there : List Object) (program_there : (o q : Object) → slice_get loaded.objs 0 ≡ Some o → slice_get objs_there 0 ≡ Some q → IsProgramThere b run o q) (libs_there : (j : ℕ) (o q : Object) → 0 < j → is_bundled_in b run j ≡ true → slice_get loaded.objs j ≡ Some o → slice_get objs_there j ≡ Some q → IsLibThere b run j o q) where
  pub symbols_there : (j : ℕ) (o q : Object) → is_written (is_bundled_in b run) j ≡ true → slice_get loaded.objs j ≡ Some o → slice_get objs_there j ≡ Some q → KeepsSymbols o.face q.face
  symbols_there j o q written h g =
      elim (written_cases (is_bundled_in b run) j written) [
        | inl first ↦
            let w = program_there o q (ap (slice_get loaded.objs) (sym first) ∙ h) (ap (slice_get objs_there) (sym first) ∙ g) in
            symbols_kept _ o q w.by
        | inr lib ↦ let w = libs_there j o q lib.0 lib.1 h g in symbols_kept _ o q w.by
      ]
