-- A change that leaves a face as it is has nothing to do.
use Rattle.std.proofs.Common.{◌≡◌, ◌∙◌, sym, ap, refl, subst, ℕ, ◌==◌, List, [], ◌∷◌, ◌++◌, Bool, true, false, cond, ◌&&◌, Option, Some, None, is_none, is_some, append-nil, length, map}
use Rattle.std.specs.Prelude.{not}
use Rattle.std.specs.Cmp.Lexicographic.{pointwise}
use Rattle.std.specs.List.{filter, zip}
use Rattle.std.specs.Option.{option_eq, option_map}
use Rattle.std.specs.Str.{bytes_eq}
use Rattle.std.proofs.lemmas.Bool.{and_parts}
use Rattle.byte_view.specs.Dynamic.{dynamic_entries}
use Rattle.byte_view.specs.DynamicFlaws.{has_tag}
use Rattle.byte_view.specs.declared.constants.TheConstants.{DT_RPATH, DT_RUNPATH, DT_SONAME}
use Rattle.load_model.specs.Faces.{face_of, named_text, needs_of}
use Rattle.load_model.specs.VersionTables.{dynamic_value, text_of}
use Rattle.load_model.specs.declared.faces.Face.{Face}
use Rattle.two_files.proofs.Entries.{tag_there}
use Rattle.elf_rewrite.specs.FittingFace.{files_in}
use Rattle.elf_rewrite.specs.NewTexts.{ask_files, changed, changed_name, changed_texts, is_done, is_dropped, removes, wants_segment}
use Rattle.elf_rewrite.specs.Pieces.{Overlay, laid}
use Rattle.elf_rewrite.specs.Rewriting.{rewriting}
use Rattle.elf_rewrite.specs.declared.change.Change.{Change}
use Rattle.elf_rewrite.proofs.Planned.{rewriting_none}
use Rattle.object_changes.specs.Unchanged.{is_unchanged}

kept_by : (b : Bool) (o n : List ℕ) (olds news : List (List ℕ)) → bytes_eq o n ≡ b → b ≡ true → changed olds news ≡ [] → changed (o ∷ olds) (n ∷ news) ≡ []
kept_by false o n olds news e h rest = cc
kept_by true o n olds news e h rest =
    ap (λ t. map (λ (p : List ℕ × List ℕ). p.1) (cond (not t) ((o, n) ∷ filter (λ (p : List ℕ × List ℕ). not (bytes_eq p.0 p.1)) (zip olds news)) (filter (λ (p : List ℕ × List ℕ). not (bytes_eq p.0 p.1)) (zip olds news)))) e ∙ rest

none_changed : (olds news : List (List ℕ)) → pointwise bytes_eq olds news ≡ true → changed olds news ≡ []
none_changed [] [] h = refl
none_changed [] (n ∷ news) h = cc
none_changed (o ∷ olds) [] h = cc
none_changed (o ∷ olds) (n ∷ news) h =
    let parts = and_parts (bytes_eq o n) (pointwise bytes_eq olds news) h in
    kept_by (bytes_eq o n) o n olds news refl parts.0 (none_changed olds news parts.1)

name_kept : (old new : Option (List ℕ)) → option_eq bytes_eq old new ≡ true → (changed_name old new ≡ []) × (is_dropped old new ≡ false)
name_kept None None h = (refl, refl)
name_kept None (Some n) h = cc
name_kept (Some o) None h = cc
name_kept (Some o) (Some n) h = (ap (λ b. cond b [] (n ∷ [])) h, refl)

no_tag : (b : List ℕ) (o : Option ℕ) → dynamic_value b DT_RPATH ≡ o → is_none (option_map (text_of b) o) ≡ true → is_some o ≡ false
no_tag b None e h = refl
no_tag b (Some at) e h = cc

no_rpath : (b : List ℕ) → is_none (named_text b DT_RPATH) ≡ true → has_tag DT_RPATH (dynamic_entries b) ≡ false
unfolding named_text
no_rpath b h = tag_there DT_RPATH (dynamic_entries b) ∙ no_tag b (dynamic_value b DT_RPATH) refl h

-- What the face of a file keeps, said of the file.
record Keeps (b : List ℕ) (change : Change) : Type 0 where
  needs : pointwise bytes_eq (needs_of b) change.needs ≡ true
  soname : option_eq bytes_eq (named_text b DT_SONAME) change.soname ≡ true
  runpath : option_eq bytes_eq (named_text b DT_RUNPATH) change.runpath ≡ true
  files : pointwise bytes_eq (ask_files b) change.files ≡ true
  rpath : is_none (named_text b DT_RPATH) ≡ true

keeps_face : (face : Face) (change : Change) → is_unchanged face change ≡ true → (pointwise bytes_eq face.needs change.needs ≡ true) × (option_eq bytes_eq face.soname change.soname ≡ true) × (option_eq bytes_eq face.runpath change.runpath ≡ true) × (pointwise bytes_eq (files_in face.asks) change.files ≡ true) × (is_none face.rpath ≡ true)
keeps_face face change h =
    let needs = pointwise bytes_eq face.needs change.needs in
    let soname = option_eq bytes_eq face.soname change.soname in
    let runpath = option_eq bytes_eq face.runpath change.runpath in
    let files = pointwise bytes_eq (files_in face.asks) change.files in
    let one = and_parts needs (soname && (runpath && (files && is_none face.rpath))) h in
    let two = and_parts soname (runpath && (files && is_none face.rpath)) one.1 in
    let three = and_parts runpath (files && is_none face.rpath) two.1 in
    let four = and_parts files (is_none face.rpath) three.1 in
    (one.0, two.0, three.0, four.0, four.1)

keeps_file : (b : List ℕ) (change : Change) → is_unchanged (face_of b) change ≡ true → Keeps b change
unfolding face_of
keeps_file b change h =
    let k = keeps_face (face_of b) change h in
    record { needs = k.0; soname = k.1; runpath = k.2; files = k.3; rpath = k.4 }

nothing_changed : (b : List ℕ) (change : Change) → Keeps b change → changed_texts b change ≡ []
unfolding changed_texts
nothing_changed b change k =
    let needs = none_changed (needs_of b) change.needs k.needs in
    let soname = (name_kept (named_text b DT_SONAME) change.soname k.soname).0 in
    let runpath = (name_kept (named_text b DT_RUNPATH) change.runpath k.runpath).0 in
    let files = none_changed (ask_files b) change.files k.files in
    rw (needs, soname, runpath, files) refl

nothing_removed : (b : List ℕ) (change : Change) → Keeps b change → removes b change ≡ false
unfolding removes
nothing_removed b change k =
    let rpath = no_rpath b k.rpath in
    let soname = (name_kept (named_text b DT_SONAME) change.soname k.soname).1 in
    let runpath = (name_kept (named_text b DT_RUNPATH) change.runpath k.runpath).1 in
    rw (rpath, soname, runpath) refl

wants_nothing : (b : List ℕ) (change : Change) → Keeps b change → wants_segment b change ≡ false
wants_nothing b change k = ap (λ (l : List (List ℕ)). not (length l == 0)) (nothing_changed b change k)

keeps : (b : List ℕ) (face : Face) (change : Change) → face ≡ face_of b → is_unchanged face change ≡ true → Keeps b change
keeps b face change e h = keeps_file b change (subst (λ f. is_unchanged f change ≡ true) e h)

pub unchanged_done : (b : List ℕ) (face : Face) (change : Change) → face ≡ face_of b → is_unchanged face change ≡ true → is_done b change ≡ true
unchanged_done b face change e h =
    let k = keeps b face change e h in
    let wants = wants_nothing b change k in
    let kept = nothing_removed b change k in
    rw (wants, kept) refl

laid_itself : (b : List ℕ) → laid b (record { old_len = length b; patches = []; added = [] }) ≡ b
unfolding laid
laid_itself b = append-nil b

pub unchanged_same : (b : List ℕ) (face : Face) (change : Change) → face ≡ face_of b → is_unchanged face change ≡ true → laid b (rewriting b change) ≡ b
unchanged_same b face change e h =
    let k = keeps b face change e h in
    ap (λ (o : Overlay). laid b o) (sym (rewriting_none b change (wants_nothing b change k) (nothing_removed b change k))) ∙ laid_itself b
