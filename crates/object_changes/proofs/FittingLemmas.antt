-- Changes fit the faces of the files that they are made to.
use Rattle.std.proofs.Common.{◌≡◌, ◌∙◌, sym, ap, refl, subst, ℕ, zero, suc, ◌<◌, ◌||◌, ◌==◌, List, [], ◌∷◌, All, Bool, true, false, cond, Option, Some, None, is_some, Result, Ok, Err, arith, filter, length, map, min, slice_get, zip}
use Rattle.std.specs.List.{find, list_all}
use Rattle.std.specs.Option.{option_and_then, option_map, unwrap_or}
use Rattle.std.proofs.lemmas.Bool.{ne_eqb}
use Rattle.std.proofs.lemmas.List.{get_or-map, length-map}
use Rattle.std.proofs.lemmas.List.Elements.{All-filter}
use Rattle.std.proofs.lemmas.Option.{slice_get-map}
use Rattle.std.proofs.lemmas.Slice.Zip.{length-zip}
use Rattle.answers.specs.First.{first_some, value_unless}
use Rattle.elf_rewrite.specs.FittingFace.{FitsFace, files_in}
use Rattle.elf_rewrite.specs.NewFile.{is_name_text, text_at}
use Rattle.elf_rewrite.specs.declared.change.Change.{Change}
use Rattle.lib_closure.specs.Clashes.{kinds_in_order}
use Rattle.lib_closure.specs.Kinds.{is_bundled}
use Rattle.lib_closure.specs.Objects.{Occurrence, files_named, first_places, has_id, own_asks, own_needs, own_targets, programs_of}
use Rattle.lib_closure.specs.Splits.{bundled_of, member_of, parts_of_build, split_of}
use Rattle.lib_closure.specs.declared.splits.Member.{Member}
use Rattle.lib_closure.specs.declared.splits.Split.{Split}
use Rattle.lib_closure.specs.declared.stops.ClosureStop.{ClosureStop}
use Rattle.load_model.specs.Runs.{IsRunOver}
use Rattle.load_model.specs.VersionCheck.{version_file_of}
use Rattle.load_model.specs.declared.asks.Ask.{Ask}
use Rattle.load_model.specs.declared.faces.Face.{Face}
use Rattle.load_model.specs.declared.runs.Run.{Run}
use Rattle.name_layout.specs.declared.layouts.Layout.{Layout}
use Rattle.name_layout.proofs.PlacesLemmas.{map_through}
use Rattle.object_changes.specs.Changing.{change_of_lib, change_of_program, changes_of, changes_of_libs, changes_of_programs, first_told, has_bundled_need, has_bundled_root, new_need, new_needs, new_soname, own_file, own_files, run_path_of_first, run_path_of_libs, run_path_of_others, told_files}
use Rattle.object_changes.specs.Fitting.{AreFitting, AreNameTexts, FitMembers, HasNameTexts}
use Rattle.object_changes.specs.NamedFiles.{NamedFile, all_files_named, told_name}
use Rattle.object_changes.specs.Names.{name_beside, new_name_of}
use Rattle.object_changes.proofs.ChangeLemmas.{path_at}
use Rattle.object_changes.proofs.StandingLemmas.{StandsOver, all_at, all_placed, firsts_found, firsts_stand, programs_stand}
use Rattle.object_changes.proofs.TextLemmas.{asked_text, beside_text, first_path_text, lib_path_text, mapped_name, mapped_texts, new_name_text, other_path_text, paired_texts, told_text, unwrapped_text, where_text}

-- ---- version files go by their texts

zip_itself : {A B C : Type 0} (h : (A × B) → C) (f : A → B) (xs : List A) → map h (zip xs (map f xs)) ≡ map (λ x. h (x, f x)) xs
zip_itself h f [] = refl
zip_itself h f (x ∷ xs) = ap (λ l. h (x, f x) ∷ l) (zip_itself h f xs)

alike_by : (g : List ℕ → List ℕ) (asks : List Ask) (files : List (List ℕ)) → files ≡ map g (files_in asks) → (i j : ℕ) → i < length asks → j < length asks → text_at (files_in asks) i ≡ text_at (files_in asks) j → text_at files i ≡ text_at files j
alike_by g asks files e i j low high same =
    let many : length (files_in asks) ≡ length asks = length-map asks (λ (a : Ask). a.file) in
    ap (λ l. text_at l i) e ∙ get_or-map g (files_in asks) i [] [] (omega (arith, many)) ∙ ap g same
    ∙ sym (get_or-map g (files_in asks) j [] [] (omega (arith, many))) ∙ sym (ap (λ l. text_at l j) e)

abbrev own_text : Split → Layout → Occurrence → List ℕ → List ℕ
own_text split layout o file = unwrap_or (option_and_then (name_beside split layout o) (version_file_of o.faces o.run o.number file)) file

own_by : (split : Split) (layout : Layout) (o : Occurrence) → own_files split layout o ≡ map (own_text split layout o) (files_in o.face.asks)
unfolding own_files files_named
own_by split layout o =
    zip_itself (own_file split layout o) (λ (ask : Ask). version_file_of o.faces o.run o.number ask.file) o.face.asks
    ∙ map_through (λ (ask : Ask). ask.file) (own_text split layout o) o.face.asks

abbrev told_text_of : List NamedFile → Occurrence → List ℕ → List ℕ
told_text_of named o file = unwrap_or (told_name named o.obj.id file) file

told_by : (named : List NamedFile) (o : Occurrence) → told_files named o ≡ map (told_text_of named o) (files_in o.face.asks)
unfolding told_files
told_by named o = map_through (λ (ask : Ask). ask.file) (told_text_of named o) o.face.asks

-- ---- one change

needs_counted : (split : Split) (layout : Layout) (faces : List Face) (o : Occurrence) → StandsOver faces o → length (new_needs split layout o) ≡ length o.face.needs
unfolding new_needs
needs_counted split layout faces o stands =
    let one = length-map (own_needs o) (new_need split layout o) in
    let two = length-zip o.face.needs (own_targets o) in
    let three = stands.targets in
    omega (arith, one, two, three)

files_counted : (g : List ℕ → List ℕ) (asks : List Ask) (files : List (List ℕ)) → files ≡ map g (files_in asks) → length files ≡ length asks
files_counted g asks files e = ap length e ∙ length-map (files_in asks) g ∙ length-map asks (λ (a : Ask). a.file)

mapped_there : {X Y : Type 0} (f : X → Y) (o : Option X) → is_some (option_map f o) ≡ true → is_some o ≡ true
mapped_there f None h = cc
mapped_there f (Some x) h = refl

module _ (faces : List Face) (split : Split) (layout : Layout) (texts : AreNameTexts faces split layout) where
  needs_text : (o : Occurrence) → HasNameTexts o.face → list_all is_name_text (new_needs split layout o) ≡ true
  unfolding new_needs
  needs_text o has =
      paired_texts (new_need split layout o) (λ t j h. unwrapped_text (name_beside split layout o j) t (beside_text faces split layout texts o j) h) o.face.needs (own_targets o) has.needs

  program_fits : (path : List ℕ) (o : Occurrence) → is_name_text path ≡ true → StandsOver faces o → HasNameTexts o.face → FitsFace (change_of_program split layout path o) o.face
  unfolding change_of_program
  program_fits path o named stands has = record {
    needs = needs_counted split layout faces o stands;
    files = files_counted (own_text split layout o) o.face.asks (own_files split layout o) (own_by split layout o);
    alike = alike_by (own_text split layout o) o.face.asks (own_files split layout o) (own_by split layout o);
    soname = λ h. cc;
    need_texts = needs_text o has;
    file_texts = ap (list_all is_name_text) (own_by split layout o)
        ∙ mapped_texts (own_text split layout o) (λ t h. unwrapped_text (option_and_then (name_beside split layout o) (version_file_of o.faces o.run o.number t)) t (asked_text faces split layout texts o (version_file_of o.faces o.run o.number t)) h) (files_in o.face.asks) has.files;
    soname_text = refl;
    path_text = where_text (has_bundled_need split layout o || has_bundled_root split layout o) path named;
  }

  lib_fits : (runs : List Run) (o : Occurrence) → StandsOver faces o → HasNameTexts o.face → FitsFace (change_of_lib split layout (all_files_named split layout faces runs) o) o.face
  unfolding change_of_lib
  lib_fits runs o stands has =
      let named = all_files_named split layout faces runs in
      record {
        needs = needs_counted split layout faces o stands;
        files = files_counted (told_text_of named o) o.face.asks (told_files named o) (told_by named o);
        alike = alike_by (told_text_of named o) o.face.asks (told_files named o) (told_by named o);
        soname = λ h. mapped_there (new_soname split layout o) o.face.soname h;
        need_texts = needs_text o has;
        file_texts = ap (list_all is_name_text) (told_by named o)
            ∙ mapped_texts (told_text_of named o) (λ t h. unwrapped_text (told_name named o.obj.id t) t (told_text faces split layout texts runs o.obj.id t) h) (files_in o.face.asks) has.files;
        soname_text = mapped_name (new_soname split layout o) (λ t h. unwrapped_text (new_name_of split layout o.obj.id) t (new_name_text faces split layout texts o.obj.id) h) o.face.soname has.soname;
        path_text = where_text (has_bundled_need split layout o) run_path_of_libs lib_path_text;
      }

-- ---- all changes

path_text_at : (i : ℕ) → is_name_text (path_at i) ≡ true
path_text_at i = go (i == 0)
  where
    go : (b : Bool) → is_name_text (cond b run_path_of_first run_path_of_others) ≡ true
    go true = first_path_text
    go false = other_path_text

program_at : (split : Split) (layout : Layout) (os : List Occurrence) (i : ℕ) → slice_get (changes_of_programs split layout os) i ≡ option_map (change_of_program split layout (path_at i)) (slice_get os i)
unfolding changes_of_programs
program_at split layout [] i = refl
program_at split layout (o ∷ os) zero = refl
program_at split layout (o ∷ os) (suc i) =
    slice_get-map (change_of_program split layout run_path_of_others) os i
    ∙ ap (λ b. option_map (change_of_program split layout (cond b run_path_of_first run_path_of_others)) (slice_get os i)) (sym (ne_eqb (suc i) 0 (λ e. absurd (omega arith))))

programs_counted : (split : Split) (layout : Layout) (os : List Occurrence) → length (changes_of_programs split layout os) ≡ length os
unfolding changes_of_programs
programs_counted split layout [] = refl
programs_counted split layout (o ∷ os) = let one = length-map os (change_of_program split layout run_path_of_others) in omega (arith, one)

-- Changes that are made of objects, one of each, fit the members that these are.
fit_each : (faces : List Face) (os : List Occurrence) (changes : List Change) (f : ℕ → Occurrence → Change) → length changes ≡ length os → ((i : ℕ) → slice_get changes i ≡ option_map (f i) (slice_get os i)) → All (StandsOver faces) os → ((i : ℕ) (o : Occurrence) → StandsOver faces o → FitsFace (f i o) o.face) → FitMembers faces (map member_of os) changes
fit_each faces os changes f many are stand fits = record {
  count = many ∙ sym (length-map os member_of);
  each = λ i member change face m c h. go i member change face (slice_get os i) refl (sym (slice_get-map member_of os i) ∙ m) (sym (are i) ∙ c) h;
}
  where
    go : (i : ℕ) (member : Member) (change : Change) (face : Face) (o : Option Occurrence) → slice_get os i ≡ o → option_map member_of o ≡ Some member → option_map (f i) o ≡ Some change → slice_get faces member.face ≡ Some face → FitsFace change face
    go i member change face None here m c h = cc
    go i member change face (Some o) here m c h =
        let stands = all_at (StandsOver faces) os i o stand here in
        let same : f i o ≡ change = cc in
        let member_is : member_of o ≡ member = cc in
        let place : o.obj.face ≡ member.face = ap (λ (x : Member). x.face) member_is in
        let face_is : Some o.face ≡ Some face = sym stands.face ∙ ap (slice_get faces) place ∙ h in
        let shown : o.face ≡ face = cc in
        subst (λ x. FitsFace x face) same (subst (λ x. FitsFace (f i o) x) shown (fits i o stands))

value_is : {T E : Type 0} (o : Option E) (t s : T) → value_unless o t ≡ Ok s → t ≡ s
value_is None t s h = cc
value_is (Some e) t s h = cc

split_parts : (faces : List Face) (runs : List Run) (names : List (List ℕ)) (split : Split) → split_of faces runs names ≡ Ok split → parts_of_build faces runs names ≡ split
unfolding split_of
split_parts faces runs names split h = value_is (first_some (kinds_in_order faces runs names)) (parts_of_build faces runs names) split h

programs_are : (faces : List Face) (runs : List Run) (names : List (List ℕ)) (split : Split) → parts_of_build faces runs names ≡ split → map member_of (programs_of faces runs) ≡ split.programs
unfolding parts_of_build
programs_are faces runs names split h = ap (λ (s : Split). s.programs) h

libs_are : (faces : List Face) (runs : List Run) (names : List (List ℕ)) (split : Split) → parts_of_build faces runs names ≡ split → map member_of (bundled_of faces runs names) ≡ split.libs
unfolding parts_of_build
libs_are faces runs names split h = ap (λ (s : Split). s.libs) h

pub all_fit : (faces : List Face) (runs : List Run) (names : List (List ℕ)) (split : Split) (layout : Layout) → All (IsRunOver faces) runs → split_of faces runs names ≡ Ok split → AreNameTexts faces split layout → AreFitting faces split (changes_of faces runs split layout)
unfolding changes_of
all_fit faces runs names split layout over h texts =
    let parts = split_parts faces runs names split h in
    let named = all_files_named split layout faces runs in
    let firsts = first_places faces runs in
    let bundled = bundled_of faces runs names in
    let programs = programs_of faces runs in
    let has : (o : Occurrence) → StandsOver faces o → HasNameTexts o.face = λ o stands. all_at HasNameTexts faces o.obj.face o.face texts.faces_texts stands.face in
    let found = All-filter (is_bundled faces runs names) (λ o. find (has_id o.obj.id) firsts ≡ Some o) firsts (firsts_found faces runs) in
    let changed = all_placed split layout named firsts bundled (sym (libs_are faces runs names split parts)) found in
    let placed = map (change_of_lib split layout named) bundled in
    record {
      programs = subst (λ ms. FitMembers faces ms (changes_of_programs split layout programs)) (programs_are faces runs names split parts)
          (fit_each faces programs (changes_of_programs split layout programs) (λ i. change_of_program split layout (path_at i)) (programs_counted split layout programs) (program_at split layout programs) (programs_stand faces runs over)
          (λ i o stands. program_fits faces split layout texts (path_at i) o (path_text_at i) stands (has o stands)));
      libs = subst (λ ms. FitMembers faces ms (changes_of_libs split layout named firsts)) (libs_are faces runs names split parts)
          (subst (FitMembers faces (map member_of bundled)) (sym changed)
          (fit_each faces bundled placed (λ i. change_of_lib split layout named) (length-map bundled (change_of_lib split layout named)) (slice_get-map (change_of_lib split layout named) bundled)
          (All-filter (is_bundled faces runs names) (StandsOver faces) firsts (firsts_stand faces runs over))
          (λ i o stands. lib_fits faces split layout texts runs o stands (has o stands))));
    }
