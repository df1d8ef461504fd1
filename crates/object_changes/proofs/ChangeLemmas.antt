-- Changes one after the other, and names that are told in another way.
use Rattle.std.proofs.Common.{◌≡◌, ◌∙◌, sym, ap, ap₂, refl, ℕ, zero, suc, ◌+◌, ◌<◌, List, [], ◌∷◌, ◌++◌, Bool, true, false, cond, ◌==◌, Option, Some, None, Result, Ok, Err, IfOk, get_or, length, map, take, arith}
use Rattle.std.specs.List.{cons_option, filter_map, find, flat_map}
use Rattle.std.specs.Option.{option_map, unwrap_or}
use Rattle.std.proofs.lemmas.Bool.{ne_eqb}
use Rattle.std.proofs.lemmas.List.{length-map, length-take, map-append}
use Rattle.elf_rewrite.specs.declared.change.Change.{Change}
use Rattle.lib_closure.specs.Build.{list_of, lists_over}
use Rattle.lib_closure.specs.Firsts.{AreFirsts}
use Rattle.lib_closure.specs.Objects.{Occurrence, all_objects, each_first, first_places, has_id, objects_of, occurrence_at, programs_of}
use Rattle.lib_closure.specs.Seen.{standing}
use Rattle.lib_closure.specs.declared.firsts.Firsts.{Firsts}
use Rattle.lib_closure.specs.declared.seen.LoadList.{LoadList}
use Rattle.lib_closure.specs.declared.seen.Seen.{Seen}
use Rattle.lib_closure.specs.declared.splits.Member.{Member}
use Rattle.lib_closure.specs.declared.splits.Split.{Split}
use Rattle.lib_closure.proofs.BuildLemmas.{objects_of_lists, programs_of_lists}
use Rattle.version_files.proofs.TakenLemmas.{take_next}
use Rattle.load_model.specs.declared.asks.Ask.{Ask}
use Rattle.load_model.specs.declared.faces.Face.{Face}
use Rattle.load_model.specs.declared.runs.Run.{Run}
use Rattle.name_layout.specs.declared.layouts.Layout.{Layout}
use Rattle.object_changes.specs.Changing.{change_if_placed, changes_of, change_of_lib, change_of_program, changes_of_libs, changes_of_programs, first_of_lib, first_told, run_path_of_first, run_path_of_others, told_files}
use Rattle.object_changes.specs.NamedFiles.{NamedFile, all_files_named, files_named_at, told_name}
use Rattle.object_changes.specs.OfNames.{of_names}
use Rattle.object_changes.specs.declared.changes.Changes.{Changes}
use Rattle.object_changes.specs.declared.object_names.ObjectNames.{ObjectNames}

abbrev pub path_at : ℕ → List ℕ
path_at i = cond (i == 0) run_path_of_first run_path_of_others

later_path : (n : ℕ) → 0 < n → path_at n ≡ run_path_of_others
later_path n h = ap (λ b. cond b run_path_of_first run_path_of_others) (ne_eqb n 0 (λ e. absurd (omega arith)))

module _ (split : Split) (layout : Layout) where
  pub programs_next : (os : List Occurrence) (o : Occurrence) → changes_of_programs split layout (os ++ o ∷ []) ≡ changes_of_programs split layout os ++ change_of_program split layout (path_at (length os)) o ∷ []
  unfolding changes_of_programs
  programs_next [] o = refl
  programs_next (first ∷ os) o =
      ap (λ l. change_of_program split layout run_path_of_first first ∷ l) (map-append (change_of_program split layout run_path_of_others) os (o ∷ []))
      ∙ ap (λ p. change_of_program split layout run_path_of_first first ∷ (map (change_of_program split layout run_path_of_others) os ++ change_of_program split layout p o ∷ [])) (sym (later_path (length (first ∷ os)) (omega arith)))

  -- The same of elements that are seen through a function.
  pub program_read : {W : Type 0} (v : W → Occurrence) (ws : List W) (i : ℕ) (w : W) (was now : List Change) → i < length ws → w ≡ get_or ws i w → was ≡ changes_of_programs split layout (map v (take i ws)) → now ≡ was ++ change_of_program split layout (path_at i) (v w) ∷ [] → now ≡ changes_of_programs split layout (map v (take (i + 1) ws))
  program_read v ws i w was now less r h e =
      let many : length (map v (take i ws)) ≡ i = let a = length-map (take i ws) v in let b = length-take i ws in omega (arith, a, b) in
      e ∙ ap (λ l. l ++ change_of_program split layout (path_at i) (v w) ∷ []) h
      ∙ ap (λ n. changes_of_programs split layout (map v (take i ws)) ++ change_of_program split layout (path_at n) (v w) ∷ []) (sym many)
      ∙ sym (programs_next (map v (take i ws)) (v w))
      ∙ ap (changes_of_programs split layout) (sym (ap (map v) (take_next ws i w less r) ∙ map-append v (take i ws) (w ∷ [])))

-- ---- libraries go by what is told, however it is kept

module _ (kept named : List NamedFile) (alike : (asker file : List ℕ) → told_name kept asker file ≡ told_name named asker file) where
  told_alike : (o : Occurrence) (asks : List Ask) → map (first_told kept o) asks ≡ map (first_told named o) asks
  told_alike o [] = refl
  told_alike o (ask ∷ asks) = ap₂ (λ x xs. x ∷ xs) (ap (λ n. unwrap_or n ask.file) (alike o.obj.id ask.file)) (told_alike o asks)

  files_alike : (o : Occurrence) → told_files kept o ≡ told_files named o
  unfolding told_files
  files_alike o = told_alike o o.face.asks

  lib_alike : (split : Split) (layout : Layout) (o : Occurrence) → change_of_lib split layout kept o ≡ change_of_lib split layout named o
  unfolding change_of_lib
  lib_alike split layout o = ap (λ files. record (change_of_lib split layout kept o) { files = files }) (files_alike o)

  placed_alike : (split : Split) (layout : Layout) (found : Option Occurrence) → option_map (change_of_lib split layout kept) found ≡ option_map (change_of_lib split layout named) found
  placed_alike split layout None = refl
  placed_alike split layout (Some o) = ap Some (lib_alike split layout o)

  all_alike : (split : Split) (layout : Layout) (firsts : List Occurrence) (libs : List Member) → filter_map (change_if_placed split layout kept firsts) libs ≡ filter_map (change_if_placed split layout named firsts) libs
  all_alike split layout firsts [] = refl
  all_alike split layout firsts (lib ∷ libs) = ap₂ cons_option (placed_alike split layout (first_of_lib firsts lib)) (all_alike split layout firsts libs)

  pub libs_alike : (split : Split) (layout : Layout) (firsts : List Occurrence) → changes_of_libs split layout kept firsts ≡ changes_of_libs split layout named firsts
  unfolding changes_of_libs
  libs_alike split layout firsts = all_alike split layout firsts split.libs

-- ---- from the load lists of a build

pub ok_as : {X E : Type 0} (r : Result X E) (a b : X) → a ≡ b → IfOk r (λ x. x ≡ a) → IfOk r (λ x. x ≡ b)
ok_as (Ok x) a b e h = h ∙ e
ok_as (Err x) a b e h = tt

-- Libraries by what is kept of the objects are those by the objects.
pub libs_kept : (names : ObjectNames) (table : List NamedFile) (firsts : Firsts) (items seen again : List Seen) (all : List Occurrence) → seen ≡ items → again ≡ items → map standing items ≡ all → ((asker file : List ℕ) → told_name table asker file ≡ told_name (flat_map (of_names files_named_at names) (map standing seen)) asker file) → AreFirsts firsts (each_first [] (map standing again)) → of_names changes_of_libs names table (map standing firsts.seen.items) ≡ of_names changes_of_libs names (flat_map (of_names files_named_at names) all) (each_first [] all)
libs_kept names table firsts items seen again all g h m told are =
    ap (of_names changes_of_libs names table) (are.seen ∙ ap (λ (xs : List Seen). each_first [] (map standing xs)) h ∙ ap (each_first []) m)
    ∙ libs_alike table (flat_map (of_names files_named_at names) all)
    (λ asker file. told asker file ∙ ap (λ (xs : List Seen). told_name (flat_map (of_names files_named_at names) (map standing xs)) asker file) g ∙ ap (λ (os : List Occurrence). told_name (flat_map (of_names files_named_at names) os) asker file) m)
    names.libs.split.now names.layout.now (each_first [] all)

pub gathered : (faces : List Face) (runs : List Run) (split : Split) (layout : Layout) (names : ObjectNames) (lists : List LoadList) (programs libs : List Change) → names.libs.split.now ≡ split → names.layout.now ≡ layout → map list_of lists ≡ lists_over faces runs → programs ≡ of_names changes_of_programs names (filter_map (λ (list : LoadList). occurrence_at list.faces.now list.run.now 0) lists) → libs ≡ of_names changes_of_libs names (flat_map (of_names files_named_at names) (flat_map (λ (list : LoadList). objects_of list.faces.now list.run.now) lists)) (each_first [] (flat_map (λ (list : LoadList). objects_of list.faces.now list.run.now) lists)) → record { programs = programs; libs = libs } ≡ changes_of faces runs split layout
unfolding changes_of all_files_named
gathered faces runs split layout names lists programs libs s l over p b =
    let made : List Change → List Change → Changes = λ x y. record { programs = x; libs = y } in
    let of_programs : programs ≡ changes_of_programs split layout (programs_of faces runs) =
    p ∙ ap (of_names changes_of_programs names) (programs_of_lists faces runs lists over) ∙ ap₂ (λ x y. changes_of_programs x y (programs_of faces runs)) s l in
    let of_libs : libs ≡ changes_of_libs split layout (flat_map (files_named_at split layout) (all_objects faces runs)) (first_places faces runs) =
    b ∙ ap (λ (os : List Occurrence). of_names changes_of_libs names (flat_map (of_names files_named_at names) os) (each_first [] os)) (objects_of_lists faces runs lists over)
    ∙ ap₂ (λ x y. changes_of_libs x y (flat_map (files_named_at x y) (all_objects faces runs)) (first_places faces runs)) s l in
    ap₂ made of_programs of_libs
