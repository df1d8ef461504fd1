-- The programs and bundled libraries of a run, each rewritten by its change.
use Rattle.std.proofs.Common.{◌≡◌, ◌∙◌, sym, ap, refl, subst, ℕ, zero, suc, ◌++◌, List, [], ◌∷◌, All, true, false, cond, Option, Some, None, Result, Ok, Err, map, slice_get, zip, arith}
use Rattle.std.specs.List.{Contains, cons_option, filter_map, find}
use Rattle.std.proofs.lemmas.Bool.{ne_eqb}
use Rattle.std.proofs.lemmas.List.Elements.{All-contains, Contains-append_left, Contains-append_right}
use Rattle.app_config.specs.declared.config.Config.{Config}
use Rattle.appdir_build.specs.Objects.{bytes_in, first_unwritten, lib_objects, new_bytes_of, new_file_of, program_objects, stop_at, stop_in}
use Rattle.appdir_build.proofs.FirstLemmas.{get_zip}
use Rattle.build_plan.specs.Building.{Building}
use Rattle.build_runs.specs.declared.programs.Start.{Start}
use Rattle.elf_rewrite.specs.FittingFace.{FitsFace}
use Rattle.elf_rewrite.specs.declared.change.Change.{Change}
use Rattle.elf_rewrite.specs.declared.change.RewriteStop.{RewriteStop}
use Rattle.lib_closure.specs.Kinds.{is_bundled}
use Rattle.lib_closure.specs.Objects.{Occurrence, first_places, has_id, occurrence_at, programs_of}
use Rattle.lib_closure.specs.Splits.{bundled_of, member_of, parts_of_build}
use Rattle.lib_closure.specs.declared.splits.Member.{Member}
use Rattle.lib_closure.specs.declared.splits.Split.{Split}
use Rattle.lib_closure.proofs.ContainedLemmas.{at_place, here, is_there, later, none_gives, of_filter}
use Rattle.lib_closure.proofs.PlacedLemmas.{first_in_all, occurs, of_all, standing_at}
use Rattle.lib_closure.proofs.SplitLemmas.{unclashed}
use Rattle.load_model.specs.Escaping.{AreBytes}
use Rattle.load_model.specs.Faces.{face_or_flaw}
use Rattle.load_model.specs.LoadList.{Loaded, Object}
use Rattle.load_model.specs.Runs.{IsRunOver}
use Rattle.load_model.specs.World.{World, is_other}
use Rattle.load_model.specs.declared.faces.Face.{Face}
use Rattle.load_model.specs.declared.runs.Obj.{Obj}
use Rattle.load_model.specs.declared.runs.Run.{Run}
use Rattle.load_model.proofs.AskedNeeds.{get_map, map_get}
use Rattle.name_layout.specs.declared.layouts.Layout.{Layout}
use Rattle.object_changes.specs.Changing.{change_of_lib, change_of_program, changes_of, changes_of_libs, changes_of_programs, run_path_of_first, run_path_of_others}
use Rattle.object_changes.specs.NamedFiles.{NamedFile, all_files_named}
use Rattle.object_changes.specs.declared.changes.Changes.{Changes}
use Rattle.object_changes.proofs.ChangeLemmas.{path_at}
use Rattle.object_changes.proofs.StandingLemmas.{all_at, all_placed, firsts_found}
use Rattle.object_rewriting.specs.Rewritten.{rewritten}
use Rattle.ports.specs.Reading.{bytes_at, bytes_of}
use Rattle.std.proofs.lemmas.List.Elements.{All-filter}
use Rattle.build_laws.specs.BuiltRuns.{IsRunIn}
use Rattle.build_laws.proofs.FilesLemmas.{IsRightObj, right_obj, same_face}
use Rattle.build_laws.proofs.NamesLemmas.{IsLibAt}
use Rattle.build_laws.proofs.RunInLemmas.{obj_here, run_there}
use Rattle.build_laws.proofs.TableLemmas.{fitting}

-- ---- lists whose elements all give something

given_first : {X Y : Type 0} (f : X → Option Y) (z x : X) (xs : List X) (w y : Y) → z ≡ x → f z ≡ Some w → f x ≡ Some y → slice_get (cons_option (f z) (filter_map f xs)) 0 ≡ Some y
given_first f z x xs w y same fz fx =
    ap (λ o. slice_get (cons_option o (filter_map f xs)) 0) fz ∙ (sym fz ∙ ap f same ∙ fx)

pub all_given : {X Y : Type 0} (f : X → Option Y) (xs : List X) → ((x : X) → Contains xs x → (y : Y) × (f x ≡ Some y)) → (k : ℕ) (x : X) (y : Y) → slice_get xs k ≡ Some x → f x ≡ Some y → slice_get (filter_map f xs) k ≡ Some y
all_given f [] h k x y g e = cc
all_given f (z ∷ xs) h zero x y g e =
    let w = h z (here z xs) in
    let same : z ≡ x = cc in
    given_first f z x xs w.0 y same w.1 e
all_given f (z ∷ xs) h (suc k) x y g e =
    let w = h z (here z xs) in
    ap (λ o. slice_get (cons_option o (filter_map f xs)) (suc k)) w.1 ∙ all_given f xs (λ v c. h v (later z v xs c)) k x y g e

-- ---- changes by their numbers

pub program_change : (split : Split) (layout : Layout) (os : List Occurrence) (k : ℕ) (o : Occurrence) → slice_get os k ≡ Some o → slice_get (changes_of_programs split layout os) k ≡ Some (change_of_program split layout (path_at k) o)
unfolding changes_of_programs
program_change split layout [] k o h = cc
program_change split layout (first ∷ others) zero o h = let same : first ≡ o = cc in ap (λ (p : Occurrence). Some (change_of_program split layout run_path_of_first p)) same
program_change split layout (first ∷ others) (suc k) o h =
    map_get (change_of_program split layout run_path_of_others) others k o h
    ∙ ap (λ p. Some (change_of_program split layout p o)) (sym (ap (λ c. cond c run_path_of_first run_path_of_others) (ne_eqb (suc k) 0 (λ e. absurd (omega arith)))))

programs_are : (faces : List Face) (runs : List Run) (split : Split) (layout : Layout) → (changes_of faces runs split layout).programs ≡ changes_of_programs split layout (programs_of faces runs)
unfolding changes_of
programs_are faces runs split layout = refl

libs_are : (faces : List Face) (runs : List Run) (split : Split) (layout : Layout) → (changes_of faces runs split layout).libs ≡ changes_of_libs split layout (all_files_named split layout faces runs) (first_places faces runs)
unfolding changes_of
libs_are faces runs split layout = refl

members_of_programs : (faces : List Face) (runs : List Run) (names : List (List ℕ)) → (parts_of_build faces runs names).programs ≡ map member_of (programs_of faces runs)
unfolding parts_of_build
members_of_programs faces runs names = refl

pub members_of_libs : (faces : List Face) (runs : List Run) (names : List (List ℕ)) → (parts_of_build faces runs names).libs ≡ map member_of (bundled_of faces runs names)
unfolding parts_of_build
members_of_libs faces runs names = refl

pub programs_beside : (b : Building) → program_objects b ≡ zip b.split.programs (changes_of b.faces b.runs b.split b.layout).programs
unfolding program_objects
programs_beside b = refl

pub libs_beside : (b : Building) → lib_objects b ≡ zip b.split.libs (changes_of b.faces b.runs b.split b.layout).libs
unfolding lib_objects
libs_beside b = refl

-- ---- what is written

unstopped_by : (path : List ℕ) (r : Result (List ℕ) RewriteStop) → stop_in path r ≡ None → r ≡ Ok (bytes_in r)
unstopped_by path (Ok bytes) h = refl
unstopped_by path (Err stop) h = cc

pub unstopped : (world : World) (b : Building) (object : Member × Change) → first_unwritten world b ≡ None → Contains (program_objects b ++ lib_objects b) object → rewritten (bytes_at world object.0.path) object.1 ≡ Ok (new_bytes_of world object)
unfolding first_unwritten
unstopped world b object h c =
    unstopped_by object.0.path (new_file_of world object) (none_gives (stop_at world) (program_objects b ++ lib_objects b) object h c)

-- A file of the directory, made of the file of an object by a change.
pub record IsMadeOf (machine : ℕ) (change : Change) (face : Face) (made : List ℕ) : Type 0 where
  pub bytes : List ℕ
  pub are_bytes : AreBytes bytes
  pub reads : face_or_flaw bytes ≡ Ok face
  pub right : is_other machine bytes ≡ false
  pub fits : FitsFace change face
  pub made_is : rewritten bytes change ≡ Ok made

module _ (world : World) (config : Config) (b : Building) (number : ℕ) (start : Start) (run : Run) (path : List ℕ) (at : IsRunIn world config b number start run path) (written : first_unwritten world b ≡ None) where
  abbrev loaded : Loaded
  loaded = at.plays.loads.loaded

  abbrev all_changes : Changes
  all_changes = changes_of b.faces b.runs b.split b.layout

  split_parts : parts_of_build b.faces b.runs config.names ≡ b.split
  split_parts = (unclashed b.faces b.runs config.names b.split at.builds.plan.split).parts

  run_over : (r : Run) → Contains b.runs r → IsRunOver b.faces r
  run_over r c = All-contains (IsRunOver b.faces) b.runs r at.over c

  each_program : (r : Run) → Contains b.runs r → (o : Occurrence) × (occurrence_at b.faces r 0 ≡ Some o)
  each_program r c =
      let x = is_there r.objs 0 (run_over r c).program in
      let p = standing_at b.faces r 0 x.it (run_over r c) x.is in
      (p.it, p.at)

  -- The program of a number stands first in the run of this number.
  program_at : (o : Occurrence) → occurrence_at b.faces run 0 ≡ Some o → slice_get (programs_of b.faces b.runs) number ≡ Some o
  unfolding programs_of
  program_at o h = all_given (λ (r : Run). occurrence_at b.faces r 0) b.runs each_program number run o at.is.runs h

  program_member : (o : Occurrence) → occurrence_at b.faces run 0 ≡ Some o → slice_get b.split.programs number ≡ Some (member_of o)
  program_member o h =
      ap (λ (s : Split). slice_get s.programs number) (sym split_parts)
      ∙ ap (λ ms. slice_get ms number) (members_of_programs b.faces b.runs config.names)
      ∙ map_get member_of (programs_of b.faces b.runs) number o (program_at o h)

  program_changed : (o : Occurrence) → occurrence_at b.faces run 0 ≡ Some o → slice_get all_changes.programs number ≡ Some (change_of_program b.split b.layout (path_at number) o)
  program_changed o h =
      ap (λ cs. slice_get cs number) (programs_are b.faces b.runs b.split b.layout) ∙ program_change b.split b.layout (programs_of b.faces b.runs) number o (program_at o h)

  pub program_object : (o : Occurrence) → occurrence_at b.faces run 0 ≡ Some o → slice_get (program_objects b) number ≡ Some (member_of o, change_of_program b.split b.layout (path_at number) o)
  program_object o h =
      ap (λ os. slice_get os number) (programs_beside b)
      ∙ get_zip b.split.programs all_changes.programs number (member_of o) (change_of_program b.split b.layout (path_at number) o) (program_member o h) (program_changed o h)

  made_by : (x : Obj) (v : IsRightObj world config.setting.machine b.faces x) (member : Member) (change : Change) → member.path ≡ x.path → Contains (program_objects b ++ lib_objects b) (member, change) → FitsFace change v.seen → IsMadeOf config.setting.machine change v.seen (new_bytes_of world (member, change))
  made_by x v member change same c fits =
      let bytes_are : bytes_at world member.path ≡ v.file.bytes = ap (bytes_at world) same ∙ ap bytes_of v.lies in
      record {
        bytes = v.file.bytes;
        are_bytes = v.are_bytes;
        reads = v.reads;
        right = v.right;
        fits = fits;
        made_is = ap (λ bs. rewritten bs change) (sym bytes_are) ∙ unstopped world b (member, change) written c;
      }

  -- The program, as it is written.
  pub record IsProgramMade (o : Object) : Type 0 where
    pub stands : Occurrence
    pub stands_at : occurrence_at b.faces run 0 ≡ Some stands
    pub object : slice_get (program_objects b) number ≡ Some (member_of stands, change_of_program b.split b.layout (path_at number) stands)
    pub made : IsMadeOf config.setting.machine (change_of_program b.split b.layout (path_at number) stands) o.face (new_bytes_of world (member_of stands, change_of_program b.split b.layout (path_at number) stands))

  pub program_made : (o : Object) → slice_get loaded.objs 0 ≡ Some o → IsProgramMade o
  program_made o h =
      let x = obj_here world config b number start run path at 0 o h in
      let c = run_there world config b number start run path at in
      let p = standing_at b.faces run 0 x.obj (run_over run c) x.stands in
      let v = right_obj world config b number start run path at run x.obj c (at_place run.objs 0 x.obj x.stands) in
      let both : Some v.seen ≡ Some o.face = sym v.stands ∙ x.face in
      let seen : v.seen ≡ o.face = cc in
      let change = change_of_program b.split b.layout (path_at number) p.it in
      let object = program_object p.it p.at in
      let fits = (fitting world config b number start run path at).programs.each number (member_of p.it) change v.seen (program_member p.it p.at) (program_changed p.it p.at) (ap (λ (y : Obj). slice_get b.faces y.face) p.obj ∙ v.stands) in
      record {
        stands = p.it;
        stands_at = p.at;
        object = object;
        made = subst (λ f. IsMadeOf config.setting.machine change f (new_bytes_of world (member_of p.it, change))) seen
            (made_by x.obj v (member_of p.it) change (ap (λ (y : Obj). y.path) p.obj)
            (Contains-append_left (program_objects b) (lib_objects b) (member_of p.it, change) (at_place (program_objects b) number (member_of p.it, change) object)) fits);
      }

  -- ---- bundled libraries

  abbrev firsts : List Occurrence
  firsts = first_places b.faces b.runs

  abbrev named_files : List NamedFile
  named_files = all_files_named b.split b.layout b.faces b.runs

  members_are : b.split.libs ≡ map member_of (bundled_of b.faces b.runs config.names)
  members_are = ap (λ (s : Split). s.libs) (sym split_parts) ∙ members_of_libs b.faces b.runs config.names

  bundled_found : All (λ (o : Occurrence). find (has_id o.obj.id) firsts ≡ Some o) (bundled_of b.faces b.runs config.names)
  bundled_found = All-filter (is_bundled b.faces b.runs config.names) (λ (o : Occurrence). find (has_id o.obj.id) firsts ≡ Some o) firsts (firsts_found b.faces b.runs)

  changes_are : all_changes.libs ≡ map (change_of_lib b.split b.layout named_files) (bundled_of b.faces b.runs config.names)
  changes_are =
      libs_are b.faces b.runs b.split b.layout
      ∙ all_placed b.split b.layout named_files firsts (bundled_of b.faces b.runs config.names) members_are bundled_found

  -- A library as it is written, at the place where it stands first.
  pub record IsLibMade (o : Object) (place : ℕ) : Type 0 where
    pub first : Occurrence
    pub found : find (has_id o.id) firsts ≡ Some first
    pub same : first.obj.id ≡ o.id
    pub first_there : Contains firsts first
    pub kept : is_bundled b.faces b.runs config.names first ≡ true
    pub seen : first.face ≡ o.face
    pub object : slice_get (lib_objects b) place ≡ Some (member_of first, change_of_lib b.split b.layout named_files first)
    pub made : IsMadeOf config.setting.machine (change_of_lib b.split b.layout named_files first) o.face (new_bytes_of world (member_of first, change_of_lib b.split b.layout named_files first))

  pub lib_made : (j : ℕ) (o : Object) (x : Obj) → slice_get loaded.objs j ≡ Some o → slice_get run.objs j ≡ Some x → x.id ≡ o.id → slice_get b.faces x.face ≡ Some o.face → (lib : IsLibAt b x.id) → IsLibMade o lib.place
  lib_made j o x ho hx id face lib =
      let w = get_map member_of (bundled_of b.faces b.runs config.names) lib.place lib.lib (ap (λ ms. slice_get ms lib.place) (sym members_are) ∙ lib.lib_is) in
      let f : Occurrence = w.0 in
      let kept = of_filter (is_bundled b.faces b.runs config.names) firsts f (at_place (bundled_of b.faces b.runs config.names) lib.place f w.1) in
      let is_first = kept.0 in
      let comes = of_all b.faces b.runs f (first_in_all b.faces b.runs f is_first) in
      let occ = occurs b.faces comes.run comes.number f comes.at in
      let u = right_obj world config b number start run path at comes.run f.obj comes.there (at_place comes.run.objs comes.number f.obj occ.obj) in
      let v = right_obj world config b number start run path at run x (run_there world config b number start run path at) (at_place run.objs j x hx) in
      let own : f.obj.id ≡ x.id = ap (λ (m : Member). m.id) (sym w.2) ∙ lib.id_is in
      let one : Some v.seen ≡ Some o.face = sym v.stands ∙ face in
      let here_seen : v.seen ≡ o.face = cc in
      let seen : u.seen ≡ o.face = same_face world config b number start run path at f.obj x u v own ∙ here_seen in
      let two : Some f.face ≡ Some u.seen = sym occ.face ∙ u.stands in
      let first_seen : f.face ≡ u.seen = cc in
      let change = change_of_lib b.split b.layout named_files f in
      let member_is : slice_get b.split.libs lib.place ≡ Some (member_of f) = lib.lib_is ∙ ap (λ (m : Member). Some m) w.2 in
      let changed : slice_get all_changes.libs lib.place ≡ Some change =
      ap (λ cs. slice_get cs lib.place) changes_are ∙ map_get (change_of_lib b.split b.layout named_files) (bundled_of b.faces b.runs config.names) lib.place f w.1 in
      let object : slice_get (lib_objects b) lib.place ≡ Some (member_of f, change) =
      ap (λ os. slice_get os lib.place) (libs_beside b) ∙ get_zip b.split.libs all_changes.libs lib.place (member_of f) change member_is changed in
      let fits = (fitting world config b number start run path at).libs.each lib.place (member_of f) change u.seen member_is changed u.stands in
      record {
        first = f;
        found = ap (λ i. find (has_id i) firsts) (sym (own ∙ id)) ∙ all_at (λ (p : Occurrence). find (has_id p.obj.id) firsts ≡ Some p) (bundled_of b.faces b.runs config.names) lib.place f bundled_found w.1;
        same = own ∙ id;
        first_there = is_first;
        kept = kept.1;
        seen = first_seen ∙ seen;
        object = object;
        made = subst (λ g. IsMadeOf config.setting.machine change g (new_bytes_of world (member_of f, change))) seen
            (made_by f.obj u (member_of f) change refl
            (Contains-append_right (program_objects b) (lib_objects b) (member_of f, change) (at_place (lib_objects b) lib.place (member_of f, change) object)) fits);
      }
