-- What is known of a plan before its objects are written.
use Rattle.std.proofs.Common.{◌≡◌, ◌∙◌, sym, ap, refl, subst, ℕ, ◌<◌, ◌&&◌, arith, List, [], ◌∷◌, All, suc, true, Option, Some, Result, Ok, Err, length, map, slice_get, get_or}
use Rattle.std.specs.Prelude.{IfOk}
use Rattle.std.proofs.lemmas.Option.{slice_get_read, slice_get_within}
use Rattle.object_changes.specs.Changing.{changes_of}
use Rattle.std.proofs.lemmas.List.Elements.{All-head, All-tail}
use Rattle.std.specs.List.{AllZip, cons_option, filter_map, list_all}
use Rattle.std.proofs.lemmas.Bool.{and_parts}
use Rattle.app_config.specs.declared.config.Config.{Config}
use Rattle.build_plan.specs.Building.{IsBuilding, start_of, starts_of}
use Rattle.build_plan.specs.Deciding.{IsSafePlan, building_of}
use Rattle.build_plan.specs.declared.plans.Plan.{Plan}
use Rattle.build_runs.specs.Answering.{IsSafeRun}
use Rattle.build_runs.proofs.FileLemmas.{file_of_object}
use Rattle.build_runs.proofs.ZipLemmas.{zip_right}
use Rattle.elf_rewrite.specs.declared.change.Change.{Change}
use Rattle.elf_rewrite.specs.NewFile.{is_name_text}
use Rattle.build_texts.specs.Places.{program_places, tool_place}
use Rattle.lib_closure.specs.Objects.{Occurrence, occurrence_at, programs_of}
use Rattle.lib_closure.specs.Splits.{member_of, parts_of_build}
use Rattle.lib_closure.specs.declared.splits.Split.{Split}
use Rattle.lib_closure.specs.SplitLaws.{StandsIn, StandsInRuns}
use Rattle.lib_closure.specs.declared.splits.Member.{Member}
use Rattle.lib_closure.proofs.ContainedLemmas.{at_place, is_there, place_of}
use Rattle.lib_closure.proofs.PlacedLemmas.{standing_at}
use Rattle.lib_closure.proofs.SplitLemmas.{members_stand, unclashed}
use Rattle.load_model.specs.Runs.{IsRunOver}
use Rattle.load_model.specs.World.{World, file_at}
use Rattle.load_model.specs.declared.faces.Face.{Face}
use Rattle.load_model.specs.declared.runs.Run.{Run}
use Rattle.object_changes.specs.Fitting.{AreFitting, AreNameTexts, HasNameTexts}
use Rattle.object_changes.specs.declared.changes.Changes.{Changes}
use Rattle.tree_opener.specs.Names.{IsFaceFor}
use Rattle.appdir_build.specs.Writing.{AreObjectsIn, IsFaced, IsPrepared}

-- ---- names

faces_texts : (machine : ℕ) (faces : List Face) → All (IsFaceFor machine) faces → All HasNameTexts faces
faces_texts machine faces all = λ k d less. let f = all k d less in record { needs = f.names.needs; soname = f.names.soname; files = f.names.files }

pub name_texts : (config : Config) (plan : Plan) → IsSafePlan config plan → (list_all (λ host. is_name_text host.name) plan.split.hosts && list_all is_name_text plan.layout.libs) ≡ true → AreNameTexts plan.loads.table.faces plan.split plan.layout
name_texts config plan safe h =
    let parts = and_parts (list_all (λ host. is_name_text host.name) plan.split.hosts) (list_all is_name_text plan.layout.libs) h in
    record { faces_texts = faces_texts config.setting.machine plan.loads.table.faces safe.safe.known; keys = parts.0; names = parts.1 }

pub runs_over : (config : Config) (plan : Plan) → IsSafePlan config plan → All (IsRunOver plan.loads.table.faces) plan.loads.runs
runs_over config plan safe = zip_right (IsSafeRun plan.loads.table.faces) (IsRunOver plan.loads.table.faces) (λ program run is. is.over) (starts_of config) plan.loads.runs safe.safe.each

-- ---- programs

length_mapped : {A B : Type 0} (f : A → B) (xs : List A) → length (map f xs) ≡ length xs
length_mapped f [] = refl
length_mapped f (x ∷ xs) = ap suc (length_mapped f xs)

sides : {A B : Type 0} (R : A → B → Type 0) (xs : List A) (ys : List B) → AllZip R xs ys → length xs ≡ length ys
sides R [] [] h = refl
sides R [] (y ∷ ys) h = absurd h
sides R (x ∷ xs) [] h = absurd h
sides R (x ∷ xs) (y ∷ ys) h = ap suc (sides R xs ys h.1)

programs_counted : (faces : List Face) (runs : List Run) → All (IsRunOver faces) runs → length (programs_of faces runs) ≡ length runs
unfolding programs_of
programs_counted faces [] over = refl
programs_counted faces (run ∷ runs) over =
    let first = All-head (IsRunOver faces) run runs over in
    let x = is_there run.objs 0 first.program in
    let p = standing_at faces run 0 x.it first x.is in
    let others = filter_map (λ (r : Run). occurrence_at faces r 0) runs in
    ap (λ (o : Option Occurrence). length (cons_option o others)) p.at
    ∙ ap suc (programs_counted faces runs (All-tail (IsRunOver faces) run runs over))

parts_counted : (faces : List Face) (runs : List Run) (names : List (List ℕ)) (split : Split) → parts_of_build faces runs names ≡ split → length split.programs ≡ length (programs_of faces runs)
unfolding parts_of_build
parts_counted faces runs names split e = ap (λ (s : Split). length s.programs) (sym e) ∙ length_mapped member_of (programs_of faces runs)

-- Each program of the split has a place.
pub places_counted : (config : Config) (plan : Plan) → IsSafePlan config plan → length (program_places config) ≡ length plan.split.programs
unfolding program_places
places_counted config plan safe =
    let faces = plan.loads.table.faces in
    let runs = plan.loads.runs in
    let parts = (unclashed faces runs config.names plan.split safe.plan.split).parts in
    ap suc (length_mapped tool_place config.tools ∙ sym (length_mapped start_of config.tools))
    ∙ (sides (IsSafeRun faces) (starts_of config) runs safe.safe.each
    ∙ (sym (programs_counted faces runs (runs_over config plan safe)) ∙ sym (parts_counted faces runs config.names plan.split parts)))

-- ---- members and their files

pub at_index : {X : Type 0} (xs ys : List X) (i : ℕ) (x : X) → ys ≡ xs → i < length xs → x ≡ get_or ys i x → slice_get xs i ≡ Some x
at_index xs ys i x e less is = slice_get_read xs (length xs) i x refl less (is ∙ ap (λ l. get_or l i x) e)

pub members_of : (plan : Plan) (changes : Changes) (p : IsPrepared plan changes) → StandsInRuns plan.loads.table.faces plan.loads.runs p.names plan.split
members_of plan changes p = members_stand plan.loads.table.faces plan.loads.runs p.names plan.split p.splits

pub lib_stands : (plan : Plan) (changes : Changes) → IsPrepared plan changes → (i : ℕ) (m : Member) → slice_get plan.split.libs i ≡ Some m → StandsIn plan.loads.table.faces plan.loads.runs m.id m.path m.face
lib_stands plan changes p i m h = (members_of plan changes p).libs m (at_place plan.split.libs i m h)

pub program_stands : (plan : Plan) (changes : Changes) → IsPrepared plan changes → (i : ℕ) (m : Member) → slice_get plan.split.programs i ≡ Some m → StandsIn plan.loads.table.faces plan.loads.runs m.id m.path m.face
program_stands plan changes p i m h = (members_of plan changes p).programs m (at_place plan.split.programs i m h)

-- What stands at a number of the split: a member, its change and its face.
pub record IsSeen (faces : List Face) (members : List Member) (changes : List Change) (number : ℕ) (member : Member) (change : Change) (face : Face) : Type 0 where
  pub member_is : slice_get members number ≡ Some member
  pub change_is : slice_get changes number ≡ Some change
  pub face_is : slice_get faces member.face ≡ Some face

is_read : {X : Type 0} (xs : List X) (i : ℕ) (x : X) → i < length xs → x ≡ get_or xs i x → slice_get xs i ≡ Some (get_or xs i x)
is_read xs i x less e = subst (λ y. slice_get xs i ≡ Some y) e (at_index xs xs i x refl less e)

-- What is read at a number stands there.
pub seen_at : (faces : List Face) (members : List Member) (changes : List Change) (number : ℕ) (member : Member) (change : Change) (face : Face) → length changes ≡ length members → number < length members → member ≡ get_or members number member → change ≡ get_or changes number change → (get_or members number member).face < length faces → face ≡ get_or faces (get_or members number member).face face → IsSeen faces members changes number (get_or members number member) (get_or changes number change) (get_or faces (get_or members number member).face face)
seen_at faces members changes number member change face counts less m c within f =
    record {
      member_is = is_read members number member less m;
      change_is = is_read changes number change (omega (arith, counts, less)) c;
      face_is = is_read faces (get_or members number member).face face within f;
    }

pub read_as : (xs : List (List ℕ)) (i : ℕ) (x text : List ℕ) → i < length xs → x ≡ get_or xs i x → text ≡ get_or xs i x → slice_get xs i ≡ Some text
read_as xs i x text less e is = subst (λ y. slice_get xs i ≡ Some y) (sym is) (is_read xs i x less e)

-- The place of a member's face is that of one.
pub seen_within : (plan : Plan) (member : Member) → StandsIn plan.loads.table.faces plan.loads.runs member.id member.path member.face → member.face < length plan.loads.table.faces
seen_within plan member stands = slice_get_within plan.loads.table.faces member.face stands.seen stands.seen_is

pub prepared : {E : Type 0} (config : Config) (plan : Plan) → IsSafePlan config plan → (fs : List Face) (rs : List Run) (result : Result Changes E) → fs ≡ plan.loads.table.faces → rs ≡ plan.loads.runs → IfOk result (λ changes. changes ≡ changes_of fs rs plan.split plan.layout) → IfOk result (λ changes. AreFitting fs plan.split changes) → IfOk result (λ changes. IsPrepared plan changes)
prepared config plan safe fs rs (Ok changes) e f are fits =
    record {
      names = config.names;
      splits = safe.plan.split;
      named = safe.plan.layout.count;
      changes_are = are ∙ (ap (λ l. changes_of l rs plan.split plan.layout) e ∙ ap (λ l. changes_of plan.loads.table.faces l plan.split plan.layout) f);
      fits = subst (λ l. AreFitting l plan.split changes) e fits;
    }
prepared config plan safe fs rs (Err stop) e f are fits = are

some_same : {X : Type 0} (o p : Option X) (a b : X) → o ≡ Some a → p ≡ Some b → o ≡ p → a ≡ b
some_same o p a b e f g = cc

-- A member of the split lies in the world at its path, with its face.
pub faced : (world : World) (plan : Plan) (id path : List ℕ) (place : ℕ) (face : Face) → AreObjectsIn world plan → StandsIn plan.loads.table.faces plan.loads.runs id path place → slice_get plan.loads.table.faces place ≡ Some face → IsFaced world path face
faced world plan id path place face objects stands e =
    let faces = plan.loads.table.faces in
    let is = objects stands.run_is.0 stands.number stands.run stands.obj (place_of plan.loads.runs stands.run stands.run_is) stands.object in
    record {
      file = is.file;
      lies = subst (λ p. file_at world p ≡ Some is.file) stands.path_is is.lies;
      faced = is.reads ∙ ap (λ (f : Face). Ok f) (some_same (slice_get faces stands.obj.face) (slice_get faces place) is.face face is.stands e (ap (slice_get faces) stands.place));
    }

-- What a world has of the programs' runs are its files.
pub objects_there : (world : World) (config : Config) (plan : Plan) → IsBuilding world config (building_of plan) → AreObjectsIn world plan
objects_there world config plan builds = λ k j run x g h. file_of_object config.setting world (starts_of config) plan.loads.table.faces plan.loads.runs k j run x builds.runs g h
