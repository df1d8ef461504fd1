-- The files of a package end with the main program, and no other lies at its path.
use Rattle.std.proofs.Common.{◌≡◌, ◌∙◌, sym, ap, refl, subst, ℕ, ◌<◌, ◌≤◌, ◌||◌, arith, List, [], ◌∷◌, ◌++◌, Bool, true, false, Option, Some, None, Ok, All, append-nil, append_assoc, bytes_eq, codes, length, map, slice_get, take}
use Rattle.std.specs.Prelude.{◌≢◌}
use Rattle.std.specs.List.{AllZip, cons_option, filter_map, list_any, slice_range, zip}
use Rattle.std.specs.Option.{option_and_then, option_map}
use Rattle.std.proofs.lemmas.Bool.{or_parts}
use Rattle.std.proofs.lemmas.List.{map-append}
use Rattle.std.proofs.lemmas.List.Elements.{All-cons, All-nil}
use Rattle.std.proofs.lemmas.Slice.Eq.{bytes_eq-Decides}
use Rattle.answers.specs.First.{first_some, some_where}
use Rattle.app_config.specs.declared.config.Config.{Config}
use Rattle.appdir_files.specs.Listing.{clash_stop, first_clash_stop, first_lib_stop, is_folder_of, list_stop, paths_clash}
use Rattle.appdir_files.proofs.TestLemmas.{not_both}
use Rattle.appdir_files.specs.declared.items.Item.{Item}
use Rattle.appdir_files.specs.declared.stops.ListStop.{ListStop}
use Rattle.appdir_files.specs.declared.stops.ListStop.TheVariants.{TargetClash}
use Rattle.build_plan.specs.Building.{Building, IsBuilding, start_of}
use Rattle.build_runs.specs.BuildRuns.{IsRunFor}
use Rattle.build_runs.specs.declared.programs.Start.{Start}
use Rattle.build_texts.specs.Places.{program_places, tool_place}
use Rattle.elf_rewrite.specs.declared.change.Change.{Change}
use Rattle.lib_closure.specs.Objects.{Occurrence, occurrence, occurrence_at, programs_of}
use Rattle.lib_closure.specs.Splits.{member_of, parts_of_build}
use Rattle.lib_closure.specs.declared.splits.Member.{Member}
use Rattle.lib_closure.specs.declared.splits.Split.{Split}
use Rattle.lib_closure.proofs.ContainedLemmas.{is_there}
use Rattle.lib_closure.proofs.SplitLemmas.{unclashed}
use Rattle.load_model.specs.Faces.{face_or_flaw}
use Rattle.load_model.specs.LoadList.{Loaded, count_after, count_from}
use Rattle.load_model.specs.Loads.{IsLoadList}
use Rattle.load_model.specs.World.{World}
use Rattle.load_model.specs.declared.faces.Face.{Face}
use Rattle.load_model.specs.declared.runs.Obj.{Obj}
use Rattle.load_model.specs.declared.runs.Run.{Run}
use Rattle.load_model.specs.declared.setting.Setting.{Setting}
use Rattle.load_model.proofs.History.{count_at}
use Rattle.load_model.proofs.LoadLists.{forget, history}
use Rattle.object_changes.specs.Changing.{change_of_program, changes_of, changes_of_programs, run_path_of_first, run_path_of_others}
use Rattle.ports.specs.declared.folders.MemFile.{MemFile}
use Rattle.appdir_build.specs.AppRun.{EndsWithAppRun}
use Rattle.appdir_build.specs.Files.{as_item, data_end, data_start, files_of, files_of_programs, front_files, main_file, manifest_file, program_file, record_file, report_file}
use Rattle.appdir_build.specs.Objects.{program_objects}
use Rattle.appdir_build.specs.Outcome.{Outcome, Package, listing_stop, package_of}

-- ---- the first load list has a program

module _ (setting : Setting) (world : World) (faces : List Face) where
  has_program : (path : List ℕ) (opens : List (List ℕ)) (loaded : Loaded) (ends : List Loaded) → IsLoadList face_or_flaw setting world path opens loaded ends → 0 < length loaded.objs
  unfolding count_from
  has_program path opens loaded ends list =
      let run = forget face_or_flaw setting world path list.program opens loaded ends list.run in
      let whole = (history face_or_flaw setting world path list.program opens loaded run).whole in
      let front : 1 ≤ count_after loaded.log = count_at loaded.log 0 in
      omega (arith, whole, front)

  standing : (run : Run) (x : Obj) (face : Face) → slice_get run.objs 0 ≡ Some x → slice_get faces x.face ≡ Some face → (o : Occurrence) × (occurrence_at faces run 0 ≡ Some o)
  unfolding occurrence_at
  standing run x face h f =
      let made : Face → Occurrence = λ y. record { faces = faces; run = run; number = 0; obj = x; face = y } in
      (made face, ap (option_and_then (occurrence faces run 0)) h ∙ ap (option_map made) f)

  program_of : (program : Start) (run : Run) → IsRunFor setting world faces program run → (o : Occurrence) × (occurrence_at faces run 0 ≡ Some o)
  program_of program run is =
      let loads = is.loads in
      let some = has_program program.path program.opens loads.loaded loads.ends loads.list in
      let count = loads.run_is.count in
      let x = is_there run.objs 0 (omega (arith, some, count)) in
      let as_object = loads.run_is.objs 0 x.it x.is in
      standing run x.it as_object.object.face x.is as_object.face

  first_program : (program : Start) (programs : List Start) (runs : List Run) → AllZip (IsRunFor setting world faces) (program ∷ programs) runs → (o : Occurrence) × (os : List Occurrence) × (programs_of faces runs ≡ o ∷ os)
  unfolding programs_of
  first_program program programs [] h = absurd h
  first_program program programs (run ∷ runs) h =
      let o = program_of program run h.0 in
      let others = filter_map (λ (r : Run). occurrence_at faces r 0) runs in
      (o.0, others, ap (λ p. cons_option p others) o.1)

-- ---- the first program has a file

parts_placed : (faces : List Face) (runs : List Run) (names : List (List ℕ)) (split : Split) → parts_of_build faces runs names ≡ split → split.programs ≡ map member_of (programs_of faces runs)
unfolding parts_of_build
parts_placed faces runs names split e = ap (λ (s : Split). s.programs) (sym e)

objects_by : (b : Building) (o : Occurrence) (os : List Occurrence) → programs_of b.faces b.runs ≡ o ∷ os → b.split.programs ≡ map member_of (programs_of b.faces b.runs) → (object : Member × Change) × (others : List (Member × Change)) × (program_objects b ≡ object ∷ others)
unfolding program_objects changes_of changes_of_programs
objects_by b o os e split = (
  (member_of o, change_of_program b.split b.layout run_path_of_first o),
  zip (map member_of os) (map (change_of_program b.split b.layout run_path_of_others) os),
  ap (λ members. zip members (changes_of_programs b.split b.layout (programs_of b.faces b.runs))) split
      ∙ ap (λ (all : List Occurrence). zip (map member_of all) (changes_of_programs b.split b.layout all)) e,
)

first_object : (world : World) (config : Config) (b : Building) → IsBuilding world config b → (object : Member × Change) × (others : List (Member × Change)) × (program_objects b ≡ object ∷ others)
first_object world config b builds =
    let first = first_program config.setting world b.faces (start_of config.main) (map start_of config.tools) b.runs builds.runs.each in
    let parts = (unclashed b.faces b.runs config.names b.split builds.plan.split).parts in
    objects_by b first.0 first.1 first.2 (parts_placed b.faces b.runs config.names b.split parts)

main_by : (world : World) (config : Config) (b : Building) (object : Member × Change) (others : List (Member × Change)) → program_objects b ≡ object ∷ others → main_file world config b ≡ program_file world (codes "AppRun", object) ∷ []
unfolding main_file files_of_programs program_places
main_by world config b object others e =
    ap (λ objects. take 1 (map (program_file world) (zip (codes "AppRun" ∷ map tool_place config.tools) objects))) e

-- ---- an item behind others has another path

both_none : {A : Type 0} (o p : Option A) → first_some (o ∷ p ∷ []) ≡ None → (o ≡ None) × (p ≡ None)
both_none None None h = (refl, refl)
both_none None (Some a) h = absurd (cc)
both_none (Some a) p h = absurd (cc)

not_clashing : (b : Bool) (stop : ListStop) → some_where b stop ≡ None → b ≡ false
not_clashing true stop h = absurd (cc)
not_clashing false stop h = refl

last_clashes_not : (before items : List Item) (last : Item) → first_clash_stop before (items ++ last ∷ []) ≡ None → list_any (λ other. paths_clash last.path other.path) (before ++ items) ≡ false
unfolding first_clash_stop
last_clashes_not before [] last h =
    let here = (both_none (clash_stop before last) (first_clash_stop (before ++ last ∷ []) []) h).0 in
    let clashes : List Item → Bool = λ others. list_any (λ other. paths_clash last.path other.path) others in
    ap clashes (append-nil before) ∙ not_clashing (clashes before) (TargetClash last.path) here
last_clashes_not before (item ∷ items) last h =
    let later = (both_none (clash_stop before item) (first_clash_stop (before ++ item ∷ []) (items ++ last ∷ [])) h).1 in
    let clashes : List Item → Bool = λ others. list_any (λ other. paths_clash last.path other.path) others in
    ap clashes (sym (append_assoc before (item ∷ []) items)) ∙ last_clashes_not (before ++ item ∷ []) items last later

other_path : (path other : List ℕ) → paths_clash path other ≡ false → other ≢ path
other_path path other h = λ same.
    not_both (bytes_eq path other) ((bytes_eq-Decides path other).1 (sym same))
    (or_parts (bytes_eq path other) (is_folder_of path other || is_folder_of other path) h).0

other_paths : (path : List ℕ) (files : List MemFile) → list_any (λ (other : Item). paths_clash path other.path) (map as_item files) ≡ false → All (λ (file : MemFile). file.path ≢ path) files
other_paths path [] h = All-nil (λ (file : MemFile). file.path ≢ path)
other_paths path (file ∷ files) h =
    let parts = or_parts (paths_clash path file.path) (list_any (λ (other : Item). paths_clash path other.path) (map as_item files)) h in
    All-cons (λ (f : MemFile). f.path ≢ path) file files (other_path path file.path parts.0) (other_paths path files parts.1)

none_clash : (items : List Item) (from to : ℕ) → list_stop items from to ≡ None → first_clash_stop [] items ≡ None
unfolding list_stop
none_clash items from to h = (both_none (first_lib_stop (slice_range items from to)) (first_clash_stop [] items) h).1

alone_at_path : (front : List MemFile) (last : MemFile) (from to : ℕ) → list_stop (map as_item (front ++ last ∷ [])) from to ≡ None → All (λ (file : MemFile). file.path ≢ last.path) front
alone_at_path front last from to h =
    let all = none_clash (map as_item (front ++ last ∷ [])) from to h in
    other_paths last.path front
    (last_clashes_not [] (map as_item front) (as_item last) (ap (first_clash_stop []) (sym (map-append as_item front (last ∷ []))) ∙ all))

-- ---- the package

module _ (world : World) (config : Config) (b : Building) (object : Member × Change) (main : main_file world config b ≡ program_file world (codes "AppRun", object) ∷ []) where
  abbrev last_file : MemFile
  last_file = program_file world (codes "AppRun", object)

  abbrev front_of_all : List MemFile
  front_of_all = front_files world config b ++ (record_file world config b ∷ report_file world config b ∷ manifest_file world config b ∷ [])

  main_last : files_of world config b ≡ front_of_all ++ last_file ∷ []
  unfolding files_of
  main_last =
      ap (λ last. front_files world config b ++ (record_file world config b ∷ report_file world config b ∷ manifest_file world config b ∷ last)) main
      ∙ sym (append_assoc (front_files world config b) (record_file world config b ∷ report_file world config b ∷ manifest_file world config b ∷ []) (last_file ∷ []))

  listed_ends : listing_stop world config b ≡ None → EndsWithAppRun (files_of world config b)
  listed_ends listed =
      let start = data_start world config b in
      let end = data_end world config b in
      record {
        front = front_of_all;
        last = last_file;
        files_are = main_last;
        named = refl;
        executable = refl;
        no_other = alone_at_path front_of_all last_file start end (ap (λ files. list_stop (map as_item files) start end) (sym main_last) ∙ listed);
      }

package_ends : (world : World) (config : Config) (b : Building) → IsBuilding world config b → listing_stop world config b ≡ None → EndsWithAppRun (package_of world config b).files
unfolding package_of
package_ends world config b builds listed =
    let first = first_object world config b builds in
    listed_ends world config b first.0 (main_by world config b first.0 first.1 first.2) listed

pub ends_with_app_run : (world : World) (config : Config) (made : Package) → Outcome world config (Ok made) → EndsWithAppRun made.files
ends_with_app_run world config made is =
    subst (λ (p : Package). EndsWithAppRun p.files) (sym is.package_is) (package_ends world config is.building is.builds is.listed)
