-- The files of a build, as they lie at a place.
use Rattle.std.proofs.Common.{◌≡◌, ◌≢◌, ◌∙◌, sym, ap, refl, subst, ℕ, ◌+◌, ◌-◌, ◌==◌, ◌++◌, List, [], ◌∷◌, All, true, false, append_assoc, get_or, Option, Some, None, Ok, drop, length, map, slice_get, take, zip, arith, inl, inr}
use Rattle.std.specs.Prelude.{◌⊎◌, codes}
use Rattle.std.specs.List.{Contains, list_any, slice_range}
use Rattle.std.proofs.Math.Seq.{drop-append-add, drop-append_seam, take-append_seam}
use Rattle.std.proofs.lemmas.Bool.{both_ways, ne_eqb, not_from_false}
use Rattle.std.proofs.lemmas.List.{length-map, map-append}
use Rattle.std.proofs.lemmas.List.Folds.{list_any_none}
use Rattle.std.proofs.lemmas.List.Elements.{All-nil, Contains-append_cases, Contains-append_left, Contains-append_right}
use Rattle.app_config.specs.declared.config.Config.{Config}
use Rattle.extra_files.specs.Extras.{copy_at, data_files, desktop_files, icon_files}
use Rattle.appdir_build.specs.Files.{as_item, data_end, data_start, files_of, files_of_programs, front_files, lib_file, lib_files, main_file, manifest_file, program_file, record_file, report_file}
use Rattle.appdir_build.specs.Outcome.{listing_stop}
use Rattle.appdir_build.specs.Objects.{lib_objects, program_objects}
use Rattle.appdir_build.proofs.FirstLemmas.{get_zip}
use Rattle.appdir_files.specs.Listing.{first_clash_stop, first_lib_stop, is_in_lib, lib_stop, list_stop}
use Rattle.appdir_files.specs.declared.items.Item.{Item as AppItem}
use Rattle.appdir_files.specs.declared.stops.ListStop.TheVariants.{TargetInLib}
use Rattle.answers.specs.First.{first_some}
use Rattle.name_layout.proofs.LawLemmas.{nowhere}
use Rattle.path_text.specs.FileName.{IsFileName}
use Rattle.path_text.specs.Path.{base_of, last_part, named_parts}
use Rattle.path_text.proofs.PartLemmas.{All-named_parts, NoSlash, NoSlash-parts_of}
use Rattle.build_plan.specs.Building.{Building}
use Rattle.build_texts.specs.Places.{lib_place as lib_target, program_places, tool_place}
use Rattle.elf_rewrite.specs.declared.change.Change.{Change}
use Rattle.lib_closure.specs.declared.splits.Member.{Member}
use Rattle.lib_closure.proofs.ContainedLemmas.{at_place, cases, here, in_map, in_none, later, none_gives, of_map, place_of}
use Rattle.lib_closure.proofs.SplitLemmas.{none_first}
use Rattle.load_model.specs.Candidates.{At, decision}
use Rattle.load_model.specs.Faces.{face_or_flaw}
use Rattle.load_model.specs.Joined.{joined}
use Rattle.load_model.specs.LoadList.{Object}
use Rattle.load_model.specs.World.{World, file_at, is_other}
use Rattle.load_model.specs.declared.faces.Face.{Face}
use Rattle.load_model.specs.declared.setting.Setting.{Setting}
use Rattle.load_model.specs.declared.world.WorldFile.{WorldFile}
use Rattle.load_model.proofs.AskedNeeds.{get_map, map_get}
use Rattle.moved_runs.specs.Placed.{HasPath, IsPlaced, Item, lib_place}
use Rattle.moved_runs.specs.Places.{IsItem}
use Rattle.moved_runs.proofs.PlaceLemmas.{same_tail}
use Rattle.moved_runs.proofs.SearchLemmas.{decided_at}
use Rattle.ports.specs.declared.folders.MemFile.{MemFile}
use Rattle.build_laws.specs.Renaming.{as_items, as_placed}

-- ---- what the directory has

first_or_later : {X : Type 0} (xs : List X) (y : X) → Contains xs y → Contains (take 1 xs) y ⊎ Contains (drop 1 xs) y
first_or_later [] y c = absurd (in_none y c)
first_or_later (x ∷ xs) y c =
    elim (cases x y xs c) [
      | inl same ↦ inl (subst (Contains (x ∷ [])) same (here x []))
      | inr more ↦ inr more
    ]

of_pair : {X Y : Type 0} (xs : List X) (ys : List Y) (x : X) (y : Y) → Contains (zip xs ys) (x, y) → Contains xs x
of_pair {X} {Y} [] ys x y c = absurd (in_none (x, y) c)
of_pair {X} {Y} (a ∷ xs) [] x y c = absurd (in_none (x, y) c)
of_pair {X} {Y} (a ∷ xs) (d ∷ ys) x y c =
    elim (cases (a, d) (x, y) (zip xs ys) c) [
      | inl same ↦ let one : a ≡ x = ap (λ (p : X × Y). p.0) same in subst (Contains (a ∷ xs)) one (here a xs)
      | inr more ↦ later a x xs (of_pair xs ys x y more)
    ]

of_later : {X : Type 0} (xs : List X) (y : X) → Contains (drop 1 xs) y → Contains xs y
of_later [] y c = absurd (in_none y c)
of_later (x ∷ xs) y c = later x y xs c

of_first : {X : Type 0} (xs : List X) (y : X) → Contains (take 1 xs) y → Contains xs y
of_first [] y c = absurd (in_none y c)
of_first (x ∷ xs) y c =
    elim (cases x y [] c) [
      | inl same ↦ subst (Contains (x ∷ xs)) same (here x xs)
      | inr none ↦ absurd (in_none y none)
    ]

-- What stands between two lists that are joined to it.
middle_mapped : {X Y : Type 0} (f : X → Y) (xs ys zs rest : List X) → slice_range (map f (xs ++ (ys ++ (zs ++ rest)))) (length xs + length ys) (length xs + length ys + length zs) ≡ map f zs
middle_mapped f xs ys zs rest =
    let lx = length-map xs f in
    let ly = length-map ys f in
    let lz = length-map zs f in
    let whole : map f (xs ++ (ys ++ (zs ++ rest))) ≡ map f xs ++ (map f ys ++ (map f zs ++ map f rest)) =
    map-append f xs (ys ++ (zs ++ rest)) ∙ ap (λ l. map f xs ++ l) (map-append f ys (zs ++ rest) ∙ ap (λ l. map f ys ++ l) (map-append f zs rest)) in
    let behind : drop (length xs + length ys) (map f (xs ++ (ys ++ (zs ++ rest)))) ≡ map f zs ++ map f rest =
    ap (drop (length xs + length ys)) whole
    ∙ ap (λ n. drop n (map f xs ++ (map f ys ++ (map f zs ++ map f rest)))) (let n : length xs + length ys ≡ length (map f xs) + length (map f ys) = omega (arith, lx, ly) in n)
    ∙ drop-append-add (map f xs) (map f ys ++ (map f zs ++ map f rest)) (length (map f ys)) ∙ drop-append_seam (map f ys) (map f zs ++ map f rest) in
    let many : (length xs + length ys + length zs) - (length xs + length ys) ≡ length (map f zs) = omega (arith, lz) in
    ap (λ n. take n (drop (length xs + length ys) (map f (xs ++ (ys ++ (zs ++ rest)))))) many
    ∙ ap (take (length (map f zs))) behind ∙ take-append_seam (map f zs) (map f rest)

module _ (world : World) (config : Config) (b : Building) where
  -- The program of a number lies at its place.
  pub program_lies : (number : ℕ) (path : List ℕ) (object : Member × Change) → slice_get (program_places config) number ≡ Some path → slice_get (program_objects b) number ≡ Some object → Contains (files_of world config b) (program_file world (path, object))
  unfolding files_of front_files main_file files_of_programs
  program_lies number path object hp ho =
      let both : slice_get (zip (program_places config) (program_objects b)) number ≡ Some (path, object) = get_zip (program_places config) (program_objects b) number path object hp ho in
      let all : List MemFile = map (program_file world) (zip (program_places config) (program_objects b)) in
      let file : MemFile = program_file world (path, object) in
      let there : Contains all file = at_place all number file (map_get (program_file world) (zip (program_places config) (program_objects b)) number (path, object) both) in
      let rest : List MemFile = data_files world config ++ (icon_files world config.icon ++ desktop_files world config.desktop) in
      let front : List MemFile = lib_files world b ++ (drop 1 all ++ rest) in
      let texts : List MemFile = record_file world config b ∷ report_file world config b ∷ manifest_file world config b ∷ take 1 all in
      elim (first_or_later all file there) [
        | inl first ↦
            Contains-append_right front texts file
            (later (record_file world config b) file (report_file world config b ∷ manifest_file world config b ∷ take 1 all)
            (later (report_file world config b) file (manifest_file world config b ∷ take 1 all)
            (later (manifest_file world config b) file (take 1 all) first)))
        | inr more ↦
            Contains-append_left front texts file (Contains-append_right (lib_files world b) (drop 1 all ++ rest) file (Contains-append_left (drop 1 all) rest file more))
      ]

  -- A bundled library lies under its name.
  pub lib_lies : (place : ℕ) (name : List ℕ) (object : Member × Change) → slice_get b.layout.libs place ≡ Some name → slice_get (lib_objects b) place ≡ Some object → Contains (files_of world config b) (lib_file world (name, object))
  unfolding files_of front_files lib_files
  lib_lies place name object hn ho =
      let pairs : List (List ℕ × (Member × Change)) = zip b.layout.libs (lib_objects b) in
      let both : slice_get pairs place ≡ Some (name, object) = get_zip b.layout.libs (lib_objects b) place name object hn ho in
      let all : List MemFile = map (lib_file world) pairs in
      let file : MemFile = lib_file world (name, object) in
      let there : Contains all file = at_place all place file (map_get (lib_file world) pairs place (name, object) both) in
      let rest : List MemFile = drop 1 (files_of_programs world config b) ++ (data_files world config ++ (icon_files world config.icon ++ desktop_files world config.desktop)) in
      let texts : List MemFile = record_file world config b ∷ report_file world config b ∷ manifest_file world config b ∷ main_file world config b in
      Contains-append_left (all ++ rest) texts file (Contains-append_left all rest file there)

  -- What lies in the directory: libraries and programs, data, files under the last part of a path, and others of known paths.
  pub data KnownFile (file : MemFile) : Type 0 where
    Library : (name : List ℕ) → Contains b.layout.libs name → file.path ≡ lib_target name → KnownFile file
    Started : (path : List ℕ) → Contains (program_places config) path → file.path ≡ path → KnownFile file
    Copied : Contains (data_files world config) file → KnownFile file
    Based : (text : List ℕ) → file.path ≡ base_of text → KnownFile file
    Fixed : (c : ℕ) → slice_get file.path 0 ≡ Some c → (c ≢ 117) → KnownFile file
    Shared : slice_get file.path 4 ≡ Some 115 → KnownFile file

  known_program : (file : MemFile) → Contains (files_of_programs world config b) file → KnownFile file
  unfolding files_of_programs
  known_program file c =
      let m = of_map (program_file world) (zip (program_places config) (program_objects b)) file c in
      Started m.from.0 (of_pair (program_places config) (program_objects b) m.from.0 m.from.1 m.there) (ap (λ (f : MemFile). f.path) (sym m.is))

  known_lib : (file : MemFile) → Contains (lib_files world b) file → KnownFile file
  unfolding lib_files
  known_lib file c =
      let m = of_map (lib_file world) (zip b.layout.libs (lib_objects b)) file c in
      Library m.from.0 (of_pair b.layout.libs (lib_objects b) m.from.0 m.from.1 m.there) (ap (λ (f : MemFile). f.path) (sym m.is))

  known_icon : (icon : Option (List ℕ)) (file : MemFile) → Contains (icon_files world icon) file → KnownFile file
  known_icon None file c = absurd (in_none file c)
  known_icon (Some icon) file c =
      elim (cases (copy_at world (base_of icon) icon) file (copy_at world (codes ".DirIcon") icon ∷ []) c) [
        | inl same ↦ Based icon (ap (λ (f : MemFile). f.path) (sym same))
        | inr more ↦ elim (cases (copy_at world (codes ".DirIcon") icon) file [] more) [
          | inl same ↦ Fixed 46 (ap (λ (f : MemFile). slice_get f.path 0) (sym same)) (λ e. absurd (omega (arith, e)))
          | inr none ↦ absurd (in_none file none)
        ]
      ]

  known_desktop : (desktop : Option (List ℕ)) (file : MemFile) → Contains (desktop_files world desktop) file → KnownFile file
  known_desktop None file c = absurd (in_none file c)
  known_desktop (Some desktop) file c =
      elim (cases (copy_at world (base_of desktop) desktop) file [] c) [
        | inl same ↦ Based desktop (ap (λ (f : MemFile). f.path) (sym same))
        | inr none ↦ absurd (in_none file none)
      ]

  known_front : (file : MemFile) → Contains (front_files world config b) file → KnownFile file
  unfolding front_files
  known_front file c =
      let marks : List MemFile = icon_files world config.icon ++ desktop_files world config.desktop in
      elim (Contains-append_cases (lib_files world b) (drop 1 (files_of_programs world config b) ++ (data_files world config ++ marks)) file c) [
        | inl lib ↦ known_lib file lib
        | inr more ↦ elim (Contains-append_cases (drop 1 (files_of_programs world config b)) (data_files world config ++ marks) file more) [
          | inl tool ↦ known_program file (of_later (files_of_programs world config b) file tool)
          | inr other ↦ elim (Contains-append_cases (data_files world config) marks file other) [
            | inl copied ↦ Copied copied
            | inr mark ↦ elim (Contains-append_cases (icon_files world config.icon) (desktop_files world config.desktop) file mark) [
              | inl icon ↦ known_icon config.icon file icon
              | inr desktop ↦ known_desktop config.desktop file desktop
            ]
          ]
        ]
      ]

  known_main : (file : MemFile) → Contains (main_file world config b) file → KnownFile file
  unfolding main_file
  known_main file c = known_program file (of_first (files_of_programs world config b) file c)

  pub known_file : (file : MemFile) → Contains (files_of world config b) file → KnownFile file
  unfolding files_of
  known_file file c =
      elim (Contains-append_cases (front_files world config b) (record_file world config b ∷ report_file world config b ∷ manifest_file world config b ∷ main_file world config b) file c) [
        | inl front ↦ known_front file front
        | inr text ↦ elim (cases (record_file world config b) file (report_file world config b ∷ manifest_file world config b ∷ main_file world config b) text) [
          | inl same ↦ Shared (ap (λ (f : MemFile). slice_get f.path 4) (sym same))
          | inr more ↦ elim (cases (report_file world config b) file (manifest_file world config b ∷ main_file world config b) more) [
            | inl same ↦ Shared (ap (λ (f : MemFile). slice_get f.path 4) (sym same))
            | inr most ↦ elim (cases (manifest_file world config b) file (main_file world config b) most) [
              | inl same ↦ Shared (ap (λ (f : MemFile). slice_get f.path 4) (sym same))
              | inr last ↦ known_main file last
            ]
          ]
        ]
      ]

  -- ---- data lies among no libraries

  data_in_range : slice_range (map as_item (files_of world config b)) (data_start world config b) (data_end world config b) ≡ map as_item (data_files world config)
  unfolding files_of front_files data_start data_end
  data_in_range =
      let programs : List MemFile = drop 1 (files_of_programs world config b) in
      let marks : List MemFile = icon_files world config.icon ++ desktop_files world config.desktop in
      let texts : List MemFile = record_file world config b ∷ report_file world config b ∷ manifest_file world config b ∷ main_file world config b in
      ap (λ fs. slice_range (map as_item fs) (length (lib_files world b) + length programs) (length (lib_files world b) + length programs + length (data_files world config)))
      (append_assoc (lib_files world b) (programs ++ (data_files world config ++ marks)) texts
      ∙ ap (λ fs. lib_files world b ++ fs) (append_assoc programs (data_files world config ++ marks) texts)
      ∙ ap (λ fs. lib_files world b ++ (programs ++ fs)) (append_assoc (data_files world config) marks texts))
      ∙ middle_mapped as_item (lib_files world b) programs (data_files world config) (marks ++ texts)

  data_outside : (file : MemFile) → listing_stop world config b ≡ None → Contains (data_files world config) file → is_in_lib file.path ≡ false
  unfolding list_stop first_lib_stop
  data_outside file listed c =
      let items : List AppItem = map as_item (files_of world config b) in
      let both = none_first (first_some (map lib_stop (slice_range items (data_start world config b) (data_end world config b)))) (first_clash_stop [] items ∷ []) listed in
      let none : first_some (map lib_stop (map as_item (data_files world config))) ≡ None = ap (λ is. first_some (map lib_stop is)) (sym data_in_range) ∙ both.0 in
      nowhere (is_in_lib file.path) (TargetInLib file.path) (none_gives lib_stop (map as_item (data_files world config)) (as_item file) none (in_map as_item (data_files world config) file c))

-- ---- names in the folder of libraries

clash_at : (xs ys : List ℕ) (k m n : ℕ) → slice_get xs k ≡ Some m → slice_get ys k ≡ Some n → (m ≡ n → ⊥) → xs ≡ ys → ⊥
clash_at xs ys k m n hx hy off same =
    let both : Some m ≡ Some n = sym hx ∙ ap (λ l. slice_get l k) same ∙ hy in
    off (let one : m ≡ n = cc in one)

-- A program lies in no folder of libraries.
pub program_off_libs : (config : Config) (path name : List ℕ) → Contains (program_places config) path → path ≡ lib_place name → ⊥
unfolding program_places
program_off_libs config path name c same =
    elim (cases (codes "AppRun") path (map tool_place config.tools) c) [
      | inl first ↦ clash_at (codes "AppRun") (lib_place name) 0 65 117 refl refl (λ e. absurd (omega (arith, e))) (first ∙ same)
      | inr more ↦
          let m = of_map tool_place config.tools path more in
          clash_at (tool_place m.from) (lib_place name) 4 98 108 refl refl (λ e. absurd (omega (arith, e))) (m.is ∙ same)
    ]

name_has_no_slash : (name : List ℕ) → IsFileName name → list_any (λ c. c == 47) name ≡ false
name_has_no_slash name h = list_any_none (λ c. c == 47) name (λ i d less. ne_eqb (get_or name i d) 47 (h.bytes i d less).0)

in_libs : (name : List ℕ) → IsFileName name → is_in_lib (lib_place name) ≡ true
in_libs name h = not_from_false (list_any (λ c. c == 47) name) (name_has_no_slash name h)

last_has_no_slash : (parts : List (List ℕ)) → All NoSlash parts → NoSlash (last_part parts)
last_has_no_slash [] all = All-nil (λ c. c ≢ 47)
last_has_no_slash (part ∷ parts) all = all (length (part ∷ parts) - 1) [] (omega arith)

base_off_libs : (text name : List ℕ) → base_of text ≡ lib_place name → ⊥
base_off_libs text name same =
    let bare : NoSlash (lib_place name) = subst NoSlash same (last_has_no_slash (named_parts text) (All-named_parts NoSlash text (NoSlash-parts_of text))) in
    bare 3 0 (omega arith) refl

-- What lies in the folder of libraries under a name is a bundled library.
alone_by : (world : World) (config : Config) (b : Building) (name : List ℕ) (file : MemFile) → listing_stop world config b ≡ None → IsFileName name → file.path ≡ lib_place name → KnownFile world config b file → Contains b.layout.libs name
alone_by world config b name file listed named at (Library lib c is) = subst (Contains b.layout.libs) (same_tail (codes "usr/lib/") lib name (sym is ∙ at)) c
alone_by world config b name file listed named at (Started path c is) = absurd (program_off_libs config path name c (sym is ∙ at))
alone_by world config b name file listed named at (Copied c) = absurd (both_ways (is_in_lib file.path) (data_outside world config b file listed c) (ap is_in_lib at ∙ in_libs name named))
alone_by world config b name file listed named at (Based text is) = absurd (base_off_libs text name (sym is ∙ at))
alone_by world config b name file listed named at (Fixed c is off) = absurd (clash_at file.path (lib_place name) 0 c 117 is refl off at)
alone_by world config b name file listed named at (Shared is) = absurd (clash_at file.path (lib_place name) 4 115 108 is refl (λ e. absurd (omega (arith, e))) at)

pub libs_alone : (world : World) (config : Config) (b : Building) (name : List ℕ) → listing_stop world config b ≡ None → IsFileName name → HasPath (as_items (files_of world config b)) (lib_place name) → Contains b.layout.libs name
libs_alone world config b name listed named has =
    let file = get_map as_placed (files_of world config b) has.0 has.1 has.2 in
    let at : file.0.path ≡ lib_place name = ap (λ (i : Item). i.path) (sym file.2) ∙ has.3 in
    alone_by world config b name file.0 listed named at (known_file world config b file.0 (at_place (files_of world config b) has.0 file.0 file.1))

-- ---- what lies at the place

module _ (setting : Setting) (there : World) (place : List ℕ) (files : List MemFile) (placed : IsPlaced there place (as_items files)) where
  -- A file of the directory with a face is found where it lies.
  pub record IsFoundAt (path : List ℕ) (face : Face) : Type 0 where
    pub it : Object
    pub decides : decision face_or_flaw setting there (At (joined place path)) ≡ Some (Ok it)
    pub item : IsItem face_or_flaw setting there place (as_items files) path it
    pub seen : it.face ≡ face

  same_id : (o : Option WorldFile) (f g : WorldFile) → o ≡ Some f → o ≡ Some g → g.id ≡ f.id
  same_id o f g h k =
      let both : Some g ≡ Some f = sym k ∙ h in
      let one : g ≡ f = cc in
      ap (λ (x : WorldFile). x.id) one

  pub lies_at : (file : MemFile) (face : Face) → Contains files file → is_other setting.machine file.bytes ≡ false → face_or_flaw file.bytes ≡ Ok face → IsFoundAt file.path face
  lies_at file face c right seen =
      let item : slice_get (as_items files) c.0 ≡ Some (as_placed file) = map_get as_placed files c.0 file (place_of files file c) in
      let w = placed.lies c.0 (as_placed file) item in
      let q : Object = record { path = joined place file.path; id = w.0.id; face = face } in
      record {
        it = q;
        decides = decided_at face_or_flaw setting there (joined place file.path) w.0 q w.1 (ap (is_other setting.machine) w.2 ∙ right) (ap face_or_flaw w.2 ∙ seen) refl refl;
        item = record {
          number = c.0;
          item = as_placed file;
          is_item = item;
          path_is = refl;
          lies = refl;
          id = λ f h. same_id (file_at there (joined place file.path)) w.0 f w.1 h;
          right = right;
          seen = seen;
        };
        seen = refl;
      }
