-- The package of a build: its items, its files and its stop.
use Rattle.std.proofs.Common.{◌≡◌, ◌∙◌, sym, ap, refl, subst, ℕ, suc, ◌+◌, ◌-◌, ◌≤◌, arith, List, [], ◌∷◌, ◌++◌, false, Option, Some, None, drop, length, map, take}
use Rattle.std.specs.Prelude.{filter, is_some, min}
use Rattle.std.specs.List.{AllZip, sum_by}
use Rattle.app_config.specs.declared.config.Config.{Config}
use Rattle.appdir_files.specs.Listing.{list_stop}
use Rattle.appdir_files.specs.Writing.{AreFilesOf, IsFileOf}
use Rattle.appdir_files.specs.declared.items.Item.{Item}
use Rattle.build_plan.specs.Building.{Building, IsBuilding}
use Rattle.build_texts.specs.Texts.{record_in, report_in, reported_binds}
use Rattle.extra_files.specs.Extras.{copied_data, data_files, desktop_files, extra_files, file_with, icon_files}
use Rattle.extra_files.specs.Faults.{IsExtraFault}
use Rattle.host_record.specs.Grammar.{record_text}
use Rattle.load_model.specs.World.{World}
use Rattle.manifest.specs.Manifest.{manifest_of}
use Rattle.ports.specs.declared.folders.MemFile.{MemFile}
use Rattle.host_checks.specs.Hosting.{record_place}
use Rattle.appdir_build.specs.Files.{as_item, data_end, data_start, files_of, files_of_programs, front_files, lib_files, listed_files, main_file, manifest_place, record_file, report_file, report_place}
use Rattle.appdir_build.specs.Objects.{first_unwritten}
use Rattle.appdir_build.specs.Outcome.{SourceMeets, listing_stop, object_count, package_of, path_of_member}
use Rattle.appdir_build.specs.Writing.{IsBuilt, all_items, data_from, data_to, front_items, listed_items, text_item}
use Rattle.appdir_build.specs.declared.built.Built.{Built}
use Rattle.appdir_build.specs.declared.writing.Written.{Written}
use Rattle.appdir_build.proofs.FirstLemmas.{zip_both}
use Rattle.appdir_build.proofs.ListingLemmas.{manifest_same, paths_same, stops_same}

-- ---- lists side by side

zip_lengths : {A B : Type 0} (R : A → B → Type 0) (xs : List A) (ys : List B) → AllZip R xs ys → length xs ≡ length ys
zip_lengths R [] [] h = refl
zip_lengths R [] (y ∷ ys) h = absurd h
zip_lengths R (x ∷ xs) [] h = absurd h
zip_lengths R (x ∷ xs) (y ∷ ys) h = ap suc (zip_lengths R xs ys h.1)

zip_tail : {A B : Type 0} (R : A → B → Type 0) (xs : List A) (ys : List B) → AllZip R xs ys → AllZip R (drop 1 xs) (drop 1 ys)
zip_tail R [] [] h = tt
zip_tail R [] (y ∷ ys) h = absurd h
zip_tail R (x ∷ xs) [] h = absurd h
zip_tail R (x ∷ xs) (y ∷ ys) h = h.1

zip_head : {A B : Type 0} (R : A → B → Type 0) (xs : List A) (ys : List B) → AllZip R xs ys → AllZip R (take 1 xs) (take 1 ys)
zip_head R [] [] h = tt
zip_head R [] (y ∷ ys) h = absurd h
zip_head R (x ∷ xs) [] h = absurd h
zip_head R (x ∷ xs) (y ∷ ys) h = (h.0, tt)

mapped : {A B : Type 0} (f : A → B) (xs : List A) → length (map f xs) ≡ length xs
mapped f [] = refl
mapped f (x ∷ xs) = ap suc (mapped f xs)

front_length : {A : Type 0} (xs ys : List A) → length xs ≤ length (xs ++ ys)
front_length [] ys = omega arith
front_length (x ∷ xs) ys = let less = front_length xs ys in omega (arith, less)

pub tail_length : {A : Type 0} (xs : List A) → length (drop 1 xs) ≡ length xs - 1
tail_length [] = omega arith
tail_length (x ∷ xs) = omega arith

-- ---- items and files

abbrev pub manifest_in : List MemFile → MemFile
manifest_in files = file_with false manifest_place (manifest_of (map as_item files))

module _ (world : World) (config : Config) (b : Building) (written : Written) (extras : List Item) (host report : List ℕ) (main : Item) where
  pub record AreParts : Type 0 where
    pub host_is : host ≡ record_text (record_in b)
    pub report_is : report ≡ report_in config b
    pub programs_are : AreFilesOf (Some world) written.programs (files_of_programs world config b)
    pub libs_are : AreFilesOf (Some world) written.libs (lib_files world b)
    pub extras_are : AreFilesOf (Some world) extras (extra_files world config)
    pub main_is : take 1 written.programs ≡ main ∷ []

  main_match : AreParts → AreFilesOf (Some world) (main ∷ []) (main_file world config b)
  unfolding main_file
  main_match p =
      subst (λ items. AreFilesOf (Some world) items (take 1 (files_of_programs world config b))) p.main_is
      (zip_head (IsFileOf (Some world)) written.programs (files_of_programs world config b) p.programs_are)

  front_match : AreParts → AreFilesOf (Some world) (front_items written extras) (front_files world config b)
  unfolding front_files
  front_match p =
      zip_both (IsFileOf (Some world)) written.libs (drop 1 written.programs ++ extras) (lib_files world b) (drop 1 (files_of_programs world config b) ++ extra_files world config) p.libs_are
      (zip_both (IsFileOf (Some world)) (drop 1 written.programs) extras (drop 1 (files_of_programs world config b)) (extra_files world config)
      (zip_tail (IsFileOf (Some world)) written.programs (files_of_programs world config b) p.programs_are) p.extras_are)

  listed_match : AreParts → AreFilesOf (Some world) (listed_items (front_items written extras) host report main) (listed_files world config b)
  unfolding listed_files
  listed_match p =
      zip_both (IsFileOf (Some world)) (front_items written extras) (text_item record_place host ∷ text_item report_place report ∷ main ∷ []) (front_files world config b) (record_file world config b ∷ report_file world config b ∷ main_file world config b) (front_match p)
      (record { path = refl; mark = refl; bytes = sym p.host_is }, (record { path = refl; mark = refl; bytes = sym p.report_is }, main_match p))

  pub files_match : AreParts → AreFilesOf (Some world) (all_items (front_items written extras) host report main) (files_of world config b)
  unfolding files_of
  files_match p =
      zip_both (IsFileOf (Some world)) (front_items written extras) (text_item record_place host ∷ text_item report_place report ∷ text_item manifest_place (manifest_of (listed_items (front_items written extras) host report main)) ∷ main ∷ []) (front_files world config b) (record_file world config b ∷ report_file world config b ∷ manifest_in (listed_files world config b) ∷ main_file world config b) (front_match p)
      (record { path = refl; mark = refl; bytes = sym p.host_is }, (record { path = refl; mark = refl; bytes = sym p.report_is }, (record { path = refl; mark = refl; bytes = sym (manifest_same (Some world) (listed_items (front_items written extras) host report main) (listed_files world config b) (listed_match p)) }, main_match p)))

  starts_same : AreParts → data_from written ≡ data_start world config b
  unfolding data_start
  starts_same p =
      ap (λ n. n + length (drop 1 written.programs)) (zip_lengths (IsFileOf (Some world)) written.libs (lib_files world b) p.libs_are)
      ∙ ap (λ n. length (lib_files world b) + n) (zip_lengths (IsFileOf (Some world)) (drop 1 written.programs) (drop 1 (files_of_programs world config b)) (zip_tail (IsFileOf (Some world)) written.programs (files_of_programs world config b) p.programs_are))

  data_count : AreParts → min (length config.files) (length extras) ≡ length (data_files world config)
  data_count p =
      let same = mapped (copied_data world) config.files in
      let front = front_length (data_files world config) (icon_files world config.icon ++ desktop_files world config.desktop) in
      let all = zip_lengths (IsFileOf (Some world)) extras (extra_files world config) p.extras_are in
      omega (arith, same, front, all)

  ends_same : AreParts → data_to config written extras ≡ data_end world config b
  unfolding data_end
  ends_same p =
      ap (λ n. n + min (length config.files) (length extras)) (starts_same p) ∙ ap (λ n. data_start world config b + n) (data_count p)

  pub stop_matches : AreParts → list_stop (all_items (front_items written extras) host report main) (data_from written) (data_to config written extras) ≡ listing_stop world config b
  stop_matches p =
      let items = all_items (front_items written extras) host report main in
      stops_same items (map as_item (files_of world config b)) (data_from written) (data_to config written extras) (paths_same (Some world) items (files_of world config b) (files_match p))
      ∙ (ap (λ n. list_stop (map as_item (files_of world config b)) n (data_to config written extras)) (starts_same p)
      ∙ ap (list_stop (map as_item (files_of world config b)) (data_start world config b)) (ends_same p))

-- ---- the package

pub record HasCounts (config : Config) (b : Building) (built : Built) : Type 0 where
  pub sources : built.sources ≡ map path_of_member (b.split.libs ++ b.split.programs)
  pub bundled : built.bundled ≡ length b.split.libs
  pub hosts : built.hosts ≡ length b.split.hosts
  pub references : built.references ≡ length (reported_binds config b)
  pub bound : built.bound ≡ length (filter (λ bind. is_some bind.to) (reported_binds config b))
  pub objects : built.objects ≡ sum_by object_count b.runs

pub is_built : (world : World) (config : Config) (b : Building) (built : Built) → IsBuilding world config b → SourceMeets world config b → first_unwritten world b ≡ None → IsExtraFault world config None → listing_stop world config b ≡ None → AreFilesOf (Some world) built.items (files_of world config b) → HasCounts config b built → IsBuilt world config built
unfolding package_of
is_built world config b built builds meets written furnished listed files counts =
    record {
      made = package_of world config b;
      outcome = record { building = b; builds = builds; meets = meets; written = written; furnished = furnished; listed = listed; package_is = refl };
      files = files;
      sources = counts.sources;
      bundled = counts.bundled;
      hosts = counts.hosts;
      references = counts.references;
      bound = counts.bound;
      objects = counts.objects;
    }
