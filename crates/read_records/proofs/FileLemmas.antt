-- The file of a directory at the place of the record has the text of the record.
use Rattle.std.proofs.Common.{◌≡◌, ◌≢◌, sym, ap, refl, subst, ℕ, List, [], ◌∷◌, ◌++◌, Bool, true, false, ◌||◌, Option, Some, None, bytes_eq, inl, inr, map}
use Rattle.std.specs.List.{Contains, list_any, slice_range}
use Rattle.std.proofs.lemmas.Bool.{both_ways}
use Rattle.std.proofs.lemmas.List.Elements.{Contains-append_left, Contains-append_right}
use Rattle.answers.specs.First.{first_some, some_where}
use Rattle.app_config.specs.declared.config.Config.{Config}
use Rattle.host_checks.specs.Hosting.{record_place}
use Rattle.appdir_build.specs.Files.{as_item, data_end, data_start, files_of, front_files, main_file, manifest_file, record_file, report_file}
use Rattle.appdir_build.specs.Outcome.{IsPackage, Package, package_of}
use Rattle.appdir_files.specs.Listing.{clash_stop, first_clash_stop, first_lib_stop, is_folder_of, list_stop, paths_clash}
use Rattle.appdir_files.specs.declared.items.Item.{Item}
use Rattle.appdir_files.specs.declared.stops.ListStop.{ListStop}
use Rattle.appdir_files.specs.declared.stops.ListStop.TheVariants.{TargetClash}
use Rattle.appdir_files.proofs.TestLemmas.{is_same, or_left}
use Rattle.build_plan.specs.Building.{Building}
use Rattle.build_texts.specs.Texts.{record_in}
use Rattle.host_record.specs.Grammar.{record_text}
use Rattle.lib_closure.proofs.ContainedLemmas.{Paired, any_in, cases, here, in_map, in_none, paired_same}
use Rattle.load_model.specs.World.{World}
use Rattle.ports.specs.declared.folders.MemFile.{MemFile}

-- ---- no two files lie at one path

both_none : {A : Type 0} (o p : Option A) → first_some (o ∷ p ∷ []) ≡ None → (o ≡ None) × (p ≡ None)
both_none None None h = (refl, refl)
both_none None (Some a) h = absurd (cc)
both_none (Some a) p h = absurd (cc)

not_clashing : (b : Bool) (stop : ListStop) → some_where b stop ≡ None → b ≡ false
not_clashing true stop h = absurd (cc)
not_clashing false stop h = refl

parted : (before : List Item) (item : Item) (items : List Item) → first_clash_stop before (item ∷ items) ≡ None → (clash_stop before item ≡ None) × (first_clash_stop (before ++ item ∷ []) items ≡ None)
unfolding first_clash_stop
parted before item items h = both_none (clash_stop before item) (first_clash_stop (before ++ item ∷ []) items) h

abbrev clashes : List ℕ → Item → Bool
clashes path other = paths_clash path other.path

-- An item behind others clashes with none of them.
clear : (before items : List Item) (item other : Item) → first_clash_stop before items ≡ None → Contains items item → Contains before other → clashes item.path other ≡ true → ⊥
clear before [] item other h c d e = in_none item c
clear before (first ∷ items) item other h c d e =
    let both = parted before first items h in
    elim (cases first item items c) [
      | inl same ↦ both_ways (list_any (clashes item.path) before)
          (subst (λ (i : Item). list_any (clashes i.path) before ≡ false) same (not_clashing (list_any (clashes first.path) before) (TargetClash first.path) both.0))
          (any_in (clashes item.path) before other d e)
      | inr more ↦ clear (before ++ first ∷ []) items item other both.1 more (Contains-append_left before (first ∷ []) other d) e
    ]

abbrev LieApart : MemFile → MemFile → Type 0
LieApart f g = f.path ≢ g.path

apart : (before : List Item) (files : List MemFile) → first_clash_stop before (map as_item files) ≡ None → Paired LieApart files
apart before [] h = tt
apart before (f ∷ files) h =
    let rest = (parted before (as_item f) (map as_item files) h).1 in (
      λ g c same. clear (before ++ as_item f ∷ []) (map as_item files) (as_item g) (as_item f) rest (in_map as_item files g c)
          (Contains-append_right before (as_item f ∷ []) (as_item f) (here (as_item f) []))
          (or_left (bytes_eq g.path f.path) (is_folder_of g.path f.path || is_folder_of f.path g.path) (is_same g.path f.path (sym same))),
      apart (before ++ as_item f ∷ []) files rest,
    )

unlisted : (items : List Item) (from to : ℕ) → list_stop items from to ≡ None → first_clash_stop [] items ≡ None
unfolding list_stop
unlisted items from to h = (both_none (first_lib_stop (slice_range items from to)) (first_clash_stop [] items) h).1

pub one_at_path : (files : List MemFile) (from to : ℕ) → list_stop (map as_item files) from to ≡ None → (f g : MemFile) → Contains files f → Contains files g → f.path ≡ g.path → f ≡ g
one_at_path files from to h f g c d same =
    paired_same LieApart files f g (apart [] files (unlisted (map as_item files) from to h)) c d (λ n. n same) (λ n. n (sym same))

-- ---- the record among the files

record_there : (world : World) (config : Config) (b : Building) → Contains (files_of world config b) (record_file world config b)
unfolding files_of
record_there world config b =
    let behind = report_file world config b ∷ manifest_file world config b ∷ main_file world config b in
    Contains-append_right (front_files world config b) (record_file world config b ∷ behind) (record_file world config b) (here (record_file world config b) behind)

files_in : (world : World) (config : Config) (b : Building) (made : Package) → made ≡ package_of world config b → made.files ≡ files_of world config b
unfolding package_of
files_in world config b made is = ap (λ (p : Package). p.files) is

module _ (world : World) (config : Config) (made : Package) (ready : IsPackage world config made) where
  abbrev b : Building
  b = ready.building

  files_are : made.files ≡ files_of world config b
  files_are = files_in world config b made ready.package_is

  pub record_listed : Contains (map (λ (f : MemFile). f.path) made.files) record_place
  record_listed =
      in_map (λ (f : MemFile). f.path) made.files (record_file world config b)
      (subst (λ files. Contains files (record_file world config b)) (sym files_are) (record_there world config b))

  file_is : (file : MemFile) → Contains made.files file → file.path ≡ record_place → file ≡ record_file world config b
  file_is file c at =
      one_at_path (files_of world config b) (data_start world config b) (data_end world config b) ready.listed file (record_file world config b)
      (subst (λ files. Contains files file) files_are c) (record_there world config b) at

  pub bytes_are : (file : MemFile) → Contains made.files file → file.path ≡ record_place → file.bytes ≡ record_text (record_in b)
  bytes_are file c at = ap (λ (f : MemFile). f.bytes) (file_is file c at)
