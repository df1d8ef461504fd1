-- The name that is told first of the file of an ask of a bundled library is that of its target in each run.
use Rattle.std.proofs.Common.{◌≡◌, ◌∙◌, sym, ap, ap₂, refl, subst, ℕ, List, [], ◌∷◌, Bool, true, false, bytes_eq, cond, find, Option, Some, None, Ok, map, option_map, slice_get, zip}
use Rattle.std.specs.Prelude.{not}
use Rattle.std.specs.List.{Contains}
use Rattle.std.specs.Option.{option_and_then}
use Rattle.std.proofs.lemmas.Bool.{and_from, and_parts}
use Rattle.std.proofs.lemmas.Option.{slice_get_within}
use Rattle.answers.specs.First.{some_where}
use Rattle.app_config.specs.declared.config.Config.{Config}
use Rattle.build_plan.specs.Building.{Building}
use Rattle.build_runs.specs.declared.programs.Start.{Start}
use Rattle.lib_closure.specs.Clashes.{file_split, first_file_split, first_need_split, goes_elsewhere, path_of_object, split_at, split_from, split_need}
use Rattle.lib_closure.specs.Kinds.{is_bundled}
use Rattle.lib_closure.specs.Objects.{Occurrence, all_objects, files_named, first_place_of, first_places, has_id, in_same_list, own_asks}
use Rattle.lib_closure.specs.SplitLaws.{IsLibId}
use Rattle.lib_closure.specs.Splits.{bundled_of, member_of, parts_of_build, split_of}
use Rattle.lib_closure.specs.declared.splits.Member.{Member}
use Rattle.lib_closure.specs.declared.splits.Split.{Split}
use Rattle.lib_closure.specs.declared.stops.ClosureStop.TheVariants.{SplitNeed}
use Rattle.lib_closure.proofs.ContainedLemmas.{at_place, found_in, in_filter_map, in_flat_map, none_gives, none_passes, of_filter, of_filter_map, of_flat_map, of_map, place_of}
use Rattle.lib_closure.proofs.PlacedLemmas.{Comes, FirstOf, Occurs, bytes_same, first_in_all, occurs, of_all, placed}
use Rattle.lib_closure.proofs.SplitLemmas.{bundled_alike, none_first, unclashed}
use Rattle.load_model.specs.VersionCheck.{version_file_of}
use Rattle.load_model.specs.World.{World}
use Rattle.load_model.specs.declared.asks.Ask.{Ask}
use Rattle.load_model.specs.declared.faces.Face.{Face}
use Rattle.load_model.specs.declared.runs.Obj.{Obj}
use Rattle.load_model.specs.declared.runs.Run.{Run}
use Rattle.load_model.proofs.TwoWorlds.{same_bytes}
use Rattle.object_changes.specs.NamedFiles.{NamedFile, all_files_named, files_named_at, named_file, tells, told_name}
use Rattle.object_changes.specs.Names.{name_beside, new_name_of}
use Rattle.text_sets.proofs.FoundLemmas.{find_passes}
use Rattle.build_laws.specs.BuiltRuns.{IsRunIn}
use Rattle.moved_builds.proofs.AskedFileLemmas.{IsFileNamed, all_met, beside_named, face_of_occurrence, file_at_place, file_named, met_ask, one_face, own_ask_at}
use Rattle.appdir_build.proofs.FirstLemmas.{get_zip}
use Rattle.build_laws.proofs.NeedsLemmas.{zip_parts}

-- ---- objects that are found by their identity at their first place

abbrev pub first_place : (b : Building) (id : List ℕ) (first : Occurrence) → find (has_id id) (first_places b.faces b.runs) ≡ Some first → FirstOf b.faces b.runs id
first_place b id first h = record {
  it = first;
  found = h;
  there = found_in (has_id id) (first_places b.faces b.runs) first h;
  same = sym (same_bytes id first.obj.id (find_passes (has_id id) (first_places b.faces b.runs) first h));
}

-- Wherever a bundled library stands, it is bundled.
lib_in_parts : (b : Building) (names : List (List ℕ)) (id : List ℕ) → IsLibId (parts_of_build b.faces b.runs names) id → (o : Occurrence) × (o.obj.id ≡ id) × (is_bundled b.faces b.runs names o ≡ true)
unfolding parts_of_build
lib_in_parts b names id h =
    let m = of_map (λ (a : Member). a.id) (map member_of (bundled_of b.faces b.runs names)) id h in
    let o = of_map member_of (bundled_of b.faces b.runs names) m.from m.there in
    (o.from, ap (λ (a : Member). a.id) o.is ∙ m.is, (of_filter (is_bundled b.faces b.runs names) (first_places b.faces b.runs) o.from o.there).1)

bundled_as : (b : Building) (names : List (List ℕ)) (id : List ℕ) (first : FirstOf b.faces b.runs id) (o : Occurrence) → o.obj.id ≡ id → is_bundled b.faces b.runs names first.it ≡ is_bundled b.faces b.runs names o
bundled_as b names id first o same =
    bundled_alike b.faces b.runs names o (record { it = first.it; found = subst (λ i. find (has_id i) (first_places b.faces b.runs) ≡ Some first.it) (sym same) first.found; there = first.there; same = first.same ∙ sym same })

pub stays_bundled : (b : Building) (names : List (List ℕ)) (id : List ℕ) (first : FirstOf b.faces b.runs id) (p : Occurrence) → split_of b.faces b.runs names ≡ Ok b.split → IsLibId b.split id → p.obj.id ≡ id → is_bundled b.faces b.runs names p ≡ true
stays_bundled b names id first p split_is lib same =
    let u = unclashed b.faces b.runs names b.split split_is in
    let o = lib_in_parts b names id (subst (λ (s : Split). IsLibId s id) (sym u.parts) lib) in
    sym (bundled_as b names id first p same) ∙ bundled_as b names id first o.0 o.1 ∙ o.2

-- ---- no file of an ask goes elsewhere

none_where : {A : Type 0} (c : Bool) (o : Option A) → c ≡ true → cond c o None ≡ None → o ≡ None
none_where true o h e = e
none_where false o h e = cc

shown : {A : Type 0} (c : Bool) (x : A) → some_where (not c) x ≡ None → c ≡ true
shown true x h = refl
shown false x h = cc

module _ (b : Building) (names : List (List ℕ)) (split_is : split_of b.faces b.runs names ≡ Ok b.split) (id : List ℕ) (lib : IsLibId b.split id) (first : FirstOf b.faces b.runs id) where
  not_split : (p : Occurrence) → Contains (all_objects b.faces b.runs) p → p.obj.id ≡ id → split_from b.faces b.runs names first.it p ≡ None
  unfolding split_need split_at
  not_split p c same =
      let none = none_gives (split_at b.faces b.runs names) (all_objects b.faces b.runs) p (unclashed b.faces b.runs names b.split split_is).alike c in
      let place : first_place_of b.faces b.runs p ≡ first.it = placed b.faces b.runs id first p same in
      ap (λ (f : Occurrence). split_from b.faces b.runs names f p) (sym place)
      ∙ none_where (is_bundled b.faces b.runs names p) (split_from b.faces b.runs names (first_place_of b.faces b.runs p) p) (stays_bundled b names id first p split_is lib same) none

  -- Where it names an object, it is the one that it names at the first place.
  goes_there : (p x y : Occurrence) (i : ℕ) (ask : Ask) (s t : ℕ) → Contains (all_objects b.faces b.runs) p → p.obj.id ≡ id → slice_get (files_named first.it) i ≡ Some (Some s) → slice_get (own_asks p) i ≡ Some (ask, Some t) → in_same_list first.it s ≡ Some x → in_same_list p t ≡ Some y → x.obj.id ≡ y.obj.id
  unfolding first_file_split
  goes_there p x y i ask s t c same f g hx hy =
      let none = not_split p c same in
      let files = (none_first (first_file_split b.faces b.runs names first.it p) [] (none_first (first_need_split b.faces b.runs names first.it p) (first_file_split b.faces b.runs names first.it p ∷ []) none).1).0 in
      let both : Option ℕ × (Ask × Option ℕ) = (Some s, (ask, Some t)) in
      let pair : slice_get (zip (files_named first.it) (own_asks p)) i ≡ Some both = get_zip (files_named first.it) (own_asks p) i (Some s) (ask, Some t) f g in
      let at : file_split b.faces b.runs names first.it p both ≡ None = none_gives (file_split b.faces b.runs names first.it p) (zip (files_named first.it) (own_asks p)) both files (at_place (zip (files_named first.it) (own_asks p)) i both pair) in
      let goes : goes_elsewhere b.faces b.runs names p ask.file (Some x) (Some y) ≡ None = sym (ap₂ (goes_elsewhere b.faces b.runs names p ask.file) hx hy) ∙ at in
      same_bytes x.obj.id y.obj.id (shown (bytes_eq x.obj.id y.obj.id) (SplitNeed (path_of_object b.faces b.runs names p) ask.file (path_of_object b.faces b.runs names x) (path_of_object b.faces b.runs names y)) goes)

-- ---- the name that is told

module _ (world : World) (config : Config) (b : Building) (number : ℕ) (start : Start) (run : Run) (path : List ℕ) (at : IsRunIn world config b number start run path) (id : List ℕ) (lib : IsLibId b.split id) (first : FirstOf b.faces b.runs id) (k : ℕ) (ask : Ask) (ask_is : slice_get first.it.face.asks k ≡ Some ask) (weak : ask.weak ≡ false) where
  first_comes : Comes b.faces b.runs first.it
  first_comes = of_all b.faces b.runs first.it (first_in_all b.faces b.runs first.it first.there)

  first_stands : Occurs b.faces first_comes.run first_comes.number first.it
  first_stands = occurs b.faces first_comes.run first_comes.number first.it first_comes.at

  -- The ask is met at the first place.
  first_file : (t : ℕ) × (version_file_of b.faces first_comes.run first_comes.number ask.file ≡ Some t)
  first_file =
      met_ask b.faces first_comes.run first_comes.number k first.it.obj first.it.face ask (all_met world config b number start run path at first_comes.run first_comes.there)
      (slice_get_within first_comes.run.objs first_comes.number first.it.obj first_stands.obj)
      (face_of_occurrence b.faces first_comes.run first_comes.number first.it first_stands) ask_is weak

  first_named : IsFileNamed b first.it first_comes.run first_file.0
  first_named = file_named world config b number start run path at first_comes.run first_comes.number k first_file.0 first.it ask first_comes.there first_stands ask_is first_file.1

  -- Another ask for the same file, of the same library, names the same object.
  same_target : (p : Occurrence) (c : Comes b.faces b.runs p) (i : ℕ) (other : Ask) (t : ℕ) → Contains (all_objects b.faces b.runs) p → p.obj.id ≡ id → slice_get p.face.asks i ≡ Some other → other.file ≡ ask.file → version_file_of b.faces c.run c.number other.file ≡ Some t → (w : IsFileNamed b p c.run t) → new_name_of b.split b.layout w.obj.id ≡ Some first_named.name
  same_target p c i other t all same a file to w =
      let is = occurs b.faces c.run c.number p c.at in
      let face : first.it.face ≡ p.face = one_face world config b number start run path at first.it p first_comes c (first.same ∙ sym same) in
      let asks : slice_get first.it.face.asks i ≡ Some other = ap (λ (f : Face). slice_get f.asks i) face ∙ a in
      let named : slice_get (files_named first.it) i ≡ Some (Some first_file.0) =
      file_at_place b.faces first_comes.run first_comes.number i first.it other first_stands asks
      ∙ ap (λ n. Some (version_file_of b.faces first_comes.run first_comes.number n)) file ∙ ap Some first_file.1 in
      let own : slice_get (own_asks p) i ≡ Some (other, Some t) = own_ask_at b.faces c.run c.number i p other is a ∙ ap (λ o. Some (other, o)) to in
      let ids = goes_there b config.names at.builds.plan.split id lib first p first_named.beside w.beside i other first_file.0 t all same named own first_named.beside_is w.beside_is in
      let one : w.obj.id ≡ first_named.obj.id = ap (λ (x : Obj). x.id) (sym w.same) ∙ sym ids ∙ ap (λ (x : Obj). x.id) first_named.same in
      ap (new_name_of b.split b.layout) one ∙ first_named.known

  abbrev all_named : List NamedFile
  all_named = all_files_named b.split b.layout b.faces b.runs

  -- Where one tells a name of this file, it is this one.
  abbrev told_as : Occurrence → Ask → Option (List ℕ) → Option NamedFile
  told_as p a name = option_map (λ (n : List ℕ). record { asker = p.obj.id; file = a.file; name = n }) name

  name_by : (p : Occurrence) (c : Comes b.faces b.runs p) (i : ℕ) (other : Ask) (target : Option ℕ) (e : NamedFile) → Contains (all_objects b.faces b.runs) p → slice_get p.face.asks i ≡ Some other → version_file_of b.faces c.run c.number other.file ≡ target → told_as p other (option_and_then (name_beside b.split b.layout p) target) ≡ Some e → id ≡ e.asker → ask.file ≡ e.file → e.name ≡ first_named.name
  name_by p c i other None e all a to h asker file = cc
  name_by p c i other (Some t) e all a to h asker file =
      let is = occurs b.faces c.run c.number p c.at in
      let w = file_named world config b number start run path at c.run c.number i t p other c.there is a to in
      let made : NamedFile = record { asker = p.obj.id; file = other.file; name = w.name } in
      let both : Some made ≡ Some e = sym (ap (told_as p other) (beside_named b p c.run t w)) ∙ h in
      let one : made ≡ e = cc in
      let same : p.obj.id ≡ id = ap (λ (x : NamedFile). x.asker) one ∙ sym asker in
      let files : other.file ≡ ask.file = ap (λ (x : NamedFile). x.file) one ∙ sym file in
      let names : Some w.name ≡ Some first_named.name = sym w.known ∙ same_target p c i other t all same a files to w in
      let name : w.name ≡ first_named.name = cc in
      ap (λ (x : NamedFile). x.name) (sym one) ∙ name

  told_by : (e : NamedFile) → Contains all_named e → tells id ask.file e ≡ true → e.name ≡ first_named.name
  unfolding all_files_named files_named_at
  told_by e c h =
      let parts = and_parts (bytes_eq id e.asker) (bytes_eq ask.file e.file) h in
      let w = of_flat_map (files_named_at b.split b.layout) (all_objects b.faces b.runs) e c in
      let p : Occurrence = w.from in
      let g = of_filter_map (named_file b.split b.layout p) (own_asks p) e w.is in
      let comes = of_all b.faces b.runs p w.there in
      let is = occurs b.faces comes.run comes.number p comes.at in
      let sides = zip_parts p.face.asks (files_named p) g.there.0 g.from (place_of (own_asks p) g.from g.there) in
      let both : Some (version_file_of b.faces comes.run comes.number g.from.0.file) ≡ Some g.from.1 = sym (file_at_place b.faces comes.run comes.number g.there.0 p g.from.0 is sides.0) ∙ sides.1 in
      let target : version_file_of b.faces comes.run comes.number g.from.0.file ≡ g.from.1 = cc in
      name_by p comes g.there.0 g.from.0 g.from.1 e w.there sides.0 target g.is (same_bytes id e.asker parts.0) (same_bytes ask.file e.file parts.1)

  -- The first place tells it.
  first_told : Contains all_named (record { asker = first.it.obj.id; file = ask.file; name = first_named.name })
  unfolding all_files_named files_named_at
  first_told =
      let e : NamedFile = record { asker = first.it.obj.id; file = ask.file; name = first_named.name } in
      let own : slice_get (own_asks first.it) k ≡ Some (ask, Some first_file.0) = own_ask_at b.faces first_comes.run first_comes.number k first.it ask first_stands ask_is ∙ ap (λ o. Some (ask, o)) first_file.1 in
      let named : named_file b.split b.layout first.it (ask, Some first_file.0) ≡ Some e = ap (told_as first.it ask) (beside_named b first.it first_comes.run first_file.0 first_named) in
      in_flat_map (files_named_at b.split b.layout) (all_objects b.faces b.runs) first.it e (first_in_all b.faces b.runs first.it first.there)
      (in_filter_map (named_file b.split b.layout first.it) (own_asks first.it) (ask, Some first_file.0) e (at_place (own_asks first.it) k (ask, Some first_file.0) own) named)

  told_found : (found : Option NamedFile) → find (tells id ask.file) all_named ≡ found → option_map (λ (n : NamedFile). n.name) found ≡ Some first_named.name
  told_found None h =
      let e : NamedFile = record { asker = first.it.obj.id; file = ask.file; name = first_named.name } in
      let off : tells id ask.file e ≡ false = none_passes (tells id ask.file) all_named e h first_told in
      let on : tells id ask.file e ≡ true = and_from (bytes_eq id first.it.obj.id) (bytes_eq ask.file ask.file) (bytes_same id first.it.obj.id (sym first.same)) (bytes_same ask.file ask.file refl) in
      let clash : true ≡ false = sym on ∙ off in
      cc
  told_found (Some e) h = ap Some (told_by e (found_in (tells id ask.file) all_named e h) (find_passes (tells id ask.file) all_named e h))

  -- The name that is told is that of the target in each run.
  pub told_there : (p : Occurrence) (c : Comes b.faces b.runs p) (t : ℕ) → Contains (all_objects b.faces b.runs) p → p.obj.id ≡ id → slice_get p.face.asks k ≡ Some ask → version_file_of b.faces c.run c.number ask.file ≡ Some t → (w : IsFileNamed b p c.run t) → told_name all_named id ask.file ≡ Some w.name
  told_there p c t all same a to w =
      let names : Some w.name ≡ Some first_named.name = sym w.known ∙ same_target p c k ask t all same a refl to w in
      told_found (find (tells id ask.file) all_named) refl ∙ sym names
