-- The names of the objects of a run: file names of bundled libraries, and keys of host libraries.
use Rattle.std.proofs.Common.{◌≡◌, ◌≢◌, ◌∙◌, sym, ap, refl, subst, ℕ, ◌<◌, List, [], All, true, false, Option, Some, None, is_some, bytes_eq, get_or, length, map, slice_get, arith, inl, inr}
use Rattle.std.specs.Prelude.{◌⊎◌, AllPairs, IsUtf8, position}
use Rattle.std.specs.List.{Contains, filter_map, find}
use Rattle.std.specs.Option.{option_and_then, option_map, option_or, unwrap_or}
use Rattle.std.proofs.lemmas.Bool.{both_ways, cases_lt}
use Rattle.std.proofs.lemmas.List.Elements.{All-contains}
use Rattle.std.proofs.lemmas.List.Quantifiers.{position-Some}
use Rattle.std.proofs.lemmas.Option.{get_or_from_slice_get, slice_get-get_or, slice_get_within}
use Rattle.app_config.specs.declared.config.Config.{Config}
use Rattle.build_plan.specs.Building.{Building, starts_of}
use Rattle.build_runs.specs.BuildRuns.{IsRunFor}
use Rattle.build_runs.specs.declared.programs.Start.{Start}
use Rattle.build_runs.proofs.ZipLemmas.{zip_back}
use Rattle.lib_closure.specs.Objects.{Occurrence, occurrence_at, programs_of}
use Rattle.lib_closure.specs.SplitLaws.{HasAllObjects, HasDistinctIds, IsHostId, IsLibId, IsLibraryId, IsProgramId}
use Rattle.lib_closure.specs.Splits.{member_of, parts_of_build}
use Rattle.lib_closure.specs.declared.splits.HostLib.{HostLib}
use Rattle.lib_closure.specs.declared.splits.Member.{Member}
use Rattle.lib_closure.specs.declared.splits.Split.{Split}
use Rattle.lib_closure.proofs.ContainedLemmas.{at_place, found_in, in_filter_map, in_map, none_passes, of_any, of_map, Made}
use Rattle.lib_closure.proofs.NumberLemmas.{number_at}
use Rattle.lib_closure.proofs.PlacedLemmas.{bytes_same, standing_at}
use Rattle.lib_closure.proofs.ReachedLemmas.{all_there, hosts_closed}
use Rattle.lib_closure.proofs.SplitLemmas.{distinct_ids, members_stand, unclashed}
use Rattle.listed_runs.specs.Fitting.{is_on_list}
use Rattle.load_model.specs.Faces.{face_or_flaw}
use Rattle.load_model.specs.LoadList.{Asked, Loaded, Object, up_to}
use Rattle.load_model.specs.Runs.{IsRunOver, need_targets, target_in}
use Rattle.load_model.specs.World.{World}
use Rattle.load_model.specs.declared.faces.Face.{Face}
use Rattle.load_model.specs.declared.runs.Obj.{Obj}
use Rattle.load_model.specs.declared.runs.Run.{Run}
use Rattle.load_model.proofs.AskedNeeds.{map_get}
use Rattle.load_model.proofs.OneRun.{there}
use Rattle.load_model.proofs.TwoWorlds.{same_bytes}
use Rattle.moved_runs.specs.Moved.{AreDistinctNames, NeverProgram}
use Rattle.name_layout.specs.Laws.{AreOffList, HaveTextKeys}
use Rattle.name_layout.specs.Openings.{host_with, lib_with}
use Rattle.name_layout.proofs.DistinctLemmas.{all_distinct}
use Rattle.name_layout.proofs.FileNameLemmas.{all_named, all_texts}
use Rattle.name_layout.proofs.IdentityLemmas.{libs_apart}
use Rattle.name_layout.proofs.LawLemmas.{all_off, stands_at}
use Rattle.object_changes.specs.Names.{key_name_of, new_name_of}
use Rattle.object_changes.proofs.StandingLemmas.{all_at}
use Rattle.path_text.specs.FileName.{IsFileName}
use Rattle.text_sets.proofs.FoundLemmas.{find_passes}
use Rattle.text_sets.proofs.MappedLemmas.{find-position}
use Rattle.build_laws.specs.BuiltRuns.{IsRunIn}
use Rattle.app_config.specs.Ready.{IsNameText}
use Rattle.build_laws.specs.Renaming.{is_bundled_in, name_in}
use Rattle.build_laws.proofs.LoadedLemmas.{asked_as, ids_differ, need_went, target_there, went}
use Rattle.build_laws.proofs.RunInLemmas.{obj_here, run_there}

-- ---- by identity

-- A bundled library, with its file name.
pub record IsLibAt (b : Building) (id : List ℕ) : Type 0 where
  pub place : ℕ
  pub lib : Member
  pub lib_is : slice_get b.split.libs place ≡ Some lib
  pub id_is : lib.id ≡ id
  pub name : List ℕ
  pub named : slice_get b.layout.libs place ≡ Some name
  pub known : new_name_of b.split b.layout id ≡ Some name
  pub found : lib_with b.split id ≡ Some lib

-- A host library.
pub record IsHostAt (b : Building) (id : List ℕ) : Type 0 where
  pub place : ℕ
  pub host : HostLib
  pub host_is : slice_get b.split.hosts place ≡ Some host
  pub id_is : host.id ≡ id
  pub known : new_name_of b.split b.layout id ≡ Some host.name
  pub missed : lib_with b.split id ≡ None
  pub found : host_with b.split id ≡ Some host

lib_by : (b : Building) (id : List ℕ) (found : Option ℕ) → length b.layout.libs ≡ length b.split.libs → position (λ (lib : Member). bytes_eq id lib.id) b.split.libs ≡ found → Made (λ (a : Member). a.id) b.split.libs id → IsLibAt b id
unfolding new_name_of
lib_by b id None count is made =
    let none : find (λ (lib : Member). bytes_eq id lib.id) b.split.libs ≡ None = find-position (λ (lib : Member). bytes_eq id lib.id) b.split.libs ∙ ap (option_and_then (slice_get b.split.libs)) is in
    absurd (both_ways (bytes_eq id made.from.id) (none_passes (λ (lib : Member). bytes_eq id lib.id) b.split.libs made.from none made.there) (bytes_same id made.from.id (sym made.is)))
lib_by b id (Some i) count is made =
    let w = position-Some (λ (lib : Member). bytes_eq id lib.id) b.split.libs i made.from is in
    let less = w.0 in
    let lib = get_or b.split.libs i made.from in
    let lib_is : slice_get b.split.libs i ≡ Some lib = slice_get-get_or b.split.libs i made.from less in
    let name = there b.layout.libs i (omega (arith, less, count)) in
    record {
      place = i;
      lib = lib;
      lib_is = lib_is;
      id_is = sym (same_bytes id lib.id w.1);
      name = name.0;
      named = name.1;
      known = ap (λ o. option_or (option_and_then (slice_get b.layout.libs) o) (key_name_of b.split b.layout id)) is ∙ ap (λ o. option_or o (key_name_of b.split b.layout id)) name.1;
      found = find-position (λ (l : Member). bytes_eq id l.id) b.split.libs ∙ ap (option_and_then (slice_get b.split.libs)) is ∙ lib_is;
    }

pub lib_at : (b : Building) (id : List ℕ) → length b.layout.libs ≡ length b.split.libs → IsLibId b.split id → IsLibAt b id
lib_at b id count h = lib_by b id (position (λ (lib : Member). bytes_eq id lib.id) b.split.libs) count refl (of_map (λ (a : Member). a.id) b.split.libs id h)

no_lib_by : (b : Building) (id : List ℕ) (found : Option Member) → HasDistinctIds b.split → IsHostId b.split id → lib_with b.split id ≡ found → lib_with b.split id ≡ None
no_lib_by b id None ids h is = is
no_lib_by b id (Some lib) ids h is =
    let same : id ≡ lib.id = same_bytes id lib.id (find_passes (λ (l : Member). bytes_eq id l.id) b.split.libs lib is) in
    let c : Contains (map (λ (a : Member). a.id) b.split.libs) lib.id = in_map (λ (a : Member). a.id) b.split.libs lib (found_in (λ (l : Member). bytes_eq id l.id) b.split.libs lib is) in
    absurd (ids.one_kind id (subst (IsLibId b.split) (sym same) c) h)

no_place_by : (b : Building) (id : List ℕ) (o : Option ℕ) → position (λ (lib : Member). bytes_eq id lib.id) b.split.libs ≡ o → (m : Member) → lib_with b.split id ≡ None → position (λ (lib : Member). bytes_eq id lib.id) b.split.libs ≡ None
no_place_by b id None is m none = is
no_place_by b id (Some i) is m none =
    let w = position-Some (λ (lib : Member). bytes_eq id lib.id) b.split.libs i m is in
    let some : slice_get b.split.libs i ≡ Some (get_or b.split.libs i m) = slice_get-get_or b.split.libs i m w.0 in
    let clash : None ≡ Some (get_or b.split.libs i m) = sym none ∙ find-position (λ (l : Member). bytes_eq id l.id) b.split.libs ∙ ap (option_and_then (slice_get b.split.libs)) is ∙ some in
    cc

host_by : (b : Building) (id : List ℕ) (found : Option HostLib) → HasDistinctIds b.split → IsHostId b.split id → host_with b.split id ≡ found → IsHostAt b id
unfolding new_name_of
host_by b id None ids h is =
    let made = of_map (λ (a : HostLib). a.id) b.split.hosts id h in
    absurd (both_ways (bytes_eq id made.from.id) (none_passes (λ (g : HostLib). bytes_eq id g.id) b.split.hosts made.from is made.there) (bytes_same id made.from.id (sym made.is)))
host_by b id (Some host) ids h is =
    let at = stands_at (λ (g : HostLib). bytes_eq id g.id) b.split.hosts host is in
    let none = no_lib_by b id (lib_with b.split id) ids h refl in
    let member : Member = record { id = id; path = id; face = 0 } in
    let nowhere = no_place_by b id (position (λ (lib : Member). bytes_eq id lib.id) b.split.libs) refl member none in
    record {
      place = at.0;
      host = host;
      host_is = at.1;
      id_is = sym (same_bytes id host.id (find_passes (λ (g : HostLib). bytes_eq id g.id) b.split.hosts host is));
      known = ap (λ o. option_or (option_and_then (slice_get b.layout.libs) o) (key_name_of b.split b.layout id)) nowhere ∙ ap (option_map (λ (g : HostLib). g.name)) is;
      missed = none;
      found = is;
    }

pub host_at : (b : Building) (id : List ℕ) → HasDistinctIds b.split → IsHostId b.split id → IsHostAt b id
host_at b id ids h = host_by b id (host_with b.split id) ids h refl

-- ---- by number

name_is : (b : Building) (run : Run) (j : ℕ) (x : Obj) (name : List ℕ) → slice_get run.objs j ≡ Some x → new_name_of b.split b.layout x.id ≡ Some name → name_in b run j ≡ name
name_is b run j x name h n =
    ap (λ (o : Option Obj). unwrap_or (option_and_then (λ (y : Obj). new_name_of b.split b.layout y.id) o) []) h ∙ ap (λ o. unwrap_or o []) n

bundled_is : (b : Building) (run : Run) (j : ℕ) (x : Obj) (lib : Option Member) → slice_get run.objs j ≡ Some x → lib_with b.split x.id ≡ lib → is_bundled_in b run j ≡ is_some lib
bundled_is b run j x lib h n =
    ap (λ (o : Option Obj). is_some (option_and_then (λ (y : Obj). lib_with b.split y.id) o)) h ∙ ap is_some n

-- A bundled library by its number, and a host library.
pub record IsLibOf (b : Building) (run : Run) (j : ℕ) (x : Obj) : Type 0 where
  pub lib : IsLibAt b x.id
  pub name : name_in b run j ≡ lib.name
  pub bundled : is_bundled_in b run j ≡ true

pub record IsHostOf (b : Building) (run : Run) (j : ℕ) (x : Obj) : Type 0 where
  pub host : IsHostAt b x.id
  pub name : name_in b run j ≡ host.host.name
  pub unbundled : is_bundled_in b run j ≡ false

pub library_is : (b : Building) (run : Run) (j : ℕ) (x : Obj) → length b.layout.libs ≡ length b.split.libs → HasDistinctIds b.split → slice_get run.objs j ≡ Some x → IsLibraryId b.split x.id → IsLibOf b run j x ⊎ IsHostOf b run j x
library_is b run j x count ids h (inl a) =
    let w = lib_at b x.id count a in
    inl (record { lib = w; name = name_is b run j x w.name h w.known; bundled = bundled_is b run j x (Some w.lib) h w.found })
library_is b run j x count ids h (inr a) =
    let w = host_at b x.id ids a in
    inr (record { host = w; name = name_is b run j x w.host.name h w.known; unbundled = bundled_is b run j x None h w.missed })

-- ---- programs

program_in : (faces : List Face) (runs : List Run) (names : List (List ℕ)) (run : Run) (o : Occurrence) → Contains runs run → occurrence_at faces run 0 ≡ Some o → IsProgramId (parts_of_build faces runs names) o.obj.id
unfolding parts_of_build programs_of
program_in faces runs names run o c h =
    let there = in_filter_map (λ (r : Run). occurrence_at faces r 0) runs run o c h in
    in_map (λ (p : Member). p.id) (map member_of (filter_map (λ (r : Run). occurrence_at faces r 0) runs)) (member_of o) (in_map member_of (filter_map (λ (r : Run). occurrence_at faces r 0) runs) o there)

-- ---- elements that are apart

-- Where elements differ two by two, equal ones stand at one place.
pub one_place : {X : Type 0} (xs : List X) → AllPairs (λ a c. a ≢ c) xs → (i j : ℕ) (x y : X) → slice_get xs i ≡ Some x → slice_get xs j ≡ Some y → x ≡ y → i ≡ j
one_place xs apart i j x y hx hy same =
    elim (cases_lt i j) [
      | inl less ↦ absurd (apart i j x less (slice_get_within xs j y hy) (get_or_from_slice_get xs i x x hx ∙ same ∙ sym (get_or_from_slice_get xs j y x hy)))
      | inr more ↦ elim (cases_lt j i) [
        | inl less ↦ absurd (apart j i x less (slice_get_within xs i x hx) (get_or_from_slice_get xs j y x hy ∙ sym same ∙ sym (get_or_from_slice_get xs i x x hx)))
        | inr most ↦ omega (arith, more, most)
      ]
    ]

pub one_key : (xs : List HostLib) → AllPairs (λ (g h : HostLib). g.name ≢ h.name) xs → (i j : ℕ) (x y : HostLib) → slice_get xs i ≡ Some x → slice_get xs j ≡ Some y → x.name ≡ y.name → i ≡ j
one_key xs apart i j x y hx hy same =
    elim (cases_lt i j) [
      | inl less ↦ absurd (apart i j x less (slice_get_within xs j y hy) (ap (λ (g : HostLib). g.name) (get_or_from_slice_get xs i x x hx) ∙ same ∙ sym (ap (λ (g : HostLib). g.name) (get_or_from_slice_get xs j y x hy))))
      | inr more ↦ elim (cases_lt j i) [
        | inl less ↦ absurd (apart j i x less (slice_get_within xs i x hx) (ap (λ (g : HostLib). g.name) (get_or_from_slice_get xs j y x hy) ∙ sym same ∙ sym (ap (λ (g : HostLib). g.name) (get_or_from_slice_get xs i x x hx))))
        | inr most ↦ omega (arith, more, most)
      ]
    ]

module _ (world : World) (config : Config) (b : Building) (number : ℕ) (start : Start) (run : Run) (path : List ℕ) (at : IsRunIn world config b number start run path) where
  abbrev loaded : Loaded
  loaded = at.plays.loads.loaded

  here : Contains b.runs run
  here = run_there world config b number start run path at

  over : IsRunOver b.faces run
  over = All-contains (IsRunOver b.faces) b.runs run at.over here

  pub split_ids : HasDistinctIds b.split
  split_ids = distinct_ids b.faces b.runs config.names b.split at.builds.plan.split

  pub all_objects_there : HasAllObjects b.faces b.runs b.split
  all_objects_there = all_there b.faces b.runs config.names b.split at.over at.builds.plan.split

  -- ---- libraries

  pub as_library : (j : ℕ) (x : Obj) → slice_get run.objs j ≡ Some x → IsLibraryId b.split x.id → IsLibOf b run j x ⊎ IsHostOf b run j x
  as_library j x h l = library_is b run j x at.builds.plan.layout.count split_ids h l

  pub behind : (j : ℕ) (x : Obj) → 0 < j → slice_get run.objs j ≡ Some x → IsLibOf b run j x ⊎ IsHostOf b run j x
  behind j x some h = as_library j x h (all_objects_there.behind run j x here h some)

  pub lib_of : (j : ℕ) (x : Obj) → 0 < j → slice_get run.objs j ≡ Some x → is_bundled_in b run j ≡ true → IsLibOf b run j x
  lib_of j x some h is =
      elim (behind j x some h) [
        | inl w ↦ w
        | inr w ↦ absurd (both_ways (is_bundled_in b run j) w.unbundled is)
      ]

  pub host_of : (j : ℕ) (x : Obj) → 0 < j → slice_get run.objs j ≡ Some x → is_bundled_in b run j ≡ false → IsHostOf b run j x
  host_of j x some h is =
      elim (behind j x some h) [
        | inl w ↦ absurd (both_ways (is_bundled_in b run j) is w.bundled)
        | inr w ↦ w
      ]

  program_id : (x : Obj) → slice_get run.objs 0 ≡ Some x → IsProgramId b.split x.id
  program_id x h =
      let p = standing_at b.faces run 0 x over h in
      let u = unclashed b.faces b.runs config.names b.split at.builds.plan.split in
      subst (λ (s : Split). IsProgramId s x.id) u.parts
      (subst (λ (y : Obj). IsProgramId (parts_of_build b.faces b.runs config.names) y.id) p.obj (program_in b.faces b.runs config.names run p.it here p.at))

  -- The program is no library.
  pub program_apart : (x : Obj) → slice_get run.objs 0 ≡ Some x → IsLibraryId b.split x.id → ⊥
  program_apart x h l = split_ids.programs x.id (program_id x h) l

  -- ---- requests go to libraries

  targets_at : (j : ℕ) → j < length loaded.objs → slice_get run.targets j ≡ Some (need_targets loaded j)
  targets_at j less = ap (λ ts. slice_get ts j) at.plays.loads.run_is.targets ∙ map_get (need_targets loaded) (up_to (length loaded.objs)) j j (number_at (length loaded.objs) j less)

  pub target_library : (m : ℕ) (a : Asked) (x : Obj) → slice_get loaded.log m ≡ Some a → slice_get run.objs a.target ≡ Some x → IsLibraryId b.split x.id
  target_library m a x g h =
      elim (asked_as face_or_flaw config.setting world start.path start.opens loaded at.plays.loads.ends at.plays.loads.list m a g) [
        | inl w ↦
            let less = slice_get_within loaded.objs a.request.by w.0 w.2 in
            let to = need_went face_or_flaw config.setting world start.path start.opens loaded at.plays.loads.ends at.plays.loads.list m a w.0 w.1 g w.2 w.3 in
            all_objects_there.needs run a.request.by a.target (need_targets loaded a.request.by) x here (targets_at a.request.by less) (at_place (need_targets loaded a.request.by) w.1 a.target to) h
        | inr w ↦
            let root : slice_get run.roots w.nth ≡ Some a.target =
            ap (λ ts. slice_get ts w.nth) at.plays.loads.run_is.roots ∙ map_get (target_in loaded.log) start.opens w.nth a.request.name w.name_is
            ∙ ap Some (went face_or_flaw config.setting world start.path start.opens loaded at.plays.loads.ends at.plays.loads.list m a g) in
            all_objects_there.opened run a.target x here (at_place run.roots w.nth a.target root) h
      ]

  not_first : (m : ℕ) (a : Asked) → slice_get loaded.log m ≡ Some a → a.target ≡ 0 → ⊥
  not_first m a g e =
      let o = target_there face_or_flaw config.setting world start.path start.opens loaded at.plays.loads.ends at.plays.loads.list m a g in
      let x = obj_here world config b number start run path at a.target o.0 o.1 in
      split_ids.programs x.obj.id (program_id x.obj (ap (slice_get run.objs) (sym e) ∙ x.stands)) (target_library m a x.obj g x.stands)

  -- No request goes to the program.
  pub never : NeverProgram loaded.log
  never m a g =
      elim (cases_lt 0 a.target) [
        | inl some ↦ some
        | inr none ↦ absurd (not_first m a g (omega (arith, none)))
      ]

  -- ---- the names are file names and texts

  pub host_listed : (i : ℕ) (host : HostLib) → slice_get b.split.hosts i ≡ Some host → is_on_list config.names host.name ≡ true
  host_listed i host h = ((members_stand b.faces b.runs config.names b.split at.builds.plan.split).hosts host (at_place b.split.hosts i host h)).listed

  pub host_name : (i : ℕ) (host : HostLib) → slice_get b.split.hosts i ≡ Some host → IsNameText host.name
  host_name i host h =
      let p = of_any (λ (n : List ℕ). bytes_eq n host.name) config.names (host_listed i host h) in
      subst IsNameText (same_bytes p.it host.name p.passes) (All-contains IsNameText config.names p.it at.source.names p.there)

  run_opens : (k : ℕ) (r : Run) → slice_get b.runs k ≡ Some r → (s : Start) × (slice_get (starts_of config) k ≡ Some s) × (r.opens ≡ s.opens)
  run_opens k r h =
      let w = zip_back (IsRunFor config.setting world b.faces) (starts_of config) b.runs k r at.builds.runs.each h in
      (w.0, w.1, w.2.loads.run_is.opened)

  opens_named : (k : ℕ) (r : Run) → slice_get b.runs k ≡ Some r → All IsNameText r.opens
  opens_named k r h =
      let w = run_opens k r h in
      subst (All IsNameText) (sym w.2) (All-contains (λ (s : Start). All IsNameText s.opens) (starts_of config) w.0 at.source.opens (at_place (starts_of config) k w.0 w.1))

  opens_files : All (λ (r : Run). All IsFileName r.opens) b.runs
  opens_files = λ k d less. λ i e within. (opens_named k (get_or b.runs k d) (slice_get-get_or b.runs k d less) i e within).0

  opens_texts : All (λ (r : Run). All IsUtf8 r.opens) b.runs
  opens_texts = λ k d less. λ i e within. (opens_named k (get_or b.runs k d) (slice_get-get_or b.runs k d less) i e within).1

  pub layout_named : All IsFileName b.layout.libs
  layout_named = all_named b.faces b.runs b.split config.names b.layout.libs at.builds.plan.layout at.builds.plan.named opens_files

  pub layout_texts : HaveTextKeys b.faces b.split → All IsUtf8 b.layout.libs
  layout_texts keys = all_texts b.faces b.runs b.split config.names b.layout.libs at.builds.plan.layout keys opens_texts

  pub layout_off : AreOffList config.names b.layout.libs
  layout_off = all_off b.faces b.runs b.split config.names b.layout.libs at.builds.plan.layout at.builds.plan.named

  -- The name of each object but the program is a file name.
  pub name_file : (j : ℕ) (o : Object) → 0 < j → slice_get loaded.objs j ≡ Some o → IsFileName (name_in b run j)
  name_file j o some h =
      let x = obj_here world config b number start run path at j o h in
      elim (behind j x.obj some x.stands) [
        | inl w ↦ subst IsFileName (sym w.name) (all_at IsFileName b.layout.libs w.lib.place w.lib.name layout_named w.lib.named)
        | inr w ↦ subst IsFileName (sym w.name) (host_name w.host.place w.host.host w.host.host_is).0
      ]

  pub name_below : (j : ℕ) → 0 < j → j < length loaded.objs → IsFileName (name_in b run j)
  name_below j some less = let o = there loaded.objs j less in name_file j o.0 some o.1

  -- ---- the names are distinct

  layout_apart : AllPairs (λ a c. a ≢ c) b.layout.libs
  layout_apart =
      all_distinct b.faces b.runs b.split config.names b.layout.libs at.builds.plan.layout at.builds.plan.named
      (libs_apart b.faces b.runs config.names b.split at.builds.plan.split)

  hosts_apart : AllPairs (λ (g h : HostLib). g.name ≢ h.name) b.split.hosts
  hosts_apart = (hosts_closed b.faces b.runs config.names b.split at.over at.builds.plan.split).names

  lib_pair : (i j : ℕ) (x y : Obj) (v : IsLibAt b x.id) (w : IsLibAt b y.id) → v.name ≡ w.name → x.id ≡ y.id
  lib_pair i j x y v w same =
      let places = one_place b.layout.libs layout_apart v.place w.place v.name w.name v.named w.named same in
      let both : Some v.lib ≡ Some w.lib = sym v.lib_is ∙ ap (slice_get b.split.libs) places ∙ w.lib_is in
      let one : v.lib ≡ w.lib = cc in
      sym v.id_is ∙ ap (λ (m : Member). m.id) one ∙ w.id_is

  host_pair : (i j : ℕ) (x y : Obj) (v : IsHostAt b x.id) (w : IsHostAt b y.id) → v.host.name ≡ w.host.name → x.id ≡ y.id
  host_pair i j x y v w same =
      let places = one_key b.split.hosts hosts_apart v.place w.place v.host w.host v.host_is w.host_is same in
      let both : Some v.host ≡ Some w.host = sym v.host_is ∙ ap (slice_get b.split.hosts) places ∙ w.host_is in
      let one : v.host ≡ w.host = cc in
      sym v.id_is ∙ ap (λ (m : HostLib). m.id) one ∙ w.id_is

  -- A name of a bundled library is that of no host library.
  pub kinds_apart : (i : ℕ) (name : List ℕ) (k : ℕ) (host : HostLib) → slice_get b.layout.libs i ≡ Some name → slice_get b.split.hosts k ≡ Some host → name ≡ host.name → ⊥
  kinds_apart i name k host named stands same =
      both_ways (is_on_list config.names host.name)
      (subst (λ n. is_on_list config.names n ≡ false) same (all_at (λ n. is_on_list config.names n ≡ false) b.layout.libs i name layout_off named))
      (host_listed k host stands)

  same_ids : (i j : ℕ) (x y : Obj) → 0 < i → 0 < j → slice_get run.objs i ≡ Some x → slice_get run.objs j ≡ Some y → name_in b run i ≡ name_in b run j → x.id ≡ y.id
  same_ids i j x y si sj hx hy same =
      elim (behind i x si hx) [
        | inl v ↦ elim (behind j y sj hy) [
          | inl w ↦ lib_pair i j x y v.lib w.lib (sym v.name ∙ same ∙ w.name)
          | inr w ↦ absurd (kinds_apart v.lib.place v.lib.name w.host.place w.host.host v.lib.named w.host.host_is (sym v.name ∙ same ∙ w.name))
        ]
        | inr v ↦ elim (behind j y sj hy) [
          | inl w ↦ absurd (kinds_apart w.lib.place w.lib.name v.host.place v.host.host w.lib.named v.host.host_is (sym w.name ∙ sym same ∙ v.name))
          | inr w ↦ host_pair i j x y v.host w.host (sym v.name ∙ same ∙ w.name)
        ]
      ]

  pub distinct : AreDistinctNames (name_in b run) (length loaded.objs)
  distinct i j si bi sj bj same =
      let o = there loaded.objs i bi in
      let q = there loaded.objs j bj in
      let x = obj_here world config b number start run path at i o.0 o.1 in
      let y = obj_here world config b number start run path at j q.0 q.1 in
      let id = same_ids i j x.obj y.obj si sj x.stands y.stands same in
      ids_differ face_or_flaw config.setting world start.path start.opens loaded at.plays.loads.ends at.plays.loads.list i j o.0 q.0 o.1 q.1 (sym x.id ∙ id ∙ y.id)
