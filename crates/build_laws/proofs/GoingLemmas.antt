-- Where the needs of each object of a run go, and what they become.
use Rattle.std.proofs.Common.{◌≡◌, ◌∙◌, sym, ap, refl, subst, ℕ, ◌<◌, List, [], true, false, Some, length, map, slice_get, arith, inl, inr}
use Rattle.std.specs.List.{Contains, find}
use Rattle.std.proofs.lemmas.Bool.{both_ways, cases_lt}
use Rattle.std.proofs.lemmas.List.Elements.{All-contains}
use Rattle.std.proofs.lemmas.Option.{slice_get_within}
use Rattle.app_config.specs.declared.config.Config.{Config}
use Rattle.build_plan.specs.Building.{Building}
use Rattle.build_runs.specs.declared.programs.Start.{Start}
use Rattle.lib_closure.specs.Kinds.{is_bundled, is_host_library}
use Rattle.lib_closure.specs.Objects.{Occurrence, all_objects, first_place_of, first_places, has_id, in_same_list, key_held, occurrence_at, own_targets}
use Rattle.lib_closure.specs.SplitLaws.{IsLibraryId}
use Rattle.lib_closure.specs.Splits.{bundled_of, host_lib_of, member_of, parts_of_build}
use Rattle.lib_closure.specs.Clashes.{hosts_of}
use Rattle.lib_closure.specs.declared.splits.HostLib.{HostLib}
use Rattle.lib_closure.specs.declared.splits.Member.{Member}
use Rattle.lib_closure.specs.declared.splits.Split.{Split}
use Rattle.lib_closure.proofs.ContainedLemmas.{at_place, of_filter, paired_same}
use Rattle.lib_closure.proofs.NumberLemmas.{number_at}
use Rattle.lib_closure.proofs.PlacedLemmas.{AreOthers, first_in_all, first_of, firsts_apart, in_all, occurs, of_all, placed, standing_at}
use Rattle.lib_closure.proofs.SplitLemmas.{bundled_alike, host_alike, host_in_firsts, unclashed, IsUnclashed}
use Rattle.load_model.specs.LoadList.{Loaded, Object, up_to}
use Rattle.load_model.specs.Runs.{IsRunOver, need_targets, needs_at, target_in}
use Rattle.load_model.specs.World.{World}
use Rattle.load_model.specs.declared.faces.Face.{Face}
use Rattle.load_model.specs.declared.runs.Obj.{Obj}
use Rattle.load_model.specs.declared.runs.Run.{Run}
use Rattle.load_model.proofs.AskedNeeds.{get_map, map_get}
use Rattle.moved_runs.specs.Moved.{new_name, new_names}
use Rattle.object_changes.specs.Changing.{has_bundled_need, new_needs}
use Rattle.object_changes.specs.Names.{new_name_of}
use Rattle.build_laws.specs.BuiltRuns.{IsRunIn}
use Rattle.build_laws.specs.Renaming.{is_bundled_in, name_in}
use Rattle.build_laws.proofs.NamesLemmas.{IsHostAt, IsHostOf, IsLibAt, all_objects_there, as_library, host_of, lib_of, program_apart}
use Rattle.build_laws.proofs.NeedsLemmas.{GoesTo, counted, first_goes, goes_at, has_need, host_goes, map_stays_by, needs_named, own_targets_are, beside}
use Rattle.build_laws.proofs.RunInLemmas.{obj_here, run_there}
use Rattle.build_laws.proofs.WrittenLemmas.{members_of_libs}

-- ---- first places

members_of_hosts : (faces : List Face) (runs : List Run) (names : List (List ℕ)) → (parts_of_build faces runs names).hosts ≡ map host_lib_of (hosts_of faces runs names)
unfolding parts_of_build
members_of_hosts faces runs names = refl

-- Two objects of one identity that stand first are one.
one_first : (faces : List Face) (runs : List Run) (f g : Occurrence) → Contains (first_places faces runs) f → Contains (first_places faces runs) g → f.obj.id ≡ g.obj.id → f ≡ g
one_first faces runs f g c d same =
    paired_same AreOthers (first_places faces runs) f g (firsts_apart [] (all_objects faces runs) tt) c d (λ n. n same) (λ n. n (sym same))

module _ (world : World) (config : Config) (b : Building) (number : ℕ) (start : Start) (run : Run) (path : List ℕ) (at : IsRunIn world config b number start run path) where
  abbrev loaded : Loaded
  loaded = at.plays.loads.loaded

  here : Contains b.runs run
  here = run_there world config b number start run path at

  over : IsRunOver b.faces run
  over = All-contains (IsRunOver b.faces) b.runs run at.over here

  unclashed_split : IsUnclashed b.faces b.runs config.names b.split
  unclashed_split = unclashed b.faces b.runs config.names b.split at.builds.plan.split

  -- An object of the load list, where it stands.
  pub record Stands (j : ℕ) (o : Object) : Type 0 where
    pub obj : Obj
    pub obj_is : slice_get run.objs j ≡ Some obj
    pub id : obj.id ≡ o.id
    pub face : slice_get b.faces obj.face ≡ Some o.face
    pub it : Occurrence
    pub there : occurrence_at b.faces run j ≡ Some it
    pub same : it.obj ≡ obj
    pub seen : it.face ≡ o.face

  pub stands : (j : ℕ) (o : Object) → slice_get loaded.objs j ≡ Some o → Stands j o
  stands j o h =
      let x = obj_here world config b number start run path at j o h in
      let p = standing_at b.faces run j x.obj over x.stands in
      let is = occurs b.faces run j p.it p.at in
      let both : Some p.it.face ≡ Some o.face = sym is.face ∙ ap (λ (y : Obj). slice_get b.faces y.face) p.obj ∙ x.face in
      let one : p.it.face ≡ o.face = cc in
      record { obj = x.obj; obj_is = x.stands; id = x.id; face = x.face; it = p.it; there = p.at; same = p.obj; seen = one }

  pub known_name : (t : ℕ) (x : Obj) → slice_get run.objs t ≡ Some x → IsLibraryId b.split x.id → new_name_of b.split b.layout x.id ≡ Some (name_in b run t)
  known_name t x h l =
      elim (as_library world config b number start run path at t x h l) [
        | inl w ↦ w.lib.known ∙ ap Some (sym w.name)
        | inr w ↦ w.host.known ∙ ap Some (sym w.name)
      ]

  targets_at : (j : ℕ) → j < length loaded.objs → slice_get run.targets j ≡ Some (need_targets loaded j)
  targets_at j less = ap (λ ts. slice_get ts j) at.plays.loads.run_is.targets ∙ map_get (need_targets loaded) (up_to (length loaded.objs)) j j (number_at (length loaded.objs) j less)

  -- A need of an object of the run, with what it goes to.
  pub record Goes (j : ℕ) (it : Occurrence) (e : ℕ) (need : List ℕ) : Type 0 where
    pub to : slice_get (own_targets it) e ≡ Some (target_in loaded.log need)
    pub found : Occurrence
    pub there : in_same_list it (target_in loaded.log need) ≡ Some found
    pub stands_at : slice_get run.objs (target_in loaded.log need) ≡ Some found.obj
    pub library : IsLibraryId b.split found.obj.id

  pub goes : (j : ℕ) (o : Object) (it : Occurrence) → slice_get loaded.objs j ≡ Some o → occurrence_at b.faces run j ≡ Some it → it.face ≡ o.face → (e : ℕ) (need : List ℕ) → slice_get o.face.needs e ≡ Some need → Goes j it e need
  goes j o it h occ seen e need g =
      let less = slice_get_within loaded.objs j o h in
      let is = occurs b.faces run j it occ in
      let w = goes_at b.faces run over j it occ e need (ap (λ (f : Face). slice_get f.needs e) seen ∙ g) in
      let targets : own_targets it ≡ need_targets loaded j = own_targets_are b.faces run j it (need_targets loaded j) is (targets_at j less) in
      let to : slice_get (need_targets loaded j) e ≡ Some (target_in loaded.log need) =
      ap (λ x. slice_get (map (target_in loaded.log) (needs_at x)) e) h ∙ map_get (target_in loaded.log) o.face.needs e need g in
      let both : Some w.0 ≡ Some (target_in loaded.log need) = sym w.2 ∙ ap (λ ns. slice_get ns e) targets ∙ to in
      let one : w.0 ≡ target_in loaded.log need = cc in
      let found_at : occurrence_at b.faces run (target_in loaded.log need) ≡ Some w.1 = ap (occurrence_at b.faces run) (sym one) ∙ w.3 in
      let obj = (occurs b.faces run (target_in loaded.log need) w.1 found_at).obj in
      record {
        to = ap (λ ns. slice_get ns e) targets ∙ to;
        found = w.1;
        there = ap (in_same_list it) (sym one) ∙ w.4;
        stands_at = obj;
        library = (all_objects_there world config b number start run path at).needs run j (target_in loaded.log need) (need_targets loaded j) w.1.obj here (targets_at j less) (at_place (need_targets loaded j) e (target_in loaded.log need) to) obj;
      }

  -- ---- where libraries stand first

  lib_parts : b.split.libs ≡ map member_of (bundled_of b.faces b.runs config.names)
  lib_parts = ap (λ (s : Split). s.libs) (sym unclashed_split.parts) ∙ members_of_libs b.faces b.runs config.names

  host_parts : b.split.hosts ≡ map host_lib_of (hosts_of b.faces b.runs config.names)
  host_parts = ap (λ (s : Split). s.hosts) (sym unclashed_split.parts) ∙ members_of_hosts b.faces b.runs config.names

  -- A bundled library is one wherever it stands.
  pub still_bundled : (j : ℕ) (p : Occurrence) (lib : IsLibAt b p.obj.id) → occurrence_at b.faces run j ≡ Some p → is_bundled b.faces b.runs config.names p ≡ true
  still_bundled j p lib h =
      let w = get_map member_of (bundled_of b.faces b.runs config.names) lib.place lib.lib (ap (λ ms. slice_get ms lib.place) (sym lib_parts) ∙ lib.lib_is) in
      let kept = of_filter (is_bundled b.faces b.runs config.names) (first_places b.faces b.runs) w.0 (at_place (bundled_of b.faces b.runs config.names) lib.place w.0 w.1) in
      let own : w.0.obj.id ≡ p.obj.id = ap (λ (m : Member). m.id) (sym w.2) ∙ lib.id_is in
      let first = first_of b.faces b.runs p (in_all b.faces b.runs run j p here h) in
      let same : w.0 ≡ first.it = one_first b.faces b.runs w.0 first.it kept.0 first.there (own ∙ sym first.same) in
      sym (bundled_alike b.faces b.runs config.names p first) ∙ ap (is_bundled b.faces b.runs config.names) (sym same) ∙ kept.1

  -- A host library is one wherever it stands, and its name is the key at its first place.
  pub still_host : (j : ℕ) (p : Occurrence) (host : IsHostAt b p.obj.id) → occurrence_at b.faces run j ≡ Some p → (is_host_library b.faces b.runs config.names p ≡ true) × (host.host.name ≡ key_held (first_place_of b.faces b.runs p))
  still_host j p host h =
      let w = get_map host_lib_of (hosts_of b.faces b.runs config.names) host.place host.host (ap (λ ms. slice_get ms host.place) (sym host_parts) ∙ host.host_is) in
      let kept = host_in_firsts b.faces b.runs config.names w.0 (at_place (hosts_of b.faces b.runs config.names) host.place w.0 w.1) in
      let own : w.0.obj.id ≡ p.obj.id = ap (λ (m : HostLib). m.id) (sym w.2) ∙ host.id_is in
      let first = first_of b.faces b.runs p (in_all b.faces b.runs run j p here h) in
      let same : w.0 ≡ first.it = one_first b.faces b.runs w.0 first.it kept.0 first.there (own ∙ sym first.same) in (
        sym (host_alike b.faces b.runs config.names p first) ∙ ap (is_host_library b.faces b.runs config.names) (sym same) ∙ kept.1,
        ap (λ (m : HostLib). m.name) w.2 ∙ ap key_held (same ∙ sym (placed b.faces b.runs p.obj.id first p refl)),
      )

  -- ---- the new needs

  -- The needs of an object become the names of what they go to.
  pub own_named : (j : ℕ) (o : Object) (s : Stands j o) → slice_get loaded.objs j ≡ Some o → new_needs b.split b.layout s.it ≡ new_names (name_in b run) loaded.log o.face.needs
  own_named j o s h =
      needs_named b s.it (new_name (name_in b run) loaded.log) (counted b.faces run over j s.it s.there)
      (λ e need g.
      let w = goes j o s.it h s.there s.seen e need (ap (λ (f : Face). slice_get f.needs e) (sym s.seen) ∙ g) in
      (w.found.obj.id, record { target = target_in loaded.log need; to = w.to; it = w.found; there = w.there; same = refl }, known_name (target_in loaded.log need) w.found.obj w.stands_at w.library))
      ∙ ap (λ (f : Face). map (new_name (name_in b run) loaded.log) f.needs) s.seen

  -- What is known of a bundled library at its first place.
  pub record IsFirst (j : ℕ) (o : Object) (first : Occurrence) : Type 0 where
    pub found : find (has_id o.id) (first_places b.faces b.runs) ≡ Some first
    pub first_there : Contains (first_places b.faces b.runs) first
    pub seen : first.face ≡ o.face
    pub lib : IsLibAt b o.id

  first_goes_to : (j : ℕ) (o : Object) (first : Occurrence) (s : Stands j o) → IsFirst j o first → slice_get loaded.objs j ≡ Some o → (e : ℕ) (need : List ℕ) → slice_get o.face.needs e ≡ Some need → (w : Goes j s.it e need) → GoesTo first e w.found.obj.id
  first_goes_to j o first s is h e need g w =
      let id : s.it.obj.id ≡ o.id = ap (λ (y : Obj). y.id) s.same ∙ s.id in
      first_goes b.faces b.runs config.names at.over run j s.it first unclashed_split.alike here s.there (ap (λ i. find (has_id i) (first_places b.faces b.runs)) id ∙ is.found)
      (still_bundled j s.it (subst (IsLibAt b) (sym id) is.lib) s.there) (is.seen ∙ sym s.seen) e (target_in loaded.log need) need w.found (ap (λ (f : Face). slice_get f.needs e) s.seen ∙ g) w.to w.there

  first_counted : (j : ℕ) (o : Object) (first : Occurrence) → IsFirst j o first → length (own_targets first) ≡ length first.face.needs
  first_counted j o first is =
      let comes = of_all b.faces b.runs first (first_in_all b.faces b.runs first is.first_there) in
      counted b.faces comes.run (All-contains (IsRunOver b.faces) b.runs comes.run at.over comes.there) comes.number first comes.at

  pub first_named : (j : ℕ) (o : Object) (first : Occurrence) (s : Stands j o) → IsFirst j o first → slice_get loaded.objs j ≡ Some o → new_needs b.split b.layout first ≡ new_names (name_in b run) loaded.log o.face.needs
  first_named j o first s is h =
      needs_named b first (new_name (name_in b run) loaded.log) (first_counted j o first is)
      (λ e need g.
      let there : slice_get o.face.needs e ≡ Some need = ap (λ (f : Face). slice_get f.needs e) (sym is.seen) ∙ g in
      let w = goes j o s.it h s.there s.seen e need there in
      (w.found.obj.id, first_goes_to j o first s is h e need there w, known_name (target_in loaded.log need) w.found.obj w.stands_at w.library))
      ∙ ap (λ (f : Face). map (new_name (name_in b run) loaded.log) f.needs) is.seen

  -- A need of a bundled library gives a run path.
  pub own_bundled : (j : ℕ) (o : Object) (s : Stands j o) → slice_get loaded.objs j ≡ Some o → (e : ℕ) (need : List ℕ) → slice_get o.face.needs e ≡ Some need → 0 < target_in loaded.log need → is_bundled_in b run (target_in loaded.log need) ≡ true → has_bundled_need b.split b.layout s.it ≡ true
  own_bundled j o s h e need g some bundled =
      let w = goes j o s.it h s.there s.seen e need g in
      let lib = lib_of world config b number start run path at (target_in loaded.log need) w.found.obj some w.stands_at bundled in
      has_need b s.it e w.found.obj.id lib.lib.lib (record { target = target_in loaded.log need; to = w.to; it = w.found; there = w.there; same = refl }) lib.lib.found

  pub first_bundled : (j : ℕ) (o : Object) (first : Occurrence) (s : Stands j o) → IsFirst j o first → slice_get loaded.objs j ≡ Some o → (e : ℕ) (need : List ℕ) → slice_get o.face.needs e ≡ Some need → 0 < target_in loaded.log need → is_bundled_in b run (target_in loaded.log need) ≡ true → has_bundled_need b.split b.layout first ≡ true
  first_bundled j o first s is h e need g some bundled =
      let w = goes j o s.it h s.there s.seen e need g in
      let lib = lib_of world config b number start run path at (target_in loaded.log need) w.found.obj some w.stands_at bundled in
      has_need b first e w.found.obj.id lib.lib.lib (first_goes_to j o first s is h e need g w) lib.lib.found

  -- A host library needs host libraries alone, by their names.
  pub host_need : (j : ℕ) (o : Object) (s : Stands j o) → IsHostOf b run j s.obj → slice_get loaded.objs j ≡ Some o → (e : ℕ) (need : List ℕ) → slice_get o.face.needs e ≡ Some need → (is_bundled_in b run (target_in loaded.log need) ≡ false) × (name_in b run (target_in loaded.log need) ≡ need)
  host_need j o s host h e need g =
      let w = goes j o s.it h s.there s.seen e need g in
      let own : IsHostAt b s.it.obj.id = subst (λ (y : Obj). IsHostAt b y.id) (sym s.same) host.host in
      let asker = still_host j s.it own s.there in
      let all = in_all b.faces b.runs run j s.it here s.there in
      let to = host_goes b.faces b.runs config.names s.it w.found e (target_in loaded.log need) need unclashed_split.aliases unclashed_split.needs all asker.0 (ap (λ (f : Face). slice_get f.needs e) s.seen ∙ g) w.to w.there in
      let t = target_in loaded.log need in
      let p = standing_at b.faces run t w.found.obj over w.stands_at in
      let same : in_same_list s.it t ≡ Some p.it = beside b.faces run j t s.it p.it (occurs b.faces run j s.it s.there) p.at in
      let both : Some p.it ≡ Some w.found = sym same ∙ w.there in
      let one : p.it ≡ w.found = cc in
      let at_t : occurrence_at b.faces run t ≡ Some w.found = p.at ∙ ap (λ (q : Occurrence). Some q) one in
      elim (as_library world config b number start run path at t w.found.obj w.stands_at w.library) [
        | inl lib ↦ absurd (both_ways (is_bundled b.faces b.runs config.names w.found) to.1 (still_bundled t w.found lib.lib at_t))
        | inr library ↦ (library.unbundled, library.name ∙ (still_host t w.found library.host at_t).1 ∙ sym to.0)
      ]

  pub host_named : (j : ℕ) (o : Object) (s : Stands j o) → IsHostOf b run j s.obj → slice_get loaded.objs j ≡ Some o → new_names (name_in b run) loaded.log o.face.needs ≡ o.face.needs
  host_named j o s host h = map_stays_by (new_name (name_in b run) loaded.log) o.face.needs (λ e need g. (host_need j o s host h e need g).1)

  -- The same by the numbers of targets.
  pub host_needs : (j e t : ℕ) (o : Object) (need : List ℕ) → 0 < j → is_bundled_in b run j ≡ false → slice_get loaded.objs j ≡ Some o → slice_get o.face.needs e ≡ Some need → slice_get (need_targets loaded j) e ≡ Some t → (0 < t) × (is_bundled_in b run t ≡ false) × (name_in b run t ≡ need)
  host_needs j e t o need some unbundled h g ht =
      let s = stands j o h in
      let host = host_of world config b number start run path at j s.obj some s.obj_is unbundled in
      let w = goes j o s.it h s.there s.seen e need g in
      let to = host_need j o s host h e need g in
      let both : Some t ≡ Some (target_in loaded.log need) = sym ht ∙ ap (λ x. slice_get (map (target_in loaded.log) (needs_at x)) e) h ∙ map_get (target_in loaded.log) o.face.needs e need g in
      let one : t ≡ target_in loaded.log need = cc in (
        elim (cases_lt 0 t) [
          | inl less ↦ less
          | inr more ↦
              let zero_is : target_in loaded.log need ≡ 0 = omega (arith, one, more) in
              absurd (program_apart world config b number start run path at w.found.obj (ap (slice_get run.objs) (sym zero_is) ∙ w.stands_at) w.library)
        ],
        ap (is_bundled_in b run) one ∙ to.0,
        ap (name_in b run) one ∙ to.1,
      )
