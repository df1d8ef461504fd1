-- What holds of each split, from what its definition says.
use Rattle.std.proofs.Common.{◌≡◌, ◌≢◌, ◌∙◌, sym, ap, refl, subst, ℕ, ◌<◌, ◌&&◌, ◌==◌, List, [], ◌∷◌, All, Bool, true, false, cond, Option, Some, None, bytes_eq, filter, length, map, slice_get, zip, arith, inl, inr}
use Rattle.std.specs.Prelude.{◌⊎◌, not, Result, Ok}
use Rattle.std.specs.List.{Contains, filter_map, find, list_any}
use Rattle.std.specs.Option.{option_and_then, option_map, unwrap_or}
use Rattle.std.proofs.lemmas.Bool.{and_from, and_parts, ne_eqb, not-false, not-true, not_from_false}
use Rattle.std.proofs.lemmas.List.Elements.{All-contains}
use Rattle.std.proofs.lemmas.Option.{slice_get_within}
use Rattle.answers.specs.First.{first_some, value_unless}
use Rattle.listed_runs.specs.Fitting.{has_listed_interpreter, is_on_list}
use Rattle.load_model.proofs.TwoWorlds.{same_bytes}
use Rattle.load_model.specs.Runs.{AreBelow, IsRunOver, face_at}
use Rattle.load_model.specs.VersionCheck.{version_file_of}
use Rattle.load_model.specs.declared.asks.Ask.{Ask}
use Rattle.load_model.specs.declared.faces.Face.{Face}
use Rattle.load_model.specs.declared.runs.Obj.{Obj}
use Rattle.load_model.specs.declared.runs.Run.{Run}
use Rattle.text_sets.proofs.FoundLemmas.{none_any}
use Rattle.lib_closure.specs.Clashes.{first_program, first_program_file, has_odd_interpreter, host_alias, host_name_clash, host_needs_unlisted, host_run_path, hosts_of, interpreter_unlisted, kinds_in_order, no_interpreter, path_of_object, program_beside, program_itself, program_like, program_met, program_named, program_needed, program_opened, split_need}
use Rattle.lib_closure.specs.Kinds.{has_listed_key, is_bundled, is_host_library, is_program}
use Rattle.lib_closure.specs.Objects.{Occurrence, all_objects, each_first, files_named, first_place_of, first_places, has_id, in_same_list, key_held, occurrence_at, own_targets, program_files, programs_of}
use Rattle.lib_closure.specs.SplitLaws.{HasAllObjects, HasDistinctIds, IsHostId, IsHostIn, IsLibId, IsLibraryId, IsProgramId, StandsIn, StandsInRuns}
use Rattle.lib_closure.specs.Splits.{bundled_of, host_lib_of, member_of, parts_of_build, split_of}
use Rattle.lib_closure.specs.declared.splits.HostLib.{HostLib}
use Rattle.lib_closure.specs.declared.splits.Member.{Member}
use Rattle.lib_closure.specs.declared.splits.Split.{Split}
use Rattle.lib_closure.specs.declared.stops.ClosureStop.{ClosureStop}
use Rattle.lib_closure.specs.declared.stops.ClosureStop.TheVariants.{InterpreterUnlisted}
use Rattle.lib_closure.proofs.ContainedLemmas.{all_pairs, any_in, at_place, in_filter, in_filter_map, in_map, in_none, is_there, none_passes, of_any, of_filter, of_filter_map, of_map, Paired, paired_filter, paired_map, paired_same}
use Rattle.lib_closure.proofs.PlacedLemmas.{AreOthers, Comes, FirstOf, Occurs, OfId, Standing, bytes_same, first_from, first_has, first_in_all, first_of, firsts_apart, in_all, none_there, occurs, of_all, placed, standing_at}

-- ---- no clash

pub none_first : {A : Type 0} (o : Option A) (more : List (Option A)) → first_some (o ∷ more) ≡ None → (o ≡ None) × (first_some more ≡ None)
none_first None more h = (refl, h)
none_first (Some a) more h = cc

value_is : (o : Option ClosureStop) (parts split : Split) → value_unless o parts ≡ Ok split → (o ≡ None) × (parts ≡ split)
value_is None parts split h = (refl, cc)
value_is (Some stop) parts split h = cc

-- None of the kinds is there, and the split is that of the objects.
pub record IsUnclashed (faces : List Face) (runs : List Run) (names : List (List ℕ)) (split : Split) : Type 0 where
  pub interpreters : no_interpreter faces runs names ≡ None
  pub listed : interpreter_unlisted faces runs names ≡ None
  pub programs : program_needed faces runs names ≡ None
  pub keys : host_name_clash faces runs names ≡ None
  pub run_paths : host_run_path faces runs names ≡ None
  pub needs : host_needs_unlisted faces runs names ≡ None
  pub aliases : host_alias faces runs names ≡ None
  pub alike : split_need faces runs names ≡ None
  pub parts : parts_of_build faces runs names ≡ split

pub unclashed : (faces : List Face) (runs : List Run) (names : List (List ℕ)) (split : Split) → split_of faces runs names ≡ Ok split → IsUnclashed faces runs names split
unfolding split_of
unclashed faces runs names split h =
    let v = value_is (first_some (kinds_in_order faces runs names)) (parts_of_build faces runs names) split h in
    let k7 : List (Option ClosureStop) = split_need faces runs names ∷ [] in
    let k6 : List (Option ClosureStop) = host_alias faces runs names ∷ k7 in
    let k5 : List (Option ClosureStop) = host_needs_unlisted faces runs names ∷ k6 in
    let k4 : List (Option ClosureStop) = host_run_path faces runs names ∷ k5 in
    let k3 : List (Option ClosureStop) = host_name_clash faces runs names ∷ k4 in
    let k2 : List (Option ClosureStop) = program_needed faces runs names ∷ k3 in
    let k1 : List (Option ClosureStop) = interpreter_unlisted faces runs names ∷ k2 in
    let a = none_first (no_interpreter faces runs names) k1 v.0 in
    let b = none_first (interpreter_unlisted faces runs names) k2 a.1 in
    let c = none_first (program_needed faces runs names) k3 b.1 in
    let d = none_first (host_name_clash faces runs names) k4 c.1 in
    let e = none_first (host_run_path faces runs names) k5 d.1 in
    let f = none_first (host_needs_unlisted faces runs names) k6 e.1 in
    let g = none_first (host_alias faces runs names) k7 f.1 in
    let i = none_first (split_need faces runs names) [] g.1 in
    record { interpreters = a.0; listed = b.0; programs = c.0; keys = d.0; run_paths = e.0; needs = f.0; aliases = g.0; alike = i.0; parts = v.1 }

pub none_mapped : {A B : Type 0} (f : A → B) (o : Option A) → option_map f o ≡ None → o ≡ None
none_mapped f None h = refl
none_mapped f (Some a) h = cc

module _ (faces : List Face) (runs : List Run) (names : List (List ℕ)) where
  -- ---- kinds

  program_alike : (o p : Occurrence) → o.obj.id ≡ p.obj.id → is_program faces runs names o ≡ is_program faces runs names p
  program_alike o p e = ap (λ i. list_any (has_id i) (program_files faces runs)) e

  key_alike : (o : Occurrence) (first : FirstOf faces runs o.obj.id) → has_listed_key faces runs names o ≡ has_listed_key faces runs names first.it
  key_alike o first = ap (λ f. is_on_list names (key_held f)) (placed faces runs o.obj.id first o refl ∙ sym (placed faces runs o.obj.id first first.it first.same))

  pub host_alike : (o : Occurrence) (first : FirstOf faces runs o.obj.id) → is_host_library faces runs names first.it ≡ is_host_library faces runs names o
  unfolding is_host_library
  host_alike o first =
      ap (λ b. not b && has_listed_key faces runs names first.it) (program_alike first.it o first.same)
      ∙ ap (λ b. not (is_program faces runs names o) && b) (sym (key_alike o first))

  pub bundled_alike : (o : Occurrence) (first : FirstOf faces runs o.obj.id) → is_bundled faces runs names first.it ≡ is_bundled faces runs names o
  unfolding is_bundled
  bundled_alike o first =
      ap (λ b. not b && not (has_listed_key faces runs names first.it)) (program_alike first.it o first.same)
      ∙ ap (λ b. not (is_program faces runs names o) && not b) (sym (key_alike o first))

  pub host_true : (o : Occurrence) → is_program faces runs names o ≡ false → has_listed_key faces runs names o ≡ true → is_host_library faces runs names o ≡ true
  unfolding is_host_library
  host_true o p k = and_from (not (is_program faces runs names o)) (has_listed_key faces runs names o) (not_from_false (is_program faces runs names o) p) k

  bundled_true : (o : Occurrence) → is_program faces runs names o ≡ false → has_listed_key faces runs names o ≡ false → is_bundled faces runs names o ≡ true
  unfolding is_bundled
  bundled_true o p k = and_from (not (is_program faces runs names o)) (not (has_listed_key faces runs names o)) (not_from_false (is_program faces runs names o) p) (not_from_false (has_listed_key faces runs names o) k)

  host_parts : (o : Occurrence) → is_host_library faces runs names o ≡ true → (is_program faces runs names o ≡ false) × (has_listed_key faces runs names o ≡ true)
  unfolding is_host_library
  host_parts o h =
      let both = and_parts (not (is_program faces runs names o)) (has_listed_key faces runs names o) h in
      (not-true (is_program faces runs names o) both.0, both.1)

  bundled_parts : (o : Occurrence) → is_bundled faces runs names o ≡ true → (is_program faces runs names o ≡ false) × (has_listed_key faces runs names o ≡ false)
  unfolding is_bundled
  bundled_parts o h =
      let both = and_parts (not (is_program faces runs names o)) (not (has_listed_key faces runs names o)) h in
      (not-true (is_program faces runs names o) both.0, not-true (has_listed_key faces runs names o) both.1)

  -- ---- identities of the parts

  abbrev Parts : Split
  Parts = parts_of_build faces runs names

  lib_there : (o : Occurrence) → Contains (bundled_of faces runs names) o → IsLibId Parts o.obj.id
  unfolding parts_of_build
  lib_there o c = in_map (λ (a : Member). a.id) (map member_of (bundled_of faces runs names)) (member_of o) (in_map member_of (bundled_of faces runs names) o c)

  host_there : (o : Occurrence) → Contains (hosts_of faces runs names) o → IsHostId Parts o.obj.id
  unfolding parts_of_build
  host_there o c = in_map (λ (h : HostLib). h.id) (map host_lib_of (hosts_of faces runs names)) (host_lib_of o) (in_map host_lib_of (hosts_of faces runs names) o c)

  program_there : (o : Occurrence) → Contains (programs_of faces runs) o → IsProgramId Parts o.obj.id
  unfolding parts_of_build
  program_there o c = in_map (λ (p : Member). p.id) (map member_of (programs_of faces runs)) (member_of o) (in_map member_of (programs_of faces runs) o c)

  lib_from : (id : List ℕ) → IsLibId Parts id → OfId (bundled_of faces runs names) id
  unfolding parts_of_build
  lib_from id h =
      let m = of_map (λ (a : Member). a.id) (map member_of (bundled_of faces runs names)) id h in
      let o = of_map member_of (bundled_of faces runs names) m.from m.there in
      record { it = o.from; there = o.there; same = ap (λ (a : Member). a.id) o.is ∙ m.is }

  host_from : (id : List ℕ) → IsHostId Parts id → OfId (hosts_of faces runs names) id
  unfolding parts_of_build
  host_from id h =
      let m = of_map (λ (a : HostLib). a.id) (map host_lib_of (hosts_of faces runs names)) id h in
      let o = of_map host_lib_of (hosts_of faces runs names) m.from m.there in
      record { it = o.from; there = o.there; same = ap (λ (a : HostLib). a.id) o.is ∙ m.is }

  program_from : (id : List ℕ) → IsProgramId Parts id → OfId (programs_of faces runs) id
  unfolding parts_of_build
  program_from id h =
      let m = of_map (λ (a : Member). a.id) (map member_of (programs_of faces runs)) id h in
      let o = of_map member_of (programs_of faces runs) m.from m.there in
      record { it = o.from; there = o.there; same = ap (λ (a : Member). a.id) o.is ∙ m.is }

  program_in : (o : Occurrence) → is_program faces runs names o ≡ true → IsProgramId Parts o.obj.id
  program_in o h =
      let p = of_any (has_id o.obj.id) (program_files faces runs) h in
      elim (first_from [] (programs_of faces runs) p.it p.there) [
        | inl none ↦ absurd (in_none p.it none)
        | inr there ↦ subst (IsProgramId Parts) (sym (same_bytes o.obj.id p.it.obj.id p.passes)) (program_there p.it there)
      ]

  program_known : (o : Occurrence) → OfId (programs_of faces runs) o.obj.id → is_program faces runs names o ≡ true
  program_known o p =
      let q = first_has [] (programs_of faces runs) p.it p.there in
      any_in (has_id o.obj.id) (program_files faces runs) q.it q.there (bytes_same o.obj.id q.it.obj.id (sym (q.same ∙ p.same)))

  pub host_first : (o : Occurrence) (first : FirstOf faces runs o.obj.id) → is_host_library faces runs names o ≡ true → Contains (hosts_of faces runs names) first.it
  host_first o first h = in_filter (is_host_library faces runs names) (first_places faces runs) first.it first.there (host_alike o first ∙ h)

  lib_first : (o : Occurrence) (first : FirstOf faces runs o.obj.id) → is_bundled faces runs names o ≡ true → Contains (bundled_of faces runs names) first.it
  lib_first o first h = in_filter (is_bundled faces runs names) (first_places faces runs) first.it first.there (bundled_alike o first ∙ h)

  library_by : (o : Occurrence) (b : Bool) → Contains (all_objects faces runs) o → is_program faces runs names o ≡ false → has_listed_key faces runs names o ≡ b → IsLibraryId Parts o.obj.id
  library_by o true c p k =
      let first = first_of faces runs o c in
      inr (subst (IsHostId Parts) first.same (host_there first.it (host_first o first (host_true o p k))))
  library_by o false c p k =
      let first = first_of faces runs o c in
      inl (subst (IsLibId Parts) first.same (lib_there first.it (lib_first o first (bundled_true o p k))))

  pub library_in : (o : Occurrence) → Contains (all_objects faces runs) o → is_program faces runs names o ≡ false → IsLibraryId Parts o.obj.id
  library_in o c p = library_by o (has_listed_key faces runs names o) c p refl

  part_by : (o : Occurrence) (b : Bool) → Contains (all_objects faces runs) o → is_program faces runs names o ≡ b → IsProgramId Parts o.obj.id ⊎ IsLibraryId Parts o.obj.id
  part_by o true c p = inl (program_in o p)
  part_by o false c p = inr (library_in o c p)

  pub part_in : (o : Occurrence) → Contains (all_objects faces runs) o → IsProgramId Parts o.obj.id ⊎ IsLibraryId Parts o.obj.id
  part_in o c = part_by o (is_program faces runs names o) c refl

  -- ---- distinct identities

  lib_in_firsts : (o : Occurrence) → Contains (bundled_of faces runs names) o → Contains (first_places faces runs) o × (is_bundled faces runs names o ≡ true)
  lib_in_firsts o c = of_filter (is_bundled faces runs names) (first_places faces runs) o c

  pub host_in_firsts : (o : Occurrence) → Contains (hosts_of faces runs names) o → Contains (first_places faces runs) o × (is_host_library faces runs names o ≡ true)
  host_in_firsts o c = of_filter (is_host_library faces runs names) (first_places faces runs) o c

  firsts_paired : Paired AreOthers (first_places faces runs)
  firsts_paired = firsts_apart [] (all_objects faces runs) tt

  own_place : (o : Occurrence) → Contains (first_places faces runs) o → first_place_of faces runs o ≡ o
  own_place o c =
      let first = first_of faces runs o (first_in_all faces runs o c) in
      placed faces runs o.obj.id first o refl
      ∙ paired_same AreOthers (first_places faces runs) first.it o firsts_paired first.there c (λ n. n first.same) (λ n. n (sym first.same))

  not_program : (id : List ℕ) → IsProgramId Parts id → IsLibraryId Parts id → ⊥
  not_program id p (inl a) =
      let lib = lib_from id a in
      let program = program_from id p in
      let is = program_known lib.it (record { it = program.it; there = program.there; same = program.same ∙ sym lib.same }) in
      let clash : true ≡ false = sym is ∙ (bundled_parts lib.it (lib_in_firsts lib.it lib.there).1).0 in
      cc
  not_program id p (inr h) =
      let host = host_from id h in
      let program = program_from id p in
      let is = program_known host.it (record { it = program.it; there = program.there; same = program.same ∙ sym host.same }) in
      let clash : true ≡ false = sym is ∙ (host_parts host.it (host_in_firsts host.it host.there).1).0 in
      cc

  no_two_kinds : (id : List ℕ) → IsLibId Parts id → IsHostId Parts id → ⊥
  no_two_kinds id a h =
      let lib = lib_from id a in
      let host = host_from id h in
      let l = lib_in_firsts lib.it lib.there in
      let g = host_in_firsts host.it host.there in
      let same : lib.it ≡ host.it = paired_same AreOthers (first_places faces runs) lib.it host.it firsts_paired l.0 g.0 (λ n. n (lib.same ∙ sym host.same)) (λ n. n (host.same ∙ sym lib.same)) in
      let clash : true ≡ false = sym (host_parts host.it g.1).1 ∙ ap (has_listed_key faces runs names) (sym same) ∙ (bundled_parts lib.it l.1).1 in
      cc

  libs_paired : Paired (λ (a b : Member). a.id ≢ b.id) Parts.libs
  unfolding parts_of_build
  libs_paired = paired_map (λ (a b : Member). a.id ≢ b.id) member_of (bundled_of faces runs names) (paired_filter AreOthers (is_bundled faces runs names) (first_places faces runs) firsts_paired)

  hosts_paired : Paired (λ (a b : HostLib). a.id ≢ b.id) Parts.hosts
  unfolding parts_of_build
  hosts_paired = paired_map (λ (a b : HostLib). a.id ≢ b.id) host_lib_of (hosts_of faces runs names) (paired_filter AreOthers (is_host_library faces runs names) (first_places faces runs) firsts_paired)

  distinct_parts : HasDistinctIds Parts
  distinct_parts = record {
    libs = all_pairs (λ (a b : Member). a.id ≢ b.id) Parts.libs libs_paired;
    hosts = all_pairs (λ (a b : HostLib). a.id ≢ b.id) Parts.hosts hosts_paired;
    programs = not_program;
    one_kind = no_two_kinds;
  }

  -- ---- where they stand

  stands_of : (o : Occurrence) → Comes faces runs o → StandsIn faces runs o.obj.id o.obj.path o.obj.face
  stands_of o c =
      let is = occurs faces c.run c.number o c.at in
      record { run = c.run; run_is = c.there; number = c.number; obj = o.obj; object = is.obj; id_is = refl; path_is = refl; place = refl; seen = o.face; seen_is = is.face }

  program_comes : (o : Occurrence) → Contains (programs_of faces runs) o → Comes faces runs o
  unfolding programs_of
  program_comes o c =
      let g = of_filter_map (λ run. occurrence_at faces run 0) runs o c in
      record { run = g.from; there = g.there; number = 0; at = g.is }

  first_comes : (o : Occurrence) → Contains (first_places faces runs) o → Comes faces runs o
  first_comes o c = of_all faces runs o (first_in_all faces runs o c)

  programs_stand : (p : Member) → Contains Parts.programs p → StandsIn faces runs p.id p.path p.face
  unfolding parts_of_build
  programs_stand p c =
      let o = of_map member_of (programs_of faces runs) p c in
      subst (λ (m : Member). StandsIn faces runs m.id m.path m.face) o.is (stands_of o.from (program_comes o.from o.there))

  libs_stand : (a : Member) → Contains Parts.libs a → StandsIn faces runs a.id a.path a.face
  unfolding parts_of_build
  libs_stand a c =
      let o = of_map member_of (bundled_of faces runs names) a c in
      subst (λ (m : Member). StandsIn faces runs m.id m.path m.face) o.is (stands_of o.from (first_comes o.from (lib_in_firsts o.from o.there).0))

  host_stands : (o : Occurrence) → Contains (hosts_of faces runs names) o → IsHostIn faces runs names (host_lib_of o)
  host_stands o c =
      let in_firsts = host_in_firsts o c in
      let comes = first_comes o in_firsts.0 in
      let is = occurs faces comes.run comes.number o comes.at in
      record {
        stands = record { run = comes.run; run_is = comes.there; number = comes.number; obj = o.obj; object = is.obj; id_is = refl; path_is = refl; place = refl; seen = o.face; seen_is = is.face };
        key = refl;
        listed = ap (λ f. is_on_list names (key_held f)) (sym (own_place o in_firsts.0)) ∙ (host_parts o in_firsts.1).1;
      }

  hosts_stand : (h : HostLib) → Contains Parts.hosts h → IsHostIn faces runs names h
  unfolding parts_of_build
  hosts_stand h c =
      let o = of_map host_lib_of (hosts_of faces runs names) h c in
      subst (IsHostIn faces runs names) o.is (host_stands o.from o.there)

  standing_parts : StandsInRuns faces runs names Parts
  standing_parts = record { programs = programs_stand; libs = libs_stand; hosts = hosts_stand }

-- ---- the laws

-- No library stands twice, none is a program, and none is both bundled and of the host.
pub distinct_ids : (faces : List Face) (runs : List Run) (names : List (List ℕ)) (split : Split) → split_of faces runs names ≡ Ok split → HasDistinctIds split
distinct_ids faces runs names split h = subst HasDistinctIds (unclashed faces runs names split h).parts (distinct_parts faces runs names)

-- Each member is an object of a run, and host libraries are on the list by their keys.
pub members_stand : (faces : List Face) (runs : List Run) (names : List (List ℕ)) (split : Split) → split_of faces runs names ≡ Ok split → StandsInRuns faces runs names split
members_stand faces runs names split h = subst (StandsInRuns faces runs names) (unclashed faces runs names split h).parts (standing_parts faces runs names)

-- ---- interpreters

-- A program whose interpreter is on the host list.
pub record ListedProgram (faces : List Face) (run : Run) (names : List (List ℕ)) : Type 0 where
  pub face : Face
  pub at : face_at faces run 0 ≡ Some face
  pub listed : has_listed_interpreter names face.interp ≡ true

interps_listed : (faces : List Face) (runs : List Run) (names : List (List ℕ)) → interpreter_unlisted faces runs names ≡ None → (p : Occurrence) → Contains (programs_of faces runs) p → has_listed_interpreter names p.face.interp ≡ true
unfolding interpreter_unlisted
interps_listed faces runs names h p c =
    not-false (has_listed_interpreter names p.face.interp)
    (none_passes (has_odd_interpreter faces runs names) (programs_of faces runs) p (none_mapped (λ (q : Occurrence). InterpreterUnlisted (path_of_object faces runs names q)) (find (has_odd_interpreter faces runs names) (programs_of faces runs)) h) c)

program_stands : (faces : List Face) (runs : List Run) (run : Run) (p : Occurrence) → Contains runs run → occurrence_at faces run 0 ≡ Some p → Contains (programs_of faces runs) p
unfolding programs_of
program_stands faces runs run p c h = in_filter_map (λ r. occurrence_at faces r 0) runs run p c h

-- The interpreter of each program is on the host list.
pub programs_listed : (faces : List Face) (runs : List Run) (names : List (List ℕ)) (split : Split) → All (IsRunOver faces) runs → split_of faces runs names ≡ Ok split → (run : Run) → Contains runs run → ListedProgram faces run names
programs_listed faces runs names split over h run c =
    let is : IsRunOver faces run = All-contains (IsRunOver faces) runs run over c in
    let o = is_there run.objs 0 is.program in
    let p = standing_at faces run 0 o.it is o.is in
    let at = occurs faces run 0 p.it p.at in
    record {
      face = p.it.face;
      at = ap (option_and_then (λ (x : Obj). slice_get faces x.face)) at.obj ∙ at.face;
      listed = interps_listed faces runs names (unclashed faces runs names split h).listed p.it (program_stands faces runs run p.it c p.at);
    }
