-- Where needs, opened names and the files of asks go, in each split; and the needs of host libraries.
use Rattle.std.proofs.Common.{◌≡◌, ◌≢◌, ◌∙◌, sym, ap, refl, subst, ℕ, zero, suc, ◌<◌, ◌&&◌, ◌==◌, List, [], ◌∷◌, ◌++◌, All, Bool, true, false, append_assoc, cond, Option, Some, None, bytes_eq, filter, length, map, slice_get, zip, arith, inl, inr}
use Rattle.std.specs.Prelude.{◌⊎◌, not, Ok}
use Rattle.std.specs.List.{Contains, find, list_any}
use Rattle.std.specs.Option.{option_and_then, option_map, unwrap_or}
use Rattle.std.proofs.lemmas.Bool.{eq-eqb, ne_eqb, not-false}
use Rattle.std.proofs.lemmas.List.{append-nil}
use Rattle.std.proofs.lemmas.List.Elements.{All-contains}
use Rattle.std.proofs.lemmas.Option.{slice_get_within}
use Rattle.answers.specs.First.{first_some}
use Rattle.load_model.proofs.TwoWorlds.{same_bytes}
use Rattle.load_model.specs.Runs.{AreBelow, IsRunOver, face_at}
use Rattle.load_model.specs.VersionCheck.{version_file_of}
use Rattle.load_model.specs.declared.asks.Ask.{Ask}
use Rattle.load_model.specs.declared.faces.Face.{Face}
use Rattle.load_model.specs.declared.runs.Obj.{Obj}
use Rattle.load_model.specs.declared.runs.Run.{Run}
use Rattle.text_sets.proofs.FoundLemmas.{none_any}
use Rattle.lib_closure.specs.Clashes.{beside_earlier, clash_of_hosts, first_program, first_program_file, have_one_key, host_alias, host_name_clash, host_needs_unlisted, hosts_of, is_alias, is_other_key, key_of_object, need_alias, need_unlisted, needs_bundled, path_of_object, program_beside, program_itself, program_like, program_met, program_named, program_needed, program_opened}
use Rattle.lib_closure.specs.Kinds.{has_listed_key, is_bundled, is_bundled_if_any, is_host_library, is_program}
use Rattle.lib_closure.specs.Objects.{Occurrence, all_objects, files_named, first_place_of, first_places, has_id, in_same_list, key_held, occurrence_at, own_needs, own_targets, path_held, program_files}
use Rattle.lib_closure.specs.SplitLaws.{HasAllObjects, HasClosedHosts, IsLibraryId, IsProgramId}
use Rattle.lib_closure.specs.Splits.{host_lib_of, parts_of_build, split_of}
use Rattle.lib_closure.specs.declared.splits.HostLib.{HostLib}
use Rattle.lib_closure.specs.declared.splits.Split.{Split}
use Rattle.lib_closure.specs.declared.stops.ClosureStop.{ClosureStop}
use Rattle.lib_closure.specs.declared.stops.ClosureStop.TheVariants.{HostAlias, HostNameClash, HostNeedsUnlisted, ProgramNeeded}
use Rattle.lib_closure.proofs.ContainedLemmas.{all_pairs, at_place, in_map, none_gives, none_passes, of_map, Paired, paired_map, paired_more, is_there, place_of, There}
use Rattle.lib_closure.proofs.PlacedLemmas.{Comes, Occurs, bytes_same, first_in_all, first_of, in_all, occurs, of_all, placed, standing_at}
use Rattle.lib_closure.proofs.SplitLemmas.{host_first, host_in_firsts, host_true, library_in, IsUnclashed, none_first, none_mapped, part_in, unclashed}

-- ---- lists side by side

zip_at : {X Y : Type 0} (xs : List X) (ys : List Y) (k : ℕ) (x : X) (y : Y) → slice_get xs k ≡ Some x → slice_get ys k ≡ Some y → slice_get (zip xs ys) k ≡ Some (x, y)
zip_at [] ys k x y h g = cc
zip_at (a ∷ xs) [] k x y h g = cc
zip_at (a ∷ xs) (b ∷ ys) zero x y h g = let one : a ≡ x = cc in let two : b ≡ y = cc in ap (λ c. Some (c, b)) one ∙ ap (λ d. Some (x, d)) two
zip_at (a ∷ xs) (b ∷ ys) (suc k) x y h g = zip_at xs ys k x y h g

none_then : {A : Type 0} (b : Bool) (o : Option A) → b ≡ true → cond b o None ≡ None → o ≡ None
none_then true o h e = e
none_then false o h e = cc

none_else : {A : Type 0} (b : Bool) (o : Option A) → b ≡ false → cond b None o ≡ None → o ≡ None
none_else true o h e = cc
none_else false o h e = e

module _ (faces : List Face) (runs : List Run) (names : List (List ℕ)) where
  -- ---- no program is met

  record IsUnmet (o : Occurrence) : Type 0 where
    itself : program_itself faces runs names o ≡ None
    targets : first_program faces runs names o (own_targets o) ≡ None
    opened : program_opened faces runs names o ≡ None
    files : first_program_file faces runs names o ≡ None

  unmet : (o : Occurrence) → program_needed faces runs names ≡ None → Contains (all_objects faces runs) o → IsUnmet o
  unfolding program_needed program_met
  unmet o h c =
      let none = none_mapped (λ (p : Occurrence). ProgramNeeded (path_held p)) (first_some (map (program_met faces runs names) (all_objects faces runs))) h in
      let met = none_gives (program_met faces runs names) (all_objects faces runs) o none c in
      let k3 : List (Option Occurrence) = first_program_file faces runs names o ∷ [] in
      let k2 : List (Option Occurrence) = program_opened faces runs names o ∷ k3 in
      let k1 : List (Option Occurrence) = first_program faces runs names o (own_targets o) ∷ k2 in
      let a = none_first (program_itself faces runs names o) k1 met in
      let b = none_first (first_program faces runs names o (own_targets o)) k2 a.1 in
      let d = none_first (program_opened faces runs names o) k3 b.1 in
      let e = none_first (first_program_file faces runs names o) [] d.1 in
      record { itself = a.0; targets = b.0; opened = d.0; files = e.0 }

  unlike : (o : Occurrence) → program_like faces runs names o ≡ None → is_program faces runs names o ≡ false
  unfolding program_like
  unlike o h = none_any (has_id o.obj.id) (program_files faces runs) h

  -- What stands at a number in the list of an object.
  beside : (run : Run) (j t : ℕ) (o p : Occurrence) → Occurs faces run j o → occurrence_at faces run t ≡ Some p → in_same_list o t ≡ Some p
  beside run j t o p is h = ap (λ fs. occurrence_at fs o.run t) is.faces_are ∙ ap (λ r. occurrence_at faces r t) is.run_is ∙ h

  unlike_beside : (run : Run) (j t : ℕ) (o p : Occurrence) → Occurs faces run j o → occurrence_at faces run t ≡ Some p → program_beside faces runs names o t ≡ None → is_program faces runs names p ≡ false
  unlike_beside run j t o p is h e = unlike p (sym (ap (option_and_then (program_like faces runs names)) (beside run j t o p is h)) ∙ e)

  among : (o : Occurrence) (numbers : List ℕ) (t : ℕ) → first_program faces runs names o numbers ≡ None → Contains numbers t → program_beside faces runs names o t ≡ None
  unfolding first_program
  among o numbers t h c = none_gives (program_beside faces runs names o) numbers t h c

  among_files : (o : Occurrence) (t : ℕ) → first_program_file faces runs names o ≡ None → Contains (files_named o) (Some t) → program_beside faces runs names o t ≡ None
  unfolding first_program_file
  among_files o t h c = none_gives (program_named faces runs names o) (files_named o) (Some t) h c

  file_named : (run : Run) (j t : ℕ) (o : Occurrence) (ask : Ask) → Occurs faces run j o → Contains o.face.asks ask → version_file_of faces run j ask.file ≡ Some t → Contains (files_named o) (Some t)
  unfolding files_named
  file_named run j t o ask is c h =
      let names_it : version_file_of o.faces o.run o.number ask.file ≡ Some t =
      ap (λ fs. version_file_of fs o.run o.number ask.file) is.faces_are
      ∙ ap (λ r. version_file_of faces r o.number ask.file) is.run_is
      ∙ ap (λ n. version_file_of faces run n ask.file) is.number ∙ h in
      subst (Contains (map (λ (a : Ask). version_file_of o.faces o.run o.number a.file) o.face.asks)) names_it
      (in_map (λ (a : Ask). version_file_of o.faces o.run o.number a.file) o.face.asks ask c)

  targets_are : (run : Run) (j : ℕ) (o : Occurrence) (ts : List ℕ) → Occurs faces run j o → slice_get run.targets j ≡ Some ts → own_targets o ≡ ts
  targets_are run j o ts is h =
      ap (λ (r : Run). unwrap_or (slice_get r.targets o.number) []) is.run_is
      ∙ ap (λ n. unwrap_or (slice_get run.targets n) []) is.number ∙ ap (λ x. unwrap_or x []) h

  -- ---- all objects

  module _ (over : All (IsRunOver faces) runs) (none : program_needed faces runs names ≡ None) where
    run_over : (run : Run) → Contains runs run → IsRunOver faces run
    run_over run c = All-contains (IsRunOver faces) runs run over c

    library_beside : (run : Run) (j t : ℕ) (o : Occurrence) (x : Obj) → Contains runs run → Occurs faces run j o → program_beside faces runs names o t ≡ None → slice_get run.objs t ≡ Some x → IsLibraryId (parts_of_build faces runs names) x.id
    library_beside run j t o x c is e h =
        let p = standing_at faces run t x (run_over run c) h in
        subst (λ (y : Obj). IsLibraryId (parts_of_build faces runs names) y.id) p.obj
        (library_in faces runs names p.it (in_all faces runs run t p.it c p.at) (unlike_beside run j t o p.it is p.at e))

    objects_are : (run : Run) (j : ℕ) (x : Obj) → Contains runs run → slice_get run.objs j ≡ Some x → IsProgramId (parts_of_build faces runs names) x.id ⊎ IsLibraryId (parts_of_build faces runs names) x.id
    objects_are run j x c h =
        let p = standing_at faces run j x (run_over run c) h in
        subst (λ (y : Obj). IsProgramId (parts_of_build faces runs names) y.id ⊎ IsLibraryId (parts_of_build faces runs names) y.id) p.obj
        (part_in faces runs names p.it (in_all faces runs run j p.it c p.at))

    behind_are : (run : Run) (j : ℕ) (x : Obj) → Contains runs run → slice_get run.objs j ≡ Some x → 0 < j → IsLibraryId (parts_of_build faces runs names) x.id
    behind_are run j x c h less =
        let p = standing_at faces run j x (run_over run c) h in
        let all = in_all faces runs run j p.it c p.at in
        let is = occurs faces run j p.it p.at in
        let later : (p.it.number == 0) ≡ false = ne_eqb p.it.number 0 (λ e. let n = is.number in omega (arith, e, n, less)) in
        let like = none_else (p.it.number == 0) (program_like faces runs names p.it) later (unmet p.it none all).itself in
        subst (λ (y : Obj). IsLibraryId (parts_of_build faces runs names) y.id) p.obj (library_in faces runs names p.it all (unlike p.it like))

    needs_are : (run : Run) (j t : ℕ) (ts : List ℕ) (x : Obj) → Contains runs run → slice_get run.targets j ≡ Some ts → Contains ts t → slice_get run.objs t ≡ Some x → IsLibraryId (parts_of_build faces runs names) x.id
    needs_are run j t ts x c g m h =
        let o = is_there run.objs j (let l = (run_over run c).lists in let w = slice_get_within run.targets j ts g in omega (arith, l, w)) in
        let p = standing_at faces run j o.it (run_over run c) o.is in
        let is = occurs faces run j p.it p.at in
        let targets = (unmet p.it none (in_all faces runs run j p.it c p.at)).targets in
        library_beside run j t p.it x c is (among p.it (own_targets p.it) t targets (subst (λ ns. Contains ns t) (sym (targets_are run j p.it ts is g)) m)) h

    opened_are : (run : Run) (t : ℕ) (x : Obj) → Contains runs run → Contains run.roots t → slice_get run.objs t ≡ Some x → IsLibraryId (parts_of_build faces runs names) x.id
    opened_are run t x c m h =
        let o = is_there run.objs 0 (run_over run c).program in
        let p = standing_at faces run 0 o.it (run_over run c) o.is in
        let is = occurs faces run 0 p.it p.at in
        let opened = (unmet p.it none (in_all faces runs run 0 p.it c p.at)).opened in
        let all : first_program faces runs names p.it p.it.run.roots ≡ None = none_then (p.it.number == 0) (first_program faces runs names p.it p.it.run.roots) (eq-eqb p.it.number 0 is.number) opened in
        library_beside run 0 t p.it x c is (among p.it p.it.run.roots t all (subst (λ (r : Run). Contains r.roots t) (sym is.run_is) m)) h

    files_by : (run : Run) (j t : ℕ) (face : Face) (ask : Ask) (x : Obj) (obj : Option Obj) → Contains runs run → slice_get run.objs j ≡ obj → option_and_then (λ (y : Obj). slice_get faces y.face) obj ≡ Some face → Contains face.asks ask → version_file_of faces run j ask.file ≡ Some t → slice_get run.objs t ≡ Some x → IsLibraryId (parts_of_build faces runs names) x.id
    files_by run j t face ask x None c o f m g h = cc
    files_by run j t face ask x (Some y) c o f m g h =
        let p = standing_at faces run j y (run_over run c) o in
        let is = occurs faces run j p.it p.at in
        let both : Some p.it.face ≡ Some face = sym is.face ∙ ap (λ (z : Obj). slice_get faces z.face) p.obj ∙ f in
        let same : p.it.face ≡ face = cc in
        let files = (unmet p.it none (in_all faces runs run j p.it c p.at)).files in
        library_beside run j t p.it x c is (among_files p.it t files (file_named run j t p.it ask is (subst (λ (z : Face). Contains z.asks ask) (sym same) m) g)) h

    files_are : (run : Run) (j t : ℕ) (face : Face) (ask : Ask) (x : Obj) → Contains runs run → face_at faces run j ≡ Some face → Contains face.asks ask → version_file_of faces run j ask.file ≡ Some t → slice_get run.objs t ≡ Some x → IsLibraryId (parts_of_build faces runs names) x.id
    files_are run j t face ask x c f m g h = files_by run j t face ask x (slice_get run.objs j) c refl f m g h

    reached_parts : HasAllObjects faces runs (parts_of_build faces runs names)
    reached_parts = record { objects = objects_are; behind = behind_are; needs = needs_are; opened = opened_are; files = files_are }

  -- ---- host libraries of one key

  abbrev HasOtherKey : Occurrence → Occurrence → Type 0
  HasOtherKey a b = key_held a ≢ key_held b

  keys_by : (before more : List Occurrence) → first_some (map (clash_of_hosts faces runs names) (beside_earlier before more)) ≡ None → Paired HasOtherKey before → Paired HasOtherKey (before ++ more)
  keys_by before [] h p = subst (Paired HasOtherKey) (sym (append-nil before)) p
  keys_by before (x ∷ more) h p =
      let both = none_first (clash_of_hosts faces runs names (before, x)) (map (clash_of_hosts faces runs names) (beside_earlier (before ++ x ∷ []) more)) h in
      let alone : find (have_one_key faces runs names x) before ≡ None = none_mapped (λ (a : Occurrence). HostNameClash (key_held x) (path_held a) (path_held x)) (find (have_one_key faces runs names x) before) both.0 in
      let next : Paired HasOtherKey (before ++ x ∷ []) = paired_more HasOtherKey before x p (λ y c e. let off : bytes_eq (key_held x) (key_held y) ≡ false = none_passes (have_one_key faces runs names x) before y alone c in let on : bytes_eq (key_held x) (key_held y) ≡ true = bytes_same (key_held x) (key_held y) (sym e) in let clash : true ≡ false = sym on ∙ off in cc) in
      subst (Paired HasOtherKey) (append_assoc before (x ∷ []) more) (keys_by (before ++ x ∷ []) more both.1 next)

  keys_apart : host_name_clash faces runs names ≡ None → Paired HasOtherKey (hosts_of faces runs names)
  unfolding host_name_clash
  keys_apart h = keys_by [] (hosts_of faces runs names) h tt

  names_apart : host_name_clash faces runs names ≡ None → Paired (λ (a b : HostLib). a.name ≢ b.name) (parts_of_build faces runs names).hosts
  unfolding parts_of_build
  names_apart h = paired_map (λ (a b : HostLib). a.name ≢ b.name) host_lib_of (hosts_of faces runs names) (keys_apart h)

  -- ---- needs of host libraries

  host_named : (o : Occurrence) → Contains (hosts_of faces runs names) o → Contains (map (λ (h : HostLib). h.name) (parts_of_build faces runs names).hosts) (key_held o)
  unfolding parts_of_build
  host_named o c = in_map (λ (h : HostLib). h.name) (map host_lib_of (hosts_of faces runs names)) (host_lib_of o) (in_map host_lib_of (hosts_of faces runs names) o c)

  host_by : (p : Occurrence) (b : Bool) → has_listed_key faces runs names p ≡ b → is_program faces runs names p ≡ false → is_bundled faces runs names p ≡ false → is_host_library faces runs names p ≡ true
  unfolding is_bundled
  host_by p true k q n = host_true faces runs names p q k
  host_by p false k q n =
      let is : is_bundled faces runs names p ≡ true = ap (λ b. not b && not (has_listed_key faces runs names p)) q ∙ ap not k in
      let clash : true ≡ false = sym is ∙ n in
      cc

  not_aliased : (o : Occurrence) → host_alias faces runs names ≡ None → Contains (all_objects faces runs) o → is_host_library faces runs names o ≡ true → find (is_alias faces runs names o) (own_needs o) ≡ None
  unfolding host_alias need_alias
  not_aliased o h c is =
      let found : Option (List ℕ × ℕ) = find (is_alias faces runs names o) (own_needs o) in
      let stop : (List ℕ × ℕ) → ClosureStop = λ need. HostAlias (path_of_object faces runs names o) need.0 in
      none_mapped stop found
      (none_then (is_host_library faces runs names o) (option_map stop found) is (none_gives (need_alias faces runs names) (all_objects faces runs) o h c))

  not_unlisted : (o : Occurrence) → host_needs_unlisted faces runs names ≡ None → Contains (all_objects faces runs) o → is_host_library faces runs names o ≡ true → find (needs_bundled faces runs names o) (own_needs o) ≡ None
  unfolding host_needs_unlisted need_unlisted
  not_unlisted o h c is =
      let found : Option (List ℕ × ℕ) = find (needs_bundled faces runs names o) (own_needs o) in
      let stop : (List ℕ × ℕ) → ClosureStop = λ need. HostNeedsUnlisted (path_of_object faces runs names o) need.0 in
      none_mapped stop found
      (none_then (is_host_library faces runs names o) (option_map stop found) is (none_gives (need_unlisted faces runs names) (all_objects faces runs) o h c))

  -- A need of a host library, with where it went.
  record Need (o : Occurrence) (name : List ℕ) : Type 0 where
    run : Run
    there : Contains runs run
    number : ℕ
    at : Occurs faces run number o
    target : ℕ
    own : Contains (own_targets o) target
    need : Contains (own_needs o) (name, target)
    within : target < length run.objs

  need_of : (o : Occurrence) (name : List ℕ) → All (IsRunOver faces) runs → Comes faces runs o → Contains o.face.needs name → Need o name
  need_of o name over c n =
      let is = occurs faces c.run c.number o c.at in
      let run_is : IsRunOver faces c.run = All-contains (IsRunOver faces) runs c.run over c.there in
      let face : face_at faces c.run c.number ≡ Some o.face = ap (option_and_then (λ (x : Obj). slice_get faces x.face)) is.obj ∙ is.face in
      let inside = slice_get_within c.run.objs c.number o.obj is.obj in
      let ts = is_there c.run.targets c.number (let l = run_is.lists in omega (arith, l, inside)) in
      let many = run_is.counts c.number o.face ts.it face ts.is in
      let at = place_of o.face.needs name n in
      let t = is_there ts.it n.0 (let w = n.1 in omega (arith, many, w)) in
      let targets = targets_are c.run c.number o ts.it is ts.is in
      let below : AreBelow (length c.run.objs) ts.it = All-contains (AreBelow (length c.run.objs)) c.run.targets ts.it run_is.targets (at_place c.run.targets c.number ts.it ts.is) in
      record {
        run = c.run;
        there = c.there;
        number = c.number;
        at = is;
        target = t.it;
        own = subst (λ ns. Contains ns t.it) (sym targets) (at_place ts.it n.0 t.it t.is);
        need = at_place (own_needs o) n.0 (name, t.it) (ap (λ ns. slice_get (zip o.face.needs ns) n.0) targets ∙ zip_at o.face.needs ts.it n.0 name t.it at t.is);
        within = All-contains (λ k. k < length c.run.objs) ts.it t.it below (at_place ts.it n.0 t.it t.is);
      }

  named_by : (p : Occurrence) (name : List ℕ) → Contains (all_objects faces runs) p → is_host_library faces runs names p ≡ true → is_other_key faces runs names name (Some p) ≡ false → Contains (map (λ (h : HostLib). h.name) (parts_of_build faces runs names).hosts) name
  named_by p name c is h =
      let first = first_of faces runs p c in
      let same : name ≡ key_held first.it = same_bytes name (key_of_object faces runs names p) (not-false (bytes_eq name (key_of_object faces runs names p)) h) ∙ ap key_held (placed faces runs p.obj.id first p refl) in
      subst (Contains (map (λ (h : HostLib). h.name) (parts_of_build faces runs names).hosts)) (sym same) (host_named first.it (host_first faces runs names p first is))

  closed_at : (split : Split) → All (IsRunOver faces) runs → IsUnclashed faces runs names split → (o : Occurrence) (name : List ℕ) → Contains (hosts_of faces runs names) o → Contains o.face.needs name → Contains (map (λ (h : HostLib). h.name) (parts_of_build faces runs names).hosts) name
  closed_at split over u o name c n =
      let firsts = host_in_firsts faces runs names o c in
      let all = first_in_all faces runs o firsts.0 in
      let need = need_of o name over (of_all faces runs o all) n in
      let x = is_there need.run.objs need.target need.within in
      let p = standing_at faces need.run need.target x.it (All-contains (IsRunOver faces) runs need.run over need.there) x.is in
      let there = in_all faces runs need.run need.target p.it need.there p.at in
      let goes : in_same_list o need.target ≡ Some p.it = beside need.run need.number need.target o p.it need.at p.at in
      let outside = unlike_beside need.run need.number need.target o p.it need.at p.at (among o (own_targets o) need.target (unmet o u.programs all).targets need.own) in
      let bundled = none_passes (needs_bundled faces runs names o) (own_needs o) (name, need.target) (not_unlisted o u.needs all firsts.1) need.need in
      let alias = none_passes (is_alias faces runs names o) (own_needs o) (name, need.target) (not_aliased o u.aliases all firsts.1) need.need in
      let host = host_by p.it (has_listed_key faces runs names p.it) refl outside (sym (ap (is_bundled_if_any faces runs names) goes) ∙ bundled) in
      named_by p.it name there host (sym (ap (is_other_key faces runs names name) goes) ∙ alias)

  needs_closed : (split : Split) → All (IsRunOver faces) runs → IsUnclashed faces runs names split → (h : HostLib) (face : Face) (need : List ℕ) → Contains (parts_of_build faces runs names).hosts h → slice_get faces h.face ≡ Some face → Contains face.needs need → Contains (map (λ (g : HostLib). g.name) (parts_of_build faces runs names).hosts) need
  unfolding parts_of_build
  needs_closed split over u h face need c f n =
      let o = of_map host_lib_of (hosts_of faces runs names) h c in
      let comes = of_all faces runs o.from (first_in_all faces runs o.from (host_in_firsts faces runs names o.from o.there).0) in
      let is = occurs faces comes.run comes.number o.from comes.at in
      let both : Some o.from.face ≡ Some face = sym is.face ∙ ap (λ (g : HostLib). slice_get faces g.face) o.is ∙ f in
      let same : o.from.face ≡ face = cc in
      closed_at split over u o.from need o.there (subst (λ (z : Face). Contains z.needs need) (sym same) n)

  closed_parts : (split : Split) → All (IsRunOver faces) runs → IsUnclashed faces runs names split → HasClosedHosts faces (parts_of_build faces runs names)
  closed_parts split over u = record {
    names = all_pairs (λ (a b : HostLib). a.name ≢ b.name) (parts_of_build faces runs names).hosts (names_apart u.keys);
    needs = needs_closed split over u;
  }

-- ---- the laws

-- Each object of the runs is a program or a library, and needs, opened names and files of asks go to libraries.
pub all_there : (faces : List Face) (runs : List Run) (names : List (List ℕ)) (split : Split) → All (IsRunOver faces) runs → split_of faces runs names ≡ Ok split → HasAllObjects faces runs split
all_there faces runs names split over h =
    let u = unclashed faces runs names split h in
    subst (HasAllObjects faces runs) u.parts (reached_parts faces runs names over u.programs)

-- Host libraries have distinct names, and each of their needs is one of these.
pub hosts_closed : (faces : List Face) (runs : List Run) (names : List (List ℕ)) (split : Split) → All (IsRunOver faces) runs → split_of faces runs names ≡ Ok split → HasClosedHosts faces split
hosts_closed faces runs names split over h =
    let u = unclashed faces runs names split h in
    subst (HasClosedHosts faces) u.parts (closed_parts faces runs names split over u)

-- The same of pairs of hosts as a recursion has them.
pub names_paired : (faces : List Face) (runs : List Run) (names : List (List ℕ)) (split : Split) → split_of faces runs names ≡ Ok split → Paired (λ (a b : HostLib). a.name ≢ b.name) split.hosts
names_paired faces runs names split h =
    let u = unclashed faces runs names split h in
    subst (λ (s : Split). Paired (λ (a b : HostLib). a.name ≢ b.name) s.hosts) u.parts (names_apart faces runs names u.keys)
