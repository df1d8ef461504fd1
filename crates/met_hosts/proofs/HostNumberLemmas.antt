-- Which objects of a run are host libraries, by their numbers in the split, and what a host has for them.
use Rattle.std.proofs.Common.{◌≡◌, ◌≢◌, ◌∙◌, sym, ap, refl, subst, ℕ, zero, suc, ◌<◌, ◌==◌, List, [], ◌∷◌, All, Bool, true, false, Option, Some, None, Ok, arith, bytes_eq, get_or, is_some, map, option_map, slice_get, inl, inr}
use Rattle.std.specs.Prelude.{AllPairs}
use Rattle.std.specs.List.{Contains, find}
use Rattle.std.specs.Option.{option_and_then, unwrap_or}
use Rattle.std.proofs.lemmas.Bool.{cases_lt, eq-eqb, eqb-true, or_cases, or_parts}
use Rattle.std.proofs.lemmas.List.Elements.{All-contains}
use Rattle.std.proofs.lemmas.List.Quantifiers.{position-Some}
use Rattle.std.proofs.lemmas.Option.{get_or_from_slice_get, slice_get-get_or, slice_get-map, slice_get_within}
use Rattle.build_plan.specs.Building.{Building}
use Rattle.build_texts.specs.Texts.{record_in}
use Rattle.host_list.specs.Meeting.{lib_object, name_of_lib}
use Rattle.host_list.specs.Recording.{host_at, host_number, host_numbers, recorded_lib}
use Rattle.host_record.specs.Grammar.{lib_name_at}
use Rattle.host_record.specs.Said.{lib_names}
use Rattle.lib_closure.specs.Objects.{Occurrence, occurrence_at, programs_of}
use Rattle.lib_closure.specs.SplitLaws.{HasDistinctIds, IsHostId, IsLibId, IsProgramId}
use Rattle.lib_closure.specs.Splits.{member_of, parts_of_build, split_of}
use Rattle.lib_closure.specs.declared.splits.HostLib.{HostLib}
use Rattle.lib_closure.specs.declared.splits.Member.{Member}
use Rattle.lib_closure.specs.declared.splits.Split.{Split}
use Rattle.lib_closure.proofs.ContainedLemmas.{at_place, found_in, in_filter_map, in_map, none_passes}
use Rattle.lib_closure.proofs.PlacedLemmas.{bytes_same, standing_at}
use Rattle.lib_closure.proofs.SplitLemmas.{distinct_ids, unclashed}
use Rattle.load_model.specs.Faces.{face_or_flaw}
use Rattle.load_model.specs.LoadList.{Loaded, Object}
use Rattle.load_model.specs.Runs.{IsRunOf, IsRunOver, face_at}
use Rattle.load_model.specs.SameNames.{listed_decision}
use Rattle.load_model.specs.World.{World}
use Rattle.load_model.specs.declared.faces.Face.{Face}
use Rattle.load_model.specs.declared.runs.Obj.{Obj}
use Rattle.load_model.specs.declared.runs.Run.{Run}
use Rattle.load_model.specs.declared.setting.Setting.{Setting}
use Rattle.load_model.proofs.SameListLemmas.{there_too}
use Rattle.load_model.proofs.TwoWorlds.{same_bytes}
use Rattle.moved_runs.specs.Alike.{is_written}
use Rattle.name_layout.specs.Openings.{lib_with}
use Rattle.text_sets.proofs.FoundLemmas.{find_passes}
use Rattle.text_sets.proofs.MappedLemmas.{find-position}
use Rattle.build_laws.specs.Renaming.{is_bundled_in}
use Rattle.build_laws.proofs.BesideLemmas.{IsHostThere}
use Rattle.met_hosts.proofs.RecordedLemmas.{object_is}

-- ---- lists

-- Of elements that differ in something, those that agree in it are one.
pub same_place : {X Y : Type 0} (f : X → Y) (xs : List X) → AllPairs (λ (a c : X). f a ≢ f c) xs → (i j : ℕ) (x y : X) → slice_get xs i ≡ Some x → slice_get xs j ≡ Some y → f x ≡ f y → i ≡ j
same_place f xs apart i j x y hx hy same =
    let at_i = get_or_from_slice_get xs i x x hx in
    let at_j = get_or_from_slice_get xs j y x hy in
    elim (cases_lt i j) [
      | inl less ↦ absurd (apart i j x less (slice_get_within xs j y hy) (ap f at_i ∙ same ∙ sym (ap f at_j)))
      | inr more ↦ elim (cases_lt j i) [
        | inl less ↦ absurd (apart j i x less (slice_get_within xs i x hx) (ap f at_j ∙ sym same ∙ sym (ap f at_i)))
        | inr most ↦ omega (arith, more, most)
      ]
    ]

-- ---- numbers of host libraries

numbered_by : (hosts : List HostLib) (id : List ℕ) (n : ℕ) (host : HostLib) (found : Option ℕ) → AllPairs (λ (g h : HostLib). g.id ≢ h.id) hosts → slice_get hosts n ≡ Some host → host.id ≡ id → host_number hosts id ≡ found → host_number hosts id ≡ Some n
numbered_by hosts id n host None apart h same e =
    let none : find (λ (g : HostLib). bytes_eq id g.id) hosts ≡ None = find-position (λ (g : HostLib). bytes_eq id g.id) hosts ∙ ap (option_and_then (slice_get hosts)) e in
    let off : bytes_eq id host.id ≡ false = none_passes (λ (g : HostLib). bytes_eq id g.id) hosts host none (at_place hosts n host h) in
    let clash : true ≡ false = sym (bytes_same id host.id (sym same)) ∙ off in
    cc
numbered_by hosts id n host (Some i) apart h same e =
    let w = position-Some (λ (g : HostLib). bytes_eq id g.id) hosts i host e in
    let other : HostLib = get_or hosts i host in
    let other_is : slice_get hosts i ≡ Some other = slice_get-get_or hosts i host w.0 in
    let one : i ≡ n = same_place (λ (g : HostLib). g.id) hosts apart i n other host other_is h (sym (same_bytes id other.id w.1) ∙ sym same) in
    e ∙ ap Some one

numbered : (hosts : List HostLib) (id : List ℕ) (n : ℕ) (host : HostLib) → AllPairs (λ (g h : HostLib). g.id ≢ h.id) hosts → slice_get hosts n ≡ Some host → host.id ≡ id → host_number hosts id ≡ Some n
numbered hosts id n host apart h same = numbered_by hosts id n host (host_number hosts id) apart h same refl

unnumbered_by : (hosts : List HostLib) (id : List ℕ) (found : Option ℕ) → (Contains (map (λ (h : HostLib). h.id) hosts) id → ⊥) → host_number hosts id ≡ found → host_number hosts id ≡ None
unnumbered_by hosts id None none e = e
unnumbered_by [] id (Some i) none e = cc
unnumbered_by (g ∷ hosts) id (Some i) none e =
    let w = position-Some (λ (h : HostLib). bytes_eq id h.id) (g ∷ hosts) i g e in
    let other : HostLib = get_or (g ∷ hosts) i g in
    let there : Contains (map (λ (h : HostLib). h.id) (g ∷ hosts)) other.id = in_map (λ (h : HostLib). h.id) (g ∷ hosts) other (at_place (g ∷ hosts) i other (slice_get-get_or (g ∷ hosts) i g w.0)) in
    absurd (none (subst (Contains (map (λ (h : HostLib). h.id) (g ∷ hosts))) (sym (same_bytes id other.id w.1)) there))

at_object : (hosts : List HostLib) (run : Run) (j : ℕ) (x : Obj) → slice_get run.objs j ≡ Some x → host_at (host_numbers hosts run) j ≡ host_number hosts x.id
unfolding host_numbers
at_object hosts run j x h =
    ap (λ o. unwrap_or o None) (slice_get-map (λ (o : Obj). host_number hosts o.id) run.objs j ∙ ap (option_map (λ (o : Obj). host_number hosts o.id)) h)

-- ---- names of host libraries

name_at : (faces : List Face) (hosts : List HostLib) (n : ℕ) (host : HostLib) → slice_get hosts n ≡ Some host → lib_name_at (lib_names (map (recorded_lib faces) hosts)) n ≡ host.name
name_at faces [] n host h = cc
name_at faces (g ∷ hosts) zero host h = let same : g ≡ host = cc in ap (λ (x : HostLib). x.name) same
name_at faces (g ∷ hosts) (suc n) host h = name_at faces hosts n host h

pub libs_of : (b : Building) → (record_in b).libs ≡ map (recorded_lib b.faces) b.split.hosts
unfolding record_in
libs_of b = refl

-- The library of a number has the name of the host library.
pub name_of_number : (setting : Setting) (there : World) (b : Building) (n : ℕ) (host : HostLib) → slice_get b.split.hosts n ≡ Some host → name_of_lib face_or_flaw setting there (record_in b) n ≡ host.name
name_of_number setting there b n host h = ap (λ ls. lib_name_at (lib_names ls) n) (libs_of b) ∙ name_at b.faces b.split.hosts n host h

-- ---- which objects are written

pub unwritten : (is_bundled : ℕ → Bool) (j : ℕ) → is_written is_bundled j ≡ false → (0 < j) × (is_bundled j ≡ false)
unwritten is_bundled j h =
    let parts = or_parts (j == 0) (is_bundled j) h in (
      elim (cases_lt 0 j) [
        | inl some ↦ some
        | inr none ↦
            let zero_is : j ≡ 0 = omega (arith, none) in
            let clash : true ≡ false = sym (eq-eqb j 0 zero_is) ∙ parts.0 in
            cc
      ],
      parts.1,
    )

lib_id_by : (split : Split) (id : List ℕ) (found : Option Member) → lib_with split id ≡ found → is_some found ≡ true → IsLibId split id
lib_id_by split id None e h = cc
lib_id_by split id (Some lib) e h =
    let same : id ≡ lib.id = same_bytes id lib.id (find_passes (λ (l : Member). bytes_eq id l.id) split.libs lib e) in
    subst (IsLibId split) (sym same) (in_map (λ (a : Member). a.id) split.libs lib (found_in (λ (l : Member). bytes_eq id l.id) split.libs lib e))

module _ (b : Building) (names : List (List ℕ)) (split_is : split_of b.faces b.runs names ≡ Ok b.split) (over : All (IsRunOver b.faces) b.runs) (run : Run) (among : Contains b.runs run) where
  ids : HasDistinctIds b.split
  ids = distinct_ids b.faces b.runs names b.split split_is

  program_in : (p : Occurrence) → occurrence_at b.faces run 0 ≡ Some p → IsProgramId (parts_of_build b.faces b.runs names) p.obj.id
  unfolding parts_of_build programs_of
  program_in p h =
      let c : Contains (programs_of b.faces b.runs) p = in_filter_map (λ (r : Run). occurrence_at b.faces r 0) b.runs run p among h in
      in_map (λ (m : Member). m.id) (map member_of (programs_of b.faces b.runs)) (member_of p) (in_map member_of (programs_of b.faces b.runs) p c)

  pub program_id : (x : Obj) → slice_get run.objs 0 ≡ Some x → IsProgramId b.split x.id
  program_id x h =
      let p = standing_at b.faces run 0 x (All-contains (IsRunOver b.faces) b.runs run over among) h in
      subst (λ (s : Split). IsProgramId s x.id) (unclashed b.faces b.runs names b.split split_is).parts
      (subst (λ (y : Obj). IsProgramId (parts_of_build b.faces b.runs names) y.id) p.obj (program_in p.it p.at))

  pub lib_id : (j : ℕ) (x : Obj) → is_bundled_in b run j ≡ true → slice_get run.objs j ≡ Some x → IsLibId b.split x.id
  lib_id j x is h = lib_id_by b.split x.id (lib_with b.split x.id) refl (ap (λ o. is_some (option_and_then (λ (y : Obj). lib_with b.split y.id) o)) (sym h) ∙ is)

  no_host : (j : ℕ) (x : Obj) → is_written (is_bundled_in b run) j ≡ true → slice_get run.objs j ≡ Some x → IsHostId b.split x.id → ⊥
  no_host j x w h host =
      elim (or_cases (j == 0) (is_bundled_in b run j) w) [
        | inl first ↦ ids.programs x.id (program_id x (ap (slice_get run.objs) (sym (eqb-true j 0 first)) ∙ h)) (inr host)
        | inr is ↦ ids.one_kind x.id (lib_id j x is h) host
      ]

  -- What is written is no host library.
  pub written_none : (j : ℕ) (x : Obj) → is_written (is_bundled_in b run) j ≡ true → slice_get run.objs j ≡ Some x → host_at (host_numbers b.split.hosts run) j ≡ None
  written_none j x w h = at_object b.split.hosts run j x h ∙ unnumbered_by b.split.hosts x.id (host_number b.split.hosts x.id) (no_host j x w h) refl

  -- A host library has its number.
  pub host_has : (j : ℕ) (x : Obj) (n : ℕ) (host : HostLib) → slice_get run.objs j ≡ Some x → slice_get b.split.hosts n ≡ Some host → host.id ≡ x.id → host_at (host_numbers b.split.hosts run) j ≡ Some n
  host_has j x n host h g same = at_object b.split.hosts run j x h ∙ numbered b.split.hosts x.id n host ids.hosts g same

-- An object there is what a host has for the host library of a number.
pub object_numbered : (setting : Setting) (there : World) (b : Building) (n : ℕ) (host : HostLib) (q : Object) → slice_get b.split.hosts n ≡ Some host → listed_decision face_or_flaw setting there host.name ≡ Some (Ok q) → lib_object face_or_flaw setting there (record_in b) (name_of_lib face_or_flaw setting there (record_in b) n) ≡ Some q
object_numbered setting there b n host q h found =
    ap (lib_object face_or_flaw setting there (record_in b)) (name_of_number setting there b n host h) ∙ object_is setting there (record_in b) q host.name found

-- An object there, what the host has for the host library of a number.
pub record IsNumbered (b : Building) (run : Run) (setting : Setting) (world : World) (j : ℕ) (q : Object) : Type 0 where
  pub number : ℕ
  pub at : host_at (host_numbers b.split.hosts run) j ≡ Some number
  pub object : lib_object face_or_flaw setting world (record_in b) (name_of_lib face_or_flaw setting world (record_in b) number) ≡ Some q

-- An object of a run, beside the one of its load list.
pub record StandsHere (faces : List Face) (run : Run) (j : ℕ) (o : Object) : Type 0 where
  pub obj : Obj
  pub stands : slice_get run.objs j ≡ Some obj
  pub id : obj.id ≡ o.id
  pub place : slice_get faces obj.face ≡ Some o.face
  pub face : face_at faces run j ≡ Some o.face

pub stands_here : (faces : List Face) (opens : List (List ℕ)) (loaded : Loaded) (ends : List Loaded) (run : Run) → IsRunOf faces opens loaded ends run → (j : ℕ) (o : Object) → slice_get loaded.objs j ≡ Some o → StandsHere faces run j o
stands_here faces opens loaded ends run is j o h =
    let x = there_too loaded.objs run.objs j o is.count h in
    let w = is.objs j x.0 x.1 in
    let both : Some w.object ≡ Some o = sym w.stands ∙ h in
    let one : w.object ≡ o = cc in
    let place : slice_get faces x.0.face ≡ Some o.face = w.face ∙ ap (λ (p : Object). Some p.face) one in
    record {
      obj = x.0;
      stands = x.1;
      id = w.id ∙ ap (λ (p : Object). p.id) one;
      place = place;
      face = ap (option_and_then (λ (y : Obj). slice_get faces y.face)) x.1 ∙ place;
    }

module _ (b : Building) (names : List (List ℕ)) (split_is : split_of b.faces b.runs names ≡ Ok b.split) (over : All (IsRunOver b.faces) b.runs) (run : Run) (among : Contains b.runs run) (opens : List (List ℕ)) (loaded : Loaded) (ends : List Loaded) (run_is : IsRunOf b.faces opens loaded ends run) (setting : Setting) (there : World) where
  pub is_numbered : (j : ℕ) (o q : Object) → slice_get loaded.objs j ≡ Some o → IsHostThere b run setting there j o q → IsNumbered b run setting there j q
  is_numbered j o q h host =
      let x = stands_here b.faces opens loaded ends run run_is j o h in
      record {
        number = host.number;
        at = host_has b names split_is over run among j x.obj host.number host.host x.stands host.stands (host.id ∙ sym x.id);
        object = object_numbered setting there b host.number host.host q host.stands host.found;
      }
