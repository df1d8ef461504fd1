-- What a host library there asks itself goes to what it reaches by needs here.
use Rattle.std.proofs.Common.{◌≡◌, ◌≢◌, ◌∙◌, sym, ap, refl, subst, ℕ, zero, suc, ◌<◌, List, [], ◌∷◌, All, Bool, true, false, cond, Option, Some, Ok, bytes_eq, length, map, slice_get, inl, inr}
use Rattle.std.specs.List.{Contains, find, list_any}
use Rattle.std.proofs.lemmas.Bool.{not-false, or_cases}
use Rattle.std.proofs.lemmas.List.Elements.{All-contains}
use Rattle.std.proofs.lemmas.Option.{slice_get_within}
use Rattle.build_plan.specs.Building.{Building}
use Rattle.build_texts.specs.Texts.{record_in}
use Rattle.host_list.specs.Meeting.{HostMeets, is_reached, lacks_version, lib_object, needs_of_lib, recorded_needs}
use Rattle.host_list.specs.Recording.{recorded_lib}
use Rattle.host_record.specs.declared.records.RecLib.{RecLib}
use Rattle.lib_closure.specs.Splits.{split_of}
use Rattle.lib_closure.specs.declared.splits.HostLib.{HostLib}
use Rattle.lib_closure.proofs.ContainedLemmas.{Paired, at_place, in_map}
use Rattle.lib_closure.proofs.PlacedLemmas.{bytes_same}
use Rattle.lib_closure.proofs.ReachedLemmas.{names_paired}
use Rattle.load_model.specs.Faces.{face_or_flaw}
use Rattle.load_model.specs.LoadList.{Loaded, Object, up_to}
use Rattle.load_model.specs.Runs.{AreBelow, IsRunOf, IsRunOver, need_targets, needs_at, target_in}
use Rattle.load_model.specs.VersionCheck.{has_defined, needs_in}
use Rattle.load_model.specs.World.{World}
use Rattle.load_model.specs.declared.asks.Ask.{Ask}
use Rattle.load_model.specs.declared.faces.Face.{Face}
use Rattle.load_model.specs.declared.runs.Run.{Run}
use Rattle.load_model.specs.declared.setting.Setting.{Setting}
use Rattle.load_model.proofs.AskedNeeds.{map_get}
use Rattle.load_model.proofs.NumberLemmas.{number_at}
use Rattle.load_model.proofs.OneRun.{there as stands_at}
use Rattle.load_model.proofs.Places.{any_place}
use Rattle.load_model.proofs.SameListLemmas.{there_too}
use Rattle.load_model.proofs.TwoWorlds.{same_bytes}
use Rattle.moved_runs.specs.Alike.{IsOwnAsk, IsReached, is_written}
use Rattle.build_laws.specs.Renaming.{is_bundled_in, name_in}
use Rattle.build_laws.proofs.BesideLemmas.{IsHostThere}
use Rattle.met_hosts.proofs.HostNumberLemmas.{libs_of, unwritten}
use Rattle.met_hosts.proofs.RecordedLemmas.{object_is, own_there}

-- ---- the recorded needs of a host library

passed_over : (b : Bool) (lib : RecLib) (found : Option RecLib) → b ≡ false → cond b (Some lib) found ≡ found
passed_over true lib found h = cc
passed_over false lib found h = refl

other_name : (g host : HostLib) (b : Bool) → bytes_eq g.name host.name ≡ b → g.name ≢ host.name → b ≡ false
other_name g host true e n = absurd (n (same_bytes g.name host.name e))
other_name g host false e n = refl

lib_found : (faces : List Face) (hosts : List HostLib) (n : ℕ) (host : HostLib) → Paired (λ (a c : HostLib). a.name ≢ c.name) hosts → slice_get hosts n ≡ Some host → find (λ (lib : RecLib). bytes_eq lib.name host.name) (map (recorded_lib faces) hosts) ≡ Some (recorded_lib faces host)
lib_found faces [] n host p h = cc
lib_found faces (g ∷ hosts) zero host p h =
    let same : g ≡ host = cc in
    ap (λ b. cond b (Some (recorded_lib faces g)) (find (λ (lib : RecLib). bytes_eq lib.name host.name) (map (recorded_lib faces) hosts))) (bytes_same g.name host.name (ap (λ (x : HostLib). x.name) same))
    ∙ ap (λ (x : HostLib). Some (recorded_lib faces x)) same
lib_found faces (g ∷ hosts) (suc n) host p h =
    passed_over (bytes_eq g.name host.name) (recorded_lib faces g) (find (λ (lib : RecLib). bytes_eq lib.name host.name) (map (recorded_lib faces) hosts))
    (other_name g host (bytes_eq g.name host.name) refl (p.0 host (at_place hosts n host h)))
    ∙ lib_found faces hosts n host p.1 h

needs_recorded : (b : Building) (names : List (List ℕ)) → split_of b.faces b.runs names ≡ Ok b.split → (n : ℕ) (host : HostLib) (face : Face) → slice_get b.split.hosts n ≡ Some host → slice_get b.faces host.face ≡ Some face → recorded_needs (record_in b).libs host.name ≡ face.needs
needs_recorded b names split_is n host face h f =
    ap (λ libs. needs_of_lib (find (λ (lib : RecLib). bytes_eq lib.name host.name) libs)) (libs_of b)
    ∙ ap needs_of_lib (lib_found b.faces b.split.hosts n host (names_paired b.faces b.runs names b.split split_is) h)
    ∙ ap needs_in f

-- ---- the law

module _ (b : Building) (names : List (List ℕ)) (split_is : split_of b.faces b.runs names ≡ Ok b.split) (over : All (IsRunOver b.faces) b.runs) (run : Run) (among : Contains b.runs run) (opens : List (List ℕ)) (loaded : Loaded) (ends : List Loaded) (run_is : IsRunOf b.faces opens loaded ends run) (setting : Setting) (there : World) (meets : HostMeets face_or_flaw setting there (record_in b)) (objs_there : List Object) (count : length objs_there ≡ length loaded.objs) (hosts_there : (j : ℕ) (o q : Object) → 0 < j → is_bundled_in b run j ≡ false → slice_get loaded.objs j ≡ Some o → slice_get objs_there j ≡ Some q → IsHostThere b run setting there j o q) (host_need : (j e t : ℕ) (o : Object) (name : List ℕ) → 0 < j → is_bundled_in b run j ≡ false → slice_get loaded.objs j ≡ Some o → slice_get o.face.needs e ≡ Some name → slice_get (need_targets loaded j) e ≡ Some t → (0 < t) × (is_bundled_in b run t ≡ false) × (name_in b run t ≡ name)) where
  -- A host library that is reached from another by needs, and its name.
  record Reaches (j : ℕ) (name : List ℕ) : Type 0 where
    target : ℕ
    through : List ℕ
    some : 0 < target
    host : is_bundled_in b run target ≡ false
    object : Object
    stands : slice_get loaded.objs target ≡ Some object
    reached : IsReached loaded j through target
    named : name_in b run target ≡ name

  host_at_place : (j : ℕ) (o : Object) → 0 < j → is_bundled_in b run j ≡ false → slice_get loaded.objs j ≡ Some o → (q : Object) × IsHostThere b run setting there j o q
  host_at_place j o some host h =
      let q = there_too loaded.objs objs_there j o count h in
      (q.0, hosts_there j o q.0 some host h q.1)

  needs_are : (j : ℕ) (o : Object) → 0 < j → is_bundled_in b run j ≡ false → slice_get loaded.objs j ≡ Some o → recorded_needs (record_in b).libs (name_in b run j) ≡ o.face.needs
  needs_are j o some host h =
      let w = (host_at_place j o some host h).1 in
      ap (recorded_needs (record_in b).libs) w.name ∙ needs_recorded b names split_is w.number w.host o.face w.stands w.face

  target_below : (j e t : ℕ) → j < length loaded.objs → slice_get (need_targets loaded j) e ≡ Some t → t < length loaded.objs
  target_below j e t less g =
      let is : IsRunOver b.faces run = All-contains (IsRunOver b.faces) b.runs run over among in
      let at : slice_get run.targets j ≡ Some (need_targets loaded j) = ap (λ ts. slice_get ts j) run_is.targets ∙ map_get (need_targets loaded) (up_to (length loaded.objs)) j j (number_at (length loaded.objs) j less) in
      let below : AreBelow (length run.objs) (need_targets loaded j) = All-contains (AreBelow (length run.objs)) run.targets (need_targets loaded j) is.targets (at_place run.targets j (need_targets loaded j) at) in
      subst (λ n. t < n) run_is.count (All-contains (λ n. n < length run.objs) (need_targets loaded j) t below (at_place (need_targets loaded j) e t g))

  here : (j : ℕ) (o : Object) (name : List ℕ) → 0 < j → is_bundled_in b run j ≡ false → slice_get loaded.objs j ≡ Some o → bytes_eq (name_in b run j) name ≡ true → Reaches j name
  here j o name some host h e = record { target = j; through = []; some = some; host = host; object = o; stands = h; reached = refl; named = same_bytes (name_in b run j) name e }

  reach : (n j : ℕ) (o : Object) (name : List ℕ) → 0 < j → is_bundled_in b run j ≡ false → slice_get loaded.objs j ≡ Some o → is_reached (record_in b).libs n name (name_in b run j) ≡ true → Reaches j name
  unfolding is_reached
  reach zero j o name some host h e = here j o name some host h e
  reach (suc n) j o name some host h e =
      elim (or_cases (bytes_eq (name_in b run j) name) (list_any (is_reached (record_in b).libs n name) (recorded_needs (record_in b).libs (name_in b run j))) e) [
        | inl own ↦ here j o name some host h own
        | inr more ↦
            let any : list_any (is_reached (record_in b).libs n name) o.face.needs ≡ true = ap (list_any (is_reached (record_in b).libs n name)) (sym (needs_are j o some host h)) ∙ more in
            let w = any_place (is_reached (record_in b).libs n name) o.face.needs any in
            let t : ℕ = target_in loaded.log w.1 in
            let at : slice_get (need_targets loaded j) w.0 ≡ Some t = ap (λ x. slice_get (map (target_in loaded.log) (needs_at x)) w.0) h ∙ map_get (target_in loaded.log) o.face.needs w.0 w.1 w.2 in
            let goes = host_need j w.0 t o w.1 some host h w.2 at in
            let p = stands_at loaded.objs t (target_below j w.0 t (slice_get_within loaded.objs j o h) at) in
            let r = reach n t p.0 name goes.0 goes.1 p.1 (ap (is_reached (record_in b).libs n name) goes.2 ∙ w.3) in
            record { target = r.target; through = t ∷ r.through; some = r.some; host = r.host; object = r.object; stands = r.stands; reached = (w.0, at, r.reached); named = r.named }
      ]

  pub own_asks_there : (j k : ℕ) (q : Object) (ask : Ask) → is_written (is_bundled_in b run) j ≡ false → slice_get objs_there j ≡ Some q → slice_get q.face.asks k ≡ Some ask → ask.weak ≡ false → IsOwnAsk (name_in b run) loaded objs_there j ask
  own_asks_there j k q ask unwr g a weak =
      let w = unwritten (is_bundled_in b run) j unwr in
      let o = there_too objs_there loaded.objs j q (sym count) g in
      let x = hosts_there j o.0 q w.0 w.1 o.1 g in
      let lib : RecLib = recorded_lib b.faces x.host in
      let c : Contains (record_in b).libs lib = subst (λ libs. Contains libs lib) (sym (libs_of b)) (in_map (recorded_lib b.faces) b.split.hosts x.host (at_place b.split.hosts x.number x.host x.stands)) in
      let own = own_there setting there (record_in b) meets lib q ask c (object_is setting there (record_in b) q x.host.name x.found) (at_place q.face.asks k ask a) weak in
      let r = reach (length (record_in b).libs) j o.0 ask.file w.0 w.1 o.1 (ap (is_reached (record_in b).libs (length (record_in b).libs) ask.file) x.name ∙ own.0) in
      record {
        target = r.target;
        through = r.through;
        some = r.some;
        reached = r.reached;
        named = r.named;
        met = λ p at.
            let y = hosts_there r.target r.object p r.some r.host r.stands at in
            let object : lib_object face_or_flaw setting there (record_in b) ask.file ≡ Some p = ap (lib_object face_or_flaw setting there (record_in b)) (sym r.named ∙ y.name) ∙ object_is setting there (record_in b) p y.host.name y.found in
            not-false (has_defined ask.name p.face.defs) (ap (lacks_version face_or_flaw setting there (record_in b) ask.name) (sym object) ∙ own.1);
      }
