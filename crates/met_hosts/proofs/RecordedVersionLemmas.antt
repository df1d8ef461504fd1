-- A host library there has each version that is asked of it by what is written.
use Rattle.std.proofs.Common.{◌≡◌, ◌∙◌, sym, ap, subst, ℕ, ◌<◌, List, [], All, Bool, true, false, cond, Option, Some, None, Ok, length, option_map, slice_get}
use Rattle.std.specs.Prelude.{is_none}
use Rattle.std.specs.List.{Contains, filter_map, flat_map}
use Rattle.std.proofs.lemmas.Option.{slice_get_within}
use Rattle.build_plan.specs.Building.{Building}
use Rattle.build_texts.specs.Texts.{record_in}
use Rattle.host_list.specs.Meeting.{HostMeets}
use Rattle.host_list.specs.Recording.{asked_version, host_at, host_numbers, version_asked, versions_by, versions_of_run}
use Rattle.host_record.specs.Orders.{version_cmp}
use Rattle.host_record.specs.declared.records.RecVersion.{RecVersion}
use Rattle.lib_closure.specs.Splits.{split_of}
use Rattle.lib_closure.proofs.ContainedLemmas.{at_place, in_filter_map, in_flat_map}
use Rattle.load_model.specs.Faces.{face_or_flaw}
use Rattle.load_model.specs.LoadList.{Loaded, Object, up_to}
use Rattle.load_model.specs.Runs.{IsRunOf, IsRunOver, face_at}
use Rattle.load_model.specs.VersionCheck.{asks_in, version_file_of}
use Rattle.load_model.specs.World.{World}
use Rattle.load_model.specs.declared.asks.Ask.{Ask}
use Rattle.load_model.specs.declared.faces.Face.{Face}
use Rattle.load_model.specs.declared.runs.Run.{Run}
use Rattle.load_model.specs.declared.setting.Setting.{Setting}
use Rattle.load_model.proofs.NumberLemmas.{number_at}
use Rattle.load_model.proofs.SameListLemmas.{there_too}
use Rattle.moved_runs.specs.Alike.{HasVersion, is_written}
use Rattle.build_laws.specs.Renaming.{is_bundled_in}
use Rattle.build_laws.proofs.BesideLemmas.{IsHostThere}
use Rattle.met_hosts.proofs.HostNumberLemmas.{is_numbered, stands_here, unwritten, written_none}
use Rattle.met_hosts.proofs.RecordedLemmas.{kept, version_exact, version_there}

pub in_chosen : {X : Type 0} (c : Bool) (xs : List X) (y : X) → c ≡ true → Contains xs y → Contains (cond c xs []) y
in_chosen true xs y e h = h
in_chosen false xs y e h = cc

made_version : (numbers : List (Option ℕ)) (ask : Ask) (t n : ℕ) (file : Option ℕ) → file ≡ Some t → ask.weak ≡ false → host_at numbers t ≡ Some n → version_asked numbers ask file ≡ Some (record { lib = n; version = ask.name })
made_version numbers ask t n file is weak at =
    ap (version_asked numbers ask) is
    ∙ ap (λ w. cond w None (option_map (λ (lib : ℕ). record { lib = lib; version = ask.name }) (host_at numbers t))) weak
    ∙ ap (option_map (λ (lib : ℕ). record { lib = lib; version = ask.name })) at

in_run : (faces : List Face) (numbers : List (Option ℕ)) (run : Run) (j : ℕ) (ask : Ask) (v : RecVersion) (face : Face) → host_at numbers j ≡ None → face_at faces run j ≡ Some face → Contains face.asks ask → asked_version faces numbers run j ask ≡ Some v → Contains (versions_by faces numbers run j) v
unfolding versions_by
in_run faces numbers run j ask v face none face_is c made =
    in_chosen (is_none (host_at numbers j)) (filter_map (asked_version faces numbers run j) (asks_in (face_at faces run j))) v (ap is_none none)
    (in_filter_map (asked_version faces numbers run j) (asks_in (face_at faces run j)) ask v (subst (λ f. Contains (asks_in f) ask) (sym face_is) c) made)

in_record : (b : Building) (run : Run) (j : ℕ) (v : RecVersion) → Contains b.runs run → j < length run.objs → Contains (versions_by b.faces (host_numbers b.split.hosts run) run j) v → Contains (record_in b).versions v
unfolding record_in
in_record b run j v among less c =
    kept version_cmp version_exact (flat_map (versions_of_run b.faces b.split.hosts) b.runs) v
    (in_flat_map (versions_of_run b.faces b.split.hosts) b.runs run v among
    (in_flat_map (versions_by b.faces (host_numbers b.split.hosts run) run) (up_to (length run.objs)) j v (at_place (up_to (length run.objs)) j j (number_at (length run.objs) j less)) c))

module _ (b : Building) (names : List (List ℕ)) (split_is : split_of b.faces b.runs names ≡ Ok b.split) (over : All (IsRunOver b.faces) b.runs) (run : Run) (among : Contains b.runs run) (opens : List (List ℕ)) (loaded : Loaded) (ends : List Loaded) (run_is : IsRunOf b.faces opens loaded ends run) (setting : Setting) (there : World) (meets : HostMeets face_or_flaw setting there (record_in b)) (objs_there : List Object) (count : length objs_there ≡ length loaded.objs) (hosts_there : (j : ℕ) (o q : Object) → 0 < j → is_bundled_in b run j ≡ false → slice_get loaded.objs j ≡ Some o → slice_get objs_there j ≡ Some q → IsHostThere b run setting there j o q) where
  pub versions_there : (j k t : ℕ) (o : Object) (ask : Ask) → is_written (is_bundled_in b run) j ≡ true → slice_get loaded.objs j ≡ Some o → slice_get o.face.asks k ≡ Some ask → ask.weak ≡ false → version_file_of b.faces run j ask.file ≡ Some t → is_written (is_bundled_in b run) t ≡ false → HasVersion objs_there t ask.name
  versions_there j k t o ask written h a weak file host q g =
      let p = there_too objs_there loaded.objs t q (sym count) g in
      let w = unwritten (is_bundled_in b run) t host in
      let n = is_numbered b names split_is over run among opens loaded ends run_is setting there t p.0 q p.1 (hosts_there t p.0 q w.0 w.1 p.1 g) in
      let x = stands_here b.faces opens loaded ends run run_is j o h in
      let v : RecVersion = record { lib = n.number; version = ask.name } in
      let made : asked_version b.faces (host_numbers b.split.hosts run) run j ask ≡ Some v = made_version (host_numbers b.split.hosts run) ask t n.number (version_file_of b.faces run j ask.file) file weak n.at in
      let none = written_none b names split_is over run among j x.obj written x.stands in
      let c = in_run b.faces (host_numbers b.split.hosts run) run j ask v o.face none x.face (at_place o.face.asks k ask a) made in
      version_there setting there (record_in b) meets v q (in_record b run j v among (slice_get_within run.objs j x.obj x.stands) c) n.object
