-- A build at a place of another world meets the premises of moved programs.
use Rattle.std.proofs.Common.{◌≡◌, ◌∙◌, sym, ap, subst, ℕ, zero, suc, ◌<◌, ◌||◌, List, true, false, Some, None, length, slice_get, arith, inl, inr}
use Rattle.std.specs.Prelude.{IsUtf8}
use Rattle.std.specs.List.{Contains}
use Rattle.std.proofs.lemmas.Bool.{both_ways, cases_Bool, cases_lt, or_left, or_right}
use Rattle.std.proofs.lemmas.List.Elements.{All-contains}
use Rattle.std.proofs.lemmas.Option.{slice_get_within}
use Rattle.app_config.specs.declared.config.Config.{Config}
use Rattle.appdir_build.specs.Files.{files_of}
use Rattle.appdir_build.specs.Objects.{first_unwritten}
use Rattle.appdir_build.specs.Outcome.{listing_stop}
use Rattle.build_plan.specs.Building.{Building}
use Rattle.build_runs.specs.declared.programs.Start.{Start}
use Rattle.build_texts.specs.Places.{program_places}
use Rattle.build_texts.specs.Texts.{record_in}
use Rattle.host_list.specs.Recording.{recorded_lib}
use Rattle.lib_closure.specs.Objects.{Occurrence, occurrence_at}
use Rattle.lib_closure.specs.declared.splits.HostLib.{HostLib}
use Rattle.lib_closure.proofs.ContainedLemmas.{any_in, at_place, place_of}
use Rattle.lib_closure.proofs.PlacedLemmas.{occurs, standing_at}
use Rattle.load_model.specs.Faces.{face_or_flaw}
use Rattle.load_model.specs.LoadList.{Asked, Loaded, Object}
use Rattle.load_model.specs.Runs.{IsRunOver, target_in}
use Rattle.load_model.specs.World.{World}
use Rattle.load_model.specs.declared.runs.Obj.{Obj}
use Rattle.load_model.specs.declared.runs.Run.{Run}
use Rattle.load_model.specs.declared.setting.Setting.{Setting}
use Rattle.load_model.proofs.AskedNeeds.{map_get}
use Rattle.load_model.proofs.OneRun.{there as element}
use Rattle.moved_runs.specs.Placed.{HasPath, lib_place}
use Rattle.moved_runs.specs.Places.{IsMoved, LeadsToLibs}
use Rattle.moved_runs.proofs.PhaseLemmas.{IsOpened}
use Rattle.load_model.specs.Loads.{goes_to}
use Rattle.object_changes.specs.Changing.{change_of_lib, change_of_program, has_bundled_need, has_bundled_root, run_path_of_libs}
use Rattle.object_changes.specs.NamedFiles.{all_files_named}
use Rattle.object_changes.specs.Names.{goes_to_bundled}
use Rattle.object_changes.proofs.ChangeLemmas.{path_at}
use Rattle.object_changes.proofs.StandingLemmas.{all_at}
use Rattle.ports.specs.declared.folders.MemFile.{MemFile}
use Rattle.build_laws.specs.BuiltRuns.{IsRunIn}
use Rattle.moved_builds.specs.Homes.{IsHome}
use Rattle.build_laws.specs.Renaming.{as_items, is_bundled_in, name_in}
use Rattle.build_laws.proofs.BesideLemmas.{objects_for}
use Rattle.build_laws.proofs.FaceLemmas.{new_texts}
use Rattle.build_laws.proofs.GoingLemmas.{first_bundled, host_need, own_bundled, stands}
use Rattle.met_hosts.proofs.HostLemmas.{files_apart}
use Rattle.build_laws.proofs.LoadedLemmas.{asked_as, ids_differ, target_there, went}
use Rattle.moved_builds.proofs.LyingLemmas.{libs_alone, program_off_libs}
use Rattle.build_laws.proofs.NamesLemmas.{distinct, host_of, kinds_apart, lib_of, name_below, never}
use Rattle.build_laws.proofs.NeedsLemmas.{beside, bundled_by}
use Rattle.moved_builds.proofs.PlacedLemmas.{IsLibPlaced, IsProgramPlaced, chosen_so, first_place, host_file, host_placed, host_soname, lib_placed, lib_soname, lib_texts, lib_written, libs_lead, program_leads, program_placed, program_texts, program_written, record_libs, there_count}
use Rattle.build_laws.proofs.RunInLemmas.{obj_here, run_there}
use Rattle.build_laws.proofs.TableLemmas.{names_are_texts}

module _ (world : World) (config : Config) (b : Building) (number : ℕ) (start : Start) (run : Run) (path : List ℕ) (at : IsRunIn world config b number start run path) (written : first_unwritten world b ≡ None) (listed : listing_stop world config b ≡ None) (setting : Setting) (there : World) (place : List ℕ) (home : IsHome there config b setting place (files_of world config b)) where
  abbrev loaded : Loaded
  loaded = at.plays.loads.loaded

  abbrev files : List MemFile
  files = files_of world config b

  abbrev those : List Object
  those = objects_for setting there place path b run loaded.objs

  here : Contains b.runs run
  here = run_there world config b number start run path at

  over : IsRunOver b.faces run
  over = All-contains (IsRunOver b.faces) b.runs run at.over here

  from_here : (j : ℕ) (q : Object) → slice_get those j ≡ Some q → (o : Object) × (slice_get loaded.objs j ≡ Some o)
  from_here j q h =
      let within = slice_get_within those j q h in
      let many = there_count world config b number start run path at written setting there place home in
      element loaded.objs j (omega (arith, within, many))

  -- ---- names

  bundled_texts : (j : ℕ) → 0 < j → j < length loaded.objs → is_bundled_in b run j ≡ true → IsUtf8 (name_in b run j)
  bundled_texts j some less is =
      let o = element loaded.objs j less in
      let x = obj_here world config b number start run path at j o.0 o.1 in
      let w = lib_of world config b number start run path at j x.obj some x.stands is in
      subst IsUtf8 (sym w.name) (all_at IsUtf8 b.layout.libs w.lib.place w.lib.name (names_are_texts world config b number start run path at) w.lib.named)

  off_list : (j : ℕ) → 0 < j → j < length loaded.objs → is_bundled_in b run j ≡ false → HasPath (as_items files) (lib_place (name_in b run j)) → ⊥
  off_list j some less is has =
      let o = element loaded.objs j less in
      let x = obj_here world config b number start run path at j o.0 o.1 in
      let w = host_of world config b number start run path at j x.obj some x.stands is in
      let c = libs_alone world config b (name_in b run j) listed (name_below world config b number start run path at j some less) has in
      kinds_apart world config b number start run path at c.0 (name_in b run j) w.host.place w.host.host (place_of b.layout.libs (name_in b run j) c) w.host.host_is w.name

  -- ---- files of hosts

  recorded_at : (k : ℕ) (host : HostLib) → slice_get b.split.hosts k ≡ Some host → slice_get (record_in b).libs k ≡ Some (recorded_lib b.faces host)
  recorded_at k host h = ap (λ ls. slice_get ls k) (record_libs b) ∙ map_get (recorded_lib b.faces) b.split.hosts k host h

  host_ids : (i j : ℕ) (x y : Object) → 0 < i → 0 < j → is_bundled_in b run i ≡ false → is_bundled_in b run j ≡ false → slice_get those i ≡ Some x → slice_get those j ≡ Some y → x.id ≡ y.id → i ≡ j
  host_ids i j x y si sj ui uj hx hy same =
      let o = from_here i x hx in
      let p = from_here j y hy in
      let v = host_placed world config b number start run path at written setting there place home i o.0 x si ui o.1 hx in
      let w = host_placed world config b number start run path at written setting there place home j p.0 y sj uj p.1 hy in
      let ids : v.file.it.id ≡ w.file.it.id = ap (λ (z : Object). z.id) (sym v.same) ∙ same ∙ ap (λ (z : Object). z.id) w.same in
      let vi = recorded_at v.host.host.place v.host.host.host v.host.host.host_is in
      let wj = recorded_at w.host.host.place w.host.host.host w.host.host.host_is in
      elim (cases_lt v.host.host.place w.host.host.place) [
        | inl less ↦ absurd (files_apart setting there home.dirs_normal (record_in b) home.meets v.host.host.place w.host.host.place (recorded_lib b.faces v.host.host.host) (recorded_lib b.faces w.host.host.host) v.file.it w.file.it less vi wj v.file.found w.file.found ids)
        | inr more ↦ elim (cases_lt w.host.host.place v.host.host.place) [
          | inl less ↦ absurd (files_apart setting there home.dirs_normal (record_in b) home.meets w.host.host.place v.host.host.place (recorded_lib b.faces w.host.host.host) (recorded_lib b.faces v.host.host.host) w.file.it v.file.it less wj vi w.file.found v.file.found (sym ids))
          | inr most ↦
              let places : v.host.host.place ≡ w.host.host.place = omega (arith, more, most) in
              let both : Some v.host.host.host ≡ Some w.host.host.host = sym v.host.host.host_is ∙ ap (slice_get b.split.hosts) places ∙ w.host.host.host_is in
              let one : v.host.host.host ≡ w.host.host.host = cc in
              ids_differ face_or_flaw config.setting world start.path start.opens loaded at.plays.loads.ends at.plays.loads.list i j o.0 p.0 o.1 p.1
              (sym v.stands_here.id ∙ sym v.host.host.id_is ∙ ap (λ (g : HostLib). g.id) one ∙ w.host.host.id_is ∙ w.stands_here.id)
        ]
      ]

  known_sonames : (j : ℕ) (q : Object) (s : List ℕ) → 0 < j → slice_get those j ≡ Some q → q.face.soname ≡ Some s → s ≡ name_in b run j
  known_sonames j q s some hq e =
      let o = from_here j q hq in
      elim (cases_Bool (is_bundled_in b run j)) [
        | inl is ↦ lib_soname world config b number start run path at written setting there place home j o.0 q (lib_placed world config b number start run path at written setting there place home j o.0 q some is o.1 hq) s e
        | inr is ↦ host_soname world config b number start run path at written setting there place home j o.0 q (host_placed world config b number start run path at written setting there place home j o.0 q some is o.1 hq) s e
      ]

  -- ---- what asks for a bundled library has a run path

  program_has : (o q : Object) (p : IsProgramPlaced world config b number start run path at written setting there place home o q) → (has_bundled_need b.split b.layout p.made.stands || has_bundled_root b.split b.layout p.made.stands) ≡ true → LeadsToLibs face_or_flaw setting there place (as_items files) q
  program_has o q p has =
      let texts = new_texts (change_of_program b.split b.layout (path_at number) p.made.stands) o q p.lies.by in
      let of_change = program_texts b (path_at number) p.made.stands in
      program_leads setting there place files config number path q at.source.tools home.place_normal at.is.lies p.lies.item.lies
      (chosen_so (has_bundled_need b.split b.layout p.made.stands || has_bundled_root b.split b.layout p.made.stands) (path_at number) q.face.runpath (texts.runpath ∙ of_change.2) has)

  lib_has : (j : ℕ) (o q : Object) (p : IsLibPlaced world config b number start run path at written setting there place home j o q) → has_bundled_need b.split b.layout p.made.first ≡ true → LeadsToLibs face_or_flaw setting there place (as_items files) q
  lib_has j o q p has =
      let texts = new_texts (change_of_lib b.split b.layout (all_files_named b.split b.layout b.faces b.runs) p.made.first) o q p.lies.by in
      let of_change = lib_texts b p.made.first in
      libs_lead world config b number start run path at written setting there place home j o q p
      (chosen_so (has_bundled_need b.split b.layout p.made.first) run_path_of_libs q.face.runpath (texts.runpath ∙ of_change.2) has)

  need_leads : (by : ℕ) (o q : Object) (e : ℕ) (need : List ℕ) → slice_get loaded.objs by ≡ Some o → slice_get those by ≡ Some q → slice_get o.face.needs e ≡ Some need → 0 < target_in loaded.log need → is_bundled_in b run (target_in loaded.log need) ≡ true → LeadsToLibs face_or_flaw setting there place (as_items files) q
  need_leads zero o q e need ho hq g some is =
      let p = program_placed world config b number start run path at written setting there place home o q ho hq in
      let s = stands world config b number start run path at 0 o ho in
      let both : Some p.made.stands ≡ Some s.it = sym p.made.stands_at ∙ s.there in
      let one : p.made.stands ≡ s.it = cc in
      let has = own_bundled world config b number start run path at 0 o s ho e need g some is in
      program_has o q p (or_left (has_bundled_need b.split b.layout p.made.stands) (has_bundled_root b.split b.layout p.made.stands) (ap (has_bundled_need b.split b.layout) one ∙ has))
  need_leads (suc j) o q e need ho hq g some is =
      elim (cases_Bool (is_bundled_in b run (suc j))) [
        | inl lib ↦
            let p = lib_placed world config b number start run path at written setting there place home (suc j) o q (omega arith) lib ho hq in
            let first = first_place world config b number start run path at written setting there place home (suc j) o q p in
            lib_has (suc j) o q p (first_bundled world config b number start run path at (suc j) o p.made.first p.stands_here first ho e need g some is)
        | inr host ↦
            let p = host_placed world config b number start run path at written setting there place home (suc j) o q (omega arith) host ho hq in
            absurd (both_ways (is_bundled_in b run (target_in loaded.log need)) (host_need world config b number start run path at (suc j) o p.stands_here p.host ho e need g).0 is)
      ]

  root_has : (o : Occurrence) (t : ℕ) (x : Obj) → occurrence_at b.faces run 0 ≡ Some o → Contains run.roots t → slice_get run.objs t ≡ Some x → 0 < t → is_bundled_in b run t ≡ true → has_bundled_root b.split b.layout o ≡ true
  unfolding has_bundled_root
  root_has o t x ho root hx some is =
      let occ = occurs b.faces run 0 o ho in
      let p = standing_at b.faces run t x over hx in
      let lib = lib_of world config b number start run path at t x some hx is in
      any_in (goes_to_bundled b.split b.layout o) o.run.roots t (subst (λ (r : Run). Contains r.roots t) (sym occ.run_is) root)
      (bundled_by b o t p.it x.id lib.lib.lib (beside b.faces run 0 t o p.it occ p.at) (ap (λ (y : Obj). y.id) p.obj) lib.lib.found)

  open_leads : (m : ℕ) (a : Asked) (q : Object) → slice_get loaded.log m ≡ Some a → IsOpened (goes_to face_or_flaw config.setting world start.path) start.opens at.plays.loads.ends loaded m a.request → is_bundled_in b run a.target ≡ true → slice_get those 0 ≡ Some q → LeadsToLibs face_or_flaw setting there place (as_items files) q
  open_leads m a q g w is hq =
      let o = from_here 0 q hq in
      let p = program_placed world config b number start run path at written setting there place home o.0 q o.1 hq in
      let y = target_there face_or_flaw config.setting world start.path start.opens loaded at.plays.loads.ends at.plays.loads.list m a g in
      let x = obj_here world config b number start run path at a.target y.0 y.1 in
      let root : slice_get run.roots w.nth ≡ Some a.target =
      ap (λ ts. slice_get ts w.nth) at.plays.loads.run_is.roots ∙ map_get (target_in loaded.log) start.opens w.nth a.request.name w.name_is
      ∙ ap Some (went face_or_flaw config.setting world start.path start.opens loaded at.plays.loads.ends at.plays.loads.list m a g) in
      let has = root_has p.made.stands a.target x.obj p.made.stands_at (at_place run.roots w.nth a.target root) x.stands (never world config b number start run path at m a g) is in
      program_has o.0 q p (or_right (has_bundled_need b.split b.layout p.made.stands) (has_bundled_root b.split b.layout p.made.stands) has)

  askers : (m : ℕ) (a : Asked) (q : Object) → slice_get loaded.log m ≡ Some a → is_bundled_in b run a.target ≡ true → slice_get those a.request.by ≡ Some q → LeadsToLibs face_or_flaw setting there place (as_items files) q
  askers m a q g is hq =
      let to = went face_or_flaw config.setting world start.path start.opens loaded at.plays.loads.ends at.plays.loads.list m a g in
      let some = never world config b number start run path at m a g in
      elim (asked_as face_or_flaw config.setting world start.path start.opens loaded at.plays.loads.ends at.plays.loads.list m a g) [
        | inl w ↦ need_leads a.request.by w.0 q w.1 a.request.name w.2 hq w.3 (omega (arith, to, some)) (ap (is_bundled_in b run) to ∙ is)
        | inr w ↦ open_leads m a q g w is (ap (slice_get those) (sym w.by_program) ∙ hq)
      ]

  -- ---- all of them

  pub moved : IsMoved face_or_flaw setting there place (as_items files) (name_in b run) (is_bundled_in b run) path loaded those
  moved = record {
    place_normal = home.place_normal;
    dirs_normal = home.dirs_normal;
    placed = home.placed;
    apart = home.apart;
    never = never world config b number start run path at;
    names = name_below world config b number start run path at;
    distinct = distinct world config b number start run path at;
    texts = bundled_texts;
    off_list = off_list;
    program_apart = λ j some less is same. program_off_libs config path (name_in b run j) (at_place (program_places config) number path at.is.lies) same;
    count = there_count world config b number start run path at written setting there place home;
    program_is = program_written world config b number start run path at written setting there place home;
    bundled = lib_written world config b number start run path at written setting there place home;
    hosts = host_file world config b number start run path at written setting there place home;
    host_ids = host_ids;
    sonames = known_sonames;
    askers = askers;
  }
