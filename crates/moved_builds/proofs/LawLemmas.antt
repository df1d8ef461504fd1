-- The laws of builds at a place, from what their outcome says.
use Rattle.std.proofs.Common.{◌≡◌, ◌∙◌, sym, ap, refl, subst, ℕ, ◌<◌, List, false, Some, length, map, slice_get}
use Rattle.std.specs.List.{Contains}
use Rattle.app_config.specs.declared.config.Config.{Config}
use Rattle.appdir_build.specs.Files.{files_of}
use Rattle.appdir_build.specs.Outcome.{IsPackage, Package, package_of}
use Rattle.build_plan.specs.Building.{Building, starts_of}
use Rattle.build_runs.specs.BuildRuns.{IsRunFor}
use Rattle.build_runs.specs.declared.programs.Start.{Start}
use Rattle.build_runs.proofs.ZipLemmas.{zip_back}
use Rattle.build_texts.specs.Texts.{record_in, replay_in}
use Rattle.host_list.specs.Recording.{recorded_lib}
use Rattle.host_record.specs.Said.{lib_names}
use Rattle.host_record.specs.declared.records.RecLib.{RecLib}
use Rattle.lib_closure.proofs.ContainedLemmas.{at_place, in_map}
use Rattle.load_model.specs.Candidates.{IsOpenedIn}
use Rattle.load_model.specs.Faces.{face_or_flaw}
use Rattle.load_model.specs.Joined.{joined}
use Rattle.load_model.specs.LoadList.{Loaded, Object}
use Rattle.load_model.specs.Loads.{IsLoadList}
use Rattle.load_model.specs.World.{World}
use Rattle.load_model.specs.declared.runs.Obj.{Obj}
use Rattle.load_model.specs.declared.runs.Run.{Run}
use Rattle.load_model.specs.declared.setting.Setting.{Setting}
use Rattle.load_model.proofs.LoadLists.{at_most_one}
use Rattle.moved_runs.specs.Moved.{all_renamed, loaded_there}
use Rattle.moved_runs.specs.OpenedThere.{MayBeOpened}
use Rattle.moved_runs.specs.Places.{IsMoved}
use Rattle.moved_runs.specs.SameRuns.{RunsSame}
use Rattle.moved_runs.proofs.MovingLemmas.{moved_list}
use Rattle.moved_runs.proofs.OpenedLemmas.{moved_opens}
use Rattle.moved_runs.proofs.SameRunLemmas.{runs_same}
use Rattle.build_laws.specs.BuiltRuns.{IsRunIn}
use Rattle.build_laws.specs.Sources.{IsSource}
use Rattle.moved_builds.specs.Homes.{IsHome}
use Rattle.build_laws.specs.Renaming.{IsProgramOf, as_items, is_bundled_in, name_in}
use Rattle.moved_builds.proofs.AlikeLemmas.{alike}
use Rattle.build_laws.proofs.BesideLemmas.{objects_for}
use Rattle.build_laws.proofs.GoingLemmas.{host_needs}
use Rattle.build_laws.proofs.NamesLemmas.{host_of}
use Rattle.build_laws.proofs.OpensLemmas.{opens_stay}
use Rattle.build_laws.proofs.OverLemmas.{runs_over}
use Rattle.moved_builds.proofs.PlacedLemmas.{as_host, as_lib, as_program, record_libs, there_count}
use Rattle.moved_builds.proofs.PremiseLemmas.{moved}

files_are : (world : World) (config : Config) (b : Building) (made : Package) → made ≡ package_of world config b → made.files ≡ files_of world config b
unfolding package_of
files_are world config b made h = ap (λ (p : Package). p.files) h

module _ (world : World) (config : Config) (made : Package) (number : ℕ) (start : Start) (run : Run) (path : List ℕ) (ready : IsPackage world config made) (source : IsSource world config) (is : IsProgramOf config ready.building number start run path) where
  abbrev b : Building
  b = ready.building

  -- The run of a program of the package.
  pub run_in : IsRunIn world config b number start run path
  run_in =
      let w = zip_back (IsRunFor config.setting world b.faces) (starts_of config) b.runs number run ready.builds.runs.each is.runs in
      let both : Some w.0 ≡ Some start = sym w.1 ∙ is.starts in
      let one : w.0 ≡ start = cc in
      let runs_for : IsRunFor config.setting world b.faces start run = subst (λ (s : Start). IsRunFor config.setting world b.faces s run) one w.2 in
      record {
        source = source;
        builds = ready.builds;
        over = runs_over config.setting world b.faces (starts_of config) b.runs ready.builds.runs.each;
        is = is;
        plays = record { loads = runs_for.loads; met = runs_for.met; binds = refl };
      }

  abbrev loaded : Loaded
  loaded = run_in.plays.loads.loaded

  -- Names that lie on the host are recorded.
  pub recorded : (j : ℕ) (x : Obj) → 0 < j → slice_get run.objs j ≡ Some x → is_bundled_in b run j ≡ false → Contains (lib_names (record_in b).libs) (name_in b run j)
  recorded j x some h unbundled =
      let w = host_of world config b number start run path run_in j x some h unbundled in
      let c = in_map (recorded_lib b.faces) b.split.hosts w.host.host (at_place b.split.hosts w.host.place w.host.host w.host.host_is) in
      subst (λ ls. Contains (lib_names ls) (name_in b run j)) (sym (record_libs b))
      (subst (Contains (lib_names (map (recorded_lib b.faces) b.split.hosts))) (sym w.name) (in_map (λ (lib : RecLib). lib.name) (map (recorded_lib b.faces) b.split.hosts) (recorded_lib b.faces w.host.host) c))

  module _ (there : World) (setting : Setting) (place : List ℕ) (home : IsHome there config b setting place made.files) where
    abbrev those : List Object
    those = objects_for setting there place path b run loaded.objs

    home_of : IsHome there config b setting place (files_of world config b)
    home_of = subst (IsHome there config b setting place) (files_are world config b made ready.package_is) home

    pub package_moved : IsMoved face_or_flaw setting there place (as_items made.files) (name_in b run) (is_bundled_in b run) path loaded those
    package_moved =
        subst (λ fs. IsMoved face_or_flaw setting there place (as_items fs) (name_in b run) (is_bundled_in b run) path loaded those) (sym (files_are world config b made ready.package_is))
        (moved world config b number start run path run_in ready.written ready.listed setting there place home_of)

    abbrev pub moved_here : Loaded
    moved_here = record { objs = those; log = all_renamed (name_in b run) loaded.log }

    abbrev pub moved_ends : List Loaded
    moved_ends = map (loaded_there (name_in b run) those) run_in.plays.loads.ends

    pub list_there : IsLoadList face_or_flaw setting there (joined place path) start.opens moved_here moved_ends
    list_there =
        subst (λ ns. IsLoadList face_or_flaw setting there (joined place path) ns moved_here moved_ends) (opens_stay world config b number start run path run_in)
        (moved_list face_or_flaw config.setting setting world there start.path start.opens loaded run_in.plays.loads.ends run_in.plays.loads.list place (as_items made.files) (name_in b run) (is_bundled_in b run) path those package_moved)

    pub opens_only : (other : Loaded) (ends : List Loaded) (opened : List ℕ) → IsLoadList face_or_flaw setting there (joined place path) start.opens other ends → IsOpenedIn face_or_flaw setting there (joined place path) other opened → MayBeOpened face_or_flaw setting there place (name_in b run) (is_bundled_in b run) (length run.objs) path opened
    opens_only other ends opened list h =
        let same = (at_most_one face_or_flaw setting there (joined place path) start.opens other moved_here ends moved_ends list list_there).0 in
        subst (λ n. MayBeOpened face_or_flaw setting there place (name_in b run) (is_bundled_in b run) n path opened) (sym run_in.plays.loads.run_is.count)
        (moved_opens face_or_flaw config.setting setting world there start.path start.opens loaded run_in.plays.loads.ends place (as_items made.files) (name_in b run) (is_bundled_in b run) path those run_in.plays.loads.list package_moved opened
        (subst (λ l. IsOpenedIn face_or_flaw setting there (joined place path) l opened) same h))

    -- Each program runs the same there.
    pub same_there : RunsSame face_or_flaw setting there place (name_in b run) (is_bundled_in b run) path start.opens b.faces (replay_in b.faces run)
    same_there =
        runs_same face_or_flaw config.setting setting world there start.path start.opens b.faces (replay_in b.faces run) run_in.plays place (as_items made.files) (name_in b run) (is_bundled_in b run) path those package_moved
        (alike world config b number start run path run_in setting there home.meets those
        (there_count world config b number start run path run_in ready.written setting there place home_of)
        (as_program world config b number start run path run_in ready.written setting there place home_of)
        (as_lib world config b number start run path run_in ready.written setting there place home_of)
        (as_host world config b number start run path run_in ready.written setting there place home_of)
        (host_needs world config b number start run path run_in))
        (opens_stay world config b number start run path run_in)
