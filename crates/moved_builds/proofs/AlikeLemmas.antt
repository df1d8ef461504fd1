-- The objects of a directory at its place bind and ask as here.
use Rattle.std.proofs.Common.{◌≡◌, ℕ, ◌<◌, List, true, false, Some, length, slice_get}
use Rattle.app_config.specs.declared.config.Config.{Config}
use Rattle.build_plan.specs.Building.{Building}
use Rattle.build_runs.specs.declared.programs.Start.{Start}
use Rattle.build_texts.specs.Texts.{record_in, replay_in}
use Rattle.host_list.specs.Meeting.{HostMeets}
use Rattle.load_model.specs.Faces.{face_or_flaw}
use Rattle.load_model.specs.LoadList.{Loaded, Object}
use Rattle.load_model.specs.Runs.{need_targets}
use Rattle.load_model.specs.World.{World}
use Rattle.load_model.specs.declared.runs.Run.{Run}
use Rattle.load_model.specs.declared.setting.Setting.{Setting}
use Rattle.moved_runs.specs.Alike.{IsAlike}
use Rattle.build_laws.specs.BuiltRuns.{IsRunIn}
use Rattle.build_laws.specs.Renaming.{is_bundled_in, name_in}
use Rattle.moved_builds.proofs.AskedThereLemmas.{asks_there}
use Rattle.build_laws.proofs.BesideLemmas.{IsHostThere, IsLibThere, IsProgramThere}
use Rattle.met_hosts.proofs.LookLemmas.{looks_there}
use Rattle.met_hosts.proofs.OwnAskLemmas.{own_asks_there}
use Rattle.met_hosts.proofs.RecordedVersionLemmas.{versions_there}
use Rattle.build_laws.proofs.RunInLemmas.{run_there}
use Rattle.moved_builds.proofs.SymbolsKeptLemmas.{symbols_there}

module _ (world : World) (config : Config) (b : Building) (number : ℕ) (start : Start) (run : Run) (path : List ℕ) (at : IsRunIn world config b number start run path) (setting : Setting) (there : World) (meets : HostMeets face_or_flaw setting there (record_in b)) (objs_there : List Object) where
  abbrev loaded : Loaded
  loaded = at.plays.loads.loaded

  module _
      (count : length objs_there ≡ length loaded.objs)
      (program_there : (o q : Object) → slice_get loaded.objs 0 ≡ Some o → slice_get objs_there 0 ≡ Some q → IsProgramThere b run o q)
      (libs_there : (j : ℕ) (o q : Object) → 0 < j → is_bundled_in b run j ≡ true → slice_get loaded.objs j ≡ Some o → slice_get objs_there j ≡ Some q → IsLibThere b run j o q)
      (hosts_there : (j : ℕ) (o q : Object) → 0 < j → is_bundled_in b run j ≡ false → slice_get loaded.objs j ≡ Some o → slice_get objs_there j ≡ Some q → IsHostThere b run setting there j o q)
      -- needs of host libraries are the names of host libraries
      (host_need : (j e t : ℕ) (o : Object) (name : List ℕ) → 0 < j → is_bundled_in b run j ≡ false → slice_get loaded.objs j ≡ Some o → slice_get o.face.needs e ≡ Some name → slice_get (need_targets loaded j) e ≡ Some t → (0 < t) × (is_bundled_in b run t ≡ false) × (name_in b run t ≡ name))
    where
      pub alike : IsAlike b.faces (replay_in b.faces run) loaded (name_in b run) (is_bundled_in b run) objs_there
      alike =
          let among = run_there world config b number start run path at in
          let loads = at.plays.loads in
          record {
            symbols = symbols_there b run loaded objs_there program_there libs_there;
            asks = asks_there world config b number start run path at objs_there program_there libs_there;
            versions = versions_there b config.names at.builds.plan.split at.over run among start.opens loaded loads.ends loads.run_is setting there meets objs_there count hosts_there;
            looks = looks_there b config.names at.builds.plan.split at.over run among start.opens loaded loads.ends loads.run_is setting there meets objs_there hosts_there;
            own_asks = own_asks_there b config.names at.builds.plan.split at.over run among start.opens loaded loads.ends loads.run_is setting there meets objs_there count hosts_there host_need;
          }
