-- Each opened name is the name of what it goes to.
use Rattle.std.proofs.Common.{◌≡◌, ◌∙◌, sym, ap, refl, subst, ℕ, List, [], ◌∷◌, Bool, true, false, Option, Some, None, bytes_eq, slice_get, take, zip, ◌++◌, inl, inr}
use Rattle.std.specs.Prelude.{not}
use Rattle.std.specs.List.{Contains, find}
use Rattle.std.specs.Option.{option_and_then, option_map}
use Rattle.answers.specs.First.{some_where}
use Rattle.app_config.specs.declared.config.Config.{Config}
use Rattle.appdir_build.proofs.FirstLemmas.{get_zip}
use Rattle.build_plan.specs.Building.{Building}
use Rattle.build_runs.specs.declared.programs.Start.{Start}
use Rattle.lib_closure.specs.declared.splits.HostLib.{HostLib}
use Rattle.lib_closure.specs.declared.splits.Member.{Member}
use Rattle.lib_closure.proofs.ContainedLemmas.{at_place, in_filter_map, in_flat_map, none_gives, none_passes}
use Rattle.lib_closure.proofs.PlacedLemmas.{bytes_same}
use Rattle.lib_closure.proofs.SplitLemmas.{none_first}
use Rattle.load_model.specs.Faces.{face_or_flaw}
use Rattle.load_model.specs.LoadList.{Loaded}
use Rattle.load_model.specs.Runs.{target_in}
use Rattle.load_model.specs.World.{World}
use Rattle.load_model.specs.declared.runs.Obj.{Obj}
use Rattle.load_model.specs.declared.runs.Run.{Run}
use Rattle.load_model.proofs.AskedNeeds.{map_get}
use Rattle.load_model.proofs.TwoWorlds.{same_bytes}
use Rattle.moved_runs.specs.Moved.{new_name, new_names}
use Rattle.name_layout.specs.Layouts.{HasName, given_names, opened_name}
use Rattle.name_layout.specs.Openings.{Opening, bundled_stop, first_of_name, first_of_root, first_opening_stop, host_with, lib_with, name_given, opened_alias, opened_as_host, opening, opening_stop, openings, openings_of, renamed}
use Rattle.name_layout.specs.declared.stops.NameStop.{NameStop}
use Rattle.name_layout.specs.declared.stops.NameStop.TheVariants.{OpenAlias, TwoOpenNames}
use Rattle.name_layout.proofs.LawLemmas.{stop_none}
use Rattle.build_laws.specs.BuiltRuns.{IsRunIn}
use Rattle.build_laws.specs.Renaming.{name_in}
use Rattle.build_laws.proofs.LoadedLemmas.{opened_there}
use Rattle.build_laws.proofs.NamesLemmas.{all_objects_there, as_library}
use Rattle.build_laws.proofs.NeedsLemmas.{map_stays_by}
use Rattle.build_laws.proofs.RunInLemmas.{obj_here, run_there}

same_by : (c : Bool) (stop : NameStop) → some_where (not c) stop ≡ None → c ≡ true
same_by true stop h = refl
same_by false stop h = cc

module _ (world : World) (config : Config) (b : Building) (number : ℕ) (start : Start) (run : Run) (path : List ℕ) (at : IsRunIn world config b number start run path) where
  abbrev loaded : Loaded
  loaded = at.plays.loads.loaded

  abbrev opening_of : List ℕ → Obj → Opening
  opening_of name x = record { name = name; root = x.id }

  opening_there : (k t : ℕ) (name : List ℕ) (x : Obj) → slice_get start.opens k ≡ Some name → slice_get run.roots k ≡ Some t → slice_get run.objs t ≡ Some x → Contains (openings b.runs) (opening_of name x)
  unfolding openings
  opening_there k t name x hn ht hx =
      let named : slice_get run.opens k ≡ Some name = ap (λ ns. slice_get ns k) at.plays.loads.run_is.opened ∙ hn in
      let pair : slice_get (zip run.opens run.roots) k ≡ Some (name, t) = get_zip run.opens run.roots k name t named ht in
      let made : opening run (name, t) ≡ Some (opening_of name x) = ap (option_map (λ (o : Obj). opening_of name o)) hx in
      in_flat_map openings_of b.runs run (opening_of name x) (run_there world config b number start run path at)
      (in_filter_map (opening run) (zip run.opens run.roots) (name, t) (opening_of name x) (at_place (zip run.opens run.roots) k (name, t) pair) made)

  unstopped : (o : Opening) → Contains (openings b.runs) o → opening_stop b.split config.names b.runs o ≡ None
  unfolding first_opening_stop
  unstopped o c = none_gives (opening_stop b.split config.names b.runs) (openings b.runs) o (stop_none b.faces b.runs b.split config.names at.builds.plan.named) c

  host_opened : (o : Opening) (host : HostLib) → Contains (openings b.runs) o → host_with b.split o.root ≡ Some host → o.name ≡ host.name
  host_opened o host c found =
      let alias = opened_alias b.split config.names b.runs o in
      let both = none_first (alias (host_with b.split o.root)) (bundled_stop b.split config.names b.runs o (lib_with b.split o.root) ∷ []) (unstopped o c) in
      same_bytes o.name host.name (same_by (bytes_eq o.name host.name) (OpenAlias o.name host.name) (ap alias (sym found) ∙ both.0))

  renamed_by : (o : Opening) (lib : Member) (first : Option Opening) → renamed b.split config.names b.runs o lib first ≡ None → (e : Opening) → first ≡ Some e → o.name ≡ e.name
  renamed_by o lib None h e is = cc
  renamed_by o lib (Some f) h e is =
      let one : f ≡ e = cc in
      same_bytes o.name f.name (same_by (bytes_eq o.name f.name) (TwoOpenNames lib.path f.name o.name) h) ∙ ap (λ (g : Opening). g.name) one

  lib_unstopped : (o : Opening) (lib : Member) → Contains (openings b.runs) o → lib_with b.split o.root ≡ Some lib → renamed b.split config.names b.runs o lib (first_of_root b.split config.names b.runs o) ≡ None
  lib_unstopped o lib c found =
      let alias = opened_alias b.split config.names b.runs o (host_with b.split o.root) in
      let both = none_first alias (bundled_stop b.split config.names b.runs o (lib_with b.split o.root) ∷ []) (unstopped o c) in
      let stop = none_first (bundled_stop b.split config.names b.runs o (lib_with b.split o.root)) [] both.1 in
      let as_lib : bundled_stop b.split config.names b.runs o (Some lib) ≡ None = ap (bundled_stop b.split config.names b.runs o) (sym found) ∙ stop.0 in
      let given = name_given b.split config.names b.runs o lib (option_and_then (λ (e : Opening). lib_with b.split e.root) (first_of_name b.split config.names b.runs o)) in
      let listed = none_first (opened_as_host b.split config.names b.runs o) (renamed b.split config.names b.runs o lib (first_of_root b.split config.names b.runs o) ∷ given ∷ []) as_lib in
      (none_first (renamed b.split config.names b.runs o lib (first_of_root b.split config.names b.runs o)) (given ∷ []) listed.1).0

  found_by : (o : Opening) (lib : Member) (first : Option Opening) → Contains (openings b.runs) o → lib.id ≡ o.root → find (λ (e : Opening). bytes_eq lib.id e.root) (openings b.runs) ≡ first → (e : Opening) × (first ≡ Some e)
  found_by o lib (Some e) c same is = (e, refl)
  found_by o lib None c same is =
      let off = none_passes (λ (e : Opening). bytes_eq lib.id e.root) (openings b.runs) o is c in
      let clash : true ≡ false = sym (bytes_same lib.id o.root same) ∙ off in
      cc

  lib_opened : (o : Opening) (lib : Member) (place : ℕ) (name : List ℕ) → Contains (openings b.runs) o → lib_with b.split o.root ≡ Some lib → lib.id ≡ o.root → slice_get b.split.libs place ≡ Some lib → slice_get b.layout.libs place ≡ Some name → name ≡ o.name
  lib_opened o lib place name c found same hl hn =
      let first = found_by o lib (find (λ (e : Opening). bytes_eq lib.id e.root) (openings b.runs)) c same refl in
      let root : first_of_root b.split config.names b.runs o ≡ Some first.0 = ap (λ i. find (λ (e : Opening). bytes_eq i e.root) (openings b.runs)) (sym same) ∙ first.1 in
      let own = renamed_by o lib (first_of_root b.split config.names b.runs o) (lib_unstopped o lib c found) first.0 root in
      let opened : opened_name b.runs lib ≡ Some first.0.name = ap (option_map (λ (e : Opening). e.name)) first.1 in
      let has = at.builds.plan.layout.each place lib name hl hn in
      let is : name ≡ first.0.name = subst (HasName b.faces b.runs b.split config.names (given_names b.runs b.split ++ take place b.layout.libs) lib name) opened has in
      is ∙ sym own

  -- The name of an opened object is the name by which it was opened.
  root_named : (k : ℕ) (name : List ℕ) → slice_get start.opens k ≡ Some name → name_in b run (target_in loaded.log name) ≡ name
  root_named k name hn =
      let o = opened_there face_or_flaw config.setting world start.path start.opens loaded at.plays.loads.ends at.plays.loads.list k name hn in
      let t = target_in loaded.log name in
      let x = obj_here world config b number start run path at t o.0 o.1 in
      let root : slice_get run.roots k ≡ Some t = ap (λ ts. slice_get ts k) at.plays.loads.run_is.roots ∙ map_get (target_in loaded.log) start.opens k name hn in
      let c = opening_there k t name x.obj hn root x.stands in
      let library = (all_objects_there world config b number start run path at).opened run t x.obj (run_there world config b number start run path at) (at_place run.roots k t root) x.stands in
      elim (as_library world config b number start run path at t x.obj x.stands library) [
        | inl w ↦ w.name ∙ lib_opened (opening_of name x.obj) w.lib.lib w.lib.place w.lib.name c w.lib.found w.lib.id_is w.lib.lib_is w.lib.named
        | inr w ↦ w.name ∙ sym (host_opened (opening_of name x.obj) w.host.host c w.host.found)
      ]

  pub opens_stay : new_names (name_in b run) loaded.log start.opens ≡ start.opens
  opens_stay = map_stays_by (new_name (name_in b run) loaded.log) start.opens root_named
