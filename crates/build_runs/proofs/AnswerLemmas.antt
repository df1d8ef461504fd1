-- What is known of the runs of all programs, from their load lists, the check of their versions, and the order of faces.
use Rattle.std.proofs.Common.{◌≡◌, ◌∙◌, sym, subst, ℕ, List, None, All}
use Rattle.std.specs.List.{AllZip}
use Rattle.load_model.specs.Opening.{AreFew}
use Rattle.load_model.specs.Runs.{IsRunOver}
use Rattle.load_model.specs.VersionCheck.{first_unmet}
use Rattle.load_model.specs.World.{World}
use Rattle.load_model.specs.declared.faces.Face.{Face}
use Rattle.load_model.specs.declared.runs.Run.{Run}
use Rattle.load_model.specs.declared.setting.Setting.{Setting}
use Rattle.load_requests.proofs.AskingPlaces.{all_at}
use Rattle.loader_replay.specs.declared.stops.ReplayStop.{ReplayStop}
use Rattle.tree_opener.specs.Names.{IsFaceFor}
use Rattle.build_runs.proofs.SameRunLemmas.{run_of, safe_run, unmet_same}
use Rattle.build_runs.proofs.ZipLemmas.{zip_having, zip_right, zip_through}
use Rattle.build_runs.specs.Answering.{AreSafeRuns, IsSafeRun}
use Rattle.build_runs.specs.BuildRuns.{AreRuns, IsRunFor}
use Rattle.build_runs.specs.Checking.{IsFirstUnmetRun}
use Rattle.build_runs.specs.Loading.{IsListFor, IsSafeList}
use Rattle.build_runs.specs.Ordering.{ArePutInOrder, IsSameRun}
use Rattle.build_runs.specs.declared.programs.Start.{Start}

module _ (faces : List Face) (programs : List Start) (runs : List Run) where
  pub lists_over : AllZip (IsSafeList faces) programs runs → All (IsRunOver faces) runs
  lists_over = zip_right (IsSafeList faces) (IsRunOver faces) (λ program run safe. safe.over) programs runs

  pub runs_over : AllZip (IsSafeRun faces) programs runs → All (IsRunOver faces) runs
  runs_over = zip_right (IsSafeRun faces) (IsRunOver faces) (λ program run safe. safe.over) programs runs

  -- runs whose versions are met
  pub safe_runs : AllZip (IsSafeList faces) programs runs → All (λ run. first_unmet faces run ≡ None) runs → AllZip (IsSafeRun faces) programs runs
  safe_runs safe met =
      zip_having (IsSafeList faces) (IsSafeRun faces) (λ run. first_unmet faces run ≡ None)
      (λ program run list m. record { over = list.over; loaders = list.loaders; opens = list.opens; met = m })
      programs runs safe (λ k run g. all_at (λ run. first_unmet faces run ≡ None) runs k run met g)

  pub met_runs : (setting : Setting) (world : World) → AllZip (IsListFor setting world faces) programs runs → All (λ run. first_unmet faces run ≡ None) runs → AllZip (IsRunFor setting world faces) programs runs
  met_runs setting world lists met =
      zip_having (IsListFor setting world faces) (IsRunFor setting world faces) (λ run. first_unmet faces run ≡ None)
      (λ program run loads m. record { loads = loads; met = m })
      programs runs lists (λ k run g. all_at (λ run. first_unmet faces run ≡ None) runs k run met g)

-- the same by equal names
pub lists_over_so : (faces same : List Face) (programs : List Start) (runs copies : List Run) → same ≡ faces → copies ≡ runs → AllZip (IsSafeList faces) programs runs → All (IsRunOver same) copies
lists_over_so faces same programs runs copies e f safe =
    subst (λ fs. All (IsRunOver fs) copies) (sym e) (subst (λ rs. All (IsRunOver faces) rs) (sym f) (lists_over faces programs runs safe))

pub met_so : (faces same : List Face) (runs copies : List Run) → same ≡ faces → copies ≡ runs → All (λ run. first_unmet same run ≡ None) copies → All (λ run. first_unmet faces run ≡ None) runs
met_so faces same runs copies e f met =
    subst (λ fs. All (λ run. first_unmet fs run ≡ None) runs) e (subst (λ rs. All (λ run. first_unmet same run ≡ None) rs) f met)

pub unmet_so : (faces same : List Face) (runs copies : List Run) (stop : ReplayStop) → same ≡ faces → copies ≡ runs → IsFirstUnmetRun same copies stop → IsFirstUnmetRun faces runs stop
unmet_so faces same runs copies stop e f unmet =
    subst (λ fs. IsFirstUnmetRun fs runs stop) e (subst (λ rs. IsFirstUnmetRun same rs stop) f unmet)

module _ (faces kept : List Face) (programs : List Start) (runs new : List Run) (order : ArePutInOrder faces runs kept new) where
  run_for : (setting : Setting) (world : World) (program : Start) (run other : Run) → IsRunFor setting world faces program run → IsSameRun faces kept run other → IsRunFor setting world kept program other
  run_for setting world program run other is same = record {
    loads = record {
      loaded = is.loads.loaded;
      ends = is.loads.ends;
      list = is.loads.list;
      run_is = run_of faces kept run other same program.opens is.loads.loaded is.loads.ends is.loads.run_is;
    };
    met = unmet_same faces kept run other same ∙ is.met;
  }

  -- the runs of a build, once their faces are in order
  pub runs_in_order : (setting : Setting) (world : World) → AllZip (IsRunFor setting world faces) programs runs → AreRuns setting world programs kept new
  runs_in_order setting world are = record {
    each = zip_through (IsRunFor setting world faces) (IsSameRun faces kept) (IsRunFor setting world kept) (run_for setting world) programs runs new are order.same;
    in_order = order.in_order;
  }

  safe_each : AllZip (IsSafeRun faces) programs runs → AllZip (IsSafeRun kept) programs new
  safe_each safe = zip_through (IsSafeRun faces) (IsSameRun faces kept) (IsSafeRun kept) (λ program run other is same. safe_run faces kept run other same program is) programs runs new safe order.same

  pub safe_in_order : (machine same : ℕ) → same ≡ machine → AllZip (IsSafeRun faces) programs runs → All (IsFaceFor same) kept → AreFew kept → AreSafeRuns machine programs kept new
  safe_in_order machine same e safe known few = record { each = safe_each safe; in_order = order.in_order; known = subst (λ m. All (IsFaceFor m) kept) e known; few = few }

  pub over_in_order : AllZip (IsSafeRun faces) programs runs → All (IsRunOver kept) new
  over_in_order safe = runs_over kept programs new (safe_each safe)
