-- The first stop of all programs, from that of one of them, and what it is answered as.
use Rattle.std.proofs.Common.{◌≡◌, ◌∙◌, refl, ℕ, zero, suc, ◌<◌, ◌≤◌, List, [], ◌∷◌, Option, Some, None, Err, All, take, slice_get, arith, subst, inl, inr}
use Rattle.std.specs.List.{AllZip}
use Rattle.answers.specs.Faults.{Rose}
use Rattle.answers.specs.Told.{WhereTold}
use Rattle.load_model.proofs.Places.{slice_get_front}
use Rattle.load_model.specs.Opening.{OnlyGrew, OpenerView}
use Rattle.load_model.specs.VersionCheck.{first_unmet}
use Rattle.load_model.specs.World.{World}
use Rattle.load_model.specs.declared.faces.Face.{Face}
use Rattle.load_model.specs.declared.opening.OpenFault.TheVariants.{Read, Damaged as OpensDamaged, NoMemory as OpensNoMemory}
use Rattle.load_model.specs.declared.refusals.LoadRefusal.{LoadRefusal}
use Rattle.load_model.specs.declared.runs.Run.{Run}
use Rattle.load_model.specs.declared.setting.Setting.{Setting}
use Rattle.load_order.specs.Answering.{IsLoadAnswer}
use Rattle.load_requests.specs.Loading.{IsRefusedBy, refusal_of}
use Rattle.load_requests.specs.declared.stops.LoadStop.{LoadStop}
use Rattle.load_requests.specs.declared.stops.LoadStop.TheVariants.{NoProgram, MissingLibrary, RelativeNeed, TokenInNeed, TooManyObjects, Search, NoMemory as LoadNoMemory}
use Rattle.loader_replay.specs.Answering.{replay_refusal_of}
use Rattle.loader_replay.specs.Checking.{RefusesFirst}
use Rattle.loader_replay.specs.declared.stops.ReplayStop.{ReplayStop}
use Rattle.loader_replay.specs.declared.stops.ReplayStop.TheVariants.{Load as LoadsTo, Unloaded, Unsatisfied, NoMemory}
use Rattle.ports.specs.View.{View}
use Rattle.search_paths.specs.declared.hits.SearchStop.TheVariants.{RelativeItem, TokenUnset, Open, NoMemory as SearchNoMemory}
use Rattle.build_runs.proofs.ZipLemmas.{zip_back, zip_left, zip_there}
use Rattle.build_runs.specs.Answering.{IsLoadsAnswer}
use Rattle.build_runs.specs.Checking.{IsFirstUnmetRun}
use Rattle.build_runs.specs.FirstStops.{HasLoadList, HasRun, IsFirstStop, LoadStops, StopsFirst, VersionStops}
use Rattle.build_runs.specs.Loading.{IsBuildStop, IsListFor, IsLoadsStop}
use Rattle.build_runs.specs.Stops.{stop_of_replay}
use Rattle.build_runs.specs.declared.programs.Start.{Start}

-- one that stops, behind others that pass
pub stops_at : (Passes : Start → Type 0) (Stops : Start → LoadRefusal → Type 0) (programs : List Start) (i : ℕ) (program : Start) (refusal : LoadRefusal) → ((k : ℕ) (other : Start) → k < i → slice_get programs k ≡ Some other → Passes other) → slice_get programs i ≡ Some program → Stops program refusal → StopsFirst Passes Stops programs refusal
stops_at Passes Stops [] i program refusal earlier g h = cc
stops_at Passes Stops (p ∷ programs) zero program refusal earlier g h =
    let same : program ≡ p = cc in
    inl (subst (λ q. Stops q refusal) same h)
stops_at Passes Stops (p ∷ programs) (suc i) program refusal earlier g h =
    inr (earlier 0 p (omega arith) refl, stops_at Passes Stops programs i program refusal (λ k other less e. earlier (suc k) other (omega arith) e) g h)

pub refused_so : (P Q : LoadRefusal → Type 0) (o : Option LoadRefusal) → ((refusal : LoadRefusal) → P refusal → Q refusal) → IsRefusedBy P o → IsRefusedBy Q o
refused_so P Q None f h = tt
refused_so P Q (Some refusal) f h = f refusal h

rose_before : (a b c : ℕ) → a ≤ b → Rose b c → Rose a c
rose_before a b c h r = omega (arith, r)

has_list : (setting : Setting) (world : World) (faces : List Face) (program : Start) (run : Run) → IsListFor setting world faces program run → HasLoadList setting world program
has_list setting world faces program run loads = record { loaded = loads.loaded; ends = loads.ends; list = loads.list }

-- a load list stops, behind programs that have one
pub lists_stop : (setting : Setting) (start before after : OpenerView) (programs : List Start) (i : ℕ) (program : Start) (runs : List Run) (stop : LoadStop) → OnlyGrew start before → WhereTold start.told (λ world. AllZip (IsListFor setting world before.faces) (take i programs) runs) → slice_get programs i ≡ Some program → IsLoadAnswer setting before after program.path program.opens (Err stop) → IsLoadsStop setting start after programs stop
lists_stop setting start before after programs i program runs stop grew lists g answer = record {
  refused = λ world told.
      refused_so (LoadStops setting world program) (StopsFirst (HasLoadList setting world) (LoadStops setting world) programs) (refusal_of stop)
      (λ refusal h. stops_at (HasLoadList setting world) (LoadStops setting world) programs i program refusal
      (λ k other less e. let w = zip_there (IsListFor setting world before.faces) (take i programs) runs k other (lists world told) (slice_get_front i programs k other less e) in has_list setting world before.faces other w.0 w.2) g h)
      (answer.0 world (grew.world ∙ told));
  read = λ r. rose_before start.faults before.faults after.faults grew.faults (answer.1 r);
}

pub lists_want_memory : (setting : Setting) (before after : OpenerView) (programs : List Start) → IsLoadsStop setting before after programs LoadNoMemory
lists_want_memory setting before after programs = record { refused = λ world told. tt; read = λ r. absurd (cc) }

module _ (setting : Setting) (world : World) (faces : List Face) (programs : List Start) (runs : List Run) (lists : AllZip (IsListFor setting world faces) programs runs) where
  all_listed : All (HasLoadList setting world) programs
  all_listed = zip_left (IsListFor setting world faces) (HasLoadList setting world) (has_list setting world faces) programs runs lists

  met_there : (k : ℕ) (program : Start) → slice_get programs k ≡ Some program → ((run : Run) → slice_get runs k ≡ Some run → first_unmet faces run ≡ None) → HasRun setting world program
  met_there k program g met =
      let w = zip_there (IsListFor setting world faces) programs runs k program lists g in
      record { faces = faces; run = w.0; run_is = record { loads = w.2; met = met w.0 w.1 } }

  unmet_there : (program : Start) (run : Run) (refusal : LoadRefusal) → IsListFor setting world faces program run → RefusesFirst faces run refusal → VersionStops setting world program refusal
  unmet_there program run refusal loads h = record {
    faces = faces;
    run = run;
    loads = loads;
    first = h.first;
    unmet = h.unmet;
    refused = h.refused;
  }

  pub version_refused : (stop : ReplayStop) → IsFirstUnmetRun faces runs stop → IsRefusedBy (IsFirstStop setting world programs) (replay_refusal_of stop)
  version_refused stop h =
      let w = zip_back (IsListFor setting world faces) programs runs h.number h.run lists h.stands in
      refused_so (RefusesFirst faces h.run) (IsFirstStop setting world programs) (replay_refusal_of stop)
      (λ refusal r. inr (all_listed, stops_at (HasRun setting world) (VersionStops setting world) programs h.number w.0 refusal (λ k other less e. met_there k other e (λ run g. h.earlier k run less g)) w.1 (unmet_there w.0 h.run refusal w.2 r)))
      h.stops.refused

-- a version that is not met, where all programs have load lists
pub versions_stop : (setting : Setting) (told : Option World) (before after : ℕ) (faces : List Face) (programs : List Start) (runs : List Run) (stop : ReplayStop) → WhereTold told (λ world. AllZip (IsListFor setting world faces) programs runs) → IsFirstUnmetRun faces runs stop → IsBuildStop setting told before after programs stop
versions_stop setting told before after faces programs runs stop lists h = record {
  refused = λ world t. version_refused setting world faces programs runs (lists world t) stop h;
  read = λ r. absurd (h.stops.unread r);
}

-- how a stop is answered
pub stop_answers : (setting : Setting) (before after : View World) (programs : List Start) (stop : ReplayStop) → IsBuildStop setting before.told before.faults after.faults programs stop → IsLoadsAnswer setting before after programs (Err (stop_of_replay stop))
stop_answers setting before after programs (LoadsTo (NoProgram p)) h = h.refused
stop_answers setting before after programs (LoadsTo (MissingLibrary name by)) h = h.refused
stop_answers setting before after programs (LoadsTo (RelativeNeed name by)) h = h.refused
stop_answers setting before after programs (LoadsTo (TokenInNeed name by)) h = h.refused
stop_answers setting before after programs (LoadsTo (TooManyObjects p)) h = h.refused
stop_answers setting before after programs (LoadsTo (Search (RelativeItem item))) h = h.refused
stop_answers setting before after programs (LoadsTo (Search (TokenUnset item))) h = h.refused
stop_answers setting before after programs (LoadsTo (Search (Open (OpensDamaged p flaw)))) h = h.refused
stop_answers setting before after programs (LoadsTo (Search (Open Read))) h = h.read refl
stop_answers setting before after programs (LoadsTo (Search (Open OpensNoMemory))) h = tt
stop_answers setting before after programs (LoadsTo (Search SearchNoMemory)) h = tt
stop_answers setting before after programs (LoadsTo LoadNoMemory) h = tt
stop_answers setting before after programs (Unloaded by file) h = h.refused
stop_answers setting before after programs (Unsatisfied by file version) h = h.refused
stop_answers setting before after programs NoMemory h = tt
