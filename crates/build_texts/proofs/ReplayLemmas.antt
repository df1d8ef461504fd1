-- The load lists of a plan, and their bindings.
use Rattle.std.proofs.Common.{◌≡◌, ◌∙◌, sym, ap, ap₂, refl, append_assoc, ℕ, ◌<◌, List, [], ◌∷◌, ◌++◌, All, filter, length, map, zip, arith}
use Rattle.std.specs.Prelude.{is_some}
use Rattle.std.specs.List.{flat_map}
use Rattle.std.proofs.lemmas.List.{length-map}
use Rattle.std.proofs.lemmas.List.Elements.{All-map}
use Rattle.app_config.specs.declared.config.Config.{Config}
use Rattle.build_runs.proofs.ZipLemmas.{zip_count, zip_right}
use Rattle.build_runs.specs.Answering.{IsSafeRun}
use Rattle.build_runs.specs.declared.programs.Start.{Start}
use Rattle.load_model.specs.Runs.{IsRunOver}
use Rattle.load_model.specs.declared.faces.Face.{Face}
use Rattle.bind_report.specs.Report.{report_text}
use Rattle.load_model.specs.declared.runs.Bind.{Bind}
use Rattle.load_model.specs.declared.runs.Replay.{Replay}
use Rattle.load_model.specs.declared.runs.Run.{Run}
use Rattle.build_plan.specs.Building.{Building, start_of, starts_of}
use Rattle.build_plan.specs.Deciding.{IsSafePlan, building_of}
use Rattle.build_plan.specs.declared.plans.Plan.{Plan}
use Rattle.build_texts.specs.Places.{all_places, program_places, tool_place}
use Rattle.build_texts.specs.Texts.{IsReport, IsReportAt, replay_in, replays_in, report_in, reported_binds, reported_of}
use Rattle.build_texts.specs.declared.reports.Report.{Report}
use Rattle.build_texts.proofs.PlaceLemmas.{all_counts}

module _ (config : Config) (plan : Plan) (safe : IsSafePlan config plan) where
  pub runs_over : All (IsRunOver plan.loads.table.faces) plan.loads.runs
  runs_over = zip_right (IsSafeRun plan.loads.table.faces) (IsRunOver plan.loads.table.faces) (λ (program : Start) run h. h.over) (starts_of config) plan.loads.runs safe.safe.each

  pub run_count : length plan.loads.runs ≡ length (program_places config)
  unfolding program_places
  run_count =
      let runs = zip_count (IsSafeRun plan.loads.table.faces) (starts_of config) plan.loads.runs safe.safe.each in
      let starts = length-map config.tools start_of in
      let places = length-map config.tools tool_place in
      omega (arith, runs, starts, places)

  pub some_run : 0 < length plan.loads.runs
  some_run = let runs = zip_count (IsSafeRun plan.loads.table.faces) (starts_of config) plan.loads.runs safe.safe.each in omega (arith, runs)

  pub places_fit : map length (all_places config (building_of plan)) ≡ map (λ (run : Run). length run.objs) plan.loads.runs
  unfolding all_places
  places_fit = all_counts plan.split plan.layout plan.loads.runs (program_places config) run_count

pub replays_over : (faces : List Face) (runs : List Run) → All (IsRunOver faces) runs → All (λ (r : Replay). IsRunOver faces r.run) (map (replay_in faces) runs)
replays_over faces runs over = All-map (λ (r : Replay). IsRunOver faces r.run) (replay_in faces) runs over

pub replays_count : (faces : List Face) (runs : List Run) → map (λ (r : Replay). length r.run.objs) (map (replay_in faces) runs) ≡ map (λ (run : Run). length run.objs) runs
replays_count faces [] = refl
replays_count faces (run ∷ runs) = ap (λ ns. length run.objs ∷ ns) (replays_count faces runs)

-- one load list more
pub replay_more : (f : Run → Replay) (sofar more : List Replay) (made : Replay) (run : Run) (left rest runs : List Run) → sofar ++ map f left ≡ map f runs → left ≡ run ∷ rest → more ≡ sofar ++ made ∷ [] → made ≡ f run → more ++ map f rest ≡ map f runs
replay_more f sofar more made run left rest runs before steps added is =
    ap (λ xs. xs ++ map f rest) (added ∙ ap (λ x. sofar ++ x ∷ []) is)
    ∙ append_assoc sofar (f run ∷ []) (map f rest)
    ∙ sym (ap (λ xs. sofar ++ map f xs) steps)
    ∙ before

-- the report of a build is that of its load lists, with the places of their objects
pub report_made : (config : Config) (b : Building) (faces : List Face) (replays : List Replay) (places : List (List (List ℕ))) → faces ≡ b.faces → replays ≡ map (replay_in b.faces) b.runs → places ≡ all_places config b → (report : Report) → IsReportAt faces replays places report → IsReport config b report
unfolding report_in reported_binds replays_in
report_made config b faces replays places f r p report h =
    let reported : flat_map reported_of (zip replays places) ≡ flat_map reported_of (zip (replays_in b) (all_places config b)) = ap₂ (λ xs ys. flat_map reported_of (zip xs ys)) r p in
    record {
      text =
          h.text ∙ ap (λ fs. report_text replays fs places) f ∙ ap (λ rs. report_text rs b.faces places) r
          ∙ ap (report_text (replays_in b) b.faces) p;
      references = h.references ∙ ap length reported;
      bound = h.bound ∙ ap (λ (binds : List Bind). length (filter (λ bind. is_some bind.to) binds)) reported;
    }
