-- The texts about a build: what it demands of a host, and what each reference binds to.
use Rattle.std.specs.Prelude.{ℕ, List, [], ◌∷◌, ◌≡◌, Bool, not, Option, Some, None, filter, is_some, length, map, zip}
use Rattle.std.specs.List.{filter_map, flat_map}
use Rattle.app_config.specs.declared.config.Config.{Config}
use Rattle.bind_report.specs.Report.{is_host, object_place, report_text}
use Rattle.host_list.specs.Recording.{distinct_in_order, each_path, looks_of_run, program_interp, recorded_lib, versions_of_run}
use Rattle.host_record.specs.Orders.{full_look_cmp, version_cmp}
use Rattle.host_record.specs.declared.records.Record.{Record}
use Rattle.load_model.specs.Bindings.{all_binds}
use Rattle.load_model.specs.Runs.{face_at}
use Rattle.load_model.specs.declared.faces.Face.{Face}
use Rattle.load_model.specs.declared.runs.Bind.{Bind}
use Rattle.load_model.specs.declared.runs.Replay.{Replay}
use Rattle.load_model.specs.declared.runs.Run.{Run}
use Rattle.build_plan.specs.Building.{Building}
use Rattle.build_texts.specs.declared.reports.Report.{Report}
use Rattle.build_texts.specs.Places.{all_places}

-- The machine is that of the first program.
abbrev pub machine_in : Option Face → ℕ
machine_in None = 0
machine_in (Some face) = face.machine

abbrev pub first_face : List Face → List Run → Option Face
first_face faces [] = None
first_face faces (run ∷ runs) = face_at faces run 0

-- What the build demands of a host.
unfoldable pub record_in : Building → Record
record_in b = record {
  machine = machine_in (first_face b.faces b.runs);
  interps = each_path (filter_map (program_interp b.faces) b.runs);
  libs = map (recorded_lib b.faces) b.split.hosts;
  versions = distinct_in_order version_cmp (flat_map (versions_of_run b.faces b.split.hosts) b.runs);
  looks = distinct_in_order full_look_cmp (flat_map (looks_of_run b.faces b.split.hosts) b.runs);
}

-- The load lists with the bindings of all references.
abbrev pub replay_in : List Face → Run → Replay
replay_in faces run = record { run = run; binds = all_binds faces run }

unfoldable pub replays_in : Building → List Replay
replays_in b = map (replay_in b.faces) b.runs

unfoldable pub report_in : Config → Building → List ℕ
report_in config b = report_text (replays_in b) b.faces (all_places config b)

-- The bindings that the report has: those of the references of programs and bundled libraries.
abbrev pub is_reported : List (List ℕ) → Bind → Bool
is_reported places bind = not (is_host (object_place places bind.obj))

abbrev pub reported_of : (Replay × List (List ℕ)) → List Bind
reported_of placed = filter (is_reported placed.1) placed.0.binds

unfoldable pub reported_binds : Config → Building → List Bind
reported_binds config b = flat_map reported_of (zip (replays_in b) (all_places config b))

-- A report of load lists whose objects have these places, with the number of its bindings and of
-- those that are to something.
pub record IsReportAt (faces : List Face) (replays : List Replay) (places : List (List (List ℕ)))
    (report : Report) : Type 0 where
  pub text : report.text ≡ report_text replays faces places
  pub references : report.references ≡ length (flat_map reported_of (zip replays places))
  pub bound : report.bound
      ≡ length (filter (λ bind. is_some bind.to) (flat_map reported_of (zip replays places)))

-- The report of a build, with the number of its bindings and of those that are to something.
pub record IsReport (config : Config) (b : Building) (report : Report) : Type 0 where
  pub text : report.text ≡ report_in config b
  pub references : report.references ≡ length (reported_binds config b)
  pub bound : report.bound ≡ length (filter (λ bind. is_some bind.to) (reported_binds config b))
