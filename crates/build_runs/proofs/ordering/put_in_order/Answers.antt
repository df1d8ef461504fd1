use Rattle.std.proofs.Common.{◌≡◌, ◌∙◌, ap}
use Rattle.build_runs.proofs.OrderLemmas.{put_in_order}
use Rattle.build_runs.specs.BuildRuns.{face_places}
use Rattle.build_runs.proofs.ordering.put_in_order.Goals as goal

pub returns-clause-order : goal.returns-clause-order
returns-clause-order c =
    let places : c.as_slice-2.result.now ≡ face_places c.args.runs.items = c.as_slice-2.ensures ∙ (c.in_ok-places.ensures ∙ ap face_places c.as_slice.ensures.value) in
    put_in_order c.args.opener.faces c.in_ok-table.table.faces c.args.runs.items c.in_ok-runs.runs c.as_slice-2.result.now places c.in_ok-table.ensures.faces c.in_ok-runs.ensures
