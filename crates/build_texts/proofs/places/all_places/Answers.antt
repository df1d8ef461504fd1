use Rattle.std.proofs.Common.{◌∙◌, ap, length, arith, ◌<◌}
use Rattle.build_texts.specs.Places.{object_places, placed_by}
use Rattle.build_texts.proofs.PlaceLemmas.{placed_more}
use Rattle.build_texts.proofs.places.all_places.Goals as goal

pub runs-preserved : goal.runs-preserved
runs-preserved c =
    let less : c.runs.number < length c.args.runs.now = omega arith in
    let below : c.runs.number < length c.args.programs.now = omega arith in
    placed_more (placed_by c.args.libraries.now.libs.split.now c.args.libraries.now.layout.now) c.args.runs.now c.args.programs.now c.runs.number c.index-runs-number.result c.index-programs-number.result c.runs.places c.push.new.self c.in_ok-object_places.field-0 less below c.index-runs-number.is c.index-programs-number.is c.runs.invariant c.in_ok-push.ensures.ok
    (c.in_ok-object_places.ensures ∙ ap (object_places c.args.libraries.now.libs.split.now c.args.libraries.now.layout.now c.index-programs-number.result) c.as_slice-objs.ensures)
