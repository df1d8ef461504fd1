use Rattle.std.proofs.Common.{◌∙◌, ◌++◌, ◌<◌, ap, length, arith, zip}
use Rattle.std.specs.List.{flat_map}
use Rattle.load_model.specs.declared.runs.Replay.{Replay}
use Rattle.bind_report.specs.Report.{placed_lines, program_lines}
use Rattle.bind_report.proofs.Pairs.{pair_added, same_at, same_long}
use Rattle.bind_report.proofs.texts.push_programs.Goals as goal

pub push_program-requires-clause-places : goal.push_program-requires-clause-places
push_program-requires-clause-places c =
    let long = same_long length (λ (r : Replay). length r.run.objs) c.args.places.now c.args.replays.now c.requires.places in
    let less : c.programs.number < length c.args.replays.now = omega arith in
    ap length c.as_slice.ensures
    ∙ same_at length (λ (r : Replay). length r.run.objs) c.args.places.now c.args.replays.now c.programs.number c.index-places-number.result c.index-replays-number.result c.requires.places (omega arith) less c.index-places-number.is c.index-replays-number.is

pub programs-preserved : goal.programs-preserved
programs-preserved c =
    let long = same_long length (λ (r : Replay). length r.run.objs) c.args.places.now c.args.replays.now c.requires.places in
    let less : c.programs.number < length c.args.replays.now = omega arith in
    pair_added (placed_lines c.args.faces.now) c.args.replays.now c.args.places.now c.programs.number c.index-replays-number.result c.index-places-number.result c.programs.line.items c.push_program.new.line.items
    (c.args.line.now.items ++ flat_map (placed_lines c.args.faces.now) (zip c.args.replays.now c.args.places.now))
    less (omega arith) c.index-replays-number.is c.index-places-number.is
    (c.in_ok-push_program.ensures ∙ ap (λ xs. c.programs.line.items ++ program_lines c.args.faces.now c.index-replays-number.result xs) c.as_slice.ensures)
    c.programs.invariant
