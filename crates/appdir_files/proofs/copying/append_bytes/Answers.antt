use Rattle.std.proofs.Common.{arith, length, ◌≤◌, ◌-◌}
use Rattle.appdir_files.proofs.CopyingLemmas.{piece_fits, pieces_more}
use Rattle.appdir_files.proofs.copying.append_bytes.Goals as goal

pub pieces-preserved : goal.pieces-preserved
pieces-preserved g c =
    let less : c.in-Ok.added ≤ length c.args.bytes.now - c.pieces.at = piece_fits c.args.bytes.now c.pieces.at c.in-Ok.added c.args.most c.in-Ok.ensures.count in
    record {
      within = omega (arith, less, c.pieces.invariant.within);
      begun = c.in-Ok.ensures.begun;
      added = pieces_more c.args.bytes.now c.pieces.at c.in-Ok.added (g.O.OutDir.seen c.args.out.now) (g.O.OutDir.seen c.pieces.out) (g.O.OutDir.seen c.append_piece.new.out) less c.pieces.invariant.added c.in-Ok.ensures.added;
      faults = omega (arith, c.pieces.invariant.faults, c.append_piece.ensures.cause.never_falls);
    }
