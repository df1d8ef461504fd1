use Rattle.std.proofs.Common.{arith, ◌∙◌, ◌≤◌, length}
use Rattle.std.proofs.lemmas.List.{length-take-le}
use Rattle.appdir_files.proofs.CopyingLemmas.{front_more}
use Rattle.appdir_files.proofs.copying.append_copy.Goals as goal

pub copy-preserved : goal.copy-preserved
copy-preserved g c =
    let fits : c.in-Ok.count ≤ length c.read_at.new.buf = omega (arith, c.read_at.auto.buf, c.in-Ok.ensures.fits) in
    let less : c.in-Ok-append_piece.added ≤ c.in-Ok.count = omega (arith, c.in-Ok-append_piece.ensures.count, length-take-le c.in-Ok.count c.read_at.new.buf fits) in
    record {
      within = omega (arith, c.in-Ok-append_piece.ensures.count);
      begun = c.in-Ok-append_piece.ensures.begun;
      added = front_more (g.T.Tree.seen c.args.tree.now).told c.args.from.now c.read_at.new.buf c.copy.at c.in-Ok.count c.in-Ok-append_piece.added (g.O.OutDir.seen c.args.out.now) (g.O.OutDir.seen c.copy.out) (g.O.OutDir.seen c.append_piece.new.out) c.copy.invariant.added (λ world told. c.in-Ok.ensures.read world (c.copy.invariant.reads.stays ∙ told)) less fits c.in-Ok-append_piece.ensures.added;
      reads = record {
        stays = c.read_at.ensures.stays ∙ c.copy.invariant.reads.stays;
        never_falls = omega (arith, c.copy.invariant.reads.never_falls, c.read_at.ensures.cause.never_falls);
      };
      faults = omega (arith, c.copy.invariant.faults, c.append_piece.ensures.cause.never_falls);
    }
