use Rattle.std.proofs.Common.{arith, refl, ◌∙◌}
use Rattle.appdir_files.proofs.WritingLemmas.{next_written, none_written}
use Rattle.appdir_files.proofs.writing.write_all.Goals as goal

pub loop-item-init : goal.loop-item-init
loop-item-init g c = record {
  closed = c.requires.closed;
  written = none_written (g.T.Tree.seen c.args.tree.now).told (g.O.OutDir.seen c.args.out.now) c.requires.closed;
  reads = record { stays = refl; never_falls = omega arith };
  faults = omega arith;
}

pub loop-item-preserved : goal.loop-item-preserved
loop-item-preserved g c = record {
  closed = c.in_default.ensures.closed;
  written = next_written (g.T.Tree.seen c.args.tree.now).told (g.T.Tree.seen c.loop-item.tree).told c.args.items.now c.loop-item.item-index c.item-item.result (g.O.OutDir.seen c.args.out.now) (g.O.OutDir.seen c.loop-item.out) (g.O.OutDir.seen c.write_item.new.out) c.loop-item-test.true c.item-item.is c.loop-item.invariant.reads.stays c.loop-item.invariant.written c.in_default.ensures.written;
  reads = record {
    stays = c.write_item.ensures.only_reads.stays ∙ c.loop-item.invariant.reads.stays;
    never_falls = omega (arith, c.loop-item.invariant.reads.never_falls, c.write_item.ensures.only_reads.never_falls);
  };
  faults = omega (arith, c.loop-item.invariant.faults, c.write_item.ensures.never_falls);
}
