use Rattle.std.proofs.Math.Seq.{drop-cons}
use Rattle.elf_rewrite.proofs.HeaderSteps.{header_at}
use Rattle.elf_rewrite.proofs.segments.new_headers.Goals as goal

pub loop-s-preserved : goal.loop-s-preserved
loop-s-preserved c =
    header_at c.args.layout.now c.args.segments.now c.loop-s.s-index _ c.loop-s.out.items c.push_moved.new.out.items _ c.loop-s.left c.in_ok-left.left
    (drop-cons c.args.segments.now c.loop-s.s-index _ c.loop-s-test.true) c.in_ok-left.ensures.added c.in_ok-left.ensures.left c.loop-s.invariant
