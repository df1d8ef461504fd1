use Rattle.std.proofs.Common.{arith}
use Rattle.elf_rewrite.proofs.PairSteps.{tables_step}
use Rattle.elf_rewrite.proofs.SweepLemmas.{tables_apart}
use Rattle.elf_rewrite.proofs.overlap.first_overlap.Goals as goal

pub loop-n-preserved : goal.loop-n-preserved
loop-n-preserved c =
    tables_step c.args.bytes.now c.loop-n.n c.loop-n.tables c.push.new.self _ c.in_ok-ranges_of.field-0 (omega arith) c.in_ok-ranges_of.ensures c.in_ok-push.ensures.ok c.loop-n.invariant

pub returns-then-branch : goal.returns-then-branch
returns-then-branch c =
    tables_apart c.args.bytes.now c.loop-n.n c.loop-n.tables c.as_slice.result.now (omega arith) c.as_slice.ensures c.loop-n.invariant (c.in_ok-none_meet.ensures c.if-branch.true)
