use Rattle.std.proofs.Common.{arith, ap, ◌++◌, ◌∙◌, List}
use Rattle.two_files.specs.Kept.{Range}
use Rattle.elf_rewrite.proofs.SweepLemmas.{joined_once, joined_step}
use Rattle.elf_rewrite.proofs.overlap.none_meet.Goals as goal

pub loop-table-preserved : goal.loop-table-preserved
loop-table-preserved c =
    joined_step c.args.tables.now c.loop-table.table-index c.table-item.result c.loop-table.all.items c.push_all.new.out.items _ (omega arith) c.table-item.is (c.in_ok-push_all.ensures ∙ ap (λ (l : List Range). c.loop-table.all.items ++ l) c.as_slice.ensures) c.loop-table.invariant

pub returns-in-Ok : goal.returns-in-Ok
returns-in-Ok c = λ holds.
    joined_once c.args.tables.now c.loop-table.table-index c.loop-table.all.items c.sort.new.self.items c.deref.result.now c.ascends.result c.loop-table.invariant (omega arith) c.sort.ensures.permutation c.deref.ensures.value c.ascends.ensures holds
