use Rattle.std.proofs.Common.{◌∙◌}
use Rattle.ports.specs.MemTree.{world_of}
use Rattle.elf_make.proofs.TreeLemmas.{one_more}
use Rattle.elf_make.proofs.generator.add_libraries.Goals as goal

pub loop-before-preserved : goal.loop-before-preserved
loop-before-preserved c =
    (one_more c.args.count c.loop-before.before (world_of c.args.tree.now.files) (world_of c.loop-before.tree.files) (world_of c.add_library.new.tree.files) c.loop-before.invariant.0 c.in_ok-add_library.ensures.files, c.add_library.ensures.calls ∙ c.loop-before.invariant.1)
