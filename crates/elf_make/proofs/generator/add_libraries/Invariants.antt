use Rattle.std.proofs.Common.{◌≡◌, ◌++◌, map}
use Rattle.std.specs.List.{range_with_len}
use Rattle.ports.specs.MemTree.{world_of}
use Rattle.elf_make.specs.Generator.{library_file}
use Rattle.elf_make.proofs.generator.add_libraries.Given as goal

abbrev pub invariant-loop-before : goal.invariant-loop-before
invariant-loop-before l =
    (world_of l.tree.files ≡ world_of l.fn.tree.files ++ map (library_file l.count) (range_with_len 1 l.before))
    × (l.tree.calls ≡ l.fn.tree.calls)
