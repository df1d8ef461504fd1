-- the ranges so far, and those of the tables that are left, are all
use Rattle.std.proofs.Common.{◌≡◌, ◌++◌, drop}
use Rattle.std.specs.List.{flat_map}
use Rattle.elf_rewrite.proofs.overlap.none_meet.Given as goal

abbrev pub invariant-loop-table : goal.invariant-loop-table
invariant-loop-table l = l.all.items ++ flat_map (λ t. t) (drop l.table-index l.tables) ≡ flat_map (λ t. t) l.tables
