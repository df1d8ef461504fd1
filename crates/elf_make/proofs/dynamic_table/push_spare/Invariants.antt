use Rattle.std.specs.Prelude.{◌≡◌, ◌++◌, replicate}
use Rattle.byte_view.specs.declared.constants.TheConstants.{DT_NULL}
use Rattle.byte_view.specs.Dynamic.{tagged}
use Rattle.elf_make.proofs.dynamic_table.push_spare.Given as goal

abbrev pub invariant-loop : goal.invariant-loop
invariant-loop l = l.out ≡ l.fn.out ++ replicate l.counter (tagged DT_NULL 0)
