use Rattle.sym_tables.proofs.Unflawed.{gnu_lists_each, sysv_lists_each}
use Rattle.sym_tables.proofs.laws.each_table_lists.Goals as goal

pub returns-clause-sysv : goal.returns-clause-sysv
returns-clause-sysv c = λ file i s t none at offered there. sysv_lists_each file i s t none at offered there

pub returns-clause-gnu : goal.returns-clause-gnu
returns-clause-gnu c = λ file i s t none at offered there. gnu_lists_each file i s t none at offered there
