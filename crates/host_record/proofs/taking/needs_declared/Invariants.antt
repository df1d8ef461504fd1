use Rattle.std.proofs.Common.{◌≡◌, drop}
use Rattle.std.specs.List.{list_all}
use Rattle.host_record.specs.Said.{is_declared, needs_declared, lib_names}
use Rattle.host_record.proofs.taking.needs_declared.Given as goal

abbrev pub invariant-loop-lib : goal.invariant-loop-lib
invariant-loop-lib l = list_all (λ lib. list_all (is_declared (lib_names l.libs)) lib.needs) (drop l.lib-index l.libs) ≡ needs_declared l.libs
