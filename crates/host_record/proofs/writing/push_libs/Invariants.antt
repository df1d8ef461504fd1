use Rattle.std.proofs.Common.{◌≡◌, ◌++◌, drop}
use Rattle.std.specs.List.{flat_map}
use Rattle.host_record.specs.Lines.{text_of_lines}
use Rattle.host_record.specs.Grammar.{library_lines}
use Rattle.host_record.proofs.writing.push_libs.Given as goal

abbrev pub invariant-loop-lib : goal.invariant-loop-lib
invariant-loop-lib l = l.out.items ++ text_of_lines (flat_map library_lines (drop l.lib-index l.libs)) ≡ l.fn.out.items ++ text_of_lines (flat_map library_lines l.libs)
