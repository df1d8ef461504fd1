use Rattle.std.proofs.Common.{◌≡◌, ◌++◌, drop, map}
use Rattle.std.specs.List.{AllByRecursion}
use Rattle.host_record.specs.Canonical.{IsLookOver}
use Rattle.host_record.specs.Lines.{text_of_lines}
use Rattle.host_record.specs.Said.{lib_names}
use Rattle.host_record.specs.Grammar.{look_line}
use Rattle.host_record.proofs.writing.push_looks.Given as goal

abbrev pub invariant-loop-look : goal.invariant-loop-look
invariant-loop-look l = record {
  over : AllByRecursion (IsLookOver l.libs) (drop l.look-index l.looks);
  text : l.out.items ++ text_of_lines (map (look_line (lib_names l.libs)) (drop l.look-index l.looks)) ≡ l.fn.out.items ++ text_of_lines (map (look_line (lib_names l.libs)) l.looks);
}
