use Rattle.std.proofs.Common.{◌≡◌, ◌++◌, drop, map}
use Rattle.host_record.specs.Lines.{text_of_lines}
use Rattle.host_record.specs.Grammar.{library_lines}
use Rattle.host_record.specs.declared.lines.Line.TheVariants.{Need}
use Rattle.host_record.proofs.writing.push_lib.Given as goal

abbrev pub invariant-loop-need : goal.invariant-loop-need
invariant-loop-need l = l.out.items ++ text_of_lines (map Need (drop l.need-index l.need-items)) ≡ l.fn.out.items ++ text_of_lines (library_lines l.lib)
