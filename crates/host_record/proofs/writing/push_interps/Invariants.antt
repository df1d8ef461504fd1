use Rattle.std.proofs.Common.{◌≡◌, ◌++◌, drop, map}
use Rattle.host_record.specs.Lines.{text_of_lines}
use Rattle.host_record.specs.declared.lines.Line.TheVariants.{Interp}
use Rattle.host_record.proofs.writing.push_interps.Given as goal

abbrev pub invariant-loop-path : goal.invariant-loop-path
invariant-loop-path l = l.out.items ++ text_of_lines (map Interp (drop l.path-index l.paths)) ≡ l.fn.out.items ++ text_of_lines (map Interp l.paths)
