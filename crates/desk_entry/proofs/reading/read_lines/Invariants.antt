use Rattle.std.proofs.Common.{length}
use Rattle.desk_entry.specs.Reading.{lines_of}
use Rattle.desk_entry.proofs.StateLemmas.{Leads}
use Rattle.desk_entry.proofs.reading.read_lines.Given as goal

abbrev pub invariant-lines : goal.invariant-lines
invariant-lines l = Leads l.fn.text l.state l.number (lines_of l.rest)

abbrev pub decreases-lines : goal.decreases-lines
decreases-lines l = length l.rest
