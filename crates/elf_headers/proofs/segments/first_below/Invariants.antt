-- what is left, from the last bound, answers as the whole
use Rattle.std.proofs.Common.{◌≡◌, drop}
use Rattle.byte_view.specs.HeaderFlaws.{first_below}
use Rattle.elf_headers.specs.Bounds.{bound_of}
use Rattle.elf_headers.proofs.segments.first_below.Given as goal

abbrev pub invariant-loop-i : goal.invariant-loop-i
invariant-loop-i l = first_below (bound_of l.bound) l.i l.low (drop l.i l.segments) ≡ first_below (bound_of l.bound) 0 0 l.segments
