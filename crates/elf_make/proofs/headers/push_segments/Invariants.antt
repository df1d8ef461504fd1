use Rattle.std.specs.Prelude.{◌≡◌, ◌++◌, drop}
use Rattle.elf_make.specs.Headers.{segment_bytes}
use Rattle.elf_make.proofs.headers.push_segments.Given as goal

abbrev pub invariant-loop-s : goal.invariant-loop-s
invariant-loop-s l = l.out.items ++ segment_bytes (drop l.s-index l.segments) ≡ l.fn.out.items ++ segment_bytes l.segments
