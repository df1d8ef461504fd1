-- the bytes so far, and those of the rest, are all
use Rattle.std.proofs.Common.{◌≡◌, ◌++◌, drop}
use Rattle.elf_rewrite.specs.Words.{table_bytes}
use Rattle.elf_rewrite.proofs.words.table_bytes.Given as goal

abbrev pub invariant-loop-segment : goal.invariant-loop-segment
invariant-loop-segment l = l.bytes.items ++ table_bytes (drop l.segment-index l.segments) ≡ table_bytes l.segments
