-- what is left raises the top to that of all
use Rattle.std.proofs.Common.{◌≡◌, drop, map, max}
use Rattle.std.specs.Prelude.{fold}
use Rattle.std.specs.List.{filter}
use Rattle.byte_view.specs.Headers.{is_load, memory_end}
use Rattle.elf_rewrite.specs.NewSegment.{top_of}
use Rattle.elf_rewrite.proofs.segments.top_of.Given as goal

abbrev pub invariant-loop-s : goal.invariant-loop-s
invariant-loop-s l = fold max l.top (map memory_end (filter is_load (drop l.s-index l.segments))) ≡ top_of l.segments
