-- What bounds the next loaded segment from below.
use Rattle.std.specs.Prelude.{ℕ}
use Rattle.byte_view.specs.Headers.{memory_end}
use Rattle.byte_view.specs.declared.segments.Segment.{Segment}
use Rattle.elf_headers.specs.declared.segments.Bound.{Bound}
use Rattle.elf_headers.specs.declared.segments.Bound.TheVariants.{Beginning, End}

abbrev pub bound_of : Bound → Segment → ℕ
bound_of Beginning s = s.vaddr
bound_of End s = memory_end s
