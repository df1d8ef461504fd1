use Rattle.std.proofs.Common.{refl}
use Rattle.elf_rewrite.specs.Ranges.{single_range}
use Rattle.elf_rewrite.proofs.overlap.single_range.Goals as goal

pub returns-in-4 : goal.returns-in-4
unfolding single_range
returns-in-4 c = rw (c.table_range.ensures, c.first-in-4.ensures, c.segments-in-4.ensures, c.requires.headers.same, c.in-4.is) refl
