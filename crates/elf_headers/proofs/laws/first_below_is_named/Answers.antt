use Rattle.byte_view.proofs.LoadPairs.{first_named}
use Rattle.byte_view.specs.Headers.{memory_end}
use Rattle.byte_view.specs.declared.flaws.TheConstants.{SEGMENT_ORDER, SEGMENT_OVERLAP}
use Rattle.elf_headers.proofs.laws.first_below_is_named.Goals as goal

pub returns-clause-order : goal.returns-clause-order
returns-clause-order c = first_named (λ s. s.vaddr) SEGMENT_ORDER

pub returns-clause-overlap : goal.returns-clause-overlap
returns-clause-overlap c = first_named memory_end SEGMENT_OVERLAP
