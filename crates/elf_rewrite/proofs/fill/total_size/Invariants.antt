use Rattle.std.proofs.Common.{◌≡◌, ◌+◌, drop}
use Rattle.elf_rewrite.specs.Pieces.{total_size}
use Rattle.elf_rewrite.proofs.fill.total_size.Given as goal

abbrev pub invariant-loop-piece : goal.invariant-loop-piece
invariant-loop-piece l = l.total + total_size (drop l.piece-index l.pieces) ≡ total_size l.pieces
