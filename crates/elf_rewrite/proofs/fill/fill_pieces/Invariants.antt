use Rattle.std.proofs.Common.{◌≡◌, ◌+◌, length, drop, take, ◌++◌}
use Rattle.elf_rewrite.specs.Pieces.{put_together}
use Rattle.elf_rewrite.proofs.fill.fill_pieces.Given as goal

abbrev pub invariant-loop-piece : goal.invariant-loop-piece
invariant-loop-piece l =
    (take l.at l.part ++ put_together l.old (drop l.piece-index l.pieces) ≡ put_together l.old l.pieces)
    × (l.at + length (put_together l.old (drop l.piece-index l.pieces)) ≡ length l.part)
