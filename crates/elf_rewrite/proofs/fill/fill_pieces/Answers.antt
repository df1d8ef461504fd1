use Rattle.strtab_grow.proofs.Parts.{parts_step}
use Rattle.elf_rewrite.proofs.Filled.{sized}
use Rattle.std.proofs.Common.{subst, sym, ap, ◌≡◌, ◌∙◌, true, length}
use Rattle.elf_rewrite.specs.Pieces.{is_within, piece_bytes}
use Rattle.elf_rewrite.proofs.fill.fill_pieces.Goals as goal

pub loop-piece-preserved : goal.loop-piece-preserved
loop-piece-preserved c =
    let within : is_within (length c.args.old.now) c.piece-item.result ≡ true =
    subst (λ p. is_within (length c.args.old.now) p ≡ true) (sym c.piece-item.is) (c.requires.within c.loop-piece.piece-index c.piece-item.result c.loop-piece-test.true) in
    parts_step (λ p. piece_bytes c.args.old.now p) c.loop-piece.part c.fill_piece.new.part c.args.pieces.now c.piece-item.result c.loop-piece.piece-index c.loop-piece.at c.piece_size.result
    c.loop-piece.invariant c.loop-piece-test.true c.piece-item.is
    (c.piece_size.ensures ∙ sym (ap length c.fill_piece.ensures ∙ sized c.args.old.now c.piece-item.result within))
    c.fill_piece.ensures
