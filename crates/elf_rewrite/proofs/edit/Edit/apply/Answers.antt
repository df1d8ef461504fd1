use Rattle.std.proofs.Common.{arith, sym, refl}
use Rattle.elf_rewrite.proofs.Filled.{total_long}
use Rattle.elf_rewrite.specs.Pieces.{laid}
use Rattle.elf_rewrite.proofs.edit.Edit.apply.Goals as goal

pub fill_pieces-requires-clause-long : goal.fill_pieces-requires-clause-long
fill_pieces-requires-clause-long c =
    let t = total_long c.self.inside.old_len c.split_at_mut-old.result.0.now c.self.inside.added (sym c.split_at_mut-old.ensures.front_len) c.self.invariant.within in
    let r = rw (← c.self.view_is) at c.requires in
    rw c.as_slice.ensures (omega (arith, c.split_at_mut-old.ensures.back_len))

pub apply_all-requires : goal.apply_all-requires
apply_all-requires c =
    rw (c.as_slice-2.ensures, c.split_at_mut-old.ensures.front_len) c.self.invariant.fits

pub returns : goal.returns
unfolding laid
returns c = rw (c.apply_all.ensures, c.fill_pieces.ensures, c.as_slice.ensures, c.as_slice-2.ensures, ← c.self.view_is, c.split_at_mut-old.ensures.front) refl
