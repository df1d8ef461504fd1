use Rattle.std.proofs.Common.{◌∙◌, sym, arith}
use Rattle.elf_rewrite.specs.Ranges.{overlaps}
use Rattle.elf_rewrite.proofs.PairSteps.{pair_found}
use Rattle.elf_rewrite.proofs.overlap.first_pair.Goals as goal

pub returns-in-Some : goal.returns-in-Some
returns-in-Some c =
    sym (pair_found (λ p. overlaps c.args.tables.now c.args.needs.now c.args.asked.now p.0 p.1) c.loop-m.m c.in-Some.n (omega arith) (sym c.first_beside.ensures ∙ c.in-Some.is))
    ∙ c.loop-m.invariant
