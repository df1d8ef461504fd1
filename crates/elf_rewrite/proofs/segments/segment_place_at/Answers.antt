use Rattle.std.proofs.Common.{◌∙◌, sym, arith}
use Rattle.elf_rewrite.proofs.Lowness.{load_within}
use Rattle.elf_rewrite.proofs.segments.segment_place_at.Goals as goal

pub overflow_add-addr : goal.overflow_add-addr
overflow_add-addr c =
    let within = load_within c.args.segments.now c.args.bytes.now c.in-Some.s c.requires.headers (sym c.first.ensures ∙ c.in-Some.is) in
    omega (arith, within)

pub returns-in-Some-clause-low : goal.returns-in-Some-clause-low
returns-in-Some-clause-low c =
    let within = load_within c.args.segments.now c.args.bytes.now c.in-Some.s c.requires.headers (sym c.first.ensures ∙ c.in-Some.is) in
    omega (arith, within)
