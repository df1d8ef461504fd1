-- what the words of the file say of the reach
use Rattle.std.proofs.Common.{sym, ◌∙◌}
use Rattle.sym_tables.proofs.Reach.{no_reach, reach_found, reach_lost}
use Rattle.sym_tables.proofs.gnu_reach.Reach.of.Goals as goal

pub returns-then-top-eq0 : goal.returns-then-top-eq0
returns-then-top-eq0 c =
    no_reach c.args.bytes.now c.args.elf.now c.args.addr c.args.front.now c.requires.front (sym c.top-top.ensures.value ∙ c.if-top-eq0.true)

pub returns-in_default-first_last : goal.returns-in_default-first_last
returns-in_default-first_last c =
    reach_lost c.args.bytes.now c.args.elf.now c.args.addr c.top-top.result c.backed_words-most.result c.in-Some.from c.in-Some.field-0-1 c.args.front.now c.requires.read c.requires.front (sym c.top-top.ensures.value) c.if-top-eq0.false (c.top-top.ensures.chain c.if-top-eq0.false)
    (sym c.range.ensures ∙ c.in-Some.is)
    c.backed_words-most.ensures.most
    (rw c.from-first.ensures at (sym c.first_last.ensures.found ∙ c.in_default-first_last.is))

pub returns : goal.returns
returns c =
    rw c.from.ensures
    (reach_found c.args.bytes.now c.args.elf.now c.args.addr c.top-top.result c.backed_words-most.result c.in-Some.from c.in-Some.field-0-1 c.in-Some-first_last.last c.args.front.now c.requires.read c.requires.front (sym c.top-top.ensures.value) c.if-top-eq0.false (c.top-top.ensures.chain c.if-top-eq0.false)
    (sym c.range.ensures ∙ c.in-Some.is)
    (rw c.from-first.ensures at (sym c.first_last.ensures.found ∙ c.in-Some-first_last.is))
    c.in-Some-first_last.ensures.bound)
