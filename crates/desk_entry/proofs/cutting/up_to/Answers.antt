use Rattle.std.proofs.Common.{◌∙◌, sym, ap, eqb}
use Rattle.std.specs.List.{before_first}
use Rattle.desk_entry.proofs.WordLemmas.{before_it, nothing_before}
use Rattle.desk_entry.proofs.cutting.up_to.Goals as goal

pub returns-in-Some : goal.returns-in-Some
returns-in-Some c =
    sym (ap (before_first (λ y. eqb y c.args.byte)) c.in-Some.ensures.1
    ∙ before_it c.args.byte c.in-Some.before.now c.in-Some.field-0-1.now c.in-Some.ensures.0)

pub returns-in-None : goal.returns-in-None
returns-in-None c = sym (nothing_before c.args.byte c.args.text.now c.in-None.ensures)
