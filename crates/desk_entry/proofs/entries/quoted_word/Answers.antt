use Rattle.std.proofs.Common.{sym, ◌∙◌, subst, true, false}
use Rattle.desk_entry.specs.Cuts.{IsCut}
use Rattle.desk_entry.proofs.WordLemmas.{quoted_at, quoted_not}
use Rattle.desk_entry.proofs.entries.quoted_word.Goals as goal

pub returns-in-Some : goal.returns-in-Some
returns-in-Some c =
    sym (quoted_at c.args.value.now c.args.rest.now c.in-Some.word.now c.in-Some.field-0-1.now false c.in-Some.ensures.0 c.in-Some.ensures.1 (sym c.contains.ensures.value ∙ c.if-not-contains.true))

pub returns-in_default : goal.returns-in_default
returns-in_default c =
    sym (quoted_at c.args.value.now c.args.rest.now c.in-Some.word.now c.in-Some.field-0-1.now true c.in-Some.ensures.0 c.in-Some.ensures.1 (sym c.contains.ensures.value ∙ c.if-not-contains.false))

pub returns-in_default-2 : goal.returns-in_default-2
returns-in_default-2 c = sym (quoted_not c.args.value.now c.args.rest.now (subst (IsCut c.args.rest.now 34) c.in_default.is c.cut.ensures))
