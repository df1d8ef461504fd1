use Rattle.std.proofs.Common.{sym, subst}
use Rattle.std.proofs.lemmas.Bool.{both_ways}
use Rattle.desk_entry.specs.Lines.{IsKey}
use Rattle.desk_entry.proofs.LineLemmas.{key_there, no_sign}
use Rattle.desk_entry.proofs.lines.entry_of.Goals as goal

pub returns-else-is_key : goal.returns-else-is_key
returns-else-is_key c key value i =
    let there = key_there c.args.text.now c.in-Some.left.now c.in-Some.right.now c.without_spaces_behind-key.result.now key value c.in-Some.ensures.0 c.in-Some.ensures.1 c.without_spaces_behind-key.ensures i in
    both_ways c.is_key.result c.if-is_key.false (c.is_key.ensures.1 (subst IsKey (sym there) i.keyed))

pub returns-in_default : goal.returns-in_default
returns-in_default c key value i = no_sign c.args.text.now key value c.in_default.ensures i
