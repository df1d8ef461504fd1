use Rattle.std.proofs.Common.{◌∙◌}
use Rattle.command_words.proofs.CountLemmas.{counted}
use Rattle.command_words.proofs.values.read_count.Goals as goal

pub returns : goal.returns
returns c = c.tree_size.ensures ∙ counted c.args.word.now c.in_ok-number.number c.in_ok-number.ensures
