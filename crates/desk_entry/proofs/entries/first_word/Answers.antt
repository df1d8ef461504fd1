use Rattle.std.proofs.Common.{sym, ◌∙◌}
use Rattle.desk_entry.proofs.WordLemmas.{plain_word, word_in_quotes}
use Rattle.desk_entry.proofs.entries.first_word.Goals as goal

pub returns-in-Some : goal.returns-in-Some
returns-in-Some c = c.quoted_word.ensures ∙ sym (word_in_quotes c.args.value.now c.in-Some.rest.now c.in-Some.ensures.0)

pub returns-in-None : goal.returns-in-None
returns-in-None c = c.up_to.ensures ∙ sym (plain_word c.args.value.now c.in-None.ensures)
