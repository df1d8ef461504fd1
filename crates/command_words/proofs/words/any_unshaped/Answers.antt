use Rattle.std.proofs.Common.{string_bytes, sym, ◌∙◌}
use Rattle.command_words.specs.Words.{is_unshaped}
use Rattle.command_words.proofs.Lists.{list_any-map}
use Rattle.command_words.proofs.words.any_unshaped.Goals as goal

pub returns : goal.returns
returns c = c.some_unshaped.ensures ∙ sym (list_any-map is_unshaped (λ w. string_bytes w) c.args.words.now)
