use Rattle.std.proofs.Common.{◌∙◌, ap, take}
use Rattle.std.specs.List.{prefix_len}
use Rattle.load_model.specs.RunPaths.{is_token_letter}
use Rattle.search_paths.proofs.TokenLemmas.{front_of}
use Rattle.search_paths.proofs.tokens.word_of.Goals as goal

pub returns-clause-word : goal.returns-clause-word
returns-clause-word c = ap (λ n. take n c.args.text.now) c.word_length.ensures.length ∙ front_of (prefix_len is_token_letter c.args.text.now) c.args.text.now
