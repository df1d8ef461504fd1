use Rattle.std.proofs.Common.{◌∙◌, ap, sym}
use Rattle.std.specs.Option.{option_map}
use Rattle.search_paths.specs.Tokens.{spelled_as}
use Rattle.search_paths.proofs.TokenLemmas.{byte_set, byte_text, token_set, token_unset, token_value}
use Rattle.search_paths.proofs.expanding.first_piece.Goals as goal

pub returns-in_err-text-in-Some-clause-unset : goal.returns-in_err-text-in-Some-clause-unset
returns-in_err-text-in-Some-clause-unset c = rw c.from_residual.ensures (token_unset c.args.setting.now c.args.folder.now c.args.rest.now (spelled_as c.in-Some.spelled) c.requires (sym c.in-Some.ensures.token) (sym c.token_text.ensures ∙ ap (option_map (λ t. t.now)) c.in_err-text-in-Some.was))

pub returns-in_ok-text-in-Some-clause-unset : goal.returns-in_ok-text-in-Some-clause-unset
returns-in_ok-text-in-Some-clause-unset c = token_set c.args.setting.now c.args.folder.now c.args.rest.now (spelled_as c.in-Some.spelled) c.in_ok-text-in-Some.text.now c.requires (sym c.in-Some.ensures.token) (sym c.token_text.ensures ∙ ap (option_map (λ t. t.now)) c.in_ok-text-in-Some.was)

pub returns-in_ok-text-in-Some-clause-text : goal.returns-in_ok-text-in-Some-clause-text
returns-in_ok-text-in-Some-clause-text c = token_value c.args.setting.now c.args.folder.now c.args.rest.now (spelled_as c.in-Some.spelled) c.in_ok-text-in-Some.text.now c.requires (sym c.in-Some.ensures.token) (sym c.token_text.ensures ∙ ap (option_map (λ t. t.now)) c.in_ok-text-in-Some.was)

pub returns-in-None-clause-unset : goal.returns-in-None-clause-unset
returns-in-None-clause-unset c = byte_set c.args.setting.now c.args.folder.now c.args.rest.now c.requires (sym c.in-None.ensures.token)

pub returns-in-None-clause-text : goal.returns-in-None-clause-text
returns-in-None-clause-text c = byte_text c.args.setting.now c.args.folder.now c.args.rest.now c.requires (sym c.in-None.ensures.token)
