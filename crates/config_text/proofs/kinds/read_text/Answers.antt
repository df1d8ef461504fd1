use Rattle.std.proofs.Common.{◌∙◌, ap, sym}
use Rattle.std.specs.Prelude.{Ok}
use Rattle.config_text.proofs.AnswerLemmas.{told}
use Rattle.config_text.proofs.ValueLemmas.{text_is, text_lacks}
use Rattle.config_text.specs.Faults.{said_of_config}
use Rattle.toml.specs.View.{view}
use Rattle.config_text.proofs.kinds.read_text.Goals as goal

pub returns-in_ok-from_bytes-in-Some : goal.returns-in_ok-from_bytes-in-Some
returns-in_ok-from_bytes-in-Some c =
    text_is c.args.key.now (view c.args.value.now) c.in-Some.text.now (rw c.in-Some.is at c.as_str.ensures) ∙ ap Ok (sym (c.in_ok-from_bytes-in-Some.ensures ∙ c.as_bytes.ensures.value))

pub returns-in-None : goal.returns-in-None
returns-in-None c =
    told (said_of_config c.wrong_kind.result) _ _ (text_lacks c.args.key.now (view c.args.value.now) (rw c.in-None.is at c.as_str.ensures)) c.wrong_kind.ensures
