use Rattle.std.proofs.Common.{◌∙◌}
use Rattle.config_text.specs.Kinds.{a_target, a_text}
use Rattle.config_text.proofs.AnswerLemmas.{goes, stops, told}
use Rattle.config_text.proofs.ValueLemmas.{text_is, text_lacks}
use Rattle.config_text.specs.Faults.{said_of_config}
use Rattle.toml.specs.View.{view}
use Rattle.config_text.proofs.kinds.read_target.Goals as goal

pub returns-in-Some : goal.returns-in-Some
unfolding a_target
returns-in-Some c =
    goes c.target_of.result (a_text c.args.key.now (view c.args.value.now)) c.in-Some.text.now _ (text_is c.args.key.now (view c.args.value.now) c.in-Some.text.now (rw c.in-Some.is at c.as_str.ensures)) c.target_of.ensures

pub returns-in-None : goal.returns-in-None
unfolding a_target
returns-in-None c =
    stops (said_of_config c.wrong_kind.result) (a_text c.args.key.now (view c.args.value.now)) _ (told (said_of_config c.wrong_kind.result) _ _ (text_lacks c.args.key.now (view c.args.value.now) (rw c.in-None.is at c.as_str.ensures)) c.wrong_kind.ensures)
