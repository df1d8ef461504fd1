use Rattle.std.proofs.Common.{◌∙◌, ap, sym}
use Rattle.std.specs.Prelude.{Ok}
use Rattle.config_text.proofs.AnswerLemmas.{told}
use Rattle.config_text.proofs.ValueLemmas.{name_is, name_is_not}
use Rattle.config_text.specs.Faults.{said_of_config}
use Rattle.config_text.proofs.kinds.file_name.Goals as goal

pub returns-in_ok-from_bytes : goal.returns-in_ok-from_bytes
returns-in_ok-from_bytes c = name_is c.args.key.now c.args.text.now c.if-is_name_text.ensures ∙ ap Ok (sym c.in_ok-from_bytes.ensures)

pub returns-else-is_name_text : goal.returns-else-is_name_text
returns-else-is_name_text c = told (said_of_config c.bad_name.result) _ _ (name_is_not c.args.key.now c.args.text.now c.if-is_name_text.ensures) c.bad_name.ensures
