use Rattle.std.proofs.Common.{◌∙◌}
use Rattle.std.specs.Prelude.{codes}
use Rattle.toml.specs.View.{table_view, view}
use Rattle.config_text.specs.Faults.{said_of_config}
use Rattle.config_text.specs.Kinds.{element_key}
use Rattle.config_text.specs.Parts.{tool_keys, tool_of}
use Rattle.config_text.proofs.AnswerLemmas.{same, told}
use Rattle.config_text.proofs.TableLemmas.{table_is, table_lacks}
use Rattle.config_text.proofs.carried.tool_in.Goals as goal

pub returns-in-Some : goal.returns-in-Some
returns-in-Some c =
    same c.tool_inside.result _ _ (table_is tool_keys tool_of c.as_str-key.result.now (element_key (codes "tools") c.args.index) (view c.args.value.now) (table_view c.in-Some.table.now) (c.as_str-key.ensures.value ∙ c.in_ok-text.ensures) (rw c.in-Some.is at c.as_table.ensures)) c.tool_inside.ensures

pub returns : goal.returns
returns c =
    told (said_of_config c.wrong_kind.result) _ _ (table_lacks tool_keys tool_of c.as_str-key.result.now (element_key (codes "tools") c.args.index) (view c.args.value.now) (c.as_str-key.ensures.value ∙ c.in_ok-text.ensures) (rw c.in-None.is at c.as_table.ensures)) c.wrong_kind.ensures
