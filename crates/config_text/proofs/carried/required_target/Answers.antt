use Rattle.std.proofs.Common.{◌∙◌}
use Rattle.toml.proofs.Views.{table_get}
use Rattle.toml.specs.View.{table_view, view}
use Rattle.config_text.specs.Faults.{said_of_config}
use Rattle.config_text.specs.Kinds.{a_target}
use Rattle.config_text.proofs.AnswerLemmas.{same, told}
use Rattle.config_text.proofs.TableLemmas.{required_is, required_lacks}
use Rattle.config_text.proofs.carried.required_target.Goals as goal

pub returns-in-Some : goal.returns-in-Some
returns-in-Some c =
    let found = table_get c.get.result c.args.name.now c.args.table.now.entries c.get.ensures.value in
    same c.read_target.result _ _ (required_is a_target (table_view c.args.table.now) c.args.prefix.now c.args.name.now c.as_str-key.result.now (view c.in-Some.value.now) (c.as_str-key.ensures.value ∙ c.in_ok-text.ensures) (rw c.in-Some.is at found)) c.read_target.ensures

pub returns : goal.returns
returns c =
    let found = table_get c.get.result c.args.name.now c.args.table.now.entries c.get.ensures.value in
    told (said_of_config c.missing_key.result) _ _ (required_lacks a_target (table_view c.args.table.now) c.args.prefix.now c.args.name.now c.as_str-key.result.now (c.as_str-key.ensures.value ∙ c.in_ok-text.ensures) (rw c.in-None.is at found)) c.missing_key.ensures
