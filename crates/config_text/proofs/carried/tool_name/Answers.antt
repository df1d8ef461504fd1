use Rattle.std.proofs.Common.{◌∙◌}
use Rattle.std.specs.Prelude.{codes}
use Rattle.toml.proofs.Views.{table_get}
use Rattle.toml.specs.View.{table_view, view}
use Rattle.config_text.proofs.AnswerLemmas.{same}
use Rattle.config_text.proofs.TableLemmas.{name_is_base, name_is_given}
use Rattle.config_text.proofs.carried.tool_name.Goals as goal

pub returns-in-Some : goal.returns-in-Some
returns-in-Some c =
    let found = table_get c.get.result (codes "name") c.args.table.now.entries c.get.ensures.value in
    same c.read_name.result _ _ (name_is_given (table_view c.args.table.now) c.args.prefix.now c.as_str-key.result.now c.args.path.now (view c.in-Some.value.now) (c.as_str-key.ensures.value ∙ c.in_ok-text.ensures) (rw c.in-Some.is at found)) c.read_name.ensures

pub returns : goal.returns
returns c =
    let found = table_get c.get.result (codes "name") c.args.table.now.entries c.get.ensures.value in
    same c.file_name.result _ _ (name_is_base (table_view c.args.table.now) c.args.prefix.now c.as_str-key.result.now c.args.path.now c.base.result.now (c.as_str-key.ensures.value ∙ c.in_ok-text.ensures) (rw c.in-None.is at found) c.base.ensures) c.file_name.ensures
