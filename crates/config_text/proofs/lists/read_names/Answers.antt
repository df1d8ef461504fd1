use Rattle.std.proofs.Common.{◌∙◌}
use Rattle.toml.specs.View.{items_view, view}
use Rattle.config_text.specs.Faults.{said_of_config}
use Rattle.config_text.specs.Kinds.{a_name}
use Rattle.config_text.proofs.AnswerLemmas.{same, told}
use Rattle.config_text.proofs.ValueLemmas.{list_is, list_lacks}
use Rattle.config_text.proofs.lists.read_names.Goals as goal

pub returns-in-Some : goal.returns-in-Some
returns-in-Some c =
    same c.names_of.result _ _ (list_is a_name c.args.key.now (view c.args.value.now) (items_view c.in-Some.values.now.items) (rw c.in-Some.is at c.as_array.ensures)) (rw c.as_slice.ensures.value at c.names_of.ensures)

pub returns-in-None : goal.returns-in-None
returns-in-None c =
    told (said_of_config c.wrong_kind.result) _ _ (list_lacks a_name c.args.key.now (view c.args.value.now) (rw c.in-None.is at c.as_array.ensures)) c.wrong_kind.ensures
