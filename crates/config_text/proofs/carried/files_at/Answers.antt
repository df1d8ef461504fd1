use Rattle.std.specs.Prelude.{codes}
use Rattle.toml.specs.View.{items_view, view}
use Rattle.config_text.specs.Faults.{said_of_config}
use Rattle.config_text.specs.Parts.{file_keys, file_of}
use Rattle.config_text.specs.Tables.{a_table}
use Rattle.config_text.proofs.AnswerLemmas.{same, told}
use Rattle.config_text.proofs.ValueLemmas.{list_is, list_lacks}
use Rattle.config_text.proofs.carried.files_at.Goals as goal

pub returns-in-Some : goal.returns-in-Some
returns-in-Some c =
    same c.files_in.result _ _ (list_is (a_table file_keys file_of) (codes "data") (view c.args.value.now) (items_view c.in-Some.values.now.items) (rw c.in-Some.is at c.as_array.ensures)) (rw c.as_slice.ensures.value at c.files_in.ensures)

pub returns-in-None : goal.returns-in-None
returns-in-None c =
    told (said_of_config c.wrong_kind.result) _ _ (list_lacks (a_table file_keys file_of) (codes "data") (view c.args.value.now) (rw c.in-None.is at c.as_array.ensures)) c.wrong_kind.ensures
