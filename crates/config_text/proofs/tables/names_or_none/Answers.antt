use Rattle.std.proofs.Common.{◌∙◌, [], ap, sym}
use Rattle.std.specs.Prelude.{Ok}
use Rattle.toml.proofs.Views.{table_get}
use Rattle.toml.specs.View.{table_view, view}
use Rattle.config_text.specs.Kinds.{a_list, a_name}
use Rattle.config_text.proofs.AnswerLemmas.{same}
use Rattle.config_text.proofs.TableLemmas.{optional_is, optional_lacks}
use Rattle.config_text.proofs.tables.names_or_none.Goals as goal

pub returns-in-Some : goal.returns-in-Some
returns-in-Some c =
    let found = table_get c.get.result c.args.name.now c.args.table.now.entries c.get.ensures.value in
    same c.read_names.result _ _ (optional_is (a_list a_name) [] (table_view c.args.table.now) c.args.prefix.now c.args.name.now c.as_str-key.result.now (view c.in-Some.value.now) (c.as_str-key.ensures.value ∙ c.in_ok-text.ensures) (rw c.in-Some.is at found)) c.read_names.ensures

pub returns : goal.returns
returns c =
    let found = table_get c.get.result c.args.name.now c.args.table.now.entries c.get.ensures.value in
    optional_lacks (a_list a_name) [] (table_view c.args.table.now) c.args.prefix.now c.args.name.now (rw c.in-None.is at found) ∙ ap Ok (sym c.new.ensures)
