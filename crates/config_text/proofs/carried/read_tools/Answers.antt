use Rattle.std.proofs.Common.{◌∙◌, [], ap, refl, sym}
use Rattle.std.specs.Prelude.{codes, None, Ok}
use Rattle.toml.proofs.Views.{table_get}
use Rattle.toml.specs.View.{table_view, view}
use Rattle.config_text.specs.Kinds.{a_list}
use Rattle.config_text.specs.Tables.{a_table}
use Rattle.config_text.specs.Parts.{tool_keys, tool_of, tools_of}
use Rattle.config_text.proofs.AnswerLemmas.{same}
use Rattle.config_text.proofs.TableLemmas.{optional_is, optional_lacks}
use Rattle.config_text.proofs.carried.read_tools.Goals as goal

pub returns-in-Some : goal.returns-in-Some
unfolding tools_of
returns-in-Some c =
    let found = table_get c.get.result (codes "tools") c.args.top.now.entries c.get.ensures.value in
    same c.tools_at.result _ _ (optional_is (a_list (a_table tool_keys tool_of)) [] (table_view c.args.top.now) [] (codes "tools") (codes "tools") (view c.in-Some.value.now) refl (rw c.in-Some.is at found)) c.tools_at.ensures

pub returns-in-None : goal.returns-in-None
unfolding tools_of
returns-in-None c =
    let found = table_get c.get.result (codes "tools") c.args.top.now.entries c.get.ensures.value in
    optional_lacks (a_list (a_table tool_keys tool_of)) [] (table_view c.args.top.now) [] (codes "tools") (rw c.in-None.is at found) ∙ ap Ok (sym c.new.ensures)
