use Rattle.std.proofs.Common.{◌∙◌, [], ap, refl, sym}
use Rattle.std.specs.Prelude.{codes, None, Ok}
use Rattle.toml.proofs.Views.{table_get}
use Rattle.toml.specs.View.{table_view, view}
use Rattle.config_text.specs.Kinds.{a_list}
use Rattle.config_text.specs.Tables.{a_table}
use Rattle.config_text.specs.Parts.{file_keys, file_of, files_of}
use Rattle.config_text.proofs.AnswerLemmas.{same}
use Rattle.config_text.proofs.TableLemmas.{optional_is, optional_lacks}
use Rattle.config_text.proofs.carried.read_files.Goals as goal

pub returns-in-Some : goal.returns-in-Some
unfolding files_of
returns-in-Some c =
    let found = table_get c.get.result (codes "data") c.args.top.now.entries c.get.ensures.value in
    same c.files_at.result _ _ (optional_is (a_list (a_table file_keys file_of)) [] (table_view c.args.top.now) [] (codes "data") (codes "data") (view c.in-Some.value.now) refl (rw c.in-Some.is at found)) c.files_at.ensures

pub returns-in-None : goal.returns-in-None
unfolding files_of
returns-in-None c =
    let found = table_get c.get.result (codes "data") c.args.top.now.entries c.get.ensures.value in
    optional_lacks (a_list (a_table file_keys file_of)) [] (table_view c.args.top.now) [] (codes "data") (rw c.in-None.is at found) ∙ ap Ok (sym c.new.ensures)
