use Rattle.std.proofs.Common.{◌∙◌, [], ap, refl, sym}
use Rattle.std.specs.Prelude.{codes, None, Ok}
use Rattle.toml.proofs.Views.{table_get}
use Rattle.toml.specs.View.{table_view, view}
use Rattle.config_text.specs.Kinds.{a_text}
use Rattle.config_text.specs.Tables.{if_any}
use Rattle.config_text.specs.Parts.{token_of}
use Rattle.config_text.proofs.AnswerLemmas.{same}
use Rattle.config_text.proofs.TableLemmas.{optional_is, optional_lacks}
use Rattle.config_text.proofs.started.read_token.Goals as goal

pub returns-in-Some : goal.returns-in-Some
unfolding token_of
returns-in-Some c =
    let found = table_get c.get.result c.args.name.now c.args.top.now.entries c.get.ensures.value in
    same c.token_at.result _ _ (optional_is (if_any a_text) None (table_view c.args.top.now) [] c.args.name.now c.args.name.now (view c.in-Some.value.now) refl (rw c.in-Some.is at found)) c.token_at.ensures

pub returns-in-None : goal.returns-in-None
unfolding token_of
returns-in-None c =
    let found = table_get c.get.result c.args.name.now c.args.top.now.entries c.get.ensures.value in
    optional_lacks (if_any a_text) None (table_view c.args.top.now) [] c.args.name.now (rw c.in-None.is at found)
