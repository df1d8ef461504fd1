use Rattle.std.proofs.Common.{◌∙◌, [], ap, refl, sym}
use Rattle.std.specs.Prelude.{codes, None, Ok}
use Rattle.toml.proofs.Views.{table_get}
use Rattle.toml.specs.View.{table_view, view}
use Rattle.app_config.specs.Names.{default_names}
use Rattle.config_text.specs.Kinds.{a_list, a_name}
use Rattle.config_text.specs.Parts.{names_of}
use Rattle.config_text.proofs.AnswerLemmas.{same}
use Rattle.config_text.proofs.TableLemmas.{optional_is, optional_lacks}
use Rattle.config_text.proofs.started.read_host.Goals as goal

pub returns-in-Some : goal.returns-in-Some
unfolding names_of
returns-in-Some c =
    let found = table_get c.get.result (codes "host") c.args.top.now.entries c.get.ensures.value in
    same c.read_names.result _ _ (optional_is (a_list a_name) default_names (table_view c.args.top.now) [] (codes "host") (codes "host") (view c.in-Some.value.now) refl (rw c.in-Some.is at found)) c.read_names.ensures

pub returns-in_ok-default_names-in-None : goal.returns-in_ok-default_names-in-None
unfolding names_of
returns-in_ok-default_names-in-None c =
    let found = table_get c.get.result (codes "host") c.args.top.now.entries c.get.ensures.value in
    optional_lacks (a_list a_name) default_names (table_view c.args.top.now) [] (codes "host") (rw c.in-None.is at found) ∙ ap Ok (sym c.in_ok-default_names-in-None.ensures)
