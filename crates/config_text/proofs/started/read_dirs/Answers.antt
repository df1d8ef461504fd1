use Rattle.std.proofs.Common.{◌∙◌, [], ap, refl, sym}
use Rattle.std.specs.Prelude.{codes, None, Ok}
use Rattle.toml.proofs.Views.{table_get}
use Rattle.toml.specs.View.{table_view, view}
use Rattle.app_config.specs.Settings.{default_dirs}
use Rattle.config_text.specs.Kinds.{a_list, a_path}
use Rattle.config_text.specs.Parts.{dirs_of}
use Rattle.config_text.proofs.AnswerLemmas.{same}
use Rattle.config_text.proofs.TableLemmas.{optional_is, optional_lacks}
use Rattle.config_text.proofs.started.read_dirs.Goals as goal

pub returns-in-Some : goal.returns-in-Some
unfolding dirs_of
returns-in-Some c =
    let found = table_get c.get.result (codes "directories") c.args.top.now.entries c.get.ensures.value in
    same c.read_paths.result _ _ (optional_is (a_list a_path) default_dirs (table_view c.args.top.now) [] (codes "directories") (codes "directories") (view c.in-Some.value.now) refl (rw c.in-Some.is at found)) c.read_paths.ensures

pub returns-in_ok-default_dirs-in-None : goal.returns-in_ok-default_dirs-in-None
unfolding dirs_of
returns-in_ok-default_dirs-in-None c =
    let found = table_get c.get.result (codes "directories") c.args.top.now.entries c.get.ensures.value in
    optional_lacks (a_list a_path) default_dirs (table_view c.args.top.now) [] (codes "directories") (rw c.in-None.is at found) ∙ ap Ok (sym c.in_ok-default_dirs-in-None.ensures)
