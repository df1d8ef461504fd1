use Rattle.std.proofs.Common.{[], refl}
use Rattle.std.specs.Prelude.{codes}
use Rattle.toml.proofs.Views.{table_get}
use Rattle.toml.specs.View.{table_view, view}
use Rattle.config_text.specs.Faults.{said_of_config}
use Rattle.config_text.specs.Kinds.{a_file, desktop_endings}
use Rattle.config_text.specs.Parts.{desktop_of}
use Rattle.config_text.proofs.AnswerLemmas.{same, told}
use Rattle.config_text.proofs.TableLemmas.{required_is, required_lacks}
use Rattle.config_text.proofs.reading.desktop_of.Goals as goal

pub returns-in-Some : goal.returns-in-Some
unfolding desktop_of
returns-in-Some c =
    let found = table_get c.get.result (codes "desktop") c.args.top.now.entries c.get.ensures.value in
    same c.read_desktop.result _ _ (required_is (a_file desktop_endings) (table_view c.args.top.now) [] (codes "desktop") (codes "desktop") (view c.in-Some.value.now) refl (rw c.in-Some.is at found)) c.read_desktop.ensures

pub returns-in-None : goal.returns-in-None
unfolding desktop_of
returns-in-None c =
    let found = table_get c.get.result (codes "desktop") c.args.top.now.entries c.get.ensures.value in
    told (said_of_config c.missing_key.result) _ _ (required_lacks (a_file desktop_endings) (table_view c.args.top.now) [] (codes "desktop") (codes "desktop") refl (rw c.in-None.is at found)) c.missing_key.ensures
