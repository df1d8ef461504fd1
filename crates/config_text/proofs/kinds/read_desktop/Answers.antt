use Rattle.config_text.specs.Kinds.{a_file, a_path, desktop_endings}
use Rattle.config_text.specs.Faults.{said_of_config}
use Rattle.toml.specs.View.{view}
use Rattle.config_text.proofs.AnswerLemmas.{goes, same, stops}
use Rattle.config_text.proofs.ValueLemmas.{file_answer, file_fits}
use Rattle.config_text.proofs.kinds.read_desktop.Goals as goal

pub returns-in-Err : goal.returns-in-Err
unfolding a_file
returns-in-Err c = stops (said_of_config c.in-Err.fault) (a_path c.args.key.now (view c.args.value.now)) _ c.in-Err.ensures

pub returns : goal.returns
unfolding a_file
returns c =
    goes c.item_path.result (a_path c.args.key.now (view c.args.value.now)) c.in-Ok.path _ c.in-Ok.ensures
    (same c.item_path.result _ _ (file_answer c.args.key.now c.in-Ok.path _ _ (file_fits desktop_endings c.in-Ok.path c.base.result.now c.is_desktop_name-is_ended.result c.is_desktop_name-is_ended.ensures c.base.ensures)) c.item_path.ensures)
