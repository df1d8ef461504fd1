use Rattle.std.proofs.Common.{◌∙◌}
use Rattle.toml.specs.View.{table_view}
use Rattle.config_text.specs.Faults.{said_of_config}
use Rattle.config_text.specs.Parts.{file_keys, file_of}
use Rattle.config_text.proofs.TableLemmas.{inside_fails, inside_goes}
use Rattle.config_text.proofs.carried.file_inside.Goals as goal

pub returns-in-Ok : goal.returns-in-Ok
returns-in-Ok c =
    inside_goes c.file_of.result file_keys file_of c.args.key.now c.as_str-prefix.result.now (table_view c.args.table.now) (c.as_str-prefix.ensures.value ∙ c.in_ok-text.ensures) c.in-Ok.ensures c.file_of.ensures

pub returns : goal.returns
returns c =
    inside_fails (said_of_config c.in-Err.fault) file_keys file_of c.args.key.now c.as_str-prefix.result.now (table_view c.args.table.now) (c.as_str-prefix.ensures.value ∙ c.in_ok-text.ensures) c.in-Err.ensures
