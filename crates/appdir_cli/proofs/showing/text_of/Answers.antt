use Rattle.appdir_cli.proofs.ShowingLemmas.{last_over, text_said}
use Rattle.appdir_cli.proofs.showing.text_of.Goals as goal

pub run_text-requires : goal.run_text-requires
run_text-requires c =
    last_over c.args.loaded.table.faces c.args.loaded.runs c.in-Some.ensures.0 c.in-Some.run' c.in-Some.ensures.1 c.requires

pub returns-in-Some : goal.returns-in-Some
returns-in-Some c =
    text_said c.args.loaded.table.faces c.args.loaded.runs c.in-Some.ensures.0 c.in-Some.run' c.run_text.result c.in-Some.ensures.1 c.run_text.ensures
