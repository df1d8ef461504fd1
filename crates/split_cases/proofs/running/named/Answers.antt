use Rattle.std.proofs.Common.{◌∙◌, sym}
use Rattle.split_cases.proofs.OpenedLemmas.{opens_named}
use Rattle.split_cases.proofs.running.named.Goals as goal

pub name_all-layout-requires-clause-opened : goal.name_all-layout-requires-clause-opened
name_all-layout-requires-clause-opened c = opens_named c.args.runs.now (sym c.open_file_names.ensures ∙ c.if-open_file_names.true)
