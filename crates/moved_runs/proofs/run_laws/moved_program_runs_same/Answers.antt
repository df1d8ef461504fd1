use Rattle.moved_runs.proofs.SameRunLemmas.{runs_same}
use Rattle.moved_runs.proofs.run_laws.moved_program_runs_same.Goals as goal

pub returns : goal.returns
returns c read setting setting_there here there path opens faces replay place items name_of is_bundled program objs_there plays moved alike keep =
    runs_same read setting setting_there here there path opens faces replay plays place items name_of is_bundled program objs_there moved alike keep
