use Rattle.moved_builds.proofs.LawLemmas.{same_there}
use Rattle.moved_builds.proofs.run_laws.built_programs_run_same.Goals as goal

pub returns : goal.returns
returns c world there config made setting place number start run path ready source home is =
    same_there world config made number start run path ready source is there setting place home
