use Rattle.moved_builds.proofs.InterpreterLemmas.{interpreter_there}
use Rattle.moved_builds.proofs.LawLemmas.{run_in}
use Rattle.moved_builds.proofs.place_laws.built_interpreters_are_there.Goals as goal

pub returns : goal.returns
returns c world there config made setting place number start run path ready source home is =
    interpreter_there world config ready.building number start run path (run_in world config made number start run path ready source is) setting there home.meets
