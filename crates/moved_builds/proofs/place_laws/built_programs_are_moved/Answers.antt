use Rattle.build_laws.proofs.BesideLemmas.{objects_for}
use Rattle.moved_builds.proofs.LawLemmas.{package_moved, run_in}
use Rattle.moved_builds.proofs.place_laws.built_programs_are_moved.Goals as goal

pub returns : goal.returns
returns c world there config made setting place number start run path ready source home is =
    let at = run_in world config made number start run path ready source is in
    (at, objects_for setting there place path ready.building run at.plays.loads.loaded.objs, package_moved world config made number start run path ready source is there setting place home)
