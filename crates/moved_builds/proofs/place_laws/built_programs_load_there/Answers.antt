use Rattle.moved_builds.proofs.LawLemmas.{list_there, moved_ends, moved_here, opens_only, recorded}
use Rattle.moved_builds.proofs.place_laws.built_programs_load_there.Goals as goal

pub returns-clause-loads : goal.returns-clause-loads
returns-clause-loads c world there config made setting place number start run path ready source home is =
    (moved_here world config made number start run path ready source is there setting place home, moved_ends world config made number start run path ready source is there setting place home, list_there world config made number start run path ready source is there setting place home)

pub returns-clause-opens : goal.returns-clause-opens
returns-clause-opens c world there config made setting place number start run path ready source home is loaded ends opened list h =
    opens_only world config made number start run path ready source is there setting place home loaded ends opened list h

pub returns-clause-recorded : goal.returns-clause-recorded
returns-clause-recorded c world config made number start run path j x ready source is some h unbundled =
    recorded world config made number start run path ready source is j x some h unbundled
