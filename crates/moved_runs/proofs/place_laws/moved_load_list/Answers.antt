use Rattle.moved_runs.proofs.MovingLemmas.{moved_list as law}
use Rattle.moved_runs.proofs.place_laws.moved_load_list.Goals as goal

pub returns : goal.returns
returns c read setting setting_there here there path opens loaded ends place items name_of is_bundled program objs_there list moved =
    law read setting setting_there here there path opens loaded ends list place items name_of is_bundled program objs_there moved
