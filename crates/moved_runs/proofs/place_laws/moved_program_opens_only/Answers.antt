use Rattle.moved_runs.proofs.OpenedLemmas.{moved_opens}
use Rattle.moved_runs.proofs.place_laws.moved_program_opens_only.Goals as goal

pub returns : goal.returns
returns c read setting setting_there here there path opens loaded ends place items name_of is_bundled program objs_there list moved opened is =
    moved_opens read setting setting_there here there path opens loaded ends place items name_of is_bundled program objs_there list moved opened is
