use Rattle.build_laws.proofs.ImageLemmas.{memory_kept}
use Rattle.build_laws.proofs.file_laws.built_files_keep_memory.Goals as goal

pub returns : goal.returns
returns c world config b number start run path object at written there =
    memory_kept world config b number start run path at written object there
