-- Behind the last slash stands the last part.
use Rattle.path_text.proofs.FolderLemmas.{base_of-cut}
use Rattle.path_text.proofs.PathLemmas.{begins_at_root-IsNormalPath}
use Rattle.path_text.proofs.normal.base_text.Goals as goal

pub cut_last-requires : goal.cut_last-requires
cut_last-requires c = begins_at_root-IsNormalPath _ c.requires

pub returns : goal.returns
returns c = base_of-cut _ c.cut_last.result.0.now _ c.requires c.cut_last.ensures
