-- Before the last slash stand the parts but the last.
use Rattle.std.proofs.Common.{sym}
use Rattle.std.proofs.lemmas.Bool.{eqb-false, eqb-true}
use Rattle.path_text.proofs.FolderLemmas.{folder_of-none, folder_of-some}
use Rattle.path_text.proofs.PathLemmas.{begins_at_root-IsNormalPath}
use Rattle.path_text.proofs.normal.folder_text.Goals as goal

pub cut_last-requires : goal.cut_last-requires
cut_last-requires c = begins_at_root-IsNormalPath _ c.requires

pub returns-then-is_empty : goal.returns-then-is_empty
returns-then-is_empty c = folder_of-none _ _ _ c.requires c.cut_last.ensures (eqb-true _ 0 (sym c.if-is_empty.ensures))

pub returns-else-is_empty : goal.returns-else-is_empty
returns-else-is_empty c = folder_of-some _ _ _ c.requires c.cut_last.ensures (eqb-false _ 0 (sym c.if-is_empty.ensures))
