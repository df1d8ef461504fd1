-- The folder of a normal path is one.
use Rattle.std.proofs.Common.{◌∙◌, ap, subst, sym}
use Rattle.path_text.specs.Path.{IsNormalPath, folder_of}
use Rattle.path_text.proofs.PathLemmas.{IsNormalPath-folder_of}
use Rattle.path_text.proofs.absolute.Abs.folder.Goals as goal

pub invariant_of-result : goal.invariant_of-result
invariant_of-result c = subst IsNormalPath (sym (c.in-Ok.ensures.ok ∙ (c.folder_text.ensures ∙ ap folder_of c.as_str.ensures.text))) (IsNormalPath-folder_of _ c.as_str.ensures.normal)

pub returns-in-Ok-clause-normal : goal.returns-in-Ok-clause-normal
returns-in-Ok-clause-normal c = invariant_of-result c
