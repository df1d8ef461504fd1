-- What has no fault has a normal form.
use Rattle.std.proofs.Common.{◌∙◌, ap, subst, sym}
use Rattle.path_text.specs.Path.{IsNormalPath}
use Rattle.path_text.specs.Path.{path_fault}
use Rattle.path_text.proofs.PathLemmas.{IsNormalPath-normal_path, IsPath-from_no_fault, IsPathFault-from_fault}
use Rattle.path_text.proofs.absolute.Abs.read.Goals as goal

pub invariant_of-result : goal.invariant_of-result
invariant_of-result c = subst IsNormalPath (sym c.in-Ok-normal_text.ensures) (IsNormalPath-normal_path c.in-Ok.text.now (ap path_fault c.in-Ok.ensures.0 ∙ c.in-Ok.ensures.1))

pub returns-in-Ok-normal_text-clause-normal : goal.returns-in-Ok-normal_text-clause-normal
returns-in-Ok-normal_text-clause-normal c = subst IsNormalPath (sym c.in-Ok-normal_text.ensures) (IsNormalPath-normal_path c.in-Ok.text.now (ap path_fault c.in-Ok.ensures.0 ∙ c.in-Ok.ensures.1))

pub returns-in-Ok-normal_text-clause-ok : goal.returns-in-Ok-normal_text-clause-ok
returns-in-Ok-normal_text-clause-ok c = IsPath-from_no_fault _ c.in-Ok.ensures.1

pub returns-in-Err-clause-fault : goal.returns-in-Err-clause-fault
returns-in-Err-clause-fault c = IsPathFault-from_fault _ _ c.in-Err.ensures
