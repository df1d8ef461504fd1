-- What has no fault is a target.
use Rattle.std.proofs.Common.{◌∙◌, ap, subst, sym}
use Rattle.path_text.specs.Target.{IsTarget}
use Rattle.path_text.specs.Target.{target_fault}
use Rattle.path_text.proofs.TargetLemmas.{IsTarget-from_no_fault, IsTargetFault-from_fault}
use Rattle.path_text.proofs.relative.Rel.read.Goals as goal

pub invariant_of-result : goal.invariant_of-result
invariant_of-result c = subst IsTarget (sym c.in-Ok-from_str.ensures.ok) (IsTarget-from_no_fault c.in-Ok.text.now (ap target_fault c.in-Ok.ensures.0 ∙ c.in-Ok.ensures.1))

pub returns-in-Ok-from_str-clause-target : goal.returns-in-Ok-from_str-clause-target
returns-in-Ok-from_str-clause-target c = subst IsTarget (sym c.in-Ok-from_str.ensures.ok) (IsTarget-from_no_fault c.in-Ok.text.now (ap target_fault c.in-Ok.ensures.0 ∙ c.in-Ok.ensures.1))

pub returns-in-Err-clause-fault : goal.returns-in-Err-clause-fault
returns-in-Err-clause-fault c = IsTargetFault-from_fault _ _ c.in-Err.ensures
