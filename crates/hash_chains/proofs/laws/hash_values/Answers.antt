-- the values are computed
use Rattle.std.proofs.Common.{refl}
use Rattle.load_model.specs.Hashes.{gnu_step, sysv_step}
use Rattle.hash_chains.proofs.laws.hash_values.Goals as goal

pub returns-clause-empty : goal.returns-clause-empty
unfolding sysv_step gnu_step
returns-clause-empty c = refl

pub returns-clause-empty_gnu : goal.returns-clause-empty_gnu
unfolding sysv_step gnu_step
returns-clause-empty_gnu c = refl

pub returns-clause-exit : goal.returns-clause-exit
unfolding sysv_step gnu_step
returns-clause-exit c = refl

pub returns-clause-exit_gnu : goal.returns-clause-exit_gnu
unfolding sysv_step gnu_step
returns-clause-exit_gnu c = refl

pub returns-clause-puts : goal.returns-clause-puts
unfolding sysv_step gnu_step
returns-clause-puts c = refl

pub returns-clause-version : goal.returns-clause-version
unfolding sysv_step gnu_step
returns-clause-version c = refl
