-- the chains are computed
use Rattle.std.proofs.Common.{refl}
use Rattle.hash_lookup.specs.Chains.{first_of, gnu_chain, chain_along, chain_at, sysv_chain}
use Rattle.load_model.specs.Hashes.{gnu_step, sysv_step}
use Rattle.load_model.specs.SysvTable.{chain}
use Rattle.hash_lookup.proofs.laws.bucket_of_three.Goals as goal

pub returns-clause-gnu : goal.returns-clause-gnu
unfolding gnu_step first_of chain_along chain_at gnu_chain
returns-clause-gnu c = refl

pub returns-clause-sysv : goal.returns-clause-sysv
unfolding sysv_step first_of sysv_chain chain
returns-clause-sysv c = refl
