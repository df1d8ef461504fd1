-- what is left of the chain, from what was found so far, answers as the whole does
use Rattle.std.proofs.Common.{◌+◌, drop}
use Rattle.hash_lookup.specs.Chains.{chain_along, with_hash}
use Rattle.hash_lookup.specs.Finding.{found_in, nothing, wish_of}
use Rattle.hash_lookup.proofs.ChainLemmas.{IsOnTheWay}
use Rattle.hash_lookup.proofs.gnu_chains.along.Given as goal

abbrev pub invariant-loop-k : goal.invariant-loop-k
invariant-loop-k g l =
    IsOnTheWay (found_in (wish_of l.lookup) l.lookup.syms.now) l.found l.steps (with_hash l.hash (chain_along (l.first + l.k) (drop l.k l.words))) (chain_along (l.first + l.k) (drop l.k l.words))
    nothing l.initial.steps (with_hash l.hash (chain_along l.first l.words)) (chain_along l.first l.words)
