-- what is left of the chain, from what was found so far, answers as the whole does
use Rattle.std.proofs.Common.{◌-◌, length}
use Rattle.load_model.specs.SysvTable.{chain}
use Rattle.hash_lookup.specs.Finding.{found_in, nothing, wish_of}
use Rattle.hash_lookup.proofs.ChainLemmas.{IsOnTheWay}
use Rattle.hash_lookup.proofs.sysv_chains.along.Given as goal

abbrev pub invariant-loop-step : goal.invariant-loop-step
invariant-loop-step g l =
    IsOnTheWay (found_in (wish_of l.lookup) l.lookup.syms.now) l.found l.steps (chain (length l.chains - l._step) l.chains l.at) (chain (length l.chains - l._step) l.chains l.at)
    nothing l.initial.steps (chain (length l.chains) l.chains l.first) (chain (length l.chains) l.chains l.first)
