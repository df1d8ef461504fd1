-- what is left of the chain answers as the whole does
use Rattle.std.proofs.Common.{◌≡◌, ◌+◌, ◌-◌, length, arith}
use Rattle.load_model.specs.SysvTable.{chain}
use Rattle.hash_lookup.specs.Finding.{nothing, wish_of}
use Rattle.hash_lookup.proofs.ChainLemmas.{sysv_done, sysv_end, sysv_step}
use Rattle.hash_lookup.proofs.sysv_chains.along.Goals as goal

pub loop-step-preserved : goal.loop-step-preserved
loop-step-preserved g c =
    let less : length c.args.chains.now - (c.loop-step._step + 1) ≡ length c.args.chains.now - c.loop-step._step - 1 = omega arith in
    rw less (sysv_step (wish_of c.args.lookup.now) c.args.lookup.now.syms.now c.loop-step.found c.note.new.self nothing c.loop-step.steps c.tick.new.self c.args.steps.now (length c.args.chains.now - c.loop-step._step) c.loop-step.at c.next_of-at.result c.args.chains.now (chain (length c.args.chains.now) c.args.chains.now c.args.first) (omega arith) c.if-at-eq0.false c.next_of-at.ensures c.note.ensures c.tick.ensures c.loop-step.invariant)

pub returns-then-at-eq0-clause-found : goal.returns-then-at-eq0-clause-found
returns-then-at-eq0-clause-found g c =
    (sysv_end (wish_of c.args.lookup.now) c.args.lookup.now.syms.now c.loop-step.found nothing c.loop-step.steps c.args.steps.now (length c.args.chains.now - c.loop-step._step) c.loop-step.at c.args.chains.now (chain (length c.args.chains.now) c.args.chains.now c.args.first) (omega arith) c.loop-step.invariant).0

pub returns-then-at-eq0-clause-cost : goal.returns-then-at-eq0-clause-cost
returns-then-at-eq0-clause-cost g c =
    (sysv_end (wish_of c.args.lookup.now) c.args.lookup.now.syms.now c.loop-step.found nothing c.loop-step.steps c.args.steps.now (length c.args.chains.now - c.loop-step._step) c.loop-step.at c.args.chains.now (chain (length c.args.chains.now) c.args.chains.now c.args.first) (omega arith) c.loop-step.invariant).1

pub returns-clause-found : goal.returns-clause-found
returns-clause-found g c =
    (sysv_done (wish_of c.args.lookup.now) c.args.lookup.now.syms.now c.loop-step.found nothing c.loop-step.steps c.args.steps.now (length c.args.chains.now - c.loop-step._step) c.loop-step.at c.args.chains.now (chain (length c.args.chains.now) c.args.chains.now c.args.first) (omega arith) c.loop-step.invariant).0

pub returns-clause-cost : goal.returns-clause-cost
returns-clause-cost g c =
    (sysv_done (wish_of c.args.lookup.now) c.args.lookup.now.syms.now c.loop-step.found nothing c.loop-step.steps c.args.steps.now (length c.args.chains.now - c.loop-step._step) c.loop-step.at c.args.chains.now (chain (length c.args.chains.now) c.args.chains.now c.args.first) (omega arith) c.loop-step.invariant).1
