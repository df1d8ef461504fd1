use Rattle.std.proofs.Common.{◌-◌, arith}
use Rattle.extra_files.proofs.StemLemmas.{all_of_it, cut_at}
use Rattle.extra_files.proofs.stems.before_last_dot.Goals as goal

pub returns-then-text-end-eq46 : goal.returns-then-text-end-eq46
returns-then-text-end-eq46 c =
    cut_at c.args.text.now (c.back.end - 1) c.back.end (omega arith) (omega arith) c.if-text-end-eq46.true c.back.invariant.none

pub returns : goal.returns
returns c = all_of_it c.args.text.now c.back.end (omega arith) c.back.invariant.none
