use Rattle.std.proofs.Common.{◌≡◌, ◌∙◌, map, sym, subst}
use Rattle.lib_closure.specs.Firsts.{AreFirsts}
use Rattle.lib_closure.specs.Objects.{each_first}
use Rattle.lib_closure.specs.Seen.{standing}
use Rattle.lib_closure.proofs.FirstsLemmas.{first_end, first_step, own}
use Rattle.lib_closure.proofs.firsts.Firsts.of.Goals as goal

pub loop-seen-preserved : goal.loop-seen-preserved
loop-seen-preserved c = (
  own c.add.new.self _ c.in_ok-add.ensures,
  first_step (map standing c.loop-seen.firsts.seen.items) c.args.all.now c.loop-seen.seen-index c.seen-item.result (map standing c.add.new.self.seen.items) c.loop-seen-test.true c.seen-item.is c.in_ok-add.ensures.seen
      ∙ c.loop-seen.invariant.1,
)

pub returns : goal.returns
returns c =
    let all : map standing c.loop-seen.firsts.seen.items ≡ each_first _ (map standing c.args.all.now) = sym (first_end (map standing c.loop-seen.firsts.seen.items) c.args.all.now c.loop-seen.seen-index c.loop-seen-test.false) ∙ c.loop-seen.invariant.1 in
    subst (AreFirsts c.loop-seen.firsts) all c.loop-seen.invariant.0
