use Rattle.std.proofs.Common.{◌∙◌, sym, map, get_or}
use Rattle.scope_lookup.proofs.ScopeLemmas.{global_again, itself_again, list_end, list_more, list_there, list_yet}
use Rattle.scope_lookup.proofs.lookup.first_local.Goals.{then-number-run+then-ne+in_default, else-number-run, else-number-run-via-then-number-run+else-ne, else-number-run-via-else-number-run}
use Rattle.scope_lookup.proofs.lookup.first_local.Goals as goal

pub loop-number-init : goal.loop-number-init
loop-number-init g c = list_yet (map g.F.Offers.offered c.args.index.now) c.args.run.now c.args.wanted c.args.numbers.now

pub returns-in-Some : goal.returns-in-Some
returns-in-Some g c =
    list_there (map g.F.Offers.offered c.args.index.now) c.args.run.now c.args.wanted c.args.numbers.now c.loop-number.number-index c.in-Some.def c.loop-number-test.true c.loop-number.invariant (sym c.offer_at.ensures ∙ c.in-Some.is)

pub loop-number-preserved : goal.loop-number-preserved
loop-number-preserved g c =
    list_more (map g.F.Offers.offered c.args.index.now) c.args.run.now c.args.wanted c.args.numbers.now c.loop-number.number-index c.loop-number-test.true c.loop-number.invariant
    (elim c.if-number-run.branch [
      | then-number-run+then-ne+in_default w ↦ sym w.offer_at.ensures ∙ w.in_default.is
      | else-number-run w ↦ elim w.else-number-run.branch [
        | else-number-run-via-then-number-run+else-ne w' ↦ itself_again (map g.F.Offers.offered c.args.index.now) c.args.run.now c.args.wanted c.args.itself (get_or c.args.numbers.now c.loop-number.number-index 0) (sym w'.ne.ensures ∙ w'.if-ne.false) c.requires.looked
        | else-number-run-via-else-number-run w' ↦ global_again (map g.F.Offers.offered c.args.index.now) c.args.run.now c.args.wanted c.args.run.now.global (get_or c.args.numbers.now c.loop-number.number-index 0) c.requires.global w'.if-number-run.false
      ]
    ])

pub returns : goal.returns
returns g c =
    list_end (map g.F.Offers.offered c.args.index.now) c.args.run.now c.args.wanted c.args.numbers.now c.loop-number.number-index c.loop-number-test.false c.loop-number.invariant
