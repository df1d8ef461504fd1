use Rattle.std.proofs.Common.{◌≡◌, ◌∙◌, sym, ap, map, arith}
use Rattle.load_model.specs.LoadList.{up_to}
use Rattle.scope_lookup.specs.Finding.{first_found_in}
use Rattle.scope_lookup.proofs.ScopeLemmas.{found_there, itself_again, nothing_more, nothing_yet}
use Rattle.scope_lookup.proofs.lookup.first_global.Goals.{then-ne+in_default, else-ne}
use Rattle.scope_lookup.proofs.lookup.first_global.Goals as goal

pub loop-number-init : goal.loop-number-init
loop-number-init g c = nothing_yet (map g.F.Offers.offered c.args.index.now) c.args.run.now c.args.wanted

pub returns-in-Some : goal.returns-in-Some
returns-in-Some g c =
    found_there (map g.F.Offers.offered c.args.index.now) c.args.run.now c.args.wanted c.loop-number.number c.args.run.now.global c.in-Some.def c.loop-number-test.true c.loop-number.invariant (sym c.offer_at.ensures ∙ c.in-Some.is)

pub loop-number-preserved : goal.loop-number-preserved
loop-number-preserved g c =
    nothing_more (map g.F.Offers.offered c.args.index.now) c.args.run.now c.args.wanted c.loop-number.number c.loop-number.invariant
    (elim c.if-ne.branch [
      | then-ne+in_default w ↦ sym w.offer_at.ensures ∙ w.in_default.is
      | else-ne w ↦ itself_again (map g.F.Offers.offered c.args.index.now) c.args.run.now c.args.wanted c.args.itself c.loop-number.number (sym c.ne.ensures ∙ w.if-ne.false) c.requires.looked
    ])

pub returns : goal.returns
returns g c =
    let same : c.loop-number.number ≡ c.args.run.now.global = omega arith in
    sym c.loop-number.invariant ∙ ap (λ n. first_found_in (map g.F.Offers.offered c.args.index.now) c.args.run.now c.args.wanted (up_to n)) same
