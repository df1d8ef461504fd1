use Rattle.std.proofs.Common.{◌∙◌, sym, map, subst}
use Rattle.scope_lookup.specs.Finding.{AreFoundGlobally}
use Rattle.scope_lookup.proofs.KeepingLemmas.{global_told, kept_answers, one_more_kept, ready}
use Rattle.scope_lookup.proofs.binders.Binder.first_global.Goals.{in-Ok, in-Err}
use Rattle.scope_lookup.proofs.binders.Binder.first_global.Goals as goal

pub returns-in-Some-clause-first : goal.returns-in-Some-clause-first
returns-in-Some-clause-first g c =
    kept_answers (map g.F.Offers.offered c.self.inside.index.now) c.self.inside.run.now c.args.wanted c.self.inside.kept.entries c.in-Some.first c.self.invariant.found
    (sym c.get.ensures.value ∙ sym c.copied.ensures ∙ c.in-Some.is)
    ∙ global_told (map g.F.Offers.offered c.self.inside.index.now) c.self.inside.faces.now c.self.inside.run.now c.args.self.now c.self.view_is c.self.invariant.tells c.args.wanted

pub first_global-first-requires-clause-searchable : goal.first_global-first-requires-clause-searchable
first_global-first-requires-clause-searchable g c =
    ready (map g.F.Offers.offered c.self.inside.index.now) c.self.inside.faces.now c.self.inside.run.now c.args.self.now c.self.view_is c.self.inside.kept.entries c.self.invariant

pub invariant_of-self : goal.invariant_of-self
invariant_of-self g c =
    let found : AreFoundGlobally (map g.F.Offers.offered c.self.inside.index.now) c.self.inside.run.now c.insert.new.self.entries = elim c.match-insert.branch [
      | in-Ok w ↦ one_more_kept (map g.F.Offers.offered c.self.inside.index.now) c.self.inside.run.now c.self.inside.kept c.insert.new.self.entries c.args.wanted c.first_global-first.result c.self.invariant.found (sym c.get.ensures.value ∙ sym c.copied.ensures ∙ c.in_default.is) c.first_global-first.ensures w.in-Ok.ensures.entries
      | in-Err w ↦ subst (AreFoundGlobally (map g.F.Offers.offered c.self.inside.index.now) c.self.inside.run.now) (sym w.in-Err.ensures.err) c.self.invariant.found
    ] in
    record { over = c.self.invariant.over; few = c.self.invariant.few; tells = c.self.invariant.tells; found = found }
