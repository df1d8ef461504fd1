use Rattle.std.proofs.Common.{◌≡◌, ◌∙◌, sym, ap, map, slice_get, None, Some, IfSome, ◌++◌}
use Rattle.std.specs.Option.{option_or}
use Rattle.load_model.specs.LoadList.{up_to}
use Rattle.load_model.specs.Scopes.{local_of}
use Rattle.scope_lookup.specs.Finding.{first_found_in, found_in_object}
use Rattle.scope_lookup.proofs.ScopeLemmas.{looked_at, none_itself, scope_itself, scope_rest}
use Rattle.scope_lookup.proofs.lookup.first_in_scope.Goals.{in-Some+in_default-offer_at, in_default}
use Rattle.scope_lookup.proofs.lookup.first_in_scope.Goals as goal

pub returns-in-Some-offer_at : goal.returns-in-Some-offer_at
returns-in-Some-offer_at g c =
    scope_itself (map g.F.Offers.offered c.args.index.now) c.args.run.now c.args.wanted c.args.itself c.in-Some.number c.in-Some-offer_at.def
    (up_to c.args.run.now.global ++ local_of c.args.run.now (slice_get c.args.run.now.objs c.args.obj)) c.in-Some.is (sym c.offer_at.ensures ∙ c.in-Some-offer_at.is)

pub returns-in-Some-first_global : goal.returns-in-Some-first_global
returns-in-Some-first_global g c =
    let looked : IfSome c.args.itself (λ k. found_in_object (map g.F.Offers.offered c.args.index.now) c.args.run.now c.args.wanted k ≡ None) = elim c.match-itself.branch [
      | in-Some+in_default-offer_at w ↦ looked_at (map g.F.Offers.offered c.args.index.now) c.args.run.now c.args.wanted c.args.itself w.in-Some.number w.in-Some.is (sym w.offer_at.ensures ∙ w.in_default-offer_at.is)
      | in_default w ↦ none_itself (map g.F.Offers.offered c.args.index.now) c.args.run.now c.args.wanted c.args.itself w.in_default.is
    ] in
    scope_rest (map g.F.Offers.offered c.args.index.now) c.args.run.now c.args.wanted c.args.itself (up_to c.args.run.now.global) (local_of c.args.run.now (slice_get c.args.run.now.objs c.args.obj)) (Some c.in-Some-first_global.def) looked
    (ap (λ o. option_or o (first_found_in (map g.F.Offers.offered c.args.index.now) c.args.run.now c.args.wanted (local_of c.args.run.now (slice_get c.args.run.now.objs c.args.obj)))) (sym c.first_global.ensures ∙ c.in-Some-first_global.is))

pub returns : goal.returns
returns g c =
    let looked : IfSome c.args.itself (λ k. found_in_object (map g.F.Offers.offered c.args.index.now) c.args.run.now c.args.wanted k ≡ None) = elim c.match-itself.branch [
      | in-Some+in_default-offer_at w ↦ looked_at (map g.F.Offers.offered c.args.index.now) c.args.run.now c.args.wanted c.args.itself w.in-Some.number w.in-Some.is (sym w.offer_at.ensures ∙ w.in_default-offer_at.is)
      | in_default w ↦ none_itself (map g.F.Offers.offered c.args.index.now) c.args.run.now c.args.wanted c.args.itself w.in_default.is
    ] in
    scope_rest (map g.F.Offers.offered c.args.index.now) c.args.run.now c.args.wanted c.args.itself (up_to c.args.run.now.global) (local_of c.args.run.now (slice_get c.args.run.now.objs c.args.obj)) c.first_local.result looked
    (ap (λ o. option_or o (first_found_in (map g.F.Offers.offered c.args.index.now) c.args.run.now c.args.wanted (local_of c.args.run.now (slice_get c.args.run.now.objs c.args.obj)))) (sym c.first_global.ensures ∙ c.in_default-first_global.is)
    ∙ ap (first_found_in (map g.F.Offers.offered c.args.index.now) c.args.run.now c.args.wanted) (sym c.local_list.ensures.list) ∙ sym c.first_local.ensures)
