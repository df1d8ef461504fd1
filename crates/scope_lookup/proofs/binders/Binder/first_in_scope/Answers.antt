use Rattle.std.proofs.Common.{◌≡◌, ◌∙◌, sym, ap, map, slice_get, None, Some, IfSome, ◌++◌}
use Rattle.std.specs.Option.{option_or}
use Rattle.load_model.specs.Bindings.{offered_by}
use Rattle.load_model.specs.LoadList.{up_to}
use Rattle.load_model.specs.Scopes.{local_of}
use Rattle.scope_lookup.specs.Finding.{first_found_in, found_in_object}
use Rattle.scope_lookup.proofs.KeepingLemmas.{local_told, object_told, ready}
use Rattle.scope_lookup.proofs.ScopeLemmas.{looked_at, none_itself, scope_itself, scope_rest}
use Rattle.scope_lookup.proofs.binders.Binder.first_in_scope.Goals.{in-Some+in_default-offer_at, in_default}
use Rattle.scope_lookup.proofs.binders.Binder.first_in_scope.Goals as goal

pub offer_at-requires-clause-searchable : goal.offer_at-requires-clause-searchable
offer_at-requires-clause-searchable g c =
    ready (map g.F.Offers.offered c.self.inside.index.now) c.self.inside.faces.now c.self.inside.run.now c.args.self.now c.self.view_is c.self.inside.kept.entries c.self.invariant

pub first_local-requires-clause-searchable : goal.first_local-requires-clause-searchable
first_local-requires-clause-searchable g c =
    ready (map g.F.Offers.offered c.self-2.inside.index.now) c.self-2.inside.faces.now c.self-2.inside.run.now c.first_global.new.self c.self-2.view_is c.self-2.inside.kept.entries c.self-2.invariant

pub returns-in-Some-offer_at-clause-first : goal.returns-in-Some-offer_at-clause-first
returns-in-Some-offer_at-clause-first g c =
    scope_itself (map offered_by c.args.self.now.faces) c.args.self.now.run c.args.wanted c.args.itself c.in-Some.number c.in-Some-offer_at.def
    (up_to c.args.self.now.run.global ++ local_of c.args.self.now.run (slice_get c.args.self.now.run.objs c.args.obj)) c.in-Some.is
    (sym (object_told (map g.F.Offers.offered c.self.inside.index.now) c.self.inside.faces.now c.self.inside.run.now c.args.self.now c.self.view_is c.self.invariant.tells c.args.wanted c.in-Some.number)
    ∙ sym c.offer_at.ensures ∙ c.in-Some-offer_at.is)

pub returns-in-Some-2-clause-first : goal.returns-in-Some-2-clause-first
returns-in-Some-2-clause-first g c =
    let looked : IfSome c.args.itself (λ k. found_in_object (map offered_by c.args.self.now.faces) c.args.self.now.run c.args.wanted k ≡ None) = elim c.match-itself.branch [
      | in-Some+in_default-offer_at w ↦ looked_at (map offered_by c.args.self.now.faces) c.args.self.now.run c.args.wanted c.args.itself w.in-Some.number w.in-Some.is
          (sym (object_told (map g.F.Offers.offered c.self.inside.index.now) c.self.inside.faces.now c.self.inside.run.now c.args.self.now c.self.view_is c.self.invariant.tells c.args.wanted w.in-Some.number)
          ∙ sym w.offer_at.ensures ∙ w.in_default-offer_at.is)
      | in_default w ↦ none_itself (map offered_by c.args.self.now.faces) c.args.self.now.run c.args.wanted c.args.itself w.in_default.is
    ] in
    scope_rest (map offered_by c.args.self.now.faces) c.args.self.now.run c.args.wanted c.args.itself (up_to c.args.self.now.run.global) (local_of c.args.self.now.run (slice_get c.args.self.now.run.objs c.args.obj)) (Some c.in-Some-2.def) looked
    (ap (λ o. option_or o (first_found_in (map offered_by c.args.self.now.faces) c.args.self.now.run c.args.wanted (local_of c.args.self.now.run (slice_get c.args.self.now.run.objs c.args.obj)))) (sym c.in_ok-def.ensures.first ∙ c.in-Some-2.is))

pub returns-clause-first : goal.returns-clause-first
returns-clause-first g c =
    let looked : IfSome c.args.itself (λ k. found_in_object (map offered_by c.args.self.now.faces) c.args.self.now.run c.args.wanted k ≡ None) = elim c.match-itself.branch [
      | in-Some+in_default-offer_at w ↦ looked_at (map offered_by c.args.self.now.faces) c.args.self.now.run c.args.wanted c.args.itself w.in-Some.number w.in-Some.is
          (sym (object_told (map g.F.Offers.offered c.self.inside.index.now) c.self.inside.faces.now c.self.inside.run.now c.args.self.now c.self.view_is c.self.invariant.tells c.args.wanted w.in-Some.number)
          ∙ sym w.offer_at.ensures ∙ w.in_default-offer_at.is)
      | in_default w ↦ none_itself (map offered_by c.args.self.now.faces) c.args.self.now.run c.args.wanted c.args.itself w.in_default.is
    ] in
    scope_rest (map offered_by c.args.self.now.faces) c.args.self.now.run c.args.wanted c.args.itself (up_to c.args.self.now.run.global) (local_of c.args.self.now.run (slice_get c.args.self.now.run.objs c.args.obj)) c.first_local.result looked
    (ap (λ o. option_or o (first_found_in (map offered_by c.args.self.now.faces) c.args.self.now.run c.args.wanted (local_of c.args.self.now.run (slice_get c.args.self.now.run.objs c.args.obj)))) (sym c.in_ok-def.ensures.first ∙ c.in_default-2.is)
    ∙ sym (local_told (map g.F.Offers.offered c.self-2.inside.index.now) c.self-2.inside.faces.now c.self-2.inside.run.now c.args.self.now (c.self-2.view_is ∙ c.first_global.ensures.same) c.self-2.invariant.tells c.args.wanted c.args.obj c.local_list-numbers.result.now c.local_list-numbers.ensures.list)
    ∙ sym c.first_local.ensures)
