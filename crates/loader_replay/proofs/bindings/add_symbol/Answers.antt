use Rattle.std.proofs.Common.{◌≡◌, ◌∙◌, ◌∷◌, ◌++◌, [], Some, ap, sym}
use Rattle.load_model.specs.Bindings.{bind_of, symbol_at}
use Rattle.load_model.specs.declared.symbols.Class.TheVariants.{Plain, Copy}
use Rattle.loader_replay.proofs.BindingLemmas.{copies_added, none_added, plain_added}
use Rattle.loader_replay.proofs.bindings.add_symbol.Goals.{then-may_copy+in_ok-add_reference-2, else-may_copy}
use Rattle.loader_replay.proofs.bindings.add_symbol.Goals as goal
use Rattle.scope_lookup.proofs.ScopeLemmas.{symbol_there}
use Rattle.scope_lookup.specs.Binders.{BinderView}

pub returns-in_ok-add_reference-3-clause-binds : goal.returns-in_ok-add_reference-3-clause-binds
returns-in_ok-add_reference-3-clause-binds g c =
    let at : symbol_at c.args.binder.now.faces c.args.binder.now.run c.args.obj c.args.sym ≡ Some c.index-as_slice-sym.result =
    symbol_there c.args.binder.now.faces c.args.binder.now.run c.args.obj c.args.sym c.face_of.result.now c.as_slice.result.now c.index-as_slice-sym.result c.face_of.ensures.face c.as_slice.ensures c.requires.sym c.index-as_slice-sym.is in
    let shared = sym c.is_shared.ensures ∙ c.if-is_shared.true in
    elim c.if-may_copy.branch [
      | then-may_copy+in_ok-add_reference-2 w ↦ copies_added c.args.binder.now.faces c.args.binder.now.run c.args.obj c.args.sym c.index-as_slice-sym.result c.args.binds.now c.add_reference.new.binds c.if-may_copy.binds c.add_reference-then-is_shared.new.binds at shared (sym c.may_copy.ensures ∙ w.if-may_copy.true) c.in_ok-add_reference.ensures.binds
          (w.binds-is ∙ w.in_ok-add_reference-2.ensures.binds ∙ ap (λ (v : BinderView). c.add_reference.new.binds ++ bind_of v.faces v.run c.args.obj c.args.sym Copy ∷ []) c.add_reference.ensures.same)
          (c.in_ok-add_reference-3.ensures.binds ∙ ap (λ (v : BinderView). c.if-may_copy.binds ++ bind_of v.faces v.run c.args.obj c.args.sym Plain ∷ []) (w.binder-is ∙ w.add_reference-then-may_copy.ensures.same ∙ c.add_reference.ensures.same))
      | else-may_copy w ↦ plain_added c.args.binder.now.faces c.args.binder.now.run c.args.obj c.args.sym c.index-as_slice-sym.result c.args.binds.now c.if-may_copy.binds c.add_reference-then-is_shared.new.binds at shared (sym c.may_copy.ensures ∙ w.if-may_copy.false)
          (w.binds-is ∙ c.in_ok-add_reference.ensures.binds)
          (c.in_ok-add_reference-3.ensures.binds ∙ ap (λ (v : BinderView). c.if-may_copy.binds ++ bind_of v.faces v.run c.args.obj c.args.sym Plain ∷ []) (w.binder-is ∙ c.add_reference.ensures.same))
    ]

pub returns-else-is_shared-clause-binds : goal.returns-else-is_shared-clause-binds
returns-else-is_shared-clause-binds g c =
    none_added c.args.binder.now.faces c.args.binder.now.run c.args.obj c.args.sym c.index-as_slice-sym.result c.args.binds.now
    (symbol_there c.args.binder.now.faces c.args.binder.now.run c.args.obj c.args.sym c.face_of.result.now c.as_slice.result.now c.index-as_slice-sym.result c.face_of.ensures.face c.as_slice.ensures c.requires.sym c.index-as_slice-sym.is)
    (sym c.is_shared.ensures ∙ c.if-is_shared.false)
