use Rattle.std.proofs.Common.{◌≡◌, ◌∙◌, ◌++◌, ◌<◌, ap, arith, is_some, length, refl, subst, sym, true}
use Rattle.load_model.specs.Bindings.{binds_of_object, symbol_at}
use Rattle.loader_replay.proofs.BindingLemmas.{object_begun, object_done, object_more, symbol_in}
use Rattle.loader_replay.proofs.bindings.add_object.Goals as goal
use Rattle.loader_replay.specs.Binding.{binds_at}
use Rattle.scope_lookup.specs.Binders.{BinderView}

pub loop-sym-init : goal.loop-sym-init
loop-sym-init g c = (refl, object_begun c.args.binder.now.faces c.args.binder.now.run c.args.obj c.args.binds.now)

pub add_symbol-requires-clause-obj : goal.add_symbol-requires-clause-obj
add_symbol-requires-clause-obj g c = subst (λ (v : BinderView). c.args.obj < length v.run.objs) (sym c.loop-sym.invariant.0) c.requires.obj

pub add_symbol-requires-clause-sym : goal.add_symbol-requires-clause-sym
add_symbol-requires-clause-sym g c =
    subst (λ (v : BinderView). is_some (symbol_at v.faces v.run c.args.obj c.loop-sym.sym) ≡ true) (sym c.loop-sym.invariant.0)
    (symbol_in c.args.binder.now.faces c.args.binder.now.run c.args.obj c.loop-sym.sym (omega arith))

pub loop-sym-preserved : goal.loop-sym-preserved
loop-sym-preserved g c = (
  c.add_symbol.ensures.same ∙ c.loop-sym.invariant.0,
  object_more c.args.binder.now.faces c.args.binder.now.run c.args.obj c.loop-sym.sym c.loop-sym.binds c.add_symbol.new.binds (c.args.binds.now ++ binds_of_object c.args.binder.now.faces c.args.binder.now.run c.args.obj) (omega arith)
      (c.in_ok-add_symbol.ensures.binds ∙ ap (λ (v : BinderView). c.loop-sym.binds ++ binds_at v.faces v.run c.args.obj c.loop-sym.sym) c.loop-sym.invariant.0) c.loop-sym.invariant.1,
)

pub returns-in_err-add_symbol-clause-same : goal.returns-in_err-add_symbol-clause-same
returns-in_err-add_symbol-clause-same g c = c.add_symbol.ensures.same ∙ c.loop-sym.invariant.0

pub returns-clause-binds : goal.returns-clause-binds
returns-clause-binds g c =
    object_done c.args.binder.now.faces c.args.binder.now.run c.args.obj c.loop-sym.sym c.loop-sym.binds (c.args.binds.now ++ binds_of_object c.args.binder.now.faces c.args.binder.now.run c.args.obj) (omega arith) c.loop-sym.invariant.1
