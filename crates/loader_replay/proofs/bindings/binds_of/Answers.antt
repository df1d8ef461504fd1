use Rattle.std.proofs.Common.{◌∙◌, ◌++◌, ◌<◌, ap, arith, length, subst, sym, List}
use Rattle.load_model.specs.Bindings.{binds_of_object}
use Rattle.load_model.specs.declared.faces.Face.{Face}
use Rattle.load_model.specs.declared.runs.Run.{Run}
use Rattle.loader_replay.proofs.BindingLemmas.{binds_all, binds_more, binds_over, binds_yet}
use Rattle.loader_replay.proofs.bindings.binds_of.Goals as goal
use Rattle.scope_lookup.specs.Binders.{BinderView}

pub loop-obj-init : goal.loop-obj-init
loop-obj-init g c = (c.new-binder.ensures.faces, c.new-binder.ensures.run, binds_yet c.args.faces.now c.args.run.now c.new-binds.result c.new-binds.ensures)

pub add_object-requires : goal.add_object-requires
add_object-requires g c =
    let size = ap length c.as_slice.ensures in
    record { obj = subst (λ (r : Run). c.loop-obj.obj < length r.objs) (sym c.loop-obj.invariant.1) (omega arith) }

pub loop-obj-preserved : goal.loop-obj-preserved
loop-obj-preserved g c = (
  ap (λ (v : BinderView). v.faces) c.add_object.ensures.same ∙ c.loop-obj.invariant.0,
  ap (λ (v : BinderView). v.run) c.add_object.ensures.same ∙ c.loop-obj.invariant.1,
  binds_more c.args.faces.now c.args.run.now c.loop-obj.obj c.loop-obj.binds c.add_object.new.binds c.loop-obj.invariant.2
      (c.in_ok-add_object.ensures.binds
      ∙ ap (λ (faces : List Face). c.loop-obj.binds ++ binds_of_object faces c.loop-obj.binder.run c.loop-obj.obj) c.loop-obj.invariant.0
      ∙ ap (λ (run : Run). c.loop-obj.binds ++ binds_of_object c.args.faces.now run c.loop-obj.obj) c.loop-obj.invariant.1),
)

pub returns-clause-binds : goal.returns-clause-binds
returns-clause-binds g c =
    let size = ap length c.as_slice.ensures in
    binds_all c.args.faces.now c.args.run.now c.loop-obj.obj c.loop-obj.binds (omega arith) c.loop-obj.invariant.2

pub returns-clause-over : goal.returns-clause-over
returns-clause-over g c =
    let size = ap length c.as_slice.ensures in
    binds_over c.args.faces.now c.args.run.now c.loop-obj.binds (binds_all c.args.faces.now c.args.run.now c.loop-obj.obj c.loop-obj.binds (omega arith) c.loop-obj.invariant.2)
