use Rattle.std.proofs.Common.{◌≡◌, ◌∙◌, ap, arith, length, map, vec_items}
use Rattle.load_model.specs.LoadList.{up_to}
use Rattle.load_model.specs.Scopes.{scope_of}
use Rattle.host_list.proofs.NumberLemmas.{map_next}
use Rattle.host_list.proofs.scopes.scopes_in.Goals as goal

pub loop-obj-preserved : goal.loop-obj-preserved
loop-obj-preserved c = map_next vec_items (scope_of c.args.faces.now c.args.run.now) c.loop-obj.scopes.items c.push.new.self.items c.in_ok-scope.scope c.loop-obj.obj c.loop-obj.invariant c.in_ok-scope.ensures c.in-Ok.ensures.items

pub returns : goal.returns
returns c =
    let stops = c.loop-obj-test.false in
    let within = c.loop-obj.auto.obj-end in
    let last : c.loop-obj.obj ≡ length c.as_slice.result.now = omega arith in
    c.loop-obj.invariant ∙ ap (λ n. map (scope_of c.args.faces.now c.args.run.now) (up_to n)) (last ∙ ap length c.as_slice.ensures)
