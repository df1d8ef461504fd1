-- The object itself, the global list and the local list, each object once.
use Rattle.std.proofs.Common.{◌∙◌, ◌++◌, ◌∷◌, [], ap, sym, cond}
use Rattle.std.specs.Prelude.{slice_get}
use Rattle.load_model.specs.LoadList.{up_to, with_numbers}
use Rattle.load_model.specs.Scopes.{is_symbolic_face, local_of, scope_of}
use Rattle.host_list.proofs.NumberLemmas.{three_parts}
use Rattle.host_list.proofs.scopes.scope_in.Goals as goal

pub returns : goal.returns
unfolding scope_of
returns c =
    let run = c.args.run.now in
    let j = c.args.obj in
    let local = local_of run (slice_get run.objs j) in
    three_parts c.face_of.result.now.symbolic j run.global c.in_ok-scope.scope.items c.add_below.new.scope.items c.add_numbers.new.scope.items c.local_list.result.now c.in_ok-scope.ensures c.in_ok-add_below.ensures c.in_ok-add_numbers.ensures
    ∙ (ap (λ ks. with_numbers [] (cond c.face_of.result.now.symbolic (j ∷ []) [] ++ (up_to run.global ++ ks))) c.local_list.ensures
    ∙ sym (ap (λ face. with_numbers [] (cond (is_symbolic_face face) (j ∷ []) [] ++ (up_to run.global ++ local))) c.face_of.ensures))
