use Rattle.std.proofs.Common.{◌≡◌, ◌∙◌, sym, ap, map, slice_get, ◌++◌}
use Rattle.std.specs.Option.{option_to_list}
use Rattle.load_model.specs.LoadList.{up_to}
use Rattle.load_model.specs.Scopes.{itself, local_of}
use Rattle.scope_lookup.specs.Finding.{first_found_in}
use Rattle.scope_lookup.proofs.ScopeLemmas.{bound_found, bound_itself, itself_listed, searchable, symbol_there}
use Rattle.scope_lookup.proofs.binding.bind.Goals.{then-face, else-face}
use Rattle.scope_lookup.proofs.binding.bind.Goals as goal

pub returns-then-binds_itself : goal.returns-then-binds_itself
returns-then-binds_itself g c =
    bound_itself c.args.faces.now c.args.run.now c.args.obj c.args.sym c.args.class c.index-as_slice-sym.result
    (symbol_there c.args.faces.now c.args.run.now c.args.obj c.args.sym c.face_of-face.result.now c.as_slice.result.now c.index-as_slice-sym.result c.face_of-face.ensures c.as_slice.ensures c.requires.sym c.index-as_slice-sym.is)
    (sym c.binds_itself.ensures ∙ c.if-binds_itself.true)

pub first_in_scope-requires-clause-searchable : goal.first_in_scope-requires-clause-searchable
first_in_scope-requires-clause-searchable g c = searchable c.args.faces.now (map g.F.Offers.offered c.args.index.now) c.args.run.now c.requires.index c.requires.run c.requires.few

pub returns : goal.returns
returns g c =
    let listed : option_to_list c.if-face.itself ≡ itself c.args.faces.now c.args.run.now c.args.obj = elim c.if-face.branch [
      | then-face w ↦ itself_listed c.args.faces.now c.args.run.now c.args.obj c.face_of-face.result.now _ c.if-face.itself c.face_of-face.ensures w.if-face.true w.itself-is
      | else-face w ↦ itself_listed c.args.faces.now c.args.run.now c.args.obj c.face_of-face.result.now _ c.if-face.itself c.face_of-face.ensures w.if-face.false w.itself-is
    ] in
    let rest = up_to c.args.run.now.global ++ local_of c.args.run.now (slice_get c.args.run.now.objs c.args.obj) in
    c.first_in_scope.ensures
    ∙ ap (λ xs. first_found_in (map g.F.Offers.offered c.args.index.now) c.args.run.now c.by.result (xs ++ rest)) listed
    ∙ ap (λ os. first_found_in os c.args.run.now c.by.result (itself c.args.faces.now c.args.run.now c.args.obj ++ rest)) c.requires.index
    ∙ sym (bound_found c.args.faces.now c.args.run.now c.args.obj c.args.sym c.args.class c.index-as_slice-sym.result c.by.result
    (symbol_there c.args.faces.now c.args.run.now c.args.obj c.args.sym c.face_of-face.result.now c.as_slice.result.now c.index-as_slice-sym.result c.face_of-face.ensures c.as_slice.ensures c.requires.sym c.index-as_slice-sym.is)
    (sym c.binds_itself.ensures ∙ c.if-binds_itself.false) c.by.ensures.name c.by.ensures.version c.by.ensures.class)
