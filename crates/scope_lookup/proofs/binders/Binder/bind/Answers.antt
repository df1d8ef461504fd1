use Rattle.std.proofs.Common.{◌≡◌, ◌∙◌, sym, ap, Some, is_some, true, subst}
use Rattle.std.specs.Option.{option_to_list}
use Rattle.load_model.specs.Bindings.{bound_to, symbol_at}
use Rattle.load_model.specs.Scopes.{itself}
use Rattle.scope_lookup.specs.Binders.{BinderView}
use Rattle.scope_lookup.proofs.KeepingLemmas.{bound_by_scope}
use Rattle.scope_lookup.proofs.ScopeLemmas.{bound_itself, itself_listed, symbol_there}
use Rattle.scope_lookup.proofs.binders.Binder.bind.Goals.{then-face, else-face}
use Rattle.scope_lookup.proofs.binders.Binder.bind.Goals as goal

pub returns-then-binds_itself-clause-bound : goal.returns-then-binds_itself-clause-bound
returns-then-binds_itself-clause-bound g c =
    let there = subst (λ (v : BinderView). is_some (symbol_at v.faces v.run c.args.obj c.args.sym) ≡ true) (sym c.self.view_is) c.requires.sym in
    bound_itself c.self.inside.faces.now c.self.inside.run.now c.args.obj c.args.sym c.args.class c.index-as_slice-sym.result
    (symbol_there c.self.inside.faces.now c.self.inside.run.now c.args.obj c.args.sym c.face_of-face.result.now c.as_slice.result.now c.index-as_slice-sym.result c.face_of-face.ensures c.as_slice.ensures there c.index-as_slice-sym.is)
    (sym c.binds_itself.ensures ∙ c.if-binds_itself.true)
    ∙ ap (λ (v : BinderView). bound_to v.faces v.run c.args.obj c.args.sym c.args.class) c.self.view_is

pub returns-clause-bound : goal.returns-clause-bound
returns-clause-bound g c =
    let there = subst (λ (v : BinderView). is_some (symbol_at v.faces v.run c.args.obj c.args.sym) ≡ true) (sym c.self.view_is) c.requires.sym in
    let symbol_is : symbol_at c.args.self.now.faces c.args.self.now.run c.args.obj c.args.sym ≡ Some c.index-as_slice-sym.result =
    subst (λ (v : BinderView). symbol_at v.faces v.run c.args.obj c.args.sym ≡ Some c.index-as_slice-sym.result) c.self.view_is
    (symbol_there c.self.inside.faces.now c.self.inside.run.now c.args.obj c.args.sym c.face_of-face.result.now c.as_slice.result.now c.index-as_slice-sym.result c.face_of-face.ensures c.as_slice.ensures there c.index-as_slice-sym.is) in
    let listed : option_to_list c.if-face.itself ≡ itself c.self.inside.faces.now c.self.inside.run.now c.args.obj = elim c.if-face.branch [
      | then-face w ↦ itself_listed c.self.inside.faces.now c.self.inside.run.now c.args.obj c.face_of-face.result.now _ c.if-face.itself c.face_of-face.ensures w.if-face.true w.itself-is
      | else-face w ↦ itself_listed c.self.inside.faces.now c.self.inside.run.now c.args.obj c.face_of-face.result.now _ c.if-face.itself c.face_of-face.ensures w.if-face.false w.itself-is
    ] in
    bound_by_scope c.args.self.now.faces c.args.self.now.run c.args.obj c.args.sym c.args.class c.index-as_slice-sym.result c.by.result symbol_is (sym c.binds_itself.ensures ∙ c.if-binds_itself.false)
    c.by.ensures.name c.by.ensures.version c.by.ensures.class c.if-face.itself (listed ∙ ap (λ (v : BinderView). itself v.faces v.run c.args.obj) c.self.view_is) c.first_in_scope.result c.first_in_scope.ensures.first
