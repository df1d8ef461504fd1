use Rattle.std.proofs.Common.{sym, ap, ◌∙◌, ◌≡◌, ◌++◌, ◌∷◌, [], cond, false}
use Rattle.std.specs.Prelude.{◌==◌}
use Rattle.std.specs.List.{list_any}
use Rattle.host_list.proofs.scopes.add_number.Goals as goal

pub returns-in-Ok : goal.returns-in-Ok
returns-in-Ok c =
    let e : list_any (λ k. k == c.args.number) c.args.scope.now.items ≡ false = ap (list_any (λ k. k == c.args.number)) (sym c.as_slice.ensures.value) ∙ (sym c.has_number.ensures ∙ c.if-has_number.false) in
    c.in-Ok.ensures.items ∙ sym (ap (λ b. cond b c.args.scope.now.items (c.args.scope.now.items ++ c.args.number ∷ [])) e)
