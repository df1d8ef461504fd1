-- What begins with a path begins at the root.
use Rattle.std.proofs.Common.{◌≡◌, ◌∙◌, ◌++◌, ◌∷◌, ap, subst}
use Rattle.std.specs.Prelude.{IfErr}
use Rattle.path_text.specs.Path.{IsPathFault}
use Rattle.path_text.proofs.FolderLemmas.{joined_at_root}
use Rattle.path_text.proofs.absolute.Abs.join.Goals as goal

pub returns-in-Ok-clause-not_relative : goal.returns-in-Ok-clause-not_relative
returns-in-Ok-clause-not_relative c h =
    let whole : c.as_slice.result.now ≡ c.args.self.now ++ 47 ∷ c.args.rest.now = c.as_slice.ensures.value ∙ (c.in-Ok.ensures ∙ ap (λ t. t ++ 47 ∷ c.args.rest.now) (c.as_bytes.ensures.value ∙ c.as_str.ensures.text)) in
    joined_at_root c.as_slice.result.now c.args.self.now (47 ∷ c.args.rest.now) c.as_str.ensures.normal whole
    (subst (λ r. IfErr r (λ e. IsPathFault e c.as_slice.result.now)) h c.read.ensures.fault)
