-- `rsplit_once` cuts at the last slash.
use Rattle.std.proofs.Common.{subst, sym, ◌≡◌, ◌++◌, ◌∷◌, []}
use Rattle.path_text.specs.Path.{parts_of}
use Rattle.path_text.proofs.FolderLemmas.{cut_at_last}
use Rattle.path_text.proofs.normal.cut_last.Goals as goal

pub returns : goal.returns
returns c = subst (λ p. parts_of c.args.path.now ≡ parts_of p.0.now ++ p.1.now ∷ []) (sym c.unwrap_or.ensures) (cut_at_last c.args.path.now _ _ c.rsplit_once.ensures.cases c.requires)
