use Rattle.object_rewriting.proofs.RewrittenLemmas.{rewritten_face, rewritten_new}
use Rattle.object_rewriting.proofs.laws.rewritten_has_face.Goals as goal

pub returns : goal.returns
returns c = record {
  face = λ b d change face bytes h fits e. rewritten_face b d change face bytes h fits e;
  new_file = λ b d change face bytes h fits e. rewritten_new b d change face bytes h fits e;
}
