use Rattle.std.proofs.Common.{ℕ, List, Err, length, ap, sym, subst, ◌∙◌}
use Rattle.object_rewriting.specs.Steps.{IsEditOf, IsPlanned}
use Rattle.object_rewriting.proofs.AnswerLemmas.{edit_answers, edit_len, stop_answers}
use Rattle.object_rewriting.proofs.rewriting.rewrite_bytes.Goals as goal

pub laid_over-requires : goal.laid_over-requires
laid_over-requires c =
    edit_len c.as_slice.result.now c.args.change.now c.in-Ok.edit c.in-Ok.ensures ∙ (ap (λ (l : List ℕ). length l) c.as_slice.ensures.value ∙ sym c.args.bytes.ok.0)

pub returns-in-Ok-laid_over-clause-answer : goal.returns-in-Ok-laid_over-clause-answer
returns-in-Ok-laid_over-clause-answer c has =
    edit_answers c.args.bytes.items c.args.change.now c.in-Ok.edit c.in-Ok-laid_over.text (subst (λ (b : List ℕ). IsEditOf b c.args.change.now c.in-Ok.edit) c.as_slice.ensures.value c.in-Ok.ensures) c.in-Ok-laid_over.ensures

pub returns-clause-answer : goal.returns-clause-answer
returns-clause-answer c has =
    stop_answers c.args.bytes.items c.args.face.now c.args.change.now c.in-Err.stop (subst (λ (b : List ℕ). IsPlanned b c.args.face.now c.args.change.now (Err c.in-Err.stop)) c.as_slice.ensures.value c.in-Err.ensures) has
