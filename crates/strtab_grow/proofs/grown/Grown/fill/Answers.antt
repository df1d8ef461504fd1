use Rattle.std.proofs.Common.{◌∙◌, ◌+◌, ap, sym, subst, ◌<◌, ◌≡◌, get_or, length}
use Rattle.std.proofs.lemmas.List.{length_push}
use Rattle.strtab_grow.proofs.Parts.{parts_step}
use Rattle.strtab_grow.specs.Growth.{stored, Growth}
use Rattle.strtab_grow.proofs.grown.Grown.fill.Goals as goal

pub loop-text-preserved : goal.loop-text-preserved
loop-text-preserved c =
    let same : c.deref-text-items.result.now ≡ c.args.self.now.texts = c.deref-text-items.ensures.value ∙ ap (λ (v : Growth). v.texts) c.self.view_is in
    parts_step (λ t. stored t) c.loop-text.buf c.put_text.new.part c.args.self.now.texts c.text-item.result c.loop-text.text-index c.loop-text.at (length c.as_bytes-bytes.result.now + 1)
    c.loop-text.invariant (subst (λ xs. c.loop-text.text-index < length xs) same c.loop-text-test.true) (subst (λ xs. c.text-item.result ≡ get_or xs c.loop-text.text-index c.text-item.result) same c.text-item.is)
    (sym (ap length c.put_text.ensures ∙ length_push c.as_bytes-bytes.result.now 0))
    (c.put_text.ensures ∙ ap (λ t. stored t) c.as_bytes-bytes.ensures)
