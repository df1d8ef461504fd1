-- The place of a text is that of its key.
use Rattle.std.proofs.Common.{ap, sym, ◌∙◌, bytes_eq, position, vec_items}
use Rattle.elf_shape.proofs.Mapped.{position-of-map}
use Rattle.elf_shape.proofs.texts.Texts.position.Goals as goal

pub returns : goal.returns
returns c =
    c.get_index_of.ensures.index
    ∙ (sym (position-of-map (λ t. bytes_eq c.args.text.now t) vec_items c.self.inside.set.keys)
    ∙ ap (position (λ t. bytes_eq c.args.text.now t)) c.self.view_is)
