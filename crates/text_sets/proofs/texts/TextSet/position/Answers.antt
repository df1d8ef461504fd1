use Rattle.std.proofs.Common.{ap, sym, ◌∙◌, bytes_eq, position, vec_items}
use Rattle.text_sets.proofs.MappedLemmas.{position-map}
use Rattle.text_sets.proofs.texts.TextSet.position.Goals as goal

pub returns : goal.returns
returns c =
    c.get_index_of.ensures.index
    ∙ (sym (position-map (λ t. bytes_eq c.args.text.now t) vec_items c.self.inside.set.keys)
    ∙ ap (position (λ t. bytes_eq c.args.text.now t)) c.self.view_is)
