use Rattle.std.proofs.Common.{ap, sym, ◌∙◌, bytes_eq, position, vec_items}
use Rattle.text_sets.proofs.MappedLemmas.{position-map}
use Rattle.name_layout.proofs.name_sets.NameSet.position.Goals as goal

pub returns : goal.returns
returns c =
    c.get_index_of.ensures.index
    ∙ (sym (position-map (λ t. bytes_eq c.args.name.now t) vec_items c.self.inside.set.keys)
    ∙ ap (position (λ t. bytes_eq c.args.name.now t)) c.self.view_is)
