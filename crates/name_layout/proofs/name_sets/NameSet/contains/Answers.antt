use Rattle.std.proofs.Common.{ap, sym, ◌∙◌, bytes_eq, vec_items}
use Rattle.std.specs.List.{list_any}
use Rattle.text_sets.proofs.MappedLemmas.{any-map}
use Rattle.name_layout.proofs.name_sets.NameSet.contains.Goals as goal

pub returns : goal.returns
returns c =
    c.contains.ensures
    ∙ (sym (any-map (λ t. bytes_eq c.args.name.now t) vec_items c.self.inside.set.keys)
    ∙ ap (list_any (λ t. bytes_eq c.args.name.now t)) c.self.view_is)
