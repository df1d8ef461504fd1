use Rattle.std.proofs.Common.{ap, map, ◌∙◌, bytes_eq}
use Rattle.std.specs.List.{list_any}
use Rattle.lib_closure.specs.Seen.{standing}
use Rattle.text_sets.proofs.MappedLemmas.{any-map}
use Rattle.lib_closure.proofs.firsts.Firsts.has.Goals as goal

pub returns : goal.returns
returns c =
    c.contains.ensures
    ∙ ap (list_any (λ t. bytes_eq c.args.id.now t)) c.requires.ids
    ∙ any-map (λ t. bytes_eq c.args.id.now t) (λ o. o.obj.id) (map standing c.args.self.now.seen.items)
