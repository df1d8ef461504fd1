-- The number of a name is the place of its key.
use Rattle.std.proofs.Common.{ap, sym, ◌∙◌, bytes_eq, vec_items}
use Rattle.std.specs.List.{list_any}
use Rattle.host_record.proofs.MappedLemmas.{any-of-map, number-of-map}
use Rattle.host_record.proofs.names.Names.number.Goals as goal

pub returns-clause-found : goal.returns-clause-found
returns-clause-found c =
    c.get_index_of.ensures.found
    ∙ (sym (any-of-map (λ t. bytes_eq c.args.name.now t) vec_items c.self.inside.set.keys)
    ∙ ap (list_any (λ t. bytes_eq c.args.name.now t)) c.self.view_is)

pub returns-clause-number : goal.returns-clause-number
returns-clause-number c =
    number-of-map (λ t. bytes_eq c.args.name.now t) vec_items c.self.inside.set.keys c.args.self.now c.get_index_of.result c.self.view_is c.get_index_of.ensures.index
