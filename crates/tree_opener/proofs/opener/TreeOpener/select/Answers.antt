use Rattle.hash_lookup.specs.declared.tables.Tables.{Tables}
use Rattle.tree_opener.proofs.FacesLemmas.{chosen_faces}
use Rattle.tree_opener.proofs.opener.TreeOpener.select.Goals as goal

pub invariant_of-result : goal.invariant_of-result
invariant_of-result c = (
  chosen_faces c.self.inside.machine (λ (t : Tables). t.offered) c.self.inside.faces.items c.in-Ok-Ok.faces.items c.self.inside.tables.items c.in-Ok-Ok.tables.items c.args.places.now c.self.invariant.0 c.in-Ok-Ok.ensures.no_more c.in-Ok-Ok.ensures.chosen c.in-Ok-Ok.ensures'.chosen,
  c.self.invariant.1,
)
