use Rattle.std.proofs.Common.{ap, sym, ◌∙◌, bytes_eq, vec_items}
use Rattle.std.specs.List.{list_any}
use Rattle.appdir_files.proofs.MappedLemmas.{any-map}
use Rattle.appdir_files.proofs.path_sets.PathSet.contains.Goals as goal

pub returns : goal.returns
returns c =
    c.contains.ensures
    ∙ (sym (any-map (λ t. bytes_eq c.args.path.now t) vec_items c.self.inside.set.keys)
    ∙ ap (list_any (λ t. bytes_eq c.args.path.now t)) c.self.view_is)
