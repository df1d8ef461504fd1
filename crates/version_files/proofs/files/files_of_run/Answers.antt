use Rattle.std.proofs.Common.{◌∙◌, [], ◌∷◌, ap, map, vec_items}
use Rattle.std.proofs.lemmas.List.{map-append}
use Rattle.version_files.specs.Files.{files_at}
use Rattle.version_files.proofs.AddingLemmas.{map_number, no_number}
use Rattle.version_files.proofs.files.files_of_run.Goals as goal

pub loop-number-init : goal.loop-number-init
loop-number-init c = ap (map vec_items) c.new-files.ensures.items ∙ no_number (files_at c.args.faces.now c.args.run.now)

pub loop-number-preserved : goal.loop-number-preserved
loop-number-preserved c =
    map_number (files_at c.args.faces.now c.args.run.now) c.loop-number.number (map vec_items c.loop-number.files.items) (map vec_items c.push.new.self.items) c.in_ok-named.named.items c.loop-number.invariant
    (ap (map vec_items) c.in-Ok.ensures.items ∙ map-append vec_items c.loop-number.files.items (c.in_ok-named.named ∷ [])) c.in_ok-named.ensures
