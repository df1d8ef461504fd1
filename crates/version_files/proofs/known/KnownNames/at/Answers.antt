use Rattle.std.proofs.Common.{◌∙◌, ap, map}
use Rattle.load_model.specs.LoadList.{lesser_of}
use Rattle.version_files.specs.Telling.{known_as, told_first}
use Rattle.version_files.proofs.KnownLemmas.{told_next}
use Rattle.version_files.proofs.known.KnownNames.at.Goals as goal

pub loop-other-preserved : goal.loop-other-preserved
loop-other-preserved c =
    told_next (told_first (map known_as c.args.self.now.firsts.items) c.args.phase c.args.name.now) c.args.phase c.args.name.now c.deref-other-items.result.now c.loop-other.other-index c.other-item.result c.loop-other.found c.lesser_of-found.result c.loop-other-test.true c.other-item.is c.loop-other.invariant (c.lesser_of-found.ensures ∙ ap (lesser_of c.loop-other.found) c.known_by.ensures)
