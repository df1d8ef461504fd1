use Rattle.std.proofs.Common.{◌≡◌, map, take}
use Rattle.version_files.specs.Known.{first_known_by}
use Rattle.load_model.specs.LoadList.{lesser_of}
use Rattle.version_files.specs.Telling.{known_as, told_first}
use Rattle.version_files.proofs.known.KnownNames.at.Given as goal

abbrev pub invariant-loop-other : goal.invariant-loop-other
invariant-loop-other l =
    l.found ≡ lesser_of (told_first (map known_as l.self.firsts.items) l.phase l.name) (first_known_by l.phase l.name (map known_as (take l.other-index l.other-items)))
