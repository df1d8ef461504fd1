use Rattle.std.proofs.Common.{ap₂, map}
use Rattle.version_files.specs.Known.{first_known_by}
use Rattle.load_model.specs.LoadList.{lesser_of}
use Rattle.version_files.specs.Telling.{known_as, told, told_first}
use Rattle.version_files.proofs.known.KnownNames.new.Goals as goal

pub returns-clause-told : goal.returns-clause-told
unfolding told
returns-clause-told c = λ phase name. ap₂ (λ fs os. lesser_of (told_first (map known_as fs) phase name) (first_known_by phase name (map known_as os))) c.new-2.ensures.items c.new-3.ensures.items
