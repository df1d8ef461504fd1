use Rattle.moved_runs.proofs.PlaceLemmas.{dir_under}
use Rattle.moved_runs.proofs.place_laws.apart_directories.Goals as goal

pub returns : goal.returns
returns c = dir_under
