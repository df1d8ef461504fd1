use Rattle.object_changes.proofs.UnchangedLemmas.{unchanged_done, unchanged_same}
use Rattle.object_changes.proofs.laws.unchanged_is_done.Goals as goal

pub returns : goal.returns
returns c = record { done = unchanged_done; same = unchanged_same }
