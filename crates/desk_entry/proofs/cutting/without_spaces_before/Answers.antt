use Rattle.desk_entry.proofs.CutLemmas.{all_beyond, beyond_one, none_yet}
use Rattle.desk_entry.proofs.cutting.without_spaces_before.Goals as goal

pub spaces-init : goal.spaces-init
spaces-init c = none_yet c.args.text.now

pub spaces-preserved : goal.spaces-preserved
spaces-preserved c = beyond_one c.args.text.now c.spaces.rest.now c.in-Some.more.now c.spaces.invariant c.in-Some.ensures.0

pub returns : goal.returns
returns c = all_beyond c.args.text.now c.spaces.rest.now c.spaces.invariant c.in_default.ensures
