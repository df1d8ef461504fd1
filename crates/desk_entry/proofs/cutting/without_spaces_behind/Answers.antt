use Rattle.desk_entry.proofs.CutLemmas.{all_up_to, all_yet, up_to_one}
use Rattle.desk_entry.proofs.cutting.without_spaces_behind.Goals as goal

pub spaces-init : goal.spaces-init
spaces-init c = all_yet c.args.text.now

pub spaces-preserved : goal.spaces-preserved
spaces-preserved c = up_to_one c.args.text.now c.spaces.rest.now c.in-Some.more.now c.spaces.invariant c.in-Some.ensures

pub returns : goal.returns
returns c = all_up_to c.args.text.now c.spaces.rest.now c.spaces.invariant c.in_default.ensures
