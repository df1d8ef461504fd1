use Rattle.std.proofs.Common.{map}
use Rattle.lib_closure.specs.Objects.{occurrence_at}
use Rattle.lib_closure.specs.Seen.{standing}
use Rattle.version_files.proofs.TakenLemmas.{added_number, none_yet}
use Rattle.lib_closure.proofs.lists.add_objects.Goals as goal

pub loop-number-init : goal.loop-number-init
loop-number-init c = none_yet (occurrence_at c.args.list.now.faces.now c.args.list.now.run.now) (map standing c.args.all.now.items)

pub loop-number-preserved : goal.loop-number-preserved
loop-number-preserved c =
    added_number (occurrence_at c.args.list.now.faces.now c.args.list.now.run.now) c.loop-number.number (map standing c.args.all.now.items) (map standing c.loop-number.all.items) (map standing c.add_object.new.all.items) c.loop-number.invariant c.in_ok-add_object.ensures
