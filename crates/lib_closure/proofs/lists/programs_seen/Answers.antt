use Rattle.std.proofs.Common.{map}
use Rattle.lib_closure.specs.Objects.{occurrence_at}
use Rattle.lib_closure.specs.Seen.{standing}
use Rattle.lib_closure.specs.declared.seen.LoadList.{LoadList}
use Rattle.version_files.proofs.TakenLemmas.{added_read}
use Rattle.lib_closure.proofs.lists.programs_seen.Goals as goal

pub loop-list-preserved : goal.loop-list-preserved
loop-list-preserved c =
    added_read (λ (list : LoadList). occurrence_at list.faces.now list.run.now 0) c.args.lists.now c.loop-list.list-index c.list-item.result (map standing c.loop-list.programs.items) (map standing c.add_object.new.all.items) c.loop-list-test.true c.list-item.is c.loop-list.invariant c.in_ok-add_object.ensures
