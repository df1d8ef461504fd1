use Rattle.std.proofs.Common.{◌+◌, [], flat_map, map, take}
use Rattle.lib_closure.specs.Seen.{standing}
use Rattle.object_changes.specs.NamedFiles.{files_named_at}
use Rattle.object_changes.specs.OfNames.{of_names}
use Rattle.object_changes.proofs.FileLemmas.{adds_as, adds_more}
use Rattle.object_changes.proofs.PairLemmas.{flat_next}
use Rattle.object_changes.proofs.files.all_files.Goals as goal

pub loop-seen-preserved : goal.loop-seen-preserved
loop-seen-preserved c =
    let f = of_names files_named_at c.args.names.now in
    adds_as [] c.add_files.new.table _ (flat_map f (map standing (take (c.loop-seen.seen-index + 1) c.args.all.now)))
    (flat_next f standing c.args.all.now c.loop-seen.seen-index c.seen-item.result c.loop-seen-test.true c.seen-item.is)
    (adds_more [] c.loop-seen.table c.add_files.new.table (flat_map f (map standing (take c.loop-seen.seen-index c.args.all.now))) (f (standing c.seen-item.result)) c.loop-seen.invariant c.in_ok-add_files.ensures)
