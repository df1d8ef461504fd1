use Rattle.std.proofs.Common.{[], flat_map, map, take}
use Rattle.lib_closure.specs.Seen.{standing}
use Rattle.object_changes.specs.NamedFiles.{AddsFiles, files_named_at}
use Rattle.object_changes.specs.OfNames.{of_names}
use Rattle.object_changes.proofs.files.all_files.Given as goal

abbrev pub invariant-loop-seen : goal.invariant-loop-seen
invariant-loop-seen l = AddsFiles [] l.table (flat_map (of_names files_named_at l.names) (map standing (take l.seen-index l.all)))
