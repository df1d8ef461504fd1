use Rattle.std.proofs.Common.{take}
use Rattle.std.specs.List.{filter_map}
use Rattle.lib_closure.specs.Objects.{own_asks}
use Rattle.lib_closure.specs.Seen.{standing}
use Rattle.object_changes.specs.NamedFiles.{AddsFiles, named_file}
use Rattle.object_changes.specs.OfNames.{of_names}
use Rattle.object_changes.proofs.files.add_files.Given as goal

abbrev pub invariant-loop-place : goal.invariant-loop-place
invariant-loop-place l = AddsFiles l.initial.table l.table (filter_map (of_names named_file l.names (standing l.seen)) (take l.place (own_asks (standing l.seen))))
