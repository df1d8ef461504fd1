use Rattle.std.specs.List.{flat_map}
use Rattle.load_model.specs.LoadList.{up_to}
use Rattle.version_files.specs.Known.{needs_known}
use Rattle.version_files.specs.Telling.{AddsNames, AreNamed}
use Rattle.version_files.proofs.files.add_needs.Given as goal

abbrev pub invariant-loop-number : goal.invariant-loop-number
invariant-loop-number l = AreNamed l.known × AddsNames l.initial.known l.known (flat_map (needs_known l.faces l.run) (up_to l.number))
