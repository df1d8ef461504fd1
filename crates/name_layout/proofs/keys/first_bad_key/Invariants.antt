use Rattle.std.proofs.Common.{◌≡◌, drop, map}
use Rattle.answers.specs.First.{first_some}
use Rattle.name_layout.specs.Layouts.{bad_key}
use Rattle.name_layout.proofs.keys.first_bad_key.Given as goal

abbrev pub invariant-loop-lib : goal.invariant-loop-lib
invariant-loop-lib l =
    first_some (map (bad_key l.faces l.names.runs.now l.names.libs.split.now l.names.names.now) (drop l.lib-index l.lib-items))
    ≡ first_some (map (bad_key l.faces l.names.runs.now l.names.libs.split.now l.names.names.now) l.lib-items)
