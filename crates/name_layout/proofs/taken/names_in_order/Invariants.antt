use Rattle.std.proofs.Common.{◌++◌}
use Rattle.name_layout.specs.Layouts.{given_names}
use Rattle.name_layout.specs.Sets.{HasNames}
use Rattle.name_layout.specs.Taken.{AreTried}
use Rattle.name_layout.proofs.OrderLemmas.{AreNamesBefore}
use Rattle.name_layout.proofs.taken.names_in_order.Given as goal

abbrev pub invariant-loop-lib : goal.invariant-loop-lib
invariant-loop-lib l =
    HasNames l.taken.names (given_names l.opened.runs.now l.opened.libs.split.now ++ l.layout)
    × AreTried l.opened.listed l.taken
    × AreNamesBefore l.faces l.opened.runs.now l.opened.libs.split.now l.opened.names.now l.lib-index l.layout
