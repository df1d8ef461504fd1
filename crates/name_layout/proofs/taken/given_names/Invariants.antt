use Rattle.std.proofs.Common.{map, take}
use Rattle.name_layout.specs.Sets.{HasNames}
use Rattle.name_layout.specs.declared.opened.Opened.{Opened}
use Rattle.name_layout.proofs.taken.given_names.Given as goal

abbrev pub invariant-loop-name : goal.invariant-loop-name
invariant-loop-name l = HasNames l.given (map (λ (opened : Opened). opened.name.now) (take l.name-index l.name-items))
