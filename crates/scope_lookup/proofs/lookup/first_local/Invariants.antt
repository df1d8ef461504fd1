use Rattle.std.proofs.Common.{◌≡◌, None, map, take}
use Rattle.scope_lookup.specs.Finding.{first_found_in}
use Rattle.scope_lookup.proofs.lookup.first_local.Given as goal

abbrev pub invariant-loop-number : goal.invariant-loop-number
invariant-loop-number g l = first_found_in (map g.F.Offers.offered l.index) l.run l.wanted (take l.number-index l.numbers) ≡ None
