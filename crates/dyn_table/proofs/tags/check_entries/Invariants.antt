-- what is left, behind what was seen, answers as the whole
use Rattle.std.proofs.Common.{◌≡◌, [], drop, take}
use Rattle.byte_view.specs.DynamicFlaws.{entry_flaw}
use Rattle.dyn_table.proofs.tags.check_entries.Given as goal

abbrev pub invariant-loop-i : goal.invariant-loop-i
invariant-loop-i l = entry_flaw (take l.i l.entries) (drop l.i l.entries) ≡ entry_flaw [] l.entries
