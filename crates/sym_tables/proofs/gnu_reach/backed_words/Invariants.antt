-- `low` words are backed, `high` are not
use Rattle.std.proofs.Common.{◌≡◌, ◌+◌, ◌-◌, ◌*◌, ◌<◌, ◌≤◌, true, false, is_some, length}
use Rattle.byte_view.specs.Memory.{range_in}
use Rattle.sym_tables.proofs.gnu_reach.backed_words.Given as goal

abbrev pub invariant-halve : goal.invariant-halve
invariant-halve l =
    (l.low < l.high)
    × (4 * l.high ≤ length l.bytes + 4)
    × (is_some (range_in l.elf l.addr (l.size + 4 * l.low)) ≡ true)
    × (is_some (range_in l.elf l.addr (l.size + 4 * l.high)) ≡ false)

abbrev pub decreases-halve : goal.decreases-halve
decreases-halve l = l.high - l.low
