use Rattle.std.proofs.Common.{◌≡◌, ◌<◌, ℕ, false}
use Rattle.name_layout.specs.Layouts.{candidate_name, is_free}
use Rattle.name_layout.proofs.free_names.first_free.Given as goal

abbrev pub invariant-loop-number : goal.invariant-loop-number
invariant-loop-number l = (k : ℕ) → k < l.number → is_free l.listed l.taken (candidate_name l.key k) ≡ false
