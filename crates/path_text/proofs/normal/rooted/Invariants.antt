-- The path so far, and the parts that are left behind it.
use Rattle.std.proofs.Common.{◌≡◌, ◌++◌, map, drop, string_bytes}
use Rattle.path_text.proofs.PartLemmas.{slashed}
use Rattle.path_text.proofs.normal.rooted.Given as goal

abbrev pub invariant-loop-part : goal.invariant-loop-part
invariant-loop-part l = string_bytes l.path ++ slashed (map (λ p. p.now) (drop l.part-index l.parts)) ≡ slashed (map (λ p. p.now) l.parts)
