-- The parts so far are those to which the yielded ones lead.
use Rattle.std.proofs.Common.{◌≡◌, map, []}
use Rattle.std.specs.Prelude.{fold}
use Rattle.path_text.specs.Path.{led}
use Rattle.path_text.proofs.normal.named_parts.Given as goal

abbrev pub invariant-loop-part : goal.invariant-loop-part
invariant-loop-part l = map (λ p. p.now) l.parts.items ≡ fold led [] (map (λ p. p.now) l.yielded)
