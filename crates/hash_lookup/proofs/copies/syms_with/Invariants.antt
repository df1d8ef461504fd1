-- the symbols so far are those of what was seen
use Rattle.std.proofs.Common.{◌≡◌, map}
use Rattle.load_model.specs.Faces.{sym_of}
use Rattle.hash_lookup.proofs.copies.syms_with.Given as goal

abbrev pub invariant-symbols : goal.invariant-symbols
invariant-symbols l = l.list ≡ map (λ p. sym_of l.bytes p.0.0.now p.0.1.now p.1.now) l.yielded
