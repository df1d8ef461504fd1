use Rattle.std.proofs.Common.{◌≡◌, ◌++◌, drop}
use Rattle.std.specs.List.{flat_map}
use Rattle.load_model.specs.Escaping.{escaped_byte}
use Rattle.load_model.proofs.escaping.escape_onto.Given as goal

abbrev pub invariant-loop-byte : goal.invariant-loop-byte
invariant-loop-byte l =
    l.line.items ++ flat_map escaped_byte (drop l.byte-index l.bytes)
    ≡ l.initial.line.items ++ flat_map escaped_byte l.bytes
