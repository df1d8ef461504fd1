use Rattle.std.proofs.Common.{◌≡◌, ◌++◌, length}
use Rattle.std.specs.List.{flat_map}
use Rattle.load_model.specs.Escaping.{escaped_byte, AreBytes}
use Rattle.host_record.proofs.unescaping.decoded.Given as goal

abbrev pub invariant-bytes : goal.invariant-bytes
invariant-bytes l = record { fits : AreBytes l.bytes.items; whole : l.fn.field ≡ flat_map escaped_byte l.bytes.items ++ l.rest }

abbrev pub decreases-bytes : goal.decreases-bytes
decreases-bytes l = length l.rest
