-- the needs so far, and those among the entries that are left, are all
use Rattle.std.proofs.Common.{◌≡◌, ◌++◌, drop}
use Rattle.load_model.specs.Faces.{needs_among}
use Rattle.elf_face.proofs.entries.needs_of.Given as goal

abbrev pub invariant-loop-e : goal.invariant-loop-e
invariant-loop-e l = l.needs ++ needs_among l.bytes (drop l.e-index l.entries) ≡ needs_among l.bytes l.entries
