-- the headers so far, and those that are left, are all
use Rattle.std.proofs.Common.{◌≡◌, ◌++◌, drop}
use Rattle.elf_rewrite.specs.Rewriting.{headers_by}
use Rattle.elf_rewrite.proofs.HeaderSteps.{loads_in, rest_of}
use Rattle.elf_rewrite.proofs.segments.new_headers.Given as goal

abbrev pub invariant-loop-s : goal.invariant-loop-s
invariant-loop-s l =
    (l.out.items ++ rest_of l.layout l.left (drop l.s-index l.segments) ≡ headers_by l.layout l.segments)
    × (l.left ≡ loads_in (drop l.s-index l.segments))
