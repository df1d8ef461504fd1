-- the entries so far, and those of the rest, are all; no more needs are done than entries
use Rattle.std.proofs.Common.{◌≡◌, ◌++◌, drop}
use Rattle.two_files.specs.Entries.{rewritten}
use Rattle.elf_rewrite.proofs.entries.rewritten.Given as goal

abbrev pub invariant-loop-entry : goal.invariant-loop-entry
invariant-loop-entry l =
    l.out.items ++ rewritten l.places (drop l.turn l.places.needs) (drop l.entry-index l.entries) ≡ rewritten l.places l.places.needs l.entries
