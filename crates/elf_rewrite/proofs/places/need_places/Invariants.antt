-- the places so far, and those of the rest, are all
use Rattle.std.proofs.Common.{◌≡◌, ◌++◌, drop}
use Rattle.elf_rewrite.specs.NewTable.{need_places}
use Rattle.elf_rewrite.proofs.places.need_places.Given as goal

abbrev pub invariant-loop-i : goal.invariant-loop-i
invariant-loop-i l =
    l.places.items ++ need_places l.bytes l.grown (drop l.i l.olds) (drop l.i l.news) ≡ need_places l.bytes l.grown l.olds l.news
