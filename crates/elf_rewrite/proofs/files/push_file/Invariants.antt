-- nothing is added yet, and the first ask is among those that are left
use Rattle.std.proofs.Common.{◌≡◌, drop, map}
use Rattle.elf_rewrite.specs.Rewriting.{ask_file_in}
use Rattle.elf_rewrite.proofs.files.push_file.Given as goal

abbrev pub invariant-loop-i : goal.invariant-loop-i
invariant-loop-i l =
    (l.patches ≡ l.fn.patches)
    × (ask_file_in (drop l.i l.needs) (map (λ a. a.file) (drop l.i l.asks)) (drop l.i l.files) l.k ≡ ask_file_in l.needs (map (λ a. a.file) l.asks) l.files l.k)
