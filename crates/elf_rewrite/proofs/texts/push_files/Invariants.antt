-- the texts so far, and those that are left to change, are all
use Rattle.std.proofs.Common.{◌≡◌, ◌++◌, drop, map}
use Rattle.elf_rewrite.specs.NewTexts.{changed}
use Rattle.elf_rewrite.proofs.texts.push_files.Given as goal

abbrev pub invariant-loop-i : goal.invariant-loop-i
invariant-loop-i l =
    l.texts ++ changed (map (λ a. a.file) (drop l.i l.asks)) (drop l.i l.files)
    ≡ l.fn.texts ++ changed (map (λ a. a.file) l.asks) l.files
