-- the patches so far, and those of the needs that are left, are all
use Rattle.std.proofs.Common.{◌≡◌, ◌++◌, drop, map}
use Rattle.std.specs.List.{enumerate_from, flat_map}
use Rattle.elf_rewrite.specs.Rewriting.{ask_file_in, file_patch}
use Rattle.elf_rewrite.proofs.files.push_files.Given as goal

abbrev pub invariant-loop-k : goal.invariant-loop-k
invariant-loop-k l =
    l.patches ++ flat_map (λ p. file_patch l.grown p.1 (ask_file_in l.needs (map (λ a. a.file) l.asks) l.files p.0)) (enumerate_from l.k (drop l.k l.words))
    ≡ l.fn.patches ++ flat_map (λ p. file_patch l.grown p.1 (ask_file_in l.needs (map (λ a. a.file) l.asks) l.files p.0)) (enumerate_from 0 l.words)
