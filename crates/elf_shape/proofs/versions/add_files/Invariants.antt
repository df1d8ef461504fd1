use Rattle.std.specs.Prelude.{◌≡◌, drop, fold, map}
use Rattle.elf_shape.specs.Distinct.{with_text}
use Rattle.elf_shape.proofs.versions.add_files.Given as goal

abbrev pub invariant-loop-ask : goal.invariant-loop-ask
invariant-loop-ask l = fold with_text l.files (map (λ a. a.file) (drop l.ask-index l.asks)) ≡ fold with_text l.fn.files (map (λ a. a.file) l.asks)
