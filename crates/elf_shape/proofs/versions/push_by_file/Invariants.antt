use Rattle.std.specs.Prelude.{◌≡◌, ◌++◌, drop, flat_map}
use Rattle.elf_shape.specs.Versions.{asks_of_file}
use Rattle.elf_shape.proofs.versions.push_by_file.Given as goal

abbrev pub invariant-loop-file : goal.invariant-loop-file
invariant-loop-file l = l.out ++ flat_map (λ file. asks_of_file file l.asks) (drop l.file-index l.files) ≡ l.fn.out ++ flat_map (λ file. asks_of_file file l.asks) l.files
