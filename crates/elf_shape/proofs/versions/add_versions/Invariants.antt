use Rattle.std.specs.Prelude.{◌≡◌, drop, fold, filter_map}
use Rattle.elf_shape.specs.Distinct.{with_text}
use Rattle.elf_shape.proofs.versions.add_versions.Given as goal

abbrev pub invariant-loop-export : goal.invariant-loop-export
invariant-loop-export l = fold with_text l.names (filter_map (λ e. e.version) (drop l.export-index l.exports)) ≡ fold with_text l.fn.names (filter_map (λ e. e.version) l.exports)
