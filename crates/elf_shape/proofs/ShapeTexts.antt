-- The texts of a file, added turn by turn
use Rattle.std.proofs.Common.{◌≡◌, []}
use Rattle.std.proofs.lemmas.List.Sums.{fold-append}
use Rattle.elf_shape.specs.Texts.{mentioned, shape_texts, with_own_texts, with_symbol_names, with_version_texts}
use Rattle.elf_shape.specs.declared.shape.Shape.{Shape}
use Rattle.elf_shape.specs.declared.versions.Versions.{Versions}

pub texts_by_turns : (shape : Shape) (versions : Versions) → shape_texts shape versions ≡ with_version_texts (with_symbol_names (with_own_texts [] shape) shape) versions
unfolding shape_texts mentioned
texts_by_turns shape versions = simp fold-append
