use Rattle.std.specs.Prelude.{◌≡◌, ◌++◌, drop, map, vec_items}
use Rattle.elf_shape.specs.Texts.{places_from}
use Rattle.elf_shape.proofs.strings.push_places.Given as goal

abbrev pub invariant-loop-text : goal.invariant-loop-text
invariant-loop-text l = l.out.items ++ places_from l.at (map vec_items (drop l.text-index l.texts)) ≡ l.fn.out.items ++ places_from l.first (map vec_items l.texts)
