use Rattle.std.specs.Prelude.{◌≡◌, ◌++◌, drop, flat_map, map, vec_items}
use Rattle.elf_shape.specs.Texts.{ended}
use Rattle.elf_shape.proofs.strings.push_texts.Given as goal

abbrev pub invariant-loop-text : goal.invariant-loop-text
invariant-loop-text l = l.out.items ++ flat_map ended (map vec_items (drop l.text-index l.texts)) ≡ l.fn.out.items ++ flat_map ended (map vec_items l.texts)
