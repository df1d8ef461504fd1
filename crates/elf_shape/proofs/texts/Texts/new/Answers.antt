-- A set without keys holds no texts.
use Rattle.std.proofs.Common.{ap, map, vec_items}
use Rattle.elf_shape.proofs.texts.Texts.new.Goals as goal

pub returns : goal.returns
returns c = ap (map vec_items) c.new.ensures.empty
