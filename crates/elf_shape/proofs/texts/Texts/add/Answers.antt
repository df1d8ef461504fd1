-- The texts after the key of the text joined them.
use Rattle.std.proofs.Common.{vec_items}
use Rattle.elf_shape.proofs.Mapped.{added_to}
use Rattle.elf_shape.proofs.texts.Texts.add.Goals as goal

pub returns : goal.returns
returns c =
    added_to vec_items c.self.inside.set.keys c.insert.new.self.keys c.in_ok-text.text c.args.self.now c.args.text.now
    c.self.view_is c.in_ok-text.ensures.items c.in-Ok.ensures.keys
