-- the bytes of the range are those of memory
use Rattle.std.proofs.Common.{sym, ◌∙◌}
use Rattle.version_tables.proofs.Backed.{backed_there}
use Rattle.version_tables.proofs.memory.backed.Goals as goal

pub returns-in-Some : goal.returns-in-Some
returns-in-Some c =
    backed_there c.args.elf.now c.args.bytes.now c.args.at c.args.size c.in-Some.from c.in-Some.field-0-1 c.requires (sym c.range.ensures ∙ c.in-Some.is)
