-- a table that was read whole has no flaw
use Rattle.std.proofs.Common.{arith}
use Rattle.sym_tables.proofs.GnuParts.{gnu_whole}
use Rattle.sym_tables.proofs.gnu.FoundGnu.read_at.Goals as goal

pub returns-clause-flaw : goal.returns-clause-flaw
returns-clause-flaw c =
    gnu_whole c.args.bytes.now c.args.elf.now c.args.addr c.in-Some.front c.in-Some-of.reach (rw c.in-Some.is at c.in-Ok.ensures) c.in-Some-of.ensures (grind (arith, c.is_sound.ensures, c.if-not-is_sound.false))
