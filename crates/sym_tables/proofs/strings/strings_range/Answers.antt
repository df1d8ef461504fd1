-- the range that was found is that of the string table
use Rattle.std.proofs.Common.{◌≡◌, Some}
use Rattle.byte_view.specs.Dynamic.{strings_at, strings_size}
use Rattle.byte_view.specs.Memory.{range_in}
use Rattle.sym_tables.proofs.StringRangeLemmas.{strings_found}
use Rattle.sym_tables.proofs.strings.strings_range.Goals as goal

pub returns : goal.returns
returns c =
    let found : range_in c.args.elf.now (strings_at c.args.table.now.entries) (strings_size c.args.table.now.entries) ≡ Some c.in-Some.range = cc in
    strings_found c.args.elf.now c.args.bytes.now c.args.table.now c.in-Some.range c.requires.elf c.requires.table found
