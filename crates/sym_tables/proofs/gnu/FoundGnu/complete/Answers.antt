-- the table that was put together is that of memory
use Rattle.std.proofs.Common.{sym, ◌∙◌}
use Rattle.sym_tables.proofs.GnuParts.{size_is, table_there}
use Rattle.sym_tables.proofs.gnu.FoundGnu.complete.Goals as goal

pub returns : goal.returns
returns c =
    let there = sym c.range.ensures ∙ c.in-Some.is in
    record {
      table = c.in_ok-table.ensures ∙ table_there c.args.bytes.now c.args.elf.now c.args.addr c.in-Some.from c.in-Some.to c.args.front c.args.reach c.in_ok-words.words.items c.requires.read c.requires.front c.requires.reach there c.in_ok-words.ensures;
      reach = c.requires.reach.reach;
      range = sym (size_is c.args.bytes.now c.args.elf.now c.args.addr c.args.front c.args.reach c.requires.front c.requires.reach) ∙ there;
    }
