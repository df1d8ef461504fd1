-- the symbols that were read are those of memory
use Rattle.std.proofs.Common.{sym, ◌∙◌, arith}
use Rattle.sym_tables.proofs.RawSymbols.{symbols_few, symbols_fit, symbols_there}
use Rattle.sym_tables.proofs.symbols.read_symbols.Goals as goal

pub symbols_from-requires : goal.symbols_from-requires
symbols_from-requires c =
    symbols_fit c.args.bytes.now c.args.elf.now c.args.addr c.args.count c.in-Some.len c.in-Some-range.from c.in-Some-range.field-0-1 c.requires (omega (arith, c.in-Some.ensures)) (sym c.range.ensures ∙ c.in-Some-range.is)

pub returns-clause-symbols : goal.returns-clause-symbols
returns-clause-symbols c =
    symbols_there c.args.bytes.now c.args.elf.now c.args.addr c.args.count c.in-Some.len c.in-Some-range.from c.in-Some-range.field-0-1 c.in-Ok.symbols.items c.requires (omega (arith, c.in-Some.ensures)) (sym c.range.ensures ∙ c.in-Some-range.is) c.in-Ok.ensures

pub returns-clause-few : goal.returns-clause-few
returns-clause-few c =
    symbols_few c.args.bytes.now c.args.elf.now c.args.addr c.args.count c.in-Some.len c.in-Some-range.from c.in-Some-range.field-0-1 c.in-Ok.symbols.items c.requires (omega (arith, c.in-Some.ensures)) (sym c.range.ensures ∙ c.in-Some-range.is) c.in-Ok.ensures
