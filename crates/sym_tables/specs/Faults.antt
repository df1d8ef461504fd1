-- The flaw that a fault names
use Rattle.std.specs.Prelude.{Option, Some, None}
use Rattle.byte_view.specs.declared.flaws.Flaw.{Flaw}
use Rattle.sym_tables.specs.declared.faults.SymFault.{SymFault}
use Rattle.sym_tables.specs.declared.faults.SymFault.TheVariants.{Flawed, NoMemory}

-- want of memory names none
abbrev pub symbol_fault_flaw : SymFault → Option Flaw
symbol_fault_flaw (Flawed f) = Some f
symbol_fault_flaw NoMemory = None
