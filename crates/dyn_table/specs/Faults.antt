-- The flaw that a fault of the dynamic table names.
use Rattle.std.specs.Prelude.{Option, Some, None}
use Rattle.byte_view.specs.Checks.{flaw}
use Rattle.byte_view.specs.declared.flaws.Flaw.{Flaw}
use Rattle.dyn_table.specs.declared.faults.DynFault.{DynFault}
use Rattle.dyn_table.specs.declared.faults.DynFault.TheVariants.{Flawed, NoMemory}

-- Want of memory names none.
abbrev pub dyn_fault_flaw : DynFault → Option Flaw
dyn_fault_flaw (Flawed code a b) = Some (flaw code a b)
dyn_fault_flaw NoMemory = None
