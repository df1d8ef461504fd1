-- The flaw that a fault names
use Rattle.std.specs.Prelude.{Option, Some, None}
use Rattle.byte_view.specs.declared.flaws.Flaw.{Flaw}
use Rattle.version_tables.specs.declared.faults.VersionFault.{VersionFault}
use Rattle.version_tables.specs.declared.faults.VersionFault.TheVariants.{Flawed, NoMemory}

-- want of memory names none
abbrev pub version_fault_flaw : VersionFault → Option Flaw
version_fault_flaw (Flawed f) = Some f
version_fault_flaw NoMemory = None
