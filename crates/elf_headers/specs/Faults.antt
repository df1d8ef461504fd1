-- The flaw that a fault of the headers names.
use Rattle.std.specs.Prelude.{Option, Some, None}
use Rattle.byte_view.specs.Checks.{flaw}
use Rattle.byte_view.specs.declared.flaws.Flaw.{Flaw}
use Rattle.elf_headers.specs.declared.faults.ElfFault.{ElfFault}
use Rattle.elf_headers.specs.declared.faults.ElfFault.TheVariants.{Flawed, NoMemory}

-- Want of memory names none.
abbrev pub elf_fault_flaw : ElfFault → Option Flaw
elf_fault_flaw (Flawed code a b) = Some (flaw code a b)
elf_fault_flaw NoMemory = None
