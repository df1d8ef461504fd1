-- The flaw that a fault names
use Rattle.std.specs.Prelude.{Option, Some, None}
use Rattle.byte_view.specs.declared.flaws.Flaw.{Flaw}
use Rattle.elf_face.specs.declared.faults.FaceFault.{FaceFault}
use Rattle.elf_face.specs.declared.faults.FaceFault.TheVariants.{Flawed, NoMemory}

-- want of memory names none
abbrev pub flaw_of : FaceFault → Option Flaw
flaw_of (Flawed flaw) = Some flaw
flaw_of NoMemory = None
