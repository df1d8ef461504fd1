-- The stop that is named
use Rattle.std.specs.Prelude.{Option, Some, None}
use Rattle.strtab_grow.specs.declared.grown.GrowStop.{GrowStop}
use Rattle.strtab_grow.specs.declared.grown.GrowStop.TheVariants.{TooLong, NoMemory}

-- Want of memory names none.
abbrev pub grow_stop_named : GrowStop → Option GrowStop
grow_stop_named TooLong = Some TooLong
grow_stop_named NoMemory = None
