-- Why a text is no configuration, and values that come after others.
use Rattle.std.specs.Prelude.{Option, None, Some, Result, Ok, Err}
use Rattle.config_text.specs.declared.faults.ConfigFault.{ConfigFault}
use Rattle.config_text.specs.declared.faults.ConfigFault.TheVariants.{NotToml, UnknownKey, MissingKey, WrongKind, BadPath, BadName, TwoTargets, NoMemory}

-- The fault, where it says something of the text; want of memory says nothing.
abbrev pub said_of_config : ConfigFault → Option ConfigFault
said_of_config NotToml = Some NotToml
said_of_config (UnknownKey key) = Some (UnknownKey key)
said_of_config (MissingKey key) = Some (MissingKey key)
said_of_config (WrongKind key) = Some (WrongKind key)
said_of_config (BadPath key) = Some (BadPath key)
said_of_config (BadName key text) = Some (BadName key text)
said_of_config (TwoTargets target) = Some (TwoTargets target)
said_of_config NoMemory = None

-- What comes next from a value; the first fault stays.
abbrev pub then_read : {S T : Type 0}
    → Result S ConfigFault → (S → Result T ConfigFault) → Result T ConfigFault
then_read (Ok value) next = next value
then_read (Err fault) next = Err fault

-- The same behind a fault that there may be.
abbrev pub unless : {T : Type 0}
    → Option ConfigFault → Result T ConfigFault → Result T ConfigFault
unless None next = next
unless (Some fault) next = Err fault

-- This fault, whatever the fault of a text was.
abbrev pub or_else : {T F : Type 0} → Result T F → ConfigFault → Result T ConfigFault
or_else (Ok value) fault = Ok value
or_else (Err other) fault = Err fault
