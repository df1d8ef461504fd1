-- Answers of calls that may lack memory: an answer is the wanted one, or memory was refused.
-- `named` is what an error says, and None for want of memory, which may come always.
use Rattle.std.specs.Prelude.{◌≡◌, Option, None, Some, Result, Ok, Err}

-- What was named is what was found; want of memory names nothing.
abbrev pub Names : {F : Type 0} → Option F → Option F → Type 0
Names None found = Unit {0}
Names (Some fault) found = found ≡ Some fault

-- Ok exactly where there is no fault, and else that fault.
abbrev pub TellsBy : {T E F : Type 0} → (E → Option F) → Result T E → Option F → Type 0
TellsBy named (Ok value) found = found ≡ None
TellsBy named (Err error) found = Names (named error) found

-- A named fault is the wanted answer.
abbrev pub IsFaultOf : {T F : Type 0} → Option F → Result T F → Type 0
IsFaultOf None wanted = Unit {0}
IsFaultOf (Some fault) wanted = wanted ≡ Err fault

-- The wanted answer, its value or its fault.
abbrev pub Answers : {T E F : Type 0} → (E → Option F) → Result T E → Result T F → Type 0
Answers named (Ok value) wanted = wanted ≡ Ok value
Answers named (Err error) wanted = IsFaultOf (named error) wanted
