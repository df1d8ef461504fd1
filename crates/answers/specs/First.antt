-- The first of several things that may be there, in the order in which they are tried.
use Rattle.std.specs.Prelude.{List, [], ◌∷◌, Bool, cond, Option, None, Some, Result, Ok, Err}

-- It is there where the condition holds.
abbrev pub some_where : {A : Type 0} → Bool → A → Option A
some_where condition it = cond condition (Some it) None

-- The first that is there.
abbrev pub first_some : {A : Type 0} → List (Option A) → Option A
first_some [] = None
first_some (None ∷ more) = first_some more
first_some (Some it ∷ more) = Some it

-- The value, unless there is a fault.
abbrev pub value_unless : {T E : Type 0} → Option E → T → Result T E
value_unless None value = Ok value
value_unless (Some fault) value = Err fault
