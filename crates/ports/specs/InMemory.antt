-- A form in memory: what it holds, all of which it tells, and its calls.
use Rattle.std.specs.Prelude.{ℕ, Some}
use Rattle.ports.specs.declared.calls.Calls.{Calls}
use Rattle.ports.specs.Calls.{no_calls, counted, after_failure}
use Rattle.ports.specs.View.{View}

pub record InMemory (A : Type 0) : Type 0 where
  pub held : A
  pub calls : Calls

abbrev pub view_of : {A : Type 0} → InMemory A → View A
view_of form = record { told = Some form.held; faults = form.calls.faults }

-- no call was made yet, and none is to fail
abbrev pub uncalled : {A : Type 0} → A → InMemory A
uncalled held = record { held = held; calls = no_calls }

-- after a call of the method that was Ok
abbrev pub after_ok : {A : Type 0} → (A → A) → ℕ → InMemory A → InMemory A
after_ok change method form = record { held = change form.held; calls = counted form.calls method }

-- after a call of the method that failed, which took nothing
abbrev pub after_err : {A : Type 0} → ℕ → InMemory A → InMemory A
after_err method form = record { held = form.held; calls = after_failure form.calls method }
