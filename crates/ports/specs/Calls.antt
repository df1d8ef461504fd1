-- The calls of a form in memory: which are to fail, and how they are counted.
use Rattle.std.specs.Prelude.{ℕ, Bool, List, [], ◌∷◌, ◌++◌, ◌==◌, ◌&&◌, slice_index, slice_set, if◌then◌else◌}
use Rattle.std.specs.List.{list_any}
use Rattle.answers.specs.Faults.{one_more}
use Rattle.ports.specs.declared.calls.Call.{Call}
use Rattle.ports.specs.declared.calls.Calls.{Calls}

abbrev pub no_calls : Calls
no_calls = record { failing = []; made = 0 ∷ 0 ∷ 0 ∷ 0 ∷ []; refused = 0; faults = 0 }

-- one more call is to fail: that of the method with this number
abbrev pub with_failing : Calls → ℕ → ℕ → Calls
with_failing calls method number =
    record calls { failing = calls.failing ++ (record { method = method; number = number }) ∷ [] }

-- the number that the next call of the method has
abbrev pub next_number : Calls → ℕ → ℕ
next_number calls method = one_more (slice_index calls.made method)

-- the call of the method with this number is to fail
abbrev pub fails_at : List Call → ℕ → ℕ → Bool
fails_at failing method number =
    list_any (λ call. (call.method == method) && (call.number == number)) failing

-- the next call of the method is to fail
abbrev pub is_to_fail : Calls → ℕ → Bool
is_to_fail calls method = fails_at calls.failing method (next_number calls method)

abbrev pub counted : Calls → ℕ → Calls
counted calls method =
    record calls { made = slice_set calls.made method (next_number calls method) }

-- one more fault
abbrev pub faulted : Calls → Calls
faulted calls = record calls { faults = one_more calls.faults }

-- one more growth that memory refused, which is a fault too
abbrev pub starved : Calls → Calls
starved calls = record calls { refused = one_more calls.refused; faults = one_more calls.faults }

-- one more call of the method, which is a fault where it is to fail
abbrev pub after_call : Calls → ℕ → Calls
after_call calls method =
    if is_to_fail calls method then faulted (counted calls method) else counted calls method

-- one more call of the method, which failed: it was to, or memory was refused
abbrev pub after_failure : Calls → ℕ → Calls
after_failure calls method =
    if is_to_fail calls method then faulted (counted calls method) else starved
    (counted calls method)
