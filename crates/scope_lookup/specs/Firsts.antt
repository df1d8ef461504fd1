-- Requests by their names and the objects that they went to.
use Rattle.std.specs.Prelude.{ℕ, List, [], Bool, ◌==◌, ◌&&◌, slice_get, zip}
use Rattle.std.specs.Option.{unwrap_or}
use Rattle.std.specs.Str.{bytes_eq}
use Rattle.load_model.specs.declared.runs.Run.{Run}

-- A request, with its target, is of this name and went to this object.
abbrev pub is_request_to : List ℕ → ℕ → (List ℕ × ℕ) → Bool
is_request_to name j asked = bytes_eq asked.0 name && (asked.1 == j)

-- The names that an object asks for, each with the object that it went to.
abbrev pub requests_in : List (List (List ℕ)) → Run → ℕ → List (List ℕ × ℕ)
requests_in asked run j =
    zip (unwrap_or (slice_get asked j) []) (unwrap_or (slice_get run.targets j) [])
