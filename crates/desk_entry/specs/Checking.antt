-- What a build demands of the first group, in the order in which it is tried.
use Rattle.std.specs.Prelude.{ℕ, List, [], ◌∷◌, Bool, false, ◌&&◌, not, codes, bytes_eq, Option, None, Some, is_none}
use Rattle.std.specs.List.{list_any}
use Rattle.answers.specs.First.{first_some, some_where}
use Rattle.desk_entry.specs.Entries.{exec_word, value_of}
use Rattle.desk_entry.specs.declared.checks.CheckFault.{CheckFault}
use Rattle.desk_entry.specs.declared.checks.CheckFault.TheVariants.{MissingKey, ExecUnknown, IconDiffers}
use Rattle.desk_entry.specs.declared.checks.DeskKey.TheVariants.{KeyType, KeyName, KeyIcon, KeyExec}
use Rattle.desk_entry.specs.declared.entries.Pair.{Pair}

abbrev pub lacks : List Pair → List ℕ → Bool
lacks pairs key = is_none (value_of pairs key)

-- Whether a key has this value.
abbrev pub is_value : List ℕ → Option (List ℕ) → Bool
is_value value None = false
is_value value (Some found) = bytes_eq found value

abbrev pub has_value : List Pair → List ℕ → List ℕ → Bool
has_value pairs key value = is_value value (value_of pairs key)

-- A program that is not started by D-Bus says how it is started.
abbrev pub lacks_exec : List Pair → Bool
lacks_exec pairs =
    has_value pairs (codes "Type") (codes "Application")
    && not (has_value pairs (codes "DBusActivatable") (codes "true"))
    && lacks pairs (codes "Exec")

-- The word, where there is one, is none of these names.
abbrev pub is_another : List (List ℕ) → Option (List ℕ) → Bool
is_another names None = false
is_another names (Some word) = not (list_any (λ name. bytes_eq name word) names)

abbrev pub names_another : List Pair → List (List ℕ) → Bool
names_another pairs programs = is_another programs (exec_word pairs)

-- The first fault of a group.
abbrev pub check_fault : List Pair → List (List ℕ) → List ℕ → Option CheckFault
check_fault pairs programs stem = first_some (
    some_where (lacks pairs (codes "Type")) (MissingKey KeyType) ∷
    some_where (lacks pairs (codes "Name")) (MissingKey KeyName) ∷
    some_where (lacks pairs (codes "Icon")) (MissingKey KeyIcon) ∷
    some_where (lacks_exec pairs) (MissingKey KeyExec) ∷
    some_where (names_another pairs programs) ExecUnknown ∷
    some_where (not (has_value pairs (codes "Icon") stem)) IconDiffers ∷ [])
