-- The names by which objects are known, each with the first object that is known by it.
use Rattle.std.specs.Prelude.{ℕ, List, Bool, cond, ◌≡◌, Option, Some, min, position}
use Rattle.std.specs.Map.{lookup}
use Rattle.std.specs.Option.{option_map_or}
use Rattle.std.specs.Str.{bytes_eq}
use Rattle.load_model.specs.declared.runs.Obj.{Obj}

-- The first object that is known by a name.
abbrev pub first_known : List ℕ → List (List ℕ × ℕ) → Option ℕ
first_known name known = lookup (bytes_eq name) known

-- The object of this number is now the first that is known by a name; of other names nothing
-- changes.
abbrev pub IsMadeFirst : List ℕ → ℕ → List (List ℕ × ℕ) → List (List ℕ × ℕ) → Type 0
IsMadeFirst name number before after =
    (n : List ℕ) → first_known n after ≡ cond (bytes_eq name n) (Some number) (first_known n before)

-- The object of this number is now known by the names that pass: it is the first, unless one
-- before it is. Of other names nothing changes.
abbrev pub IsLearnt : (List ℕ → Bool) → ℕ → List (List ℕ × ℕ) → List (List ℕ × ℕ) → Type 0
IsLearnt passes number before after =
    (n : List ℕ) → first_known n after ≡ cond (passes n)
    (Some (option_map_or (min number) (first_known n before) number)) (first_known n before)

-- These are the identities of the objects, each with the first object that is this file.
abbrev pub AreIds : List (List ℕ × ℕ) → List Obj → Type 0
AreIds ids objs = (id : List ℕ) → first_known id ids ≡ position (λ x. bytes_eq x.id id) objs
