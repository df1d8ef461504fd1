-- Texts without repeats.
use Rattle.std.specs.Prelude.{ℕ, List, ◌≡◌, bytes_eq}
use Rattle.std.specs.List.{list_any}

-- A set of texts has those of a list and no others.
abbrev pub IsSetOf : List (List ℕ) → List (List ℕ) → Type 0
IsSetOf names set =
    (name : List ℕ) → list_any (bytes_eq name) set ≡ list_any (λ n. bytes_eq n name) names
