-- Where the libraries of a record stand, by their names.
use Rattle.std.specs.Prelude.{ℕ, List, ◌≡◌, bytes_eq}
use Rattle.std.specs.Borrow.{Bor}
use Rattle.std.specs.List.{position_from}
use Rattle.std.specs.Map.{lookup}
use Rattle.host_record.specs.declared.records.RecLib.{RecLib}

-- For each name the place of the first library is kept that has it.
abbrev pub HasPlaces : List (Bor (List ℕ) × ℕ) → List RecLib → Type 0
HasPlaces entries libs =
    (name : List ℕ)
    → lookup (λ k. bytes_eq name k.now) entries
    ≡ position_from (λ lib. bytes_eq lib.name name) 0 libs
