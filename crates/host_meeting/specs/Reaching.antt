-- The names that a library reaches by recorded needs.
use Rattle.std.specs.Prelude.{ℕ, List, ◌≡◌, length}
use Rattle.std.specs.List.{list_any}
use Rattle.std.specs.Str.{bytes_eq}
use Rattle.host_list.specs.Meeting.{is_reached}
use Rattle.host_record.specs.declared.records.RecLib.{RecLib}

-- These names are all that are reached from this one, and no others.
abbrev pub AreReached : List RecLib → List ℕ → List (List ℕ) → Type 0
AreReached libs from names =
    (name : List ℕ) → list_any (bytes_eq name) names ≡ is_reached libs (length libs) name from
