-- What the code keeps of known names tells.
use Rattle.std.specs.Prelude.{ℕ, List, ◌≡◌, Option, map}
use Rattle.std.specs.List.{find}
use Rattle.std.specs.Option.{option_and_then}
use Rattle.std.specs.Str.{bytes_eq}
use Rattle.version_files.specs.Known.{KnownName, first_known_by, known_by}
use Rattle.load_model.specs.LoadList.{lesser_of}
use Rattle.version_files.specs.declared.known.Known.{Known}
use Rattle.version_files.specs.declared.known.KnownNames.{KnownNames}

abbrev pub known_as : Known → KnownName
known_as known = record { name = known.name.now; target = known.target; since = known.since }

-- The names are those of the first entries.
abbrev pub AreNamed : KnownNames → Type 0
AreNamed known = known.names ≡ map (λ (f : KnownName). f.name) (map known_as known.firsts.items)

-- The object that is known by the name at the end of the phase: by the first entry of the name, or
-- by one beside.
abbrev pub told_first : List KnownName → ℕ → List ℕ → Option ℕ
told_first firsts phase name =
    option_and_then (known_by phase name) (find (λ f. bytes_eq name f.name) firsts)

unfoldable pub told : KnownNames → ℕ → List ℕ → Option ℕ
told known phase name =
    lesser_of (told_first (map known_as known.firsts.items) phase name)
    (first_known_by phase name (map known_as known.others.items))

-- These names were added.
abbrev pub AddsNames : KnownNames → KnownNames → List KnownName → Type 0
AddsNames before after more =
    (phase : ℕ) (name : List ℕ)
    → told after phase name ≡ lesser_of (told before phase name) (first_known_by phase name more)
