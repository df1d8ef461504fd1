-- Under which names the objects of a load list are known, and from which phase on.
use Rattle.std.specs.Prelude.{ℕ, List, [], ◌∷◌, ◌++◌, ◌+◌, cond, ◌&&◌, Option, Some, None, length, map, max, min, nat_le, zip}
use Rattle.std.specs.List.{enumerate_from, flat_map}
use Rattle.std.specs.Option.{option_to_list}
use Rattle.std.specs.Str.{bytes_eq}
use Rattle.load_model.specs.LoadList.{lesser_of, up_to}
use Rattle.load_model.specs.Runs.{face_at}
use Rattle.load_model.specs.VersionCheck.{needs_to, phase_at, soname_in}
use Rattle.load_model.specs.declared.faces.Face.{Face}
use Rattle.load_model.specs.declared.runs.Run.{Run}

-- A name by which an object is known at the end of a phase, and of all later ones.
pub record KnownName : Type 0 where
  pub name : List ℕ
  pub target : ℕ
  pub since : ℕ

-- A name is known for an object once it was asked for and the object is loaded.
abbrev pub known_from : Run → ℕ → (List ℕ × ℕ) → KnownName
known_from run phase asked =
    record { name = asked.0; target = asked.1; since = max phase (phase_at run asked.1) }

-- Its soname is known with the object.
abbrev pub known_soname : Run → ℕ → List ℕ → KnownName
known_soname run j soname = record { name = soname; target = j; since = phase_at run j }

abbrev pub sonames_known : List Face → Run → ℕ → List KnownName
sonames_known faces run j =
    map (known_soname run j) (option_to_list (soname_in (face_at faces run j)))

abbrev pub needs_known : List Face → Run → ℕ → List KnownName
needs_known faces run j = map (known_from run (phase_at run j)) (needs_to faces run j)

abbrev pub opens_known : Run → List KnownName
opens_known run =
    map (λ numbered. known_from run (numbered.0 + 1) numbered.1)
    (enumerate_from 0 (zip run.opens run.roots))

unfoldable pub all_known : List Face → Run → List KnownName
all_known faces run =
    flat_map (sonames_known faces run) (up_to (length run.objs))
    ++ (flat_map (needs_known faces run) (up_to (length run.objs)) ++ opens_known run)

-- The object that is known by the name at the end of the phase, if it is this one.
abbrev pub known_by : ℕ → List ℕ → KnownName → Option ℕ
known_by phase name known =
    cond (bytes_eq name known.name && nat_le known.since phase) (Some known.target) None

-- The first of these objects that is.
abbrev pub first_known_by : ℕ → List ℕ → List KnownName → Option ℕ
first_known_by phase name [] = None
first_known_by phase name (known ∷ more) =
    lesser_of (known_by phase name known) (first_known_by phase name more)
