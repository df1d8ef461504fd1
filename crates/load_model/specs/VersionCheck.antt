-- Whether the versions that objects ask for are there (Linux Standard Base, Symbol Versioning).
use Rattle.std.specs.Prelude.{ℕ, ◌≡◌, List, [], ◌∷◌, ◌++◌, Bool, true, cond, ◌==◌, ◌&&◌, ◌||◌, nat_le, Option, Some, None, filter, length, map, slice_get, take, zip}
use Rattle.std.specs.List.{enumerate_from, find, flat_map, list_any}
use Rattle.std.specs.Option.{option_map, unwrap_or}
use Rattle.std.specs.Str.{bytes_eq}
use Rattle.answers.specs.First.{first_some}
use Rattle.load_model.specs.LoadList.{is_named, up_to}
use Rattle.load_model.specs.Runs.{face_at}
use Rattle.load_model.specs.declared.asks.Ask.{Ask}
use Rattle.load_model.specs.declared.faces.Face.{Face}
use Rattle.load_model.specs.declared.runs.Run.{Run}

-- The phase that brought an object.
abbrev pub phase_at : Run → ℕ → ℕ
phase_at run j = unwrap_or (option_map (λ o. o.phase) (slice_get run.objs j)) 0

-- The objects that were loaded at the end of a phase.
abbrev pub loaded_by : Run → ℕ → List ℕ
loaded_by run phase = filter (λ j. nat_le (phase_at run j) phase) (up_to (length run.objs))

-- The needs of an object, each with the object that it went to.
abbrev pub needs_in : Option Face → List (List ℕ)
needs_in None = []
needs_in (Some face) = face.needs

abbrev pub needs_to : List Face → Run → ℕ → List (List ℕ × ℕ)
needs_to faces run j = zip (needs_in (face_at faces run j)) (unwrap_or (slice_get run.targets j) [])

-- All names that were asked for up to the end of a phase, each with the object that it went to.
abbrev pub asked_by : List Face → Run → ℕ → List (List ℕ × ℕ)
asked_by faces run phase =
    flat_map (needs_to faces run) (loaded_by run phase) ++ take phase (zip run.opens run.roots)

-- The name is known then for an object: it is its soname, or was asked for and went there.
abbrev pub soname_in : Option Face → Option (List ℕ)
soname_in None = None
soname_in (Some face) = face.soname

abbrev pub is_known_by : List Face → Run → ℕ → List ℕ → ℕ → Bool
is_known_by faces run phase name j =
    is_named (soname_in (face_at faces run j)) name
    || list_any (λ a. bytes_eq a.0 name && (a.1 == j)) (asked_by faces run phase)

-- The object that the file of an ask names: the first for which it is known at the end of the phase
-- that brought the object that asks.
unfoldable pub version_file_of : List Face → Run → ℕ → List ℕ → Option ℕ
version_file_of faces run j file =
    find (is_known_by faces run (phase_at run j) file) (loaded_by run (phase_at run j))

-- An object has a version where it has no definitions, or defines it.
abbrev pub has_defined : List ℕ → List (List ℕ) → Bool
has_defined version [] = true
has_defined version (d ∷ defs) = list_any (λ name. bytes_eq name version) (d ∷ defs)

abbrev pub defs_in : Option Face → List (List ℕ)
defs_in None = []
defs_in (Some face) = face.defs

-- What keeps an ask from being met: its file is not loaded, or the file lacks the version. A weak
-- ask is always met.
pub data Unmet : Type 0 where
  FileUnloaded : Unmet
  VersionLacking : Unmet

abbrev pub unmet_by : List Face → Run → List ℕ → Option ℕ → Option Unmet
unmet_by faces run version None = Some FileUnloaded
unmet_by faces run version (Some j) =
    cond (has_defined version (defs_in (face_at faces run j))) None (Some VersionLacking)

abbrev pub unmet : List Face → Run → ℕ → Ask → Option Unmet
unmet faces run j ask =
    cond ask.weak None (unmet_by faces run ask.name (version_file_of faces run j ask.file))

-- An ask that is not met, by the numbers of the object and of the ask.
pub record UnmetAsk : Type 0 where
  pub obj : ℕ
  pub ask : ℕ
  pub why : Unmet

abbrev pub asks_in : Option Face → List Ask
asks_in None = []
asks_in (Some face) = face.asks

abbrev pub unmet_at : List Face → Run → ℕ → ℕ → Ask → Option UnmetAsk
unmet_at faces run j k ask =
    option_map (λ why. record { obj = j; ask = k; why = why }) (unmet faces run j ask)

abbrev pub unmet_of : List Face → Run → ℕ → List (Option UnmetAsk)
unmet_of faces run j =
    map (λ numbered. unmet_at faces run j numbered.0 numbered.1)
    (enumerate_from 0 (asks_in (face_at faces run j)))

-- The first ask that is not met, by object and ask.
unfoldable pub first_unmet : List Face → Run → Option UnmetAsk
first_unmet faces run = first_some (flat_map (unmet_of faces run) (up_to (length run.objs)))

-- Each ask of each object is met.
pub record VersionsMet (faces : List Face) (run : Run) : Type 0 where
  pub met : (j k : ℕ) (face : Face) (ask : Ask) → face_at faces run j ≡ Some face
      → slice_get face.asks k ≡ Some ask → unmet faces run j ask ≡ None
