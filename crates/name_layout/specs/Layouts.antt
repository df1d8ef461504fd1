-- The file names of bundled libraries: the names under which they are opened, and for all others
-- their keys, or the first of `key-2`, `key-3` and on that is free.
use Rattle.std.specs.Prelude.{ℕ, zero, suc, ◌+◌, ◌<◌, List, [], ◌∷◌, ◌++◌, ◌≡◌, Bool, true, false, not, ◌&&◌, Option, Some, None, length, map, slice_get, take}
use Rattle.std.specs.Fmt.{decimal}
use Rattle.std.specs.List.{find}
use Rattle.std.specs.Option.{option_and_then, option_map, unwrap_or}
use Rattle.std.specs.Str.{bytes_eq}
use Rattle.answers.specs.First.{first_some, some_where}
use Rattle.path_text.specs.FileName.{is_file_name_text}
use Rattle.path_text.specs.Path.{base_of}
use Rattle.lib_closure.specs.declared.splits.Member.{Member}
use Rattle.lib_closure.specs.declared.splits.Split.{Split}
use Rattle.listed_runs.specs.Fitting.{is_on_list}
use Rattle.load_model.specs.declared.faces.Face.{Face}
use Rattle.load_model.specs.declared.runs.Run.{Run}
use Rattle.name_layout.specs.Openings.{bundled_openings, first_opening_stop, openings}
use Rattle.name_layout.specs.declared.stops.NameStop.{NameStop}
use Rattle.name_layout.specs.declared.stops.NameStop.TheVariants.{BadFileName, NoMemory}

-- The name under which a library is opened, if it is.
abbrev pub opened_name : List Run → Member → Option (List ℕ)
opened_name runs lib =
    option_map (λ o. o.name) (find (λ o. bytes_eq lib.id o.root) (openings runs))

-- The key of a library: its soname, or else the last part of its path.
abbrev pub soname_at : List Face → ℕ → Option (List ℕ)
soname_at faces place = option_and_then (λ face. face.soname) (slice_get faces place)

abbrev pub member_key : List Face → Member → List ℕ
member_key faces lib = unwrap_or (soname_at faces lib.face) (base_of lib.path)

-- The key, and then `key-2`, `key-3` and on: `-` is 45.
abbrev pub candidate_name : List ℕ → ℕ → List ℕ
candidate_name key zero = key
candidate_name key (suc k) = key ++ 45 ∷ decimal (k + 2)

-- The names that opened libraries have.
unfoldable pub given_names : List Run → Split → List (List ℕ)
given_names runs split = map (λ o. o.name) (bundled_openings split runs)

module _ (names : List (List ℕ)) where
  -- A name is free that is neither taken nor on the host list.
  abbrev pub is_free : List (List ℕ) → List ℕ → Bool
  is_free taken name = not (is_on_list taken name) && not (is_on_list names name)

  -- The first candidate that is free.
  pub record IsFirstFree (taken : List (List ℕ)) (key name : List ℕ) : Type 0 where
    pub number : ℕ
    pub spelled : name ≡ candidate_name key number
    pub free : is_free taken name ≡ true
    pub before : (k : ℕ) → k < number → is_free taken (candidate_name key k) ≡ false

module _ (faces : List Face) (runs : List Run) (split : Split) (names : List (List ℕ)) where
  -- A key that is to be a file name and can be none.
  abbrev pub unfit_name : List ℕ → Option (List ℕ) → Option NameStop
  unfit_name key None = some_where (not (is_file_name_text key)) (BadFileName key)
  unfit_name key (Some name) = None

  abbrev pub bad_key : Member → Option NameStop
  bad_key lib = unfit_name (member_key faces lib) (opened_name runs lib)

  unfoldable pub first_bad_key : Option NameStop
  first_bad_key = first_some (map bad_key split.libs)

  -- What is refused: of the opened names, and then of the keys.
  unfoldable pub first_name_stop : Option NameStop
  first_name_stop = first_some (first_opening_stop split names runs ∷ first_bad_key ∷ [])

  abbrev pub HasName : List (List ℕ) → Member → List ℕ → Option (List ℕ) → Type 0
  HasName taken lib name None = IsFirstFree names taken (member_key faces lib) name
  HasName taken lib name (Some opened) = name ≡ opened

  -- Each bundled library has its name, where the names of opened libraries and those of the
  -- libraries before it are taken.
  pub record AreNames (layout : List (List ℕ)) : Type 0 where
    pub count : length layout ≡ length split.libs
    pub each : (i : ℕ) (lib : Member) (name : List ℕ) → slice_get split.libs i ≡ Some lib
        → slice_get layout i ≡ Some name
        → HasName (given_names runs split ++ take i layout) lib name (opened_name runs lib)

-- What a stop says; want of memory says nothing.
abbrev pub said_of_name : NameStop → Option NameStop
said_of_name NoMemory = None
said_of_name stop = Some stop
