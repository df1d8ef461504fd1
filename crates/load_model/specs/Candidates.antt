-- Where a name is looked for: the candidates of a request in order, and the first that decides
-- (ld.so(8), in this profile).
use Rattle.std.specs.Prelude.{ℕ, zero, suc, List, [], ◌∷◌, ◌++◌, Bool, false, cond, ◌≡◌, ◌==◌, ◌⊎◌, Option, Some, None, Result, Ok, Err, length, map, slice_get, take}
use Rattle.std.specs.List.{flat_map, list_any}
use Rattle.answers.specs.First.{first_some}
use Rattle.byte_view.specs.declared.flaws.Flaw.{Flaw}
use Rattle.path_text.specs.Path.{begins_at_root, folder_of, path_of}
use Rattle.path_text.specs.declared.absolute.PathFault.{PathFault}
use Rattle.load_model.specs.LoadList.{Object, Request, Asked, Loaded, count_after, first_place, is_known}
use Rattle.load_model.specs.RunPaths.{Item, Folder, Unset, Relative, items_of}
use Rattle.load_model.specs.World.{World, Kind, Absent, Other, Object as IsObject, Damaged as IsDamaged, kind_of}
use Rattle.load_model.specs.declared.faces.Face.{Face}
use Rattle.load_model.specs.declared.refusals.LoadRefusal.{LoadRefusal}
use Rattle.load_model.specs.declared.refusals.LoadRefusal.TheVariants.{Damaged, MissingLibrary, RelativeItem, RelativeNeed, TokenInNeed, TokenUnset}
use Rattle.load_model.specs.declared.setting.Setting.{Setting}

-- The object whose request first brought this one; the program is its own loader.
unfoldable pub loader_in : List Asked → ℕ → ℕ
loader_in [] j = 0
loader_in (a ∷ log) j = cond (a.target == j) a.request.by (loader_in log j)

-- An object, its loader, that one's loader and so on, up to the program. `loader` gives the loader
-- of each, and `most` bounds their number.
unfoldable pub loader_chain : ℕ → (ℕ → ℕ) → ℕ → List ℕ
loader_chain zero loader j = j ∷ []
loader_chain (suc most) loader j = cond (j == 0) (0 ∷ []) (j ∷ loader_chain most loader (loader j))

-- The items of a run path of an object, where it has one; `$ORIGIN` is the folder of the path under
-- which it was found.
abbrev pub items_held : Setting → List ℕ → Option (List ℕ) → List Item
items_held setting path None = []
items_held setting path (Some text) = items_of setting (folder_of path) text

abbrev pub runpath_items : Setting → Object → List Item
runpath_items setting o = items_held setting o.path o.face.runpath

-- The RPATH of an object counts only where it has no RUNPATH.
abbrev pub rpath_by : Setting → Object → Option (List ℕ) → List Item
rpath_by setting o None = items_held setting o.path o.face.rpath
rpath_by setting o (Some runpath) = []

abbrev pub rpath_items : Setting → Option Object → List Item
rpath_items setting None = []
rpath_items setting (Some o) = rpath_by setting o o.face.runpath

-- Where an object without RUNPATH looks first: the RPATH of each object of its chain of loaders.
abbrev pub chain_items : Setting → List Object → (ℕ → ℕ) → ℕ → List Item
chain_items setting objs loader j =
    flat_map (λ k. rpath_items setting (slice_get objs k)) (loader_chain (length objs) loader j)

-- An object looks in its RUNPATH, or where it has none in the RPATH along its chain of loaders.
abbrev pub items_by : Setting → List Object → (ℕ → ℕ) → ℕ → Object → Option (List ℕ) → List Item
items_by setting objs loader j o None = chain_items setting objs loader j
items_by setting objs loader j o (Some runpath) = runpath_items setting o

abbrev pub own_items : Setting → List Object → (ℕ → ℕ) → ℕ → Option Object → List Item
own_items setting objs loader j None = []
own_items setting objs loader j (Some o) = items_by setting objs loader j o o.face.runpath

-- The items of a search: those of the object that asks, and then the listed directories.
abbrev pub listed_items : Setting → List Item
listed_items setting = map (λ dir. Folder dir) setting.dirs

unfoldable pub search_items : Setting → List Object → (ℕ → ℕ) → ℕ → List Item
search_items setting objs loader j =
    own_items setting objs loader j (slice_get objs j) ++ listed_items setting

-- A candidate is a path, or an item that is refused once the search reaches it.
pub data Candidate : Type 0 where
  At : (path : List ℕ) → Candidate
  Refused : (refusal : LoadRefusal) → Candidate

-- A text that holds a zero byte or is not UTF-8 gives no path.
abbrev pub candidate_at : Result (List ℕ) PathFault → List Candidate
candidate_at (Ok path) = At path ∷ []
candidate_at (Err fault) = []

-- The folder of an item joined with the name.
abbrev pub candidate_in : List ℕ → Item → List Candidate
candidate_in name (Folder text) = candidate_at (path_of (text ++ 47 ∷ name))
candidate_in name (Unset item) = Refused (TokenUnset item) ∷ []
candidate_in name (Relative item) = Refused (RelativeItem item) ∷ []

-- A name with a leading slash has the one candidate that it spells.
unfoldable pub candidates : Setting → List Object → (ℕ → ℕ) → Request → List Candidate
candidates setting objs loader r =
    cond (begins_at_root r.name) (candidate_at (path_of r.name))
    (flat_map (candidate_in r.name) (search_items setting objs loader r.by))

-- The candidates of a name in the listed directories alone.
unfoldable pub listed_candidates : Setting → List ℕ → List Candidate
listed_candidates setting name = flat_map (candidate_in name) (listed_items setting)

-- A name whose text is refused: it holds `$` (36), or a slash (47) and does not begin with one.
abbrev pub has_dollar : List ℕ → Bool
has_dollar name = list_any (λ c. c == 36) name

abbrev pub is_relative : List ℕ → Bool
is_relative name = cond (begins_at_root name) false (list_any (λ c. c == 47) name)

abbrev pub path_by : Option Object → List ℕ
path_by None = []
path_by (Some o) = o.path

-- The path of the object that asks.
abbrev pub asker_path : List Object → Request → List ℕ
asker_path objs r = path_by (slice_get objs r.by)

unfoldable pub refused_text : List Object → Request → Option LoadRefusal
refused_text objs r =
    cond (has_dollar r.name) (Some (TokenInNeed r.name (asker_path objs r)))
    (cond (is_relative r.name) (Some (RelativeNeed r.name (asker_path objs r))) None)

module _ (read : List ℕ → Result Face Flaw) (setting : Setting) (world : World) where
  -- What a kind decides: nothing, that the file is the one found, or that it is refused.
  abbrev pub decided_by : List ℕ → Kind Face Flaw → Option (Result Object LoadRefusal)
  decided_by path Absent = None
  decided_by path Other = None
  decided_by path (IsDamaged file flaw) = Some (Err (Damaged path flaw))
  decided_by path (IsObject file face) =
      Some (Ok (record { path = path; id = file.id; face = face }))

  unfoldable pub decision : Candidate → Option (Result Object LoadRefusal)
  decision (At path) = decided_by path (kind_of read setting.machine world path)
  decision (Refused refusal) = Some (Err refusal)

  -- The first candidate that decides; where none does, the library is missing.
  abbrev pub found_or : LoadRefusal → Option (Result Object LoadRefusal) → Result Object LoadRefusal
  found_or missing None = Err missing
  found_or missing (Some found) = found

  unfoldable pub first_decision : List Candidate → Option (Result Object LoadRefusal)
  first_decision cs = first_some (map decision cs)

  abbrev pub first_found : LoadRefusal → List Candidate → Result Object LoadRefusal
  first_found missing cs = found_or missing (first_decision cs)

  unfoldable pub path_search : List Object → List Asked → Request → Result Object LoadRefusal
  path_search objs log r =
      first_found (MissingLibrary r.name (asker_path objs r))
      (candidates setting objs (loader_in log) r)

  -- The paths that a search opens: each candidate of a kind other than Absent, up to the one that
  -- decides.
  abbrev pub opened_by : List ℕ → Kind Face Flaw → List (List ℕ) → List (List ℕ)
  opened_by path Absent more = more
  opened_by path Other more = path ∷ more
  opened_by path (IsDamaged file flaw) more = path ∷ []
  opened_by path (IsObject file face) more = path ∷ []

  unfoldable pub opened_among : List Candidate → List (List ℕ)
  opened_among [] = []
  opened_among (Refused refusal ∷ cs) = []
  opened_among (At path ∷ cs) =
      opened_by path (kind_of read setting.machine world path) (opened_among cs)

  -- A name that is known is not searched for, nor one whose text is refused.
  abbrev pub opened_by_name : List Object → List Asked → Request → Option LoadRefusal → Option ℕ
      → List (List ℕ)
  opened_by_name objs log r (Some refusal) known = []
  opened_by_name objs log r None (Some j) = []
  opened_by_name objs log r None None = opened_among (candidates setting objs (loader_in log) r)

  unfoldable pub opened_for : List Object → List Asked → Request → List (List ℕ)
  opened_for objs log r =
      opened_by_name objs log r (refused_text objs r) (first_place (is_known log r.name) 0 objs)

  -- The request of this number opens the path, when so much is loaded and asked as was before it.
  pub record IsOpenedFor (run : Loaded) (path : List ℕ) : Type 0 where
    pub number : ℕ
    pub asked : Asked
    pub stands : slice_get run.log number ≡ Some asked
    pub place : ℕ
    pub opened : slice_get (opened_for (take (count_after (take number run.log)) run.objs) (take
        number run.log) asked.request) place ≡ Some path

  -- The path is the program's, or the search for one of the requests opens it.
  abbrev pub IsOpenedIn : List ℕ → Loaded → List ℕ → Type 0
  IsOpenedIn program run path = (path ≡ program) ⊎ IsOpenedFor run path
