-- What holds of each split: its identities, what it has of the objects of the runs, and where its
-- members stand.
use Rattle.std.specs.Prelude.{◌≡◌, ◌≢◌, ◌<◌, ◌⊎◌, ℕ, List, Some, true, All, AllPairs, length, map, slice_get}
use Rattle.std.specs.List.{Contains}
use Rattle.listed_runs.specs.Fitting.{is_on_list}
use Rattle.load_model.specs.Runs.{face_at}
use Rattle.load_model.specs.SameNames.{key_of}
use Rattle.load_model.specs.VersionCheck.{version_file_of}
use Rattle.load_model.specs.declared.asks.Ask.{Ask}
use Rattle.load_model.specs.declared.faces.Face.{Face}
use Rattle.load_model.specs.declared.runs.Obj.{Obj}
use Rattle.load_model.specs.declared.runs.Run.{Run}
use Rattle.lib_closure.specs.declared.splits.HostLib.{HostLib}
use Rattle.lib_closure.specs.declared.splits.Member.{Member}
use Rattle.lib_closure.specs.declared.splits.Split.{Split}

-- The identity is that of a program, of a bundled library or of a host library.
abbrev pub IsProgramId : Split → List ℕ → Type 0
IsProgramId split id = Contains (map (λ p. p.id) split.programs) id

abbrev pub IsLibId : Split → List ℕ → Type 0
IsLibId split id = Contains (map (λ a. a.id) split.libs) id

abbrev pub IsHostId : Split → List ℕ → Type 0
IsHostId split id = Contains (map (λ h. h.id) split.hosts) id

abbrev pub IsLibraryId : Split → List ℕ → Type 0
IsLibraryId split id = IsLibId split id ⊎ IsHostId split id

-- No library stands twice, none is a program, and none is both bundled and of the host.
pub record HasDistinctIds (split : Split) : Type 0 where
  pub libs : AllPairs (λ a b. a.id ≢ b.id) split.libs
  pub hosts : AllPairs (λ a b. a.id ≢ b.id) split.hosts
  pub programs : (id : List ℕ) → IsProgramId split id → IsLibraryId split id → ⊥
  pub one_kind : (id : List ℕ) → IsLibId split id → IsHostId split id → ⊥

-- Each object of the runs is a program or a library; where a need, an opened name or the file of an
-- ask goes to an object, that is a library.
pub record HasAllObjects (faces : List Face) (runs : List Run) (split : Split) : Type 0 where
  pub objects : (run : Run) (j : ℕ) (x : Obj) → Contains runs run → slice_get run.objs j ≡ Some x
      → IsProgramId split x.id ⊎ IsLibraryId split x.id
  pub behind : (run : Run) (j : ℕ) (x : Obj) → Contains runs run → slice_get run.objs j ≡ Some x
      → 0 < j → IsLibraryId split x.id
  pub needs : (run : Run) (j t : ℕ) (ts : List ℕ) (x : Obj) → Contains runs run
      → slice_get run.targets j ≡ Some ts → Contains ts t → slice_get run.objs t ≡ Some x
      → IsLibraryId split x.id
  pub opened : (run : Run) (t : ℕ) (x : Obj) → Contains runs run → Contains run.roots t
      → slice_get run.objs t ≡ Some x → IsLibraryId split x.id
  pub files : (run : Run) (j t : ℕ) (face : Face) (ask : Ask) (x : Obj) → Contains runs run
      → face_at faces run j ≡ Some face → Contains face.asks ask
      → version_file_of faces run j ask.file ≡ Some t → slice_get run.objs t ≡ Some x
      → IsLibraryId split x.id

-- Host libraries have distinct names, and each of their needs is one of these.
pub record HasClosedHosts (faces : List Face) (split : Split) : Type 0 where
  pub names : AllPairs (λ a b. a.name ≢ b.name) split.hosts
  pub needs : (h : HostLib) (face : Face) (need : List ℕ) → Contains split.hosts h
      → slice_get faces h.face ≡ Some face → Contains face.needs need
      → Contains (map (λ g. g.name) split.hosts) need

-- There is an object of a run with this identity, path and face.
pub record StandsIn (faces : List Face) (runs : List Run) (id path : List ℕ) (face : ℕ) : Type 0
  where
    pub run : Run
    pub run_is : Contains runs run
    pub number : ℕ
    pub obj : Obj
    pub object : slice_get run.objs number ≡ Some obj
    pub id_is : obj.id ≡ id
    pub path_is : obj.path ≡ path
    pub place : obj.face ≡ face
    pub seen : Face
    pub seen_is : slice_get faces face ≡ Some seen

-- The same of a host library, whose name is its key and on the host list.
pub record IsHostIn (faces : List Face) (runs : List Run) (names : List (List ℕ)) (host : HostLib) :
    Type 0 where
  pub stands : StandsIn faces runs host.id host.path host.face
  pub key : host.name ≡ key_of (record { path = host.path; id = host.id; face = stands.seen })
  pub listed : is_on_list names host.name ≡ true

pub record StandsInRuns (faces : List Face) (runs : List Run) (names : List (List ℕ))
    (split : Split) : Type 0 where
  pub programs : (p : Member) → Contains split.programs p → StandsIn faces runs p.id p.path p.face
  pub libs : (a : Member) → Contains split.libs a → StandsIn faces runs a.id a.path a.face
  pub hosts : (h : HostLib) → Contains split.hosts h → IsHostIn faces runs names h
