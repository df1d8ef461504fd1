-- Which candidate of a search decides, and which paths the search opens up to it.
use Rattle.std.specs.Prelude.{ℕ, List, ◌≡◌, ◌≢◌, ◌<◌, Some, None, Result, slice_get, take}
use Rattle.byte_view.specs.declared.flaws.Flaw.{Flaw}
use Rattle.load_model.specs.Candidates.{Candidate, At, Refused, candidates, decision, loader_in, refused_text}
use Rattle.load_model.specs.LoadList.{Object, Request, Asked, Loaded, count_after, first_place, is_known}
use Rattle.load_model.specs.World.{World, Absent, IsPassed, kind_of}
use Rattle.load_model.specs.declared.faces.Face.{Face}
use Rattle.load_model.specs.declared.refusals.LoadRefusal.{LoadRefusal}
use Rattle.load_model.specs.declared.setting.Setting.{Setting}

module _ (read : List ℕ → Result Face Flaw) (setting : Setting) (world : World) where
  -- A search passes over a path of kind Absent or Other, and over no refused item.
  abbrev pub IsPassedOver : Candidate → Type 0
  IsPassedOver (At path) = IsPassed (kind_of read setting.machine world path)
  IsPassedOver (Refused refusal) = ⊥

  -- It passes over so many candidates at the front.
  abbrev pub ArePassedOver : List Candidate → ℕ → Type 0
  ArePassedOver cs number =
      (i : ℕ) (c : Candidate) → i < number → slice_get cs i ≡ Some c → IsPassedOver c

  -- The first candidate that decides, and what it decides.
  pub record IsFirstDeciding (cs : List Candidate) (decided : Result Object LoadRefusal) : Type 0
    where
      pub number : ℕ
      pub candidate : Candidate
      pub stands : slice_get cs number ≡ Some candidate
      pub decides : decision read setting world candidate ≡ Some decided
      pub before : ArePassedOver cs number

  -- The path is a candidate where something lies, and no candidate before it decides.
  pub record IsUpToDeciding (cs : List Candidate) (path : List ℕ) : Type 0 where
    pub number : ℕ
    pub stands : slice_get cs number ≡ Some (At path)
    pub present : kind_of read setting.machine world path ≢ Absent
    pub before : ArePassedOver cs number

  -- The request is searched for, and its search opens the path.
  pub record IsSearched (objs : List Object) (log : List Asked) (r : Request) (path : List ℕ) : Type
      0 where
    pub not_refused : refused_text objs r ≡ None
    pub unknown : first_place (is_known log r.name) 0 objs ≡ None
    pub reached : IsUpToDeciding (candidates setting objs (loader_in log) r) path

  -- So does the request of this number, when so much is loaded and asked as was before it.
  pub record IsSearchedIn (run : Loaded) (path : List ℕ) : Type 0 where
    pub number : ℕ
    pub asked : Asked
    pub stands : slice_get run.log number ≡ Some asked
    pub searched : IsSearched (take (count_after (take number run.log)) run.objs)
        (take number run.log) asked.request path
