-- Local lists over the targets of the needs of each object.
use Rattle.std.specs.Prelude.{ℕ, List, [], ◌∷◌, ◌≡◌, ◌<◌, All, Some, length, slice_get, take}
use Rattle.std.specs.List.{flat_map}
use Rattle.std.specs.Option.{unwrap_or}
use Rattle.load_model.specs.LoadList.{with_numbers}
use Rattle.load_model.specs.Runs.{AreBelow}
use Rattle.load_model.specs.declared.runs.Run.{Run}
use Rattle.load_requests.specs.declared.loading.Loading.{Loading}

-- Where the needs of the object of this number went.
abbrev pub targets_at : List (List ℕ) → ℕ → List ℕ
targets_at targets k = unwrap_or (slice_get targets k) []

-- The root, and then the targets of the needs of these objects, each at its first occurrence.
abbrev pub reached_in : List (List ℕ) → ℕ → List ℕ → List ℕ
reached_in targets root ks = with_numbers (root ∷ []) (flat_map (targets_at targets) ks)

-- A local list over these targets.
pub record IsReach (targets : List (List ℕ)) (root : ℕ) (ks : List ℕ) : Type 0 where
  pub order : reached_in targets root ks ≡ ks
  pub brought : (i : ℕ) → i < length ks → i < length (reached_in targets root (take i ks))

-- The local list of each root.
pub record AreReaches (targets : List (List ℕ)) (roots : List ℕ) (lists : List (List ℕ)) : Type 0
  where
    pub count : length lists ≡ length roots
    pub below : All (AreBelow (length targets)) lists
    pub each : (k root : ℕ) (ks : List ℕ) → slice_get roots k ≡ Some root
        → slice_get lists k ≡ Some ks → IsReach targets root ks

-- The run that is made of a load at its end.
pub record IsMadeOf (s : Loading) (count : ℕ) (names : List (List ℕ)) (numbers : List ℕ)
    (run : Run) : Type 0 where
  pub objs : run.objs ≡ s.objs
  pub targets : run.targets ≡ s.targets
  pub global : run.global ≡ count
  pub opens : run.opens ≡ names
  pub roots : run.roots ≡ numbers
  pub locals : AreReaches s.targets numbers run.locals
