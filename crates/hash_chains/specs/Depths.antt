-- How deep the symbols of a hash table lie in the chains that they stand in
use Rattle.std.specs.Prelude.{ℕ, zero, suc, ◌≡◌, ◌≢◌, ◌≤◌, ◌<◌, ◌+◌, length, List, [], ◌∷◌, slice_index}
use Rattle.hash_chains.specs.declared.chains.Chains.{Chains}

-- a symbol leads to another by so many chain words; none is followed from 0 on
unfoldable pub Leads : List ℕ → ℕ → ℕ → ℕ → Type 0
Leads chains zero v w = v ≡ w
Leads chains (suc k) v w = (v ≢ 0) × Leads chains k (slice_index chains v) w

-- it leads there by some number of them
unfoldable pub Reaches : List ℕ → ℕ → ℕ → Type 0
Reaches chains v w = (k : ℕ) × Leads chains k v w

-- the symbols that are met on the way from one to another
unfoldable pub IsWay : List ℕ → ℕ → List ℕ → ℕ → Type 0
IsWay chains first [] end = first ≡ end
IsWay chains first (v ∷ rest) end =
    (first ≡ v) × (v ≢ 0) × (v < length chains) × IsWay chains (slice_index chains v) rest end

-- the depth of a symbol is known: by so many chain words it leads to 0
unfoldable pub IsKnown : List ℕ → List ℕ → ℕ → Type 0
IsKnown chains depths v = Leads chains (slice_index depths v) v 0

-- what is kept of a symbol that was met: its depth, and a symbol that the next one reaches
pub record IsNoted (chains depths jumps : List ℕ) (v : ℕ) : Type 0 where
  pub depth : IsKnown chains depths v
  pub few : slice_index depths v ≤ length chains
  pub next : IsKnown chains depths (slice_index chains v)
  pub jump : IsKnown chains depths (slice_index jumps v)
  pub lands : Reaches chains (slice_index chains v) (slice_index jumps v)

-- all that is kept is right
pub record AreDepths (chains depths jumps : List ℕ) : Type 0 where
  pub same : length depths ≡ length chains
  pub jumped : length jumps ≡ length chains
  pub start : slice_index jumps 0 ≡ 0
  pub each : (v : ℕ) → slice_index depths v ≢ 0 → IsNoted chains depths jumps v

abbrev pub AreMeasured : Chains → Type 0
AreMeasured c = AreDepths c.next.items c.depths.items c.jumps.items

abbrev pub Knows : Chains → ℕ → Type 0
Knows c v = IsKnown c.next.items c.depths.items v

-- no symbol that was known is known no more
abbrev pub KeepsKnown : Chains → Chains → Type 0
KeepsKnown before now = (v : ℕ) → Knows before v → Knows now v

-- the next symbol of a symbol is known, and less deep than there are symbols
pub record IsReady (c : Chains) (at : ℕ) : Type 0 where
  pub some : at ≢ 0
  pub within : at < length c.next.items
  pub next : Knows c (slice_index c.next.items at)
  pub few : slice_index c.depths.items (slice_index c.next.items at) < length c.next.items

-- the symbol is known from now on, one deeper than its next
pub record HasNoted (before now : Chains) (at : ℕ) : Type 0 where
  pub depths : AreMeasured now
  pub words : now.next ≡ before.next
  pub known : Knows now at
  pub kept : KeepsKnown before now
  pub depth : slice_index now.depths.items at
      ≡ slice_index before.depths.items (slice_index before.next.items at) + 1

-- the first symbols of all buckets are known
pub record AreHeadsKnown (c : Chains) (buckets : List ℕ) : Type 0 where
  pub measured : AreMeasured c
  pub each : (b : ℕ) → b < length buckets → Knows c (slice_index buckets b)
