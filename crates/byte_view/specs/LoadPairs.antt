-- Loaded segments, and the loaded segment before each (System V gABI, Program Header, PT_LOAD).
use Rattle.std.specs.Prelude.{ℕ, ◌≡◌, ◌<◌, ◌↔◌, true, false, List, Option, Some, None, slice_get}
use Rattle.byte_view.specs.Checks.{flaw}
use Rattle.byte_view.specs.Headers.{is_load}
use Rattle.byte_view.specs.declared.flaws.Flaw.{Flaw}
use Rattle.byte_view.specs.declared.segments.Segment.{Segment}

-- The PT_LOAD before header j, which is one too: between the two there is none.
pub record IsLoadBefore (segments : List Segment) (j : ℕ) (before it : Segment) : Type 0 where
  pub place : ℕ
  pub lower : place < j
  pub before_there : slice_get segments place ≡ Some before
  pub it_there : slice_get segments j ≡ Some it
  pub before_load : is_load before ≡ true
  pub it_load : is_load it ≡ true
  pub between :
      (k : ℕ) (s : Segment) → place < k → k < j → slice_get segments k ≡ Some s → is_load s ≡ false

-- Header j is a PT_LOAD that begins below a bound that the PT_LOAD before it sets.
pub record BeginsBelow (bound : Segment → ℕ) (segments : List Segment) (j : ℕ) : Type 0 where
  pub before : Segment
  pub it : Segment
  pub pair : IsLoadBefore segments j before it
  pub below : it.vaddr < bound before

-- It is the first that does.
pub record IsFirstBelow (bound : Segment → ℕ) (segments : List Segment) (j : ℕ) : Type 0 where
  pub here : BeginsBelow bound segments j
  pub first : (k : ℕ) → k < j → ¬ (BeginsBelow bound segments k)

-- A check names exactly the first header that does, by its number, and nothing exactly where none
-- does.
pub record NamesFirstBelow (bound : Segment → ℕ) (code : ℕ) (segments : List Segment)
    (found : Option Flaw) : Type 0 where
  pub named : (j : ℕ) → (found ≡ Some (flaw code j 0)) ↔ IsFirstBelow bound segments j
  pub none : (found ≡ None) ↔ ((j : ℕ) → ¬ (BeginsBelow bound segments j))
