-- Parts written one after another
use Rattle.std.proofs.Common.{◌≡◌, ℕ, ◌+◌, ◌-◌, ◌≤◌, ◌<◌, List, ◌++◌, length, take, drop, get_or, arith, sym, ap, ◌∙◌, append_assoc, length-append, length-drop}
use Rattle.std.specs.List.{flat_map}
use Rattle.std.proofs.lemmas.List.{length-take, at_drop_more}
use Rattle.std.proofs.lemmas.Slice.{take-put_mid}
use borrow.Rule.Slice.PartMut.{put_mid}

-- one more part is written after those before it
pub parts_step : {X : Type 0} (f : X → List ℕ) (part new : List ℕ) (ps : List X) (p : X) (i at k : ℕ)
    → (take at part ++ flat_map f (drop i ps) ≡ flat_map f ps) × (at + length (flat_map f (drop i ps)) ≡ length part)
    → i < length ps → p ≡ get_or ps i p → k ≡ length new → new ≡ f p
    → (take (at + k) (put_mid at (at + k - at) part new) ++ flat_map f (drop (i + 1) ps) ≡ flat_map f ps)
    × (at + k + length (flat_map f (drop (i + 1) ps)) ≡ length (put_mid at (at + k - at) part new))
parts_step f part new ps p i at k inv in' item long bytes =
    let more : flat_map f (drop i ps) ≡ new ++ flat_map f (drop (i + 1) ps) =
    at_drop_more (λ x. flat_map f x) ps i p in' ∙ ap (λ q. f q ++ flat_map f (drop (i + 1) ps)) (sym item) ∙ ap (λ x. x ++ flat_map f (drop (i + 1) ps)) (sym bytes) in
    let parts : length (flat_map f (drop i ps)) ≡ length new + length (flat_map f (drop (i + 1) ps)) = ap length more ∙ length-append new (flat_map f (drop (i + 1) ps)) in
    let low : at ≤ length part = omega (arith, inv.1) in (
      ap (λ x. x ++ flat_map f (drop (i + 1) ps)) (take-put_mid at (at + k - at) part new (at + k) (omega arith) low)
          ∙ append_assoc (take at part) new (flat_map f (drop (i + 1) ps)) ∙ ap (λ x. take at part ++ x) (sym more) ∙ inv.0,
      simp (length-append, length-take, length-drop) (omega (arith, inv.1)),
    )
