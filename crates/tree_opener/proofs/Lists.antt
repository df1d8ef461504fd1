-- Fronts of lists.
use Rattle.std.proofs.Common.{ℕ, zero, suc, List, [], ◌∷◌, ◌++◌, ◌+◌, ◌≤◌, ◌≡◌, refl, ap, sym, ◌∙◌, length, take, drop, arith}
use Rattle.std.proofs.Math.Seq.{take-add}
use Rattle.std.proofs.lemmas.List.{length-take-le}
use Rattle.std.proofs.Common.{length-append}

-- a shorter front of a front
pub take_within : {A : Type 0} (w n : ℕ) (l : List A) → w ≤ n → take w (take n l) ≡ take w l
take_within zero n l h = refl
take_within (suc w) zero l h = absurd (omega arith)
take_within (suc w) (suc n) [] h = refl
take_within (suc w) (suc n) (x ∷ l) h = ap (λ m. x ∷ m) (take_within w n l (omega arith))

-- the bytes read so far are the front of all, and so they are with the next ones
pub front_grows : (read window all : List ℕ) (n w : ℕ) → read ≡ take (length read) all → take n window ≡ take n (drop (length read) all) → w ≤ n → n ≤ length window → read ++ take w window ≡ take (length (read ++ take w window)) all
front_grows read window all n w front next h fits =
    let same : take w window ≡ take w (drop (length read) all) = sym (take_within w n window h) ∙ (ap (λ l. take w l) next ∙ take_within w n (drop (length read) all) h) in
    let count : length (read ++ take w window) ≡ length read + w = length-append read (take w window) ∙ ap (λ k. length read + k) (length-take-le w window (omega arith)) in
    let whole : take (length read + w) all ≡ take (length read) all ++ take w (drop (length read) all) = take-add (length read) w all in
    let joined : read ++ take w window ≡ take (length read) all ++ take w (drop (length read) all) = ap (λ l. l ++ take w window) front ∙ ap (λ l. take (length read) all ++ l) same in
    joined ∙ (sym whole ∙ ap (λ k. take k all) (sym count))
