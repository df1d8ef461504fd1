-- Numbers up to a bound.
use Rattle.std.proofs.Common.{◌≡◌, ◌∙◌, sym, ap, refl, ℕ, zero, suc, ◌<◌, List, [], ◌∷◌, ◌++◌, Some, length, length-append, slice_get, arith, inl, inr}
use Rattle.std.proofs.lemmas.Bool.{cases_lt}
use Rattle.load_model.proofs.Counts.{slice_get_left}
use Rattle.load_model.specs.LoadList.{up_to}

pub length-up_to : (n : ℕ) → length (up_to n) ≡ n
unfolding up_to
length-up_to zero = refl
length-up_to (suc n) =
    let one = length-append (up_to n) (n ∷ []) in
    let rest = length-up_to n in
    omega (arith, one, rest)

last_stands : (xs : List ℕ) (x : ℕ) → slice_get (xs ++ x ∷ []) (length xs) ≡ Some x
last_stands [] x = refl
last_stands (y ∷ xs) x = last_stands xs x

-- Each number stands at its own place.
pub number_at : (n j : ℕ) → j < n → slice_get (up_to n) j ≡ Some j
unfolding up_to
number_at zero j h = absurd (omega arith)
number_at (suc n) j h =
    elim (cases_lt j n) [
      | inl a ↦ slice_get_left (up_to n) (n ∷ []) j j (number_at n j a)
      | inr a ↦
          let here : j ≡ n = omega arith in
          let place : n ≡ length (up_to n) = sym (length-up_to n) in
          ap (slice_get (up_to n ++ n ∷ [])) (here ∙ place) ∙ last_stands (up_to n) n ∙ ap Some (sym here)
    ]
