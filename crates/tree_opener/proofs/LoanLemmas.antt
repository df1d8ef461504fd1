-- Two loans are known by their one number.
use Rattle.std.proofs.Common.{◌≡◌, ℕ, ◌+◌, ◌*◌, ◌<◌, ◌≤◌, arith, ap}
use Rattle.std.proofs.Math.Nat.{add-mul, mul-add, mul-le-mul}
use Rattle.tree_opener.specs.Loans.{both_loans}

-- a greater sum has a greater number
greater : (s a t c : ℕ) → a ≤ s → s < t → s * s + a < t * t + c
greater s a t c h less =
    let up : s + 1 ≤ t = omega arith in
    let square : (s + 1) * (s + 1) ≤ t * t = mul-le-mul up up in
    let parts : (s + 1) * (s + 1) ≡ s * (s + 1) + 1 * (s + 1) = add-mul s 1 (s + 1) in
    let first : s * (s + 1) ≡ s * s + s * 1 = mul-add s s 1 in
    omega (arith, square, parts, first)

same_sum : (s a t c : ℕ) → a ≤ s → c ≤ t → s * s + a ≡ t * t + c → s ≡ t
same_sum s a t c h k e =
    let less : s < t → ⊥ = λ l. (let g : s * s + a < t * t + c = greater s a t c h l in omega arith) in
    let more : t < s → ⊥ = λ l. (let g : t * t + c < s * s + a = greater t c s a k l in omega arith) in
    omega (arith, less, more)

-- the same number is made of the same two
pub same_loans : (a b c d : ℕ) → both_loans a b ≡ both_loans c d → (a ≡ c) × (b ≡ d)
unfolding both_loans
same_loans a b c d e =
    let sums : a + b ≡ c + d = same_sum (a + b) a (c + d) c (omega arith) (omega arith) e in
    let squares : (a + b) * (a + b) ≡ (c + d) * (c + d) = ap (λ n. n * n) sums in
    let first : a ≡ c = omega (arith, squares, e) in
    (first, omega arith)
