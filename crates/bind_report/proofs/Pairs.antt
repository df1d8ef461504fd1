-- Two lists side by side: the text that is added for a pair, and what is equal of a pair.
use Rattle.std.proofs.Common.{◌≡◌, ◌∙◌, sym, ap, refl, ℕ, zero, suc, ◌+◌, ◌<◌, List, [], ◌∷◌, ◌++◌, length, drop, get_or, map, zip, arith, add-one, append_assoc}
use Rattle.std.specs.List.{flat_map}

module _ {A B : Type 0} where
  next_pair : (xs : List A) (ys : List B) (i : ℕ) (x : A) (y : B) → i < length xs → i < length ys → x ≡ get_or xs i x → y ≡ get_or ys i y → zip (drop i xs) (drop i ys) ≡ (x, y) ∷ zip (drop (suc i) xs) (drop (suc i) ys)
  next_pair [] ys i x y a b e h = absurd (omega arith)
  next_pair (v ∷ xs) [] i x y a b e h = absurd (omega arith)
  next_pair (v ∷ xs) (w ∷ ys) zero x y a b e h =
      let one : v ≡ x = sym e in
      let two : w ≡ y = sym h in
      ap (λ q. (q, w) ∷ zip xs ys) one ∙ ap (λ q. (x, q) ∷ zip xs ys) two
  next_pair (v ∷ xs) (w ∷ ys) (suc i) x y a b e h = next_pair xs ys i x y (omega arith) (omega arith) e h

  -- one text more is added, of those of the pairs that are left
  pub pair_added : (f : (A × B) → List ℕ) (xs : List A) (ys : List B) (i : ℕ) (x : A) (y : B) (line more start : List ℕ) → i < length xs → i < length ys → x ≡ get_or xs i x → y ≡ get_or ys i y → more ≡ line ++ f (x, y) → line ++ flat_map f (zip (drop i xs) (drop i ys)) ≡ start → more ++ flat_map f (zip (drop (i + 1) xs) (drop (i + 1) ys)) ≡ start
  pair_added f xs ys i x y line more start a b e h new sofar =
      let rest = zip (drop (i + 1) xs) (drop (i + 1) ys) in
      let left : zip (drop i xs) (drop i ys) ≡ (x, y) ∷ rest = rw add-one (next_pair xs ys i x y a b e h) in
      ap (λ t. t ++ flat_map f rest) new
      ∙ append_assoc line (f (x, y)) (flat_map f rest)
      ∙ sym (ap (λ zs. line ++ flat_map f zs) left)
      ∙ sofar

  -- what two lists come to is equal: so it is at each place, and they are as long
  pub same_at : (p : A → ℕ) (q : B → ℕ) (xs : List A) (ys : List B) (i : ℕ) (x : A) (y : B) → map p xs ≡ map q ys → i < length xs → i < length ys → x ≡ get_or xs i x → y ≡ get_or ys i y → p x ≡ q y
  same_at p q [] ys i x y same a b e h = absurd (omega arith)
  same_at p q (v ∷ xs) [] i x y same a b e h = absurd (omega arith)
  same_at p q (v ∷ xs) (w ∷ ys) zero x y same a b e h =
      let one : x ≡ v = e in
      let two : y ≡ w = h in
      let heads : p v ≡ q w = cc in
      ap p one ∙ heads ∙ sym (ap q two)
  same_at p q (v ∷ xs) (w ∷ ys) (suc i) x y same a b e h =
      let tails : map p xs ≡ map q ys = cc in
      same_at p q xs ys i x y tails (omega arith) (omega arith) e h

  pub same_long : (p : A → ℕ) (q : B → ℕ) (xs : List A) (ys : List B) → map p xs ≡ map q ys → length xs ≡ length ys
  same_long p q [] [] same = refl
  same_long p q [] (w ∷ ys) same = cc
  same_long p q (v ∷ xs) [] same = cc
  same_long p q (v ∷ xs) (w ∷ ys) same =
      let tails : map p xs ≡ map q ys = cc in
      ap suc (same_long p q xs ys tails)
