-- One element more of a loop that goes over a list.
use Rattle.std.proofs.Common.{◌≡◌, ℕ, ◌<◌, ◌+◌, ◌++◌, List, [], ◌∷◌, Option, length, map, drop, get_or, add-one, drop-cons, append_assoc, refl, sym, ap, ◌∙◌}
use Rattle.version_tables.specs.Indexes.{all_noted, noted}

drop_one : {A : Type 0} (xs : List A) (i : ℕ) (d : A) → i < length xs → drop i xs ≡ get_or xs i d ∷ drop (i + 1) xs
drop_one xs i d h = rw (add-one, drop-cons xs i d) refl

-- what is made of it is added
pub made_more : {A B : Type 0} (f : A → B) (xs : List A) (i : ℕ) (d : A) (before after whole : List B) (x : B) → i < length xs → after ≡ before ++ x ∷ [] → x ≡ f (get_or xs i d) → before ++ map f (drop i xs) ≡ whole → after ++ map f (drop (i + 1) xs) ≡ whole
made_more f xs i d before after whole x h a e w =
    let step : before ++ map f (drop i xs) ≡ before ++ (f (get_or xs i d) ∷ map f (drop (i + 1) xs)) = ap (λ ys. before ++ map f ys) (drop_one xs i d h) in
    rw (a, e) (append_assoc before (f (get_or xs i d) ∷ []) (map f (drop (i + 1) xs)) ∙ (sym step ∙ w))

-- its name is noted
pub noted_more : {A : Type 0} (name : A → ℕ × ℕ) (xs : List A) (i : ℕ) (d : A) (before after whole : List (Option ℕ)) → i < length xs → after ≡ noted before (name (get_or xs i d)) → all_noted before (map name (drop i xs)) ≡ whole → all_noted after (map name (drop (i + 1) xs)) ≡ whole
noted_more name xs i d before after whole h a w = rw a (sym (ap (λ ys. all_noted before (map name ys)) (drop_one xs i d h)) ∙ w)
