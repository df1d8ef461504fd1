-- The text before the last dot, from where that dot is.
use Rattle.std.proofs.Common.{◌≡◌, ◌∙◌, sym, ap, refl, subst, ℕ, suc, zero, ◌<◌, get_or, List, [], ◌∷◌, ◌++◌, Bool, true, false, ◌||◌, cond, eqb, arith, drop, take, length}
use Rattle.extra_files.specs.Stems.{before_last_dot, has_dot}

or_true : (b : Bool) → (b || true) ≡ true
or_true true = refl
or_true false = refl

neither : (a b : Bool) → (a || b) ≡ false → (a ≡ false) × (b ≡ false)
neither true b h = cc
neither false true h = cc
neither false false h = (refl, refl)

chosen : (b : Bool) (x y : List ℕ) → b ≡ true → cond b x y ≡ x
chosen true x y h = refl
chosen false x y h = cc

other : (b : Bool) (x y : List ℕ) → b ≡ false → cond b x y ≡ y
other true x y h = cc
other false x y h = refl

dot_there : (front behind : List ℕ) → has_dot (front ++ 46 ∷ behind) ≡ true
dot_there [] behind = refl
dot_there (c ∷ front) behind = ap (λ b. eqb c 46 || b) (dot_there front behind) ∙ or_true (eqb c 46)

pub before_dot : (front behind : List ℕ) → has_dot behind ≡ false → before_last_dot (front ++ 46 ∷ behind) ≡ front
before_dot [] behind h = other (has_dot behind) (46 ∷ before_last_dot behind) [] h
before_dot (c ∷ front) behind h =
    chosen (has_dot (front ++ 46 ∷ behind)) (c ∷ before_last_dot (front ++ 46 ∷ behind)) (cond (eqb c 46) [] (c ∷ (front ++ 46 ∷ behind))) (dot_there front behind)
    ∙ ap (λ t. c ∷ t) (before_dot front behind h)

pub without_dot : (text : List ℕ) → has_dot text ≡ false → before_last_dot text ≡ text
without_dot [] h = refl
without_dot (c ∷ text) h =
    let parts = neither (eqb c 46) (has_dot text) h in
    other (has_dot text) (c ∷ before_last_dot text) (cond (eqb c 46) [] (c ∷ text)) parts.1
    ∙ other (eqb c 46) [] (c ∷ text) parts.0

split_at : (text : List ℕ) (place : ℕ) → place < length text → get_or text place 0 ≡ 46 → text ≡ take place text ++ 46 ∷ drop (suc place) text
split_at [] place l e = absurd (omega arith)
split_at (c ∷ text) zero l e = ap (λ x. x ∷ text) e
split_at (c ∷ text) (suc place) l e = ap (λ t. c ∷ t) (split_at text place (omega arith) e)

-- A dot stands at the place, and none behind it.
pub cut_at : (text : List ℕ) (place end : ℕ) → end ≡ suc place → place < length text → get_or text place 0 ≡ 46 → has_dot (drop end text) ≡ false → take place text ≡ before_last_dot text
cut_at text place end e l dot none =
    let behind : has_dot (drop (suc place) text) ≡ false = subst (λ n. has_dot (drop n text) ≡ false) e none in
    sym (ap before_last_dot (split_at text place l dot) ∙ before_dot (take place text) (drop (suc place) text) behind)

-- No dot stands from the start on.
pub all_of_it : (text : List ℕ) (end : ℕ) → end ≡ 0 → has_dot (drop end text) ≡ false → text ≡ before_last_dot text
all_of_it text end e none = sym (without_dot text (subst (λ n. has_dot (drop n text) ≡ false) e none))
