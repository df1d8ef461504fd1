-- What a grown table reads as.
use Rattle.std.proofs.Common.{◌≡◌, ℕ, zero, suc, ◌+◌, ◌-◌, ◌≤◌, ◌<◌, ◌||◌, ◌==◌, Bool, true, false, List, [], ◌∷◌, ◌++◌, length, take, drop, slice_index, Some, arith, refl, sym, ap, subst, ◌∙◌, append_assoc, length-append, length-drop}
use Rattle.std.specs.List.{list_any, before_first, position_or_len}
use Rattle.std.specs.Str.{bytes_eq}
use Rattle.std.specs.Option.{is_some}
use Rattle.std.proofs.lemmas.List.Folds.{list_any-append}
use Rattle.std.proofs.lemmas.Bool.Decides.{nat_tests}
use Rattle.std.proofs.lemmas.List.{drop_at, drop-append-le, get_or-drop}
use Rattle.std.proofs.lemmas.Slice.Eq.{bytes_eq-Decides}
use Rattle.byte_view.specs.Dynamic.{text_in}
use Rattle.strtab_grow.specs.Growth.{stored, added, stands_in, once, once_after, place_from, growth, PlacesTexts}

took : (n x : ℕ) (xs : List ℕ) → take (1 + n) (x ∷ xs) ≡ x ∷ take n xs
took n x xs = ap (λ k. take k (x ∷ xs)) one
  where
    one : 1 + n ≡ suc n
    one = omega arith

-- the text before the first zero stays when bytes follow
pub first_stays : (xs ys : List ℕ) → list_any (λ c. c == 0) xs ≡ true → before_first (λ c. c == 0) (xs ++ ys) ≡ before_first (λ c. c == 0) xs
first_stays [] ys h = cc
first_stays (x ∷ xs) ys h = first_case (x == 0) x xs ys refl h (first_stays xs ys)
  where
    first_case : (b : Bool) (x : ℕ) (xs ys : List ℕ) → (x == 0) ≡ b → list_any (λ c. c == 0) (x ∷ xs) ≡ true
        → (list_any (λ c. c == 0) xs ≡ true → before_first (λ c. c == 0) (xs ++ ys) ≡ before_first (λ c. c == 0) xs)
        → before_first (λ c. c == 0) (x ∷ (xs ++ ys)) ≡ before_first (λ c. c == 0) (x ∷ xs)
    first_case true x xs ys e h on = rw e refl
    first_case false x xs ys e h on = rw e (took (position_or_len (λ c. c == 0) (xs ++ ys)) x (xs ++ ys) ∙ ap (λ l. x ∷ l) (on (rw e at h)) ∙ sym (took (position_or_len (λ c. c == 0) xs) x xs))

any_zero : (xs : List ℕ) (k : ℕ) → k < length xs → slice_index xs k ≡ 0 → list_any (λ c. c == 0) xs ≡ true
any_zero [] k h z = absurd (omega arith)
any_zero (x ∷ xs) zero h z = rw z refl
any_zero (x ∷ xs) (suc k) h z = or_true (x == 0) (list_any (λ c. c == 0) xs) (any_zero xs k (omega arith) z)
  where
    or_true : (a b : Bool) → b ≡ true → (a || b) ≡ true
    or_true true b h = refl
    or_true false b h = h

-- a list that ends with a zero has one at or after each place
pub zero_after : (xs : List ℕ) (at : ℕ) → at < length xs → slice_index xs (length xs - 1) ≡ 0 → list_any (λ c. c == 0) (drop at xs) ≡ true
zero_after xs at h z =
    any_zero (drop at xs) (length xs - 1 - at) (simp length-drop (omega arith))
    (get_or-drop at xs (length xs - 1 - at) 0 ∙ ap (λ k. slice_index xs k) (omega arith) ∙ z)

place_in : (strings t : List ℕ) (at : ℕ) → at < length strings → before_first (λ c. c == 0) (drop at strings) ≡ t → text_in strings at ≡ Some t
place_in strings t at h e = grind (arith, nat_tests)

-- each old place keeps its text
pub old_text : (strings more : List ℕ) (at : ℕ) → at < length strings → slice_index strings (length strings - 1) ≡ 0 → text_in (strings ++ more) at ≡ text_in strings at
old_text strings more at h z =
    let low : at ≤ length strings = omega arith in
    place_in (strings ++ more) (before_first (λ c. c == 0) (drop at strings)) at (omega (arith, length-append strings more))
    (ap (λ x. before_first (λ c. c == 0) x) (drop-append-le at strings more low) ∙ first_stays (drop at strings) more (zero_after strings at h z))
    ∙ sym (place_in strings (before_first (λ c. c == 0) (drop at strings)) at h refl)

-- a text without a zero, up to its zero
pub text_ends : (t rest : List ℕ) → list_any (λ c. c == 0) t ≡ false → before_first (λ c. c == 0) (stored t ++ rest) ≡ t
text_ends [] rest h = refl
text_ends (x ∷ xs) rest h = text_step x xs rest h (text_ends xs rest)
  where
    text_step : (x : ℕ) (xs rest : List ℕ) → list_any (λ c. c == 0) (x ∷ xs) ≡ false
        → (list_any (λ c. c == 0) xs ≡ false → before_first (λ c. c == 0) (stored xs ++ rest) ≡ xs)
        → before_first (λ c. c == 0) (x ∷ (stored xs ++ rest)) ≡ x ∷ xs
    text_step x xs rest h on = grind (arith, nat_tests)

-- each new place reads as its text
pub place_reads : (n : ℕ) (before : List ℕ) (texts : List (List ℕ)) (t : List ℕ) (p : ℕ) → n ≡ length before → list_any (λ c. c == 0) t ≡ false → place_from n t texts ≡ Some p → text_in (before ++ added texts) p ≡ Some t
place_reads n before [] t p e clean h = cc
place_reads n before (s ∷ more) t p e clean h =
    place_case (bytes_eq s t) n before s more t p refl e clean h
    (λ g. place_reads (n + (length s + 1)) (before ++ stored s) more t p (simp length-append (omega arith)) clean g)
  where
    place_case : (b : Bool) (n : ℕ) (before s : List ℕ) (more : List (List ℕ)) (t : List ℕ) (p : ℕ) → bytes_eq s t ≡ b → n ≡ length before → list_any (λ c. c == 0) t ≡ false → place_from n t (s ∷ more) ≡ Some p
        → (place_from (n + (length s + 1)) t more ≡ Some p → text_in ((before ++ stored s) ++ added more) p ≡ Some t)
        → text_in (before ++ added (s ∷ more)) p ≡ Some t
    place_case true n before s more t p q e clean h on =
        let same : s ≡ t = (bytes_eq-Decides s t).0 q in
        let here : n ≡ p = cc (rw q at h) in
        place_in (before ++ (stored s ++ added more)) t p (simp length-append (omega arith))
        (ap (λ x. before_first (λ c. c == 0) x) (drop_at before (stored s ++ added more) p (sym e ∙ here) ∙ ap (λ x. stored x ++ added more) same) ∙ text_ends t (added more) clean)
    place_case false n before s more t p q e clean h on =
        ap (λ x. text_in x p) (sym (append_assoc before (stored s) (added more))) ∙ on (rw q at h)

or_yes : (a : Bool) → (a || true) ≡ true
or_yes true = refl
or_yes false = refl

or_same : (a b c : Bool) → b ≡ (a || false) → (b || c) ≡ true → (a || c) ≡ true
or_same true b c e h = refl
or_same false b c e h = subst (λ x. (x || c) ≡ true) e h

-- each text is kept once
pub kept_once : (t : List ℕ) (seen texts : List (List ℕ)) → stands_in t texts ≡ true → (stands_in t seen || stands_in t (once_after seen texts)) ≡ true
kept_once t seen [] h = cc
kept_once t seen (s ∷ more) h =
    kept_case (stands_in s seen) (bytes_eq s t) t seen s more refl refl h (kept_once t seen more) (kept_once t (seen ++ s ∷ []) more)
  where
    kept_case : (a b : Bool) (t : List ℕ) (seen : List (List ℕ)) (s : List ℕ) (more : List (List ℕ)) → stands_in s seen ≡ a → bytes_eq s t ≡ b → stands_in t (s ∷ more) ≡ true
        → (stands_in t more ≡ true → (stands_in t seen || stands_in t (once_after seen more)) ≡ true)
        → (stands_in t more ≡ true → (stands_in t (seen ++ s ∷ []) || stands_in t (once_after (seen ++ s ∷ []) more)) ≡ true)
        → (stands_in t seen || stands_in t (once_after seen (s ∷ more))) ≡ true
    kept_case true true t seen s more a b h plain longer =
        let same : s ≡ t = (bytes_eq-Decides s t).0 b in
        let there : stands_in t seen ≡ true = ap (λ x. stands_in x seen) (sym same) ∙ a in
        rw there refl
    kept_case true false t seen s more a b h plain longer = rw a (plain (rw b at h))
    kept_case false true t seen s more a b h plain longer = rw (a, b) (or_yes (stands_in t seen))
    kept_case false false t seen s more a b h plain longer =
        rw (a, b) (or_same (stands_in t seen) _ _ (list_any-append (λ x. bytes_eq x t) seen (s ∷ []) ∙ rw b refl) (longer (rw b at h)))

-- what stands among texts has a place there
pub has_place : (at : ℕ) (t : List ℕ) (texts : List (List ℕ)) → stands_in t texts ≡ true → is_some (place_from at t texts) ≡ true
has_place at t [] h = cc
has_place at t (s ∷ more) h = place_case (bytes_eq s t) at t s more refl h (λ g. has_place (at + (length s + 1)) t more g)
  where
    place_case : (b : Bool) (at : ℕ) (t s : List ℕ) (more : List (List ℕ)) → bytes_eq s t ≡ b → stands_in t (s ∷ more) ≡ true
        → (stands_in t more ≡ true → is_some (place_from (at + (length s + 1)) t more) ≡ true) → is_some (place_from at t (s ∷ more)) ≡ true
    place_case true at t s more b h on = rw b refl
    place_case false at t s more b h on = rw b (on (rw b at h))

-- each text of a growth has a place there
pub text_placed : (old_size : ℕ) (t : List ℕ) (texts : List (List ℕ)) → stands_in t texts ≡ true → is_some (place_from old_size t (once texts)) ≡ true
text_placed old_size t texts h = has_place old_size t (once texts) (kept_once t [] texts h)

pub keeps_texts : (old_size : ℕ) (texts : List (List ℕ)) → PlacesTexts (growth old_size texts) texts
keeps_texts old_size texts = record {
  placed = λ t h. text_placed old_size t texts h;
  reads = λ strings t p e clean h. place_reads old_size strings (once texts) t p (sym e) clean h;
  old = λ strings at h z. old_text strings (added (once texts)) at h z;
}
