-- The test of a file name decides whether a text is one.
use Rattle.std.proofs.Common.{ℕ, List, [], ◌∷◌, Bool, true, false, not, ◌&&◌, ◌||◌, ◌≡◌, ◌≢◌, refl, sym, ◌∙◌, ap, eqb, leb, get_or}
use Rattle.std.specs.Prelude.{All}
use Rattle.std.specs.List.{list_all}
use Rattle.std.specs.Str.{bytes_eq}
use Rattle.std.proofs.lemmas.Bool.{and_parts, and_from, not-true, eqb-false, ne_eqb, leb-true, le-leb, true_from_ne_false, false_from_ne_true, false≢true}
use Rattle.std.proofs.lemmas.List.Elements.{All-weaker, All-head, All-tail}
use Rattle.std.proofs.lemmas.List.Folds.{list_all_at}
use Rattle.std.proofs.lemmas.Slice.Eq.{bytes_eq-Decides}
use Rattle.path_text.specs.Path.{is_idle, is_parent}
use Rattle.path_text.specs.FileName.{IsFileName, IsNameByte, is_file_name_text, is_name_byte}

IsNameByte-from_test : (c : ℕ) → is_name_byte c ≡ true → IsNameByte c
IsNameByte-from_test c h =
    let all = and_parts (not (eqb c 47) && not (eqb c 36) && leb 32 c) (not (eqb c 127)) h in
    let three = and_parts (not (eqb c 47) && not (eqb c 36)) (leb 32 c) all.0 in
    let two = and_parts (not (eqb c 47)) (not (eqb c 36)) three.0 in
    (eqb-false c 47 (not-true _ two.0), eqb-false c 36 (not-true _ two.1), leb-true 32 c three.1, eqb-false c 127 (not-true _ all.1))

test-IsNameByte : (c : ℕ) → IsNameByte c → is_name_byte c ≡ true
test-IsNameByte c h =
    and_from (not (eqb c 47) && not (eqb c 36) && leb 32 c) (not (eqb c 127))
    (and_from (not (eqb c 47) && not (eqb c 36)) (leb 32 c)
    (and_from (not (eqb c 47)) (not (eqb c 36)) (ap not (ne_eqb c 47 h.0)) (ap not (ne_eqb c 36 h.1)))
    (le-leb 32 c h.2))
    (ap not (ne_eqb c 127 h.3))

All-from_list_all : (p : ℕ → Bool) (xs : List ℕ) → list_all p xs ≡ true → All (λ x. p x ≡ true) xs
All-from_list_all p xs h = λ k d l. true_from_ne_false (p (get_or xs k d)) (λ e. false≢true (sym (list_all_at p xs k d l e) ∙ h))

list_all-All : (p : ℕ → Bool) (xs : List ℕ) → All (λ x. p x ≡ true) xs → list_all p xs ≡ true
list_all-All p [] all = refl
list_all-All p (x ∷ xs) all = and_from (p x) (list_all p xs) (All-head (λ x. p x ≡ true) x xs all) (list_all-All p xs (All-tail (λ x. p x ≡ true) x xs all))

none_of : (x y z : Bool) → not (x || y || z) ≡ true → (x ≡ false) × (y ≡ false) × (z ≡ false)
none_of true y z h = cc
none_of false true z h = cc
none_of false false true h = cc
none_of false false false h = (refl, refl, refl)

not_any : (x y z : Bool) → x ≡ false → y ≡ false → z ≡ false → not (x || y || z) ≡ true
not_any true y z e f g = cc
not_any false true z e f g = cc
not_any false false true e f g = cc
not_any false false false e f g = refl

differs : (text other : List ℕ) → bytes_eq text other ≡ false → text ≢ other
differs text other h e = false≢true (sym h ∙ (bytes_eq-Decides text other).1 e)

tells_apart : (text other : List ℕ) → text ≢ other → bytes_eq text other ≡ false
tells_apart text other h = false_from_ne_true (bytes_eq text other) (λ e. h ((bytes_eq-Decides text other).0 e))

pub IsFileName-from_test : (text : List ℕ) → is_file_name_text text ≡ true → IsFileName text
IsFileName-from_test text h =
    let both = and_parts (not (is_idle text || is_parent text)) (list_all is_name_byte text) h in
    let parts = none_of (bytes_eq text []) (bytes_eq text (46 ∷ [])) (bytes_eq text (46 ∷ 46 ∷ [])) both.0 in
    record {
      not_empty = differs text [] parts.0;
      not_here = differs text (46 ∷ []) parts.1;
      not_parent = differs text (46 ∷ 46 ∷ []) parts.2;
      bytes = All-weaker (λ c. is_name_byte c ≡ true) IsNameByte IsNameByte-from_test text (All-from_list_all is_name_byte text both.1);
    }

pub test-IsFileName : (text : List ℕ) → IsFileName text → is_file_name_text text ≡ true
test-IsFileName text h =
    and_from (not (is_idle text || is_parent text)) (list_all is_name_byte text)
    (not_any (bytes_eq text []) (bytes_eq text (46 ∷ [])) (bytes_eq text (46 ∷ 46 ∷ [])) (tells_apart text [] h.not_empty) (tells_apart text (46 ∷ []) h.not_here) (tells_apart text (46 ∷ 46 ∷ []) h.not_parent))
    (list_all-All is_name_byte text (All-weaker IsNameByte (λ c. is_name_byte c ≡ true) test-IsNameByte text h.bytes))
