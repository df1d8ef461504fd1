-- A directory joined with a name that is not UTF-8 gives no path.
use Rattle.std.proofs.Common.{ℕ, List, [], ◌∷◌, ◌++◌, Bool, true, false, not, Some, Err, ◌≡◌, ◌≢◌, ◌≤◌, ◌<◌, ◌+◌, refl, sym, ◌∙◌, ap, subst, length, drop, get_or, suc, arith}
use Rattle.std.specs.Prelude.{All, IsUtf8}
use Rattle.std.specs.Str.{bytes_eq, is_utf8}
use Rattle.std.proofs.lemmas.Bool.{false_from_ne_true}
use Rattle.std.proofs.lemmas.List.Elements.{All-cons, All-append, All-weaker}
use Rattle.std.proofs.lemmas.Str.{IsUtf8-drop, IsUtf8-from_is_utf8, IsCharBoundary-after_ascii}
use Rattle.path_text.specs.Path.{IsNormalPath, begins_at_root, has_nul, is_empty, normal_path, path_fault, path_of}
use Rattle.path_text.specs.FileName.{IsFileName, IsNameByte}
use Rattle.answers.specs.First.{first_some, some_where, value_unless}
use Rattle.path_text.specs.declared.absolute.PathFault.TheVariants.{Empty, Relative, HasNul, NotText}
use Rattle.path_text.proofs.PathLemmas.{not_contained, All-from_not_contained, zero_contained, begins_at_root-IsNormalPath}
use Rattle.load_model.proofs.TwoWorlds.{same_bytes}

not_text : (xs ys : List ℕ) → (xs ≡ ys → ⊥) → bytes_eq xs ys ≡ false
not_text xs ys h = false_from_ne_true (bytes_eq xs ys) (λ e. h (same_bytes xs ys e))

-- the text behind a slash is in UTF-8 where the whole is
at_slash : (front name : List ℕ) → get_or (front ++ 47 ∷ name) (length front) 0 ≡ 47
at_slash [] name = refl
at_slash (c ∷ front) name = at_slash front name

behind : (front name : List ℕ) → drop (suc (length front)) (front ++ 47 ∷ name) ≡ name
behind [] name = refl
behind (c ∷ front) name = behind front name

within : (front name : List ℕ) → length front < length (front ++ 47 ∷ name)
within [] name = omega arith
within (c ∷ front) name = let rest = within front name in omega arith

utf8_behind : (front name : List ℕ) → IsUtf8 (front ++ 47 ∷ name) → IsUtf8 name
utf8_behind front name utf8 =
    let text : List ℕ = front ++ 47 ∷ name in
    let i : ℕ = length front in
    let small : get_or text i 0 < 128 = subst (λ (c : ℕ). c < 128) (sym (at_slash front name)) (omega arith) in
    let cut = IsUtf8-drop text (i + 1) utf8 (IsCharBoundary-after_ascii text i utf8 (within front name) small) in
    let one : i + 1 ≡ suc i = omega arith in
    subst IsUtf8 (ap (λ n. drop n text) one ∙ behind front name) cut

some_text : (dir name : List ℕ) → is_empty (dir ++ 47 ∷ name) ≡ false
some_text [] name = refl
some_text (c ∷ dir) name = refl

root_text : (dir name : List ℕ) → begins_at_root dir ≡ true → begins_at_root (dir ++ 47 ∷ name) ≡ true
root_text [] name h = cc
root_text (c ∷ dir) name h = h

no_nul : (dir name : List ℕ) → IsNormalPath dir → IsFileName name → has_nul (dir ++ 47 ∷ name) ≡ false
no_nul dir name d h =
    let names : All (λ c. c ≢ 0) name = All-weaker IsNameByte (λ c. c ≢ 0) (λ c b e. let low : 32 ≤ c = b.2 in omega arith) name h.bytes in
    let all : All (λ c. c ≢ 0) (dir ++ 47 ∷ name) = All-append (λ c. c ≢ 0) dir (47 ∷ name) (All-from_not_contained dir 0 d.no_zero) (All-cons (λ c. c ≢ 0) 47 name (λ e. omega arith) names) in
    false_from_ne_true (has_nul (dir ++ 47 ∷ name)) (λ e. not_contained (dir ++ 47 ∷ name) 0 all (zero_contained (dir ++ 47 ∷ name) e))

fault_at : (a b c d : Bool) → a ≡ false → b ≡ true → c ≡ false → d ≡ false → first_some (some_where a Empty ∷ some_where (not b) Relative ∷ some_where c HasNul ∷ some_where (not d) NotText ∷ []) ≡ Some NotText
fault_at a b c d e f g h = rw (e, f, g, h) refl

pub not_joined : (dir name : List ℕ) → IsNormalPath dir → IsFileName name → (IsUtf8 name → ⊥) → path_of (dir ++ 47 ∷ name) ≡ Err NotText
unfolding path_fault
not_joined dir name d h odd =
    let text : List ℕ = dir ++ 47 ∷ name in
    let utf8 : is_utf8 text ≡ false = false_from_ne_true (is_utf8 text) (λ e. odd (utf8_behind dir name (IsUtf8-from_is_utf8 text e))) in
    ap (λ f. value_unless f (normal_path text)) (fault_at (is_empty text) (begins_at_root text) (has_nul text) (is_utf8 text) (some_text dir name) (root_text dir name (begins_at_root-IsNormalPath dir d)) (no_nul dir name d h) utf8)
