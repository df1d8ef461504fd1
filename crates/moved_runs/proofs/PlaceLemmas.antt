-- Paths under a place: the folder of libraries, and directories that are apart from the place.
use Rattle.std.proofs.Common.{ℕ, List, [], ◌∷◌, ◌++◌, Bool, true, false, cond, ◌≡◌, ◌≢◌, ◌⊎◌, refl, sym, ◌∙◌, ap, subst, suc, arith, append_assoc, inl, inr}
use Rattle.std.specs.Prelude.{Contains, IsUtf8, codes}
use Rattle.std.specs.List.{join_with_byte}
use Rattle.std.specs.Str.{bytes_eq}
use Rattle.std.proofs.lemmas.Bool.{false_from_ne_true}
use Rattle.std.proofs.lemmas.List.Elements.{All-weaker}
use Rattle.std.proofs.lemmas.Str.{IsUtf8-from_is_utf8}
use Rattle.path_text.specs.Path.{IsNormalPath, rooted}
use Rattle.path_text.specs.FileName.{IsFileName, IsNameByte}
use Rattle.path_text.proofs.NameLemmas.{IsFileName-from_test}
use Rattle.path_text.proofs.PathLemmas.{IsNormalPath-path_of, not_contained}
use Rattle.load_model.specs.Joined.{joined}
use Rattle.load_model.proofs.JoinedLemmas.{joined_is}
use Rattle.load_model.proofs.Texts.{text}
use Rattle.load_model.proofs.TwoWorlds.{same_bytes}
use Rattle.moved_runs.specs.Placed.{IsUnder, lib_folder, lib_place}

not_text : (xs ys : List ℕ) → (xs ≡ ys → ⊥) → bytes_eq xs ys ≡ false
not_text xs ys h = false_from_ne_true (bytes_eq xs ys) (λ e. h (same_bytes xs ys e))

pub same_tail : (a b c : List ℕ) → a ++ b ≡ a ++ c → b ≡ c
same_tail [] b c h = h
same_tail (x ∷ a) b c h = let e : a ++ b ≡ a ++ c = cc in same_tail a b c e

-- what is joined tells the target
joined_by : (b : Bool) (place s t : List ℕ) → cond b (47 ∷ s) (place ++ 47 ∷ s) ≡ cond b (47 ∷ t) (place ++ 47 ∷ t) → s ≡ t
joined_by true place s t h = cc
joined_by false place s t h = let e : 47 ∷ s ≡ 47 ∷ t = same_tail place (47 ∷ s) (47 ∷ t) h in cc

pub same_target : (place s t : List ℕ) → joined place s ≡ joined place t → s ≡ t
same_target place s t h = joined_by (bytes_eq place (47 ∷ [])) place s t h

-- ---- the folder of libraries

longer : (a b : List ℕ) (c : ℕ) → (a ++ 47 ∷ c ∷ b ≡ 47 ∷ []) → ⊥
longer [] b c h = cc
longer (x ∷ []) b c h = cc
longer (x ∷ y ∷ a) b c h = cc

joined_root : (b : Bool) (place t : List ℕ) → bytes_eq place (47 ∷ []) ≡ b → joined place t ≡ cond b (47 ∷ t) (place ++ 47 ∷ t)
joined_root b place t e = ap (λ x. cond x (47 ∷ t) (place ++ 47 ∷ t)) e

more_by : (b : Bool) (place : List ℕ) (c : ℕ) (folder name : List ℕ) → bytes_eq place (47 ∷ []) ≡ b → joined (joined place (c ∷ folder)) name ≡ joined place ((c ∷ folder) ++ 47 ∷ name)
more_by true place c folder name e =
    ap (λ d. joined d name) (joined_root true place (c ∷ folder) e)
    ∙ joined_root false (47 ∷ c ∷ folder) name (not_text (47 ∷ c ∷ folder) (47 ∷ []) (λ h. longer [] folder c h))
    ∙ sym (joined_root true place ((c ∷ folder) ++ 47 ∷ name) e)
more_by false place c folder name e =
    ap (λ d. joined d name) (joined_root false place (c ∷ folder) e)
    ∙ joined_root false (place ++ 47 ∷ c ∷ folder) name (not_text (place ++ 47 ∷ c ∷ folder) (47 ∷ []) (λ h. longer place folder c h))
    ∙ append_assoc place (47 ∷ c ∷ folder) (47 ∷ name)
    ∙ sym (joined_root false place ((c ∷ folder) ++ 47 ∷ name) e)

-- a folder of the place joined with one name more is the place joined with both
pub joined_more : (place : List ℕ) (c : ℕ) (folder name : List ℕ) → joined (joined place (c ∷ folder)) name ≡ joined place ((c ∷ folder) ++ 47 ∷ name)
joined_more place c folder name = more_by (bytes_eq place (47 ∷ [])) place c folder name refl

pub in_libs : (place name : List ℕ) → joined (lib_folder place) name ≡ joined place (lib_place name)
in_libs place name =
    ap (λ d. joined d name) (joined_more place 117 (115 ∷ 114 ∷ []) (codes "lib")) ∙ joined_more place 117 (115 ∷ 114 ∷ 47 ∷ 108 ∷ 105 ∷ 98 ∷ []) name

pub joined_normal : (dir name : List ℕ) → IsNormalPath dir → IsFileName name → IsUtf8 name → IsNormalPath (joined dir name)
joined_normal dir name d h utf8 = IsNormalPath-path_of (dir ++ 47 ∷ name) (joined dir name) (joined_is dir name d h utf8)

usr_name : IsFileName (codes "usr")
usr_name = IsFileName-from_test (codes "usr") refl

lib_name : IsFileName (codes "lib")
lib_name = IsFileName-from_test (codes "lib") refl

pub usr_normal : (place : List ℕ) → IsNormalPath place → IsNormalPath (joined place (codes "usr"))
usr_normal place p = joined_normal place (codes "usr") p usr_name (IsUtf8-from_is_utf8 (codes "usr") (text (codes "usr") refl))

pub lib_is_normal : (place : List ℕ) → IsNormalPath place → IsNormalPath (lib_folder place)
lib_is_normal place p = joined_normal (joined place (codes "usr")) (codes "lib") (usr_normal place p) lib_name (IsUtf8-from_is_utf8 (codes "lib") (text (codes "lib") refl))

-- ---- directories that are apart

abbrev HasNoSlash : List ℕ → Type 0
HasNoSlash name = ¬ (Contains name 47)

no_slash : (name : List ℕ) → IsFileName name → HasNoSlash name
no_slash name h = not_contained name 47 (All-weaker IsNameByte (λ c. c ≢ 47) (λ c b. b.0) name h.bytes)

has_slash : (b n : List ℕ) → Contains (b ++ 47 ∷ n) 47
has_slash [] n = (0, omega arith, refl)
has_slash (x ∷ b) n = let rest = has_slash b n in (suc rest.0, omega arith, rest.2)

-- a text with its last slash at a place, and the same text with a slash elsewhere
cut_last : (a b m t : List ℕ) → HasNoSlash m → a ++ 47 ∷ m ≡ b ++ 47 ∷ t → (a ≡ b) ⊎ ((r : List ℕ) × (a ≡ b ++ 47 ∷ r))
cut_last [] [] m t n h = inl refl
cut_last (x ∷ a) [] m t n h = let e : x ≡ 47 = cc in inr (a, ap (λ c. c ∷ a) e)
cut_last [] (y ∷ b) m t n h = let e : m ≡ b ++ 47 ∷ t = cc in absurd (n (subst (λ (s : List ℕ). Contains s 47) (sym e) (has_slash b t)))
cut_last (x ∷ a) (y ∷ b) m t n h =
    let first : x ≡ y = cc in
    let rest : a ++ 47 ∷ m ≡ b ++ 47 ∷ t = cc in
    elim (cut_last a b m t n rest) [
      | inl e ↦ inl (ap (λ c. c ∷ a) first ∙ ap (λ cs. y ∷ cs) e)
      | inr w ↦ inr (w.0, ap (λ c. c ∷ a) first ∙ ap (λ cs. y ∷ cs) w.1)
    ]

rooted_head : (parts : List (List ℕ)) → (r : List ℕ) × (rooted parts ≡ 47 ∷ r)
unfolding rooted
rooted_head [] = ([], refl)
rooted_head (p ∷ ps) = (join_with_byte 47 (p ∷ ps), refl)

-- a path begins with a slash
at_root : (dir : List ℕ) → IsNormalPath dir → (r : List ℕ) × (dir ≡ 47 ∷ r)
at_root dir d = let w = rooted_head d.parts in (w.0, d.spelled ∙ w.1)

no_root : (place : List ℕ) (m t : List ℕ) → IsNormalPath place → HasNoSlash m → 47 ∷ m ≡ place ++ 47 ∷ t → ⊥
no_root [] m t p n h = let w = at_root [] p in let e = w.1 in cc
no_root (x ∷ place) m t p n h = let e : m ≡ place ++ 47 ∷ t = cc in n (subst (λ (s : List ℕ). Contains s 47) (sym e) (has_slash place t))

under_by : (b c : Bool) (dir place name target : List ℕ) → bytes_eq dir (47 ∷ []) ≡ b → bytes_eq place (47 ∷ []) ≡ c → IsNormalPath dir → IsNormalPath place → HasNoSlash name → cond b (47 ∷ name) (dir ++ 47 ∷ name) ≡ cond c (47 ∷ target) (place ++ 47 ∷ target) → (dir ≡ place) ⊎ ((r : List ℕ) × (dir ≡ cond c (47 ∷ r) (place ++ 47 ∷ r)))
under_by b true dir place name target e f d p n h = inr (at_root dir d)
under_by true false dir place name target e f d p n h = absurd (no_root place name target p n h)
under_by false false dir place name target e f d p n h = cut_last dir place name target n h

-- a directory that has a file under a place is the place, or lies under it
pub dir_under : (dir place name target : List ℕ) → IsNormalPath dir → IsNormalPath place → IsFileName name → joined dir name ≡ joined place target → (dir ≡ place) ⊎ IsUnder place dir
dir_under dir place name target d p n h = under_by (bytes_eq dir (47 ∷ [])) (bytes_eq place (47 ∷ [])) dir place name target refl refl d p (no_slash name n) h
