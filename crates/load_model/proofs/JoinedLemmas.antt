-- A directory joined with a file name is what reading the joined text gives, and tells which directory it was.
use Rattle.std.proofs.Common.{ℕ, List, [], ◌∷◌, ◌++◌, Bool, true, false, cond, eqb, Ok, ◌≡◌, ◌≢◌, ◌≤◌, refl, sym, ◌∙◌, ap, subst, suc, arith, append_assoc}
use Rattle.std.specs.Prelude.{All, Contains, IsUtf8, codes}
use Rattle.std.specs.List.{join_with_byte}
use Rattle.std.specs.Str.{bytes_eq}
use Rattle.std.proofs.lemmas.Bool.{or_from, false_from_ne_true, ne_eqb}
use Rattle.std.proofs.lemmas.List.Elements.{All-head, All-cons, All-weaker}
use Rattle.std.proofs.lemmas.List.Splits.{slice_split_none}
use Rattle.path_text.specs.Path.{IsNormalPath, IsNamed, parts_of, path_of, rooted}
use Rattle.path_text.specs.FileName.{IsFileName, IsNameByte}
use Rattle.path_text.specs.Target.{IsTarget}
use Rattle.path_text.proofs.PathLemmas.{named_parts-IsNormalPath, not_contained}
use Rattle.path_text.proofs.FolderLemmas.{path_of-target}
use Rattle.load_model.specs.Joined.{joined}
use Rattle.load_model.proofs.TwoWorlds.{same_bytes}

not_text : (xs ys : List ℕ) → (xs ≡ ys → ⊥) → bytes_eq xs ys ≡ false
not_text xs ys h = false_from_ne_true (bytes_eq xs ys) (λ e. h (same_bytes xs ys e))

is_named : (name : List ℕ) → IsFileName name → IsNamed name
is_named name h = (
  or_from (bytes_eq name []) (bytes_eq name (codes ".")) (not_text name [] h.not_empty) (not_text name (codes ".") h.not_here),
  not_text name (codes "..") h.not_parent,
)

one_part : (name : List ℕ) → IsFileName name → parts_of name ≡ name ∷ []
one_part name h = slice_split_none (λ c. eqb c 47) name (All-weaker IsNameByte (λ c. eqb c 47 ≡ false) (λ c b. ne_eqb c 47 b.0) name h.bytes)

is_target : (name : List ℕ) → IsFileName name → IsUtf8 name → IsTarget name
is_target name h utf8 = record {
  named = subst (λ (ps : List (List ℕ)). All IsNamed ps) (sym (one_part name h)) (All-cons IsNamed name [] (is_named name h) (λ k d l. absurd (omega arith)));
  no_control = All-weaker IsNameByte (λ c. 32 ≤ c) (λ c b. b.2) name h.bytes;
  utf8 = utf8;
}

join_push : (part : List ℕ) (parts : List (List ℕ)) (name : List ℕ) → join_with_byte 47 ((part ∷ parts) ++ name ∷ []) ≡ join_with_byte 47 (part ∷ parts) ++ 47 ∷ name
join_push part [] name = refl
join_push part (next ∷ parts) name = ap (λ t. part ++ 47 ∷ t) (join_push next parts name) ∙ sym (append_assoc part (47 ∷ join_with_byte 47 (next ∷ parts)) (47 ∷ name))

join_some : (part : List ℕ) (parts : List (List ℕ)) → IsNamed part → join_with_byte 47 (part ∷ parts) ≡ [] → ⊥
join_some [] parts n h = cc (n.0)
join_some (c ∷ part) [] n h = cc
join_some (c ∷ part) (next ∷ parts) n h = cc

-- the root and each other directory
joined_parts : (parts : List (List ℕ)) (name : List ℕ) → All IsNamed parts → rooted (parts ++ name ∷ []) ≡ joined (rooted parts) name
unfolding rooted
joined_parts [] name named = refl
joined_parts (part ∷ parts) name named =
    let text : List ℕ = 47 ∷ join_with_byte 47 (part ∷ parts) in
    let other : bytes_eq text (47 ∷ []) ≡ false = not_text text (47 ∷ []) (λ e. join_some part parts (All-head IsNamed part parts named) (let rest : join_with_byte 47 (part ∷ parts) ≡ [] = cc in rest)) in
    ap (λ t. 47 ∷ t) (join_push part parts name) ∙ sym (ap (λ b. cond b (47 ∷ name) (text ++ 47 ∷ name)) other)

pub joined_is : (dir name : List ℕ) → IsNormalPath dir → IsFileName name → IsUtf8 name → path_of (dir ++ 47 ∷ name) ≡ Ok (joined dir name)
joined_is dir name d h utf8 =
    path_of-target dir name d (is_target name h utf8)
    ∙ ap (λ ps. Ok (rooted (ps ++ parts_of name))) (named_parts-IsNormalPath dir d)
    ∙ ap (λ ps. Ok (rooted (d.parts ++ ps))) (one_part name h)
    ∙ ap Ok (joined_parts d.parts name d.named ∙ ap (λ t. joined t name) (sym d.spelled))

-- a directory and a name without a slash are told from the joined path
abbrev HasNoSlash : List ℕ → Type 0
HasNoSlash text = ¬ (Contains text 47)

no_slash : (name : List ℕ) → IsFileName name → HasNoSlash name
no_slash name h = not_contained name 47 (All-weaker IsNameByte (λ c. c ≢ 47) (λ c b. b.0) name h.bytes)

has_slash : (b n : List ℕ) → Contains (b ++ 47 ∷ n) 47
has_slash [] n = (0, omega arith, refl)
has_slash (x ∷ b) n = let rest = has_slash b n in (suc rest.0, omega arith, rest.2)

split_last : (a b m n : List ℕ) → HasNoSlash m → HasNoSlash n → a ++ 47 ∷ m ≡ b ++ 47 ∷ n → a ≡ b
split_last [] [] m n p q h = refl
split_last [] (y ∷ b) m n p q h = let e : m ≡ b ++ 47 ∷ n = cc in absurd (p (subst (λ (t : List ℕ). Contains t 47) (sym e) (has_slash b n)))
split_last (x ∷ a) [] m n p q h = let e : n ≡ a ++ 47 ∷ m = cc in absurd (q (subst (λ (t : List ℕ). Contains t 47) (sym e) (has_slash a m)))
split_last (x ∷ a) (y ∷ b) m n p q h =
    let first : x ≡ y = cc in
    let rest : a ++ 47 ∷ m ≡ b ++ 47 ∷ n = cc in
    ap (λ c. c ∷ a) first ∙ ap (λ cs. y ∷ cs) (split_last a b m n p q rest)

not_root : (t m n : List ℕ) → IsNormalPath t → HasNoSlash n → 47 ∷ n ≡ t ++ 47 ∷ m → ⊥
unfolding rooted
not_root [] m n p q h = let e = p.spelled in cc
not_root (x ∷ t) m n p q h = let e : n ≡ t ++ 47 ∷ m = cc in q (subst (λ (s : List ℕ). Contains s 47) (sym e) (has_slash t m))

joined_at : (a b : Bool) (d e m n : List ℕ) → bytes_eq d (47 ∷ []) ≡ a → bytes_eq e (47 ∷ []) ≡ b → IsNormalPath d → IsNormalPath e → HasNoSlash m → HasNoSlash n → cond a (47 ∷ m) (d ++ 47 ∷ m) ≡ cond b (47 ∷ n) (e ++ 47 ∷ n) → d ≡ e
joined_at true true d e m n s t dn en mn nn h = same_bytes d (47 ∷ []) s ∙ sym (same_bytes e (47 ∷ []) t)
joined_at true false d e m n s t dn en mn nn h = absurd (not_root e n m en mn h)
joined_at false true d e m n s t dn en mn nn h = absurd (not_root d m n dn nn (sym h))
joined_at false false d e m n s t dn en mn nn h = split_last d e m n mn nn h

pub same_dir : (d e m n : List ℕ) → IsNormalPath d → IsNormalPath e → IsFileName m → IsFileName n → joined d m ≡ joined e n → d ≡ e
same_dir d e m n dn en mn nn h = joined_at (bytes_eq d (47 ∷ [])) (bytes_eq e (47 ∷ [])) d e m n refl refl dn en (no_slash m mn) (no_slash n nn) h
