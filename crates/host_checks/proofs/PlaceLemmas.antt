-- The path of the record of a directory is what reading the joined text gives.
use Rattle.std.proofs.Common.{ℕ, List, [], ◌∷◌, ◌++◌, true, false, cond, Ok, ◌≡◌, ◌≤◌, refl, sym, ◌∙◌, ap, append_assoc, nat_le}
use Rattle.std.specs.Prelude.{All, codes}
use Rattle.std.specs.List.{join_with_byte, list_all}
use Rattle.std.specs.Str.{bytes_eq}
use Rattle.std.proofs.lemmas.Bool.{and_parts, false_from_ne_true, leb-true}
use Rattle.std.proofs.lemmas.List.Elements.{All-head, All-cons, All-nil}
use Rattle.std.proofs.lemmas.Str.{IsUtf8-from_is_utf8}
use Rattle.answers.specs.Answers.{Answers}
use Rattle.path_text.specs.Path.{IsNormalPath, IsNamed, path_of, rooted, said_of_path}
use Rattle.path_text.specs.Target.{IsTarget}
use Rattle.path_text.proofs.PathLemmas.{named_parts-IsNormalPath}
use Rattle.path_text.proofs.FolderLemmas.{path_of-target}
use Rattle.load_model.specs.Joined.{joined}
use Rattle.load_model.proofs.Texts.{text}
use Rattle.load_model.proofs.TwoWorlds.{same_bytes}
use Rattle.host_checks.specs.Hosting.{record_path, record_place}

not_text : (xs ys : List ℕ) → (xs ≡ ys → ⊥) → bytes_eq xs ys ≡ false
not_text xs ys h = false_from_ne_true (bytes_eq xs ys) (λ e. h (same_bytes xs ys e))

join_some : (part : List ℕ) (parts : List (List ℕ)) → IsNamed part → join_with_byte 47 (part ∷ parts) ≡ [] → ⊥
join_some [] parts n h = cc (n.0)
join_some (c ∷ part) [] n h = cc
join_some (c ∷ part) (next ∷ parts) n h = cc

join_both : (part : List ℕ) (parts : List (List ℕ)) (more : List ℕ) (rest : List (List ℕ)) → join_with_byte 47 ((part ∷ parts) ++ (more ∷ rest)) ≡ join_with_byte 47 (part ∷ parts) ++ 47 ∷ join_with_byte 47 (more ∷ rest)
join_both part [] more rest = refl
join_both part (next ∷ parts) more rest =
    ap (λ t. part ++ 47 ∷ t) (join_both next parts more rest) ∙ sym (append_assoc part (47 ∷ join_with_byte 47 (next ∷ parts)) (47 ∷ join_with_byte 47 (more ∷ rest)))

-- parts behind those of the root and of each other directory
joined_parts : (parts : List (List ℕ)) (more : List ℕ) (rest : List (List ℕ)) → All IsNamed parts → rooted (parts ++ (more ∷ rest)) ≡ joined (rooted parts) (join_with_byte 47 (more ∷ rest))
unfolding rooted
joined_parts [] more rest named = refl
joined_parts (part ∷ parts) more rest named =
    let path : List ℕ = 47 ∷ join_with_byte 47 (part ∷ parts) in
    let target : List ℕ = join_with_byte 47 (more ∷ rest) in
    let other : bytes_eq path (47 ∷ []) ≡ false = not_text path (47 ∷ []) (λ e. join_some part parts (All-head IsNamed part parts named) (let rest_is : join_with_byte 47 (part ∷ parts) ≡ [] = cc in rest_is)) in
    ap (λ t. 47 ∷ t) (join_both part parts more rest) ∙ sym (ap (λ b. cond b (47 ∷ target) (path ++ 47 ∷ target)) other)

-- ---- the place of the record is a target
abbrev record_parts : List (List ℕ)
record_parts = codes "usr" ∷ codes "share" ∷ codes "appdir" ∷ codes "host.txt" ∷ []

named : All IsNamed record_parts
named =
    All-cons IsNamed (codes "usr") (codes "share" ∷ codes "appdir" ∷ codes "host.txt" ∷ []) (refl, refl)
    (All-cons IsNamed (codes "share") (codes "appdir" ∷ codes "host.txt" ∷ []) (refl, refl)
    (All-cons IsNamed (codes "appdir") (codes "host.txt" ∷ []) (refl, refl)
    (All-cons IsNamed (codes "host.txt") [] (refl, refl) (All-nil IsNamed))))

printable : (xs : List ℕ) → list_all (λ c. nat_le 32 c) xs ≡ true → All (λ c. 32 ≤ c) xs
printable [] h = All-nil (λ c. 32 ≤ c)
printable (c ∷ xs) h =
    let parts = and_parts (nat_le 32 c) (list_all (λ c. nat_le 32 c) xs) h in
    All-cons (λ c. 32 ≤ c) c xs (leb-true 32 c parts.0) (printable xs parts.1)

record_is_target : IsTarget record_place
record_is_target = record {
  named = named;
  no_control = printable record_place refl;
  utf8 = IsUtf8-from_is_utf8 record_place (text record_place refl);
}

record_joined : (place : List ℕ) → IsNormalPath place → path_of (place ++ 47 ∷ record_place) ≡ Ok (record_path place)
record_joined place p =
    path_of-target place record_place p record_is_target
    ∙ ap (λ ps. Ok (rooted (ps ++ record_parts))) (named_parts-IsNormalPath place p)
    ∙ ap Ok (joined_parts p.parts (codes "usr") (codes "share" ∷ codes "appdir" ∷ codes "host.txt" ∷ []) p.named ∙ ap (λ t. joined t record_place) (sym p.spelled))

pub path_is : (place path : List ℕ) → IsNormalPath place → Answers said_of_path (Ok path) (path_of (place ++ 47 ∷ record_place)) → path ≡ record_path place
path_is place path p h = let e = sym (record_joined place p) ∙ h in cc
