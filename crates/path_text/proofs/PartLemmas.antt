-- Lemmas on the parts of a path.
use Rattle.std.proofs.Common.{ℕ, List, [], ◌∷◌, ◌++◌, Bool, true, false, cond, eqb, ◌≡◌, ◌≢◌, ◌<◌, refl, sym, ◌∙◌, ap, length, arith, append_assoc}
use Rattle.std.specs.Prelude.{All, fold}
use Rattle.std.specs.List.{onto_first, join_with_byte}
use Rattle.std.proofs.lemmas.List.Elements.{All-nil, All-cons, All-head, All-tail, All-append, All-push, All-take, All-weaker}
use Rattle.std.proofs.lemmas.List.Splits.{slice_split_none, slice_split_at}
use Rattle.std.proofs.lemmas.Bool.{eqb-false, ne_eqb}
use Rattle.path_text.specs.Path.{IsNamed, but_last, is_idle, is_parent, led, named_parts, parts_of, rooted}

append_nil : (xs : List ℕ) → xs ++ [] ≡ xs
append_nil [] = refl
append_nil (x ∷ xs) = ap (λ t. x ∷ t) (append_nil xs)

append_none : (xs : List (List ℕ)) → xs ++ [] ≡ xs
append_none [] = refl
append_none (x ∷ xs) = ap (λ t. x ∷ t) (append_none xs)

-- ---- what holds of each byte of a text holds of each byte of its parts, and a slash is in none
onto_all : (P : ℕ → Type 0) (b : Bool) (x : ℕ) (parts : List (List ℕ)) → (b ≡ false → P x) → All (All P) parts → All (All P) (cond b ([] ∷ parts) (onto_first x parts))
onto_all P true x parts h all = All-cons (All P) [] parts (All-nil P) all
onto_all P false x [] h all = All-cons (All P) (x ∷ []) [] (All-cons P x [] (h refl) (All-nil P)) all
onto_all P false x (part ∷ parts) h all = All-cons (All P) (x ∷ part) parts (All-cons P x part (h refl) (All-head (All P) part parts all)) (All-tail (All P) part parts all)

pub All-parts_of : (P : ℕ → Type 0) (text : List ℕ) → All P text → All (All P) (parts_of text)
All-parts_of P [] all = All-cons (All P) [] [] (All-nil P) (All-nil (All P))
All-parts_of P (x ∷ xs) all = onto_all P (eqb x 47) x (parts_of xs) (λ _. All-head P x xs all) (All-parts_of P xs (All-tail P x xs all))

abbrev pub NoSlash : List ℕ → Type 0
NoSlash part = All (λ c. c ≢ 47) part

pub NoSlash-parts_of : (text : List ℕ) → All NoSlash (parts_of text)
NoSlash-parts_of [] = All-cons NoSlash [] [] (All-nil (λ c. c ≢ 47)) (All-nil NoSlash)
NoSlash-parts_of (x ∷ xs) = onto_all (λ c. c ≢ 47) (eqb x 47) x (parts_of xs) (λ e. eqb-false x 47 e) (NoSlash-parts_of xs)

-- ---- joined
pub All-join : (P : ℕ → Type 0) → P 47 → (parts : List (List ℕ)) → All (All P) parts → All P (join_with_byte 47 parts)
All-join P slash [] all = All-nil P
All-join P slash (x ∷ []) all = All-head (All P) x [] all
All-join P slash (x ∷ y ∷ more) all = All-append P x (47 ∷ join_with_byte 47 (y ∷ more)) (All-head (All P) x (y ∷ more) all) (All-cons P 47 (join_with_byte 47 (y ∷ more)) slash (All-join P slash (y ∷ more) (All-tail (All P) x (y ∷ more) all)))

pub All-rooted : (P : ℕ → Type 0) → P 47 → (parts : List (List ℕ)) → All (All P) parts → All P (rooted parts)
unfolding rooted
All-rooted P slash parts all = All-cons P 47 (join_with_byte 47 parts) slash (All-join P slash parts all)

-- a slash before each part
abbrev pub slashed : List (List ℕ) → List ℕ
slashed [] = []
slashed (part ∷ parts) = 47 ∷ (part ++ slashed parts)

join-slashed : (part : List ℕ) (parts : List (List ℕ)) → join_with_byte 47 (part ∷ parts) ≡ part ++ slashed parts
join-slashed part [] = sym (append_nil part)
join-slashed part (next ∷ parts) = ap (λ t. part ++ (47 ∷ t)) (join-slashed next parts)

pub rooted-slashed : (part : List ℕ) (parts : List (List ℕ)) → rooted (part ∷ parts) ≡ slashed (part ∷ parts)
unfolding rooted
rooted-slashed part parts = ap (λ t. 47 ∷ t) (join-slashed part parts)

pub rooted-none : rooted [] ≡ 47 ∷ []
unfolding rooted
rooted-none = refl

-- ---- the walk
led_keeps : (Q : List ℕ → Type 0) (up idle : Bool) (at : List (List ℕ)) (part : List ℕ) → (up ≡ false → idle ≡ false → Q part) → All Q at → All Q (cond up (but_last at) (cond idle at (at ++ part ∷ [])))
led_keeps Q true idle at part h all = All-take Q _ at all
led_keeps Q false true at part h all = all
led_keeps Q false false at part h all = All-push Q at part all (h refl refl)

walk_keeps : (Q : List ℕ → Type 0) (parts at : List (List ℕ)) → All Q parts → All Q at → All Q (fold led at parts)
walk_keeps Q [] at each all = all
walk_keeps Q (part ∷ parts) at each all = walk_keeps Q parts (led at part) (All-tail Q part parts each) (led_keeps Q (is_parent part) (is_idle part) at part (λ _ _. All-head Q part parts each) all)

walk_named : (parts at : List (List ℕ)) → All IsNamed at → All IsNamed (fold led at parts)
walk_named [] at all = all
walk_named (part ∷ parts) at all = walk_named parts (led at part) (led_keeps IsNamed (is_parent part) (is_idle part) at part (λ up idle. (idle, up)) all)

pub All-named_parts : (Q : List ℕ → Type 0) (text : List ℕ) → All Q (parts_of text) → All Q (named_parts text)
unfolding named_parts
All-named_parts Q text each = walk_keeps Q (parts_of text) [] each (All-nil Q)

pub IsNamed-named_parts : (text : List ℕ) → All IsNamed (named_parts text)
unfolding named_parts
IsNamed-named_parts text = walk_named (parts_of text) [] (All-nil IsNamed)

-- ---- a path of named parts leads to them
down : (up idle : Bool) (at : List (List ℕ)) (part : List ℕ) → up ≡ false → idle ≡ false → cond up (but_last at) (cond idle at (at ++ part ∷ [])) ≡ at ++ part ∷ []
down true idle at part e f = cc
down false true at part e f = cc
down false false at part e f = refl

pub led_down : (at : List (List ℕ)) (part : List ℕ) → IsNamed part → led at part ≡ at ++ part ∷ []
led_down at part named = down (is_parent part) (is_idle part) at part named.1 named.0

pub walk_down : (parts at : List (List ℕ)) → All IsNamed parts → fold led at parts ≡ at ++ parts
walk_down [] at all = sym (append_none at)
walk_down (part ∷ parts) at all =
    let named : IsNamed part = All-head IsNamed part parts all in
    ap (λ t. fold led t parts) (down (is_parent part) (is_idle part) at part named.1 named.0)
    ∙ (walk_down parts (at ++ part ∷ []) (All-tail IsNamed part parts all) ∙ append_assoc at (part ∷ []) parts)

parts_of-slashed : (part : List ℕ) (parts : List (List ℕ)) → All NoSlash (part ∷ parts) → parts_of (part ++ slashed parts) ≡ part ∷ parts
parts_of-slashed part [] all =
    ap parts_of (append_nil part)
    ∙ slice_split_none (λ c. eqb c 47) part (All-weaker (λ c. c ≢ 47) (λ c. eqb c 47 ≡ false) (λ c h. ne_eqb c 47 h) part (All-head NoSlash part [] all))
parts_of-slashed part (next ∷ parts) all =
    slice_split_at (λ c. eqb c 47) part 47 (next ++ slashed parts) (All-weaker (λ c. c ≢ 47) (λ c. eqb c 47 ≡ false) (λ c h. ne_eqb c 47 h) part (All-head NoSlash part (next ∷ parts) all)) refl
    ∙ ap (λ t. part ∷ t) (parts_of-slashed next parts (All-tail NoSlash part (next ∷ parts) all))

pub named_parts-rooted : (parts : List (List ℕ)) → All IsNamed parts → All NoSlash parts → named_parts (rooted parts) ≡ parts
unfolding named_parts rooted
named_parts-rooted [] named no_slash = refl
named_parts-rooted (part ∷ parts) named no_slash =
    ap (λ t. fold led [] (parts_of t)) (join-slashed part parts)
    ∙ (ap (fold led []) (parts_of-slashed part parts no_slash) ∙ walk_down (part ∷ parts) [] named)

-- the parts, or one empty part
abbrev pub or_nothing : List (List ℕ) → List (List ℕ)
or_nothing [] = [] ∷ []
or_nothing (part ∷ parts) = part ∷ parts

pub parts_of-rooted : (parts : List (List ℕ)) → All NoSlash parts → parts_of (rooted parts) ≡ [] ∷ or_nothing parts
unfolding rooted
parts_of-rooted [] no_slash = refl
parts_of-rooted (part ∷ parts) no_slash = ap (λ t. [] ∷ t) (ap parts_of (join-slashed part parts) ∙ parts_of-slashed part parts no_slash)

-- ---- the parts written with a slash before each
-- at the end no part is left
pub written : (path : List ℕ) (left parts : List (List ℕ)) → path ++ slashed left ≡ slashed parts → left ≡ [] → 0 < length parts → path ≡ rooted parts
written path left [] h e some = absurd (omega arith)
written path left (part ∷ parts) h e some = sym (append_nil path) ∙ (sym (ap (λ l. path ++ slashed l) e) ∙ (h ∙ sym (rooted-slashed part parts)))

pub written-none : (parts : List (List ℕ)) → length parts ≡ 0 → 47 ∷ [] ≡ rooted parts
written-none [] e = sym rooted-none
written-none (part ∷ parts) e = absurd (omega arith)
