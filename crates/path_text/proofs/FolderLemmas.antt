-- Lemmas on the cut of a path at its last slash.
use Rattle.std.proofs.Common.{ℕ, List, [], ◌∷◌, ◌++◌, Bool, true, false, cond, eqb, Option, None, Some, Ok, ◌≡◌, ◌≢◌, ◌<◌, ◌≤◌, ◌+◌, ◌-◌, refl, sym, ◌∙◌, ap, subst, length, take, drop, get_or, suc, arith, lit<, Bor}
use Rattle.std.specs.Prelude.{All, IsUtf8, MatchOption, fold, unwrap_or}
use Rattle.std.specs.List.{onto_first, join_with_byte}
use Rattle.std.specs.Str.Pattern.{RFindsChar, SplitsAroundMatch}
use Rattle.std.proofs.lemmas.Bool.{ne_eqb}
use Rattle.std.proofs.lemmas.List.{get_or_default, length-append, take-append-drop, take_more}
use Rattle.std.proofs.Math.Seq.{take-append_seam, take-length, get_or-append_seam}
use Rattle.std.proofs.lemmas.List.Elements.{All-append, All-cons, All-get_or, All-nil, All-weaker}
use Rattle.std.proofs.lemmas.List.Sums.{fold-append}
use Rattle.std.proofs.lemmas.Str.{IsUtf8-append, IsUtf8-nil}
use Rattle.std.proofs.lemmas.List.Splits.{join_with_byte-slice_split, slice_split_none, length-slice_split}
use Rattle.std.proofs.lemmas.Str.Pattern.{NoCharPasses-char, drop_at_char}
use Rattle.answers.specs.First.{value_unless}
use Rattle.path_text.specs.Path.{IsNamed, IsNormalPath, base_of, begins_at_root, but_last, folder_of, is_empty, last_part, led, named_parts, normal_path, parts_of, path_fault, path_of, rooted}
use Rattle.path_text.specs.Target.{IsTarget}
use Rattle.path_text.proofs.PartLemmas.{All-rooted, NoSlash, led_down, named_parts-rooted, or_nothing, walk_down}
use Rattle.path_text.proofs.PathLemmas.{All-from_not_contained, ArePathParts, ArePathParts-IsNormalPath, ArePathParts-but_last, IsNormalPath-folder_of, begins_at_root-IsNormalPath, normal_path-IsNormalPath, not_contained, path_fault-IsPath, rooted_utf8, slash_utf8, named_parts-IsNormalPath, parts_of-IsNormalPath}

-- ---- the parts of a text that is cut at a slash
onto_append : (c : ℕ) (xs ys : List (List ℕ)) → 0 < length xs → onto_first c (xs ++ ys) ≡ onto_first c xs ++ ys
onto_append c [] ys some = absurd (omega arith)
onto_append c (x ∷ xs) ys some = refl

cons_append : (b : Bool) (c : ℕ) (xs ys zs : List (List ℕ)) → zs ≡ xs ++ ys → 0 < length xs → cond b ([] ∷ zs) (onto_first c zs) ≡ cond b ([] ∷ xs) (onto_first c xs) ++ ys
cons_append true c xs ys zs e some = ap (λ t. [] ∷ t) e
cons_append false c xs ys zs e some = ap (onto_first c) e ∙ onto_append c xs ys some

parts_some : (text : List ℕ) → 0 < length (parts_of text)
parts_some text = omega (arith, length-slice_split (λ c. eqb c 47) text)

parts_of-append : (front back : List ℕ) → parts_of (front ++ 47 ∷ back) ≡ parts_of front ++ parts_of back
parts_of-append [] back = refl
parts_of-append (c ∷ front) back = cons_append (eqb c 47) c (parts_of front) (parts_of back) (parts_of (front ++ 47 ∷ back)) (parts_of-append front back) (parts_some front)

begins_not : (text : List ℕ) → ((i : ℕ) → i < length text → get_or text i 0 ≢ 47) → begins_at_root text ≡ false
begins_not [] h = refl
begins_not (c ∷ text) h = ne_eqb c 47 (h 0 (omega arith))

pub cut_at_last : (text : List ℕ) (other : Bor (List ℕ) × Bor (List ℕ)) (cut : Option (Bor (List ℕ) × Bor (List ℕ))) → MatchOption cut (RFindsChar 47 text None) (λ x. SplitsAroundMatch (RFindsChar 47) text x.0.now x.1.now) → begins_at_root text ≡ true → parts_of text ≡ parts_of (unwrap_or cut other).0.now ++ (unwrap_or cut other).1.now ∷ []
cut_at_last text other None h at_root =
    let none : begins_at_root text ≡ false = begins_not text (λ i l. NoCharPasses-char 47 text i h (lit< tt) l) in
    cc
cut_at_last text other (Some x) h at_root =
    let at_slash : drop h.0 text ≡ 47 ∷ drop h.1 text = drop_at_char 47 text h.0 h.1 h.2.1 (lit< tt) in
    let no_slash : NoSlash (drop h.1 text) = λ k d l e. NoCharPasses-char 47 (drop h.1 text) k h.2.0 (lit< tt) l (get_or_default (drop h.1 text) k 0 d l ∙ e) in
    let back : parts_of (drop h.1 text) ≡ drop h.1 text ∷ [] = slice_split_none (λ c. eqb c 47) (drop h.1 text) (All-weaker (λ c. c ≢ 47) (λ c. eqb c 47 ≡ false) (λ c e. ne_eqb c 47 e) (drop h.1 text) no_slash) in
    let whole : text ≡ take h.0 text ++ 47 ∷ drop h.1 text = sym (take-append-drop h.0 text) ∙ ap (λ t. take h.0 text ++ t) at_slash in
    let parts : parts_of text ≡ parts_of (take h.0 text) ++ (drop h.1 text ∷ []) = ap parts_of whole ∙ (parts_of-append (take h.0 text) (drop h.1 text) ∙ ap (λ t. parts_of (take h.0 text) ++ t) back) in
    subst (λ t. parts_of text ≡ parts_of t ++ x.1.now ∷ []) (sym h.3) (subst (λ t. parts_of text ≡ parts_of (take h.0 text) ++ t ∷ []) (sym h.4) parts)

-- ---- the last part, and the parts before it
but_last-push : (parts : List (List ℕ)) (last : List ℕ) → but_last (parts ++ last ∷ []) ≡ parts
but_last-push parts last =
    let one : length (parts ++ last ∷ []) - 1 ≡ length parts = omega (arith, length-append parts (last ∷ [])) in
    ap (λ n. take n (parts ++ last ∷ [])) one ∙ take-append_seam parts (last ∷ [])

last_part-push : (parts : List (List ℕ)) (last : List ℕ) → last_part (parts ++ last ∷ []) ≡ last
last_part-push parts last =
    let one : length (parts ++ last ∷ []) - 1 ≡ length parts = omega (arith, length-append parts (last ∷ [])) in
    ap (λ n. get_or (parts ++ last ∷ []) n []) one ∙ get_or-append_seam parts last [] []

but_last-or_nothing : (parts : List (List ℕ)) → but_last ([] ∷ or_nothing parts) ≡ [] ∷ but_last parts
but_last-or_nothing [] = refl
but_last-or_nothing (part ∷ parts) =
    let one : length ([] ∷ part ∷ parts) - 1 ≡ suc (length (part ∷ parts) - 1) = omega arith in
    ap (λ n. take n ([] ∷ part ∷ parts)) one

last_part-or_nothing : (parts : List (List ℕ)) → last_part ([] ∷ or_nothing parts) ≡ last_part parts
last_part-or_nothing [] = refl
last_part-or_nothing (part ∷ parts) =
    let one : length ([] ∷ part ∷ parts) - 1 ≡ suc (length (part ∷ parts) - 1) = omega arith in
    ap (λ n. get_or ([] ∷ part ∷ parts) n []) one

-- the text before the last slash is nothing for a path in the root
before-none : (parts : List (List ℕ)) → is_empty (join_with_byte 47 ([] ∷ parts)) ≡ true → 47 ∷ [] ≡ rooted parts
unfolding rooted
before-none [] h = refl
before-none (part ∷ parts) h = cc

before-some : (parts : List (List ℕ)) → is_empty (join_with_byte 47 ([] ∷ parts)) ≡ false → join_with_byte 47 ([] ∷ parts) ≡ rooted parts
unfolding rooted
before-some [] h = cc
before-some (part ∷ parts) h = refl

front_of : (text front last : List ℕ) (h : IsNormalPath text) → parts_of text ≡ parts_of front ++ last ∷ [] → front ≡ join_with_byte 47 ([] ∷ but_last (named_parts text))
front_of text front last h cut =
    let parts : parts_of front ≡ [] ∷ but_last (named_parts text) =
    sym (but_last-push (parts_of front) last) ∙ (ap but_last (sym cut ∙ parts_of-IsNormalPath text h) ∙ (but_last-or_nothing h.parts ∙ ap (λ p. [] ∷ but_last p) (sym (named_parts-IsNormalPath text h)))) in
    sym (join_with_byte-slice_split 47 front) ∙ ap (join_with_byte 47) parts

-- what the cut of a normal path gives
pub folder_of-none : (text front last : List ℕ) → IsNormalPath text → parts_of text ≡ parts_of front ++ last ∷ [] → length front ≡ 0 → 47 ∷ [] ≡ folder_of text
folder_of-none text front last h cut none = before-none (but_last (named_parts text)) (subst (λ t. is_empty t ≡ true) (front_of text front last h cut) (empty front none))
  where
    empty : (front : List ℕ) → length front ≡ 0 → is_empty front ≡ true
    empty [] e = refl
    empty (c ∷ front) e = absurd (omega arith)

pub folder_of-some : (text front last : List ℕ) → IsNormalPath text → parts_of text ≡ parts_of front ++ last ∷ [] → (length front ≡ 0 → ⊥) → front ≡ folder_of text
folder_of-some text front last h cut some = front_of text front last h cut ∙ before-some (but_last (named_parts text)) (subst (λ t. is_empty t ≡ false) (front_of text front last h cut) (not_empty front some))
  where
    not_empty : (front : List ℕ) → (length front ≡ 0 → ⊥) → is_empty front ≡ false
    not_empty [] e = absurd (e refl)
    not_empty (c ∷ front) e = refl

pub base_of-cut : (text front last : List ℕ) → IsNormalPath text → parts_of text ≡ parts_of front ++ last ∷ [] → last ≡ base_of text
base_of-cut text front last h cut =
    sym (last_part-push (parts_of front) last) ∙ (ap last_part (sym cut ∙ parts_of-IsNormalPath text h) ∙ (last_part-or_nothing h.parts ∙ ap last_part (sym (named_parts-IsNormalPath text h))))

-- ---- a path and what is joined to it
begins_at_root-append : (front back : List ℕ) → begins_at_root front ≡ true → begins_at_root (front ++ back) ≡ true
begins_at_root-append [] back h = cc
begins_at_root-append (c ∷ front) back h = h

pub joined_at_root : (text front back : List ℕ) → IsNormalPath front → text ≡ front ++ back → begins_at_root text ≡ false → ⊥
joined_at_root text front back h e relative =
    let at_root : begins_at_root text ≡ true = ap begins_at_root e ∙ begins_at_root-append front back (begins_at_root-IsNormalPath front h) in
    cc

-- ---- the folder and the base, joined, are the path
front_and_last : (parts : List (List ℕ)) → 0 < length parts → but_last parts ++ last_part parts ∷ [] ≡ parts
front_and_last parts some =
    let one : length parts - 1 + 1 ≡ length parts = omega arith in
    sym (take_more parts (length parts - 1) [] (omega arith)) ∙ (ap (λ n. take n parts) one ∙ take-length parts)

All-last_part : (Q : List ℕ → Type 0) (parts : List (List ℕ)) → Q [] → All Q parts → Q (last_part parts)
All-last_part Q [] none all = none
All-last_part Q (part ∷ parts) none all = All-get_or Q (part ∷ parts) (length (part ∷ parts) - 1) [] (omega arith) all

led_last : (parts : List (List ℕ)) → All IsNamed parts → led (but_last parts) (last_part parts) ≡ parts
led_last [] named = refl
led_last (part ∷ parts) named =
    let last : IsNamed (last_part (part ∷ parts)) = All-get_or IsNamed (part ∷ parts) (length (part ∷ parts) - 1) [] (omega arith) named in
    led_down (but_last (part ∷ parts)) (last_part (part ∷ parts)) last ∙ front_and_last (part ∷ parts) (omega arith)

named_parts-append : (front back : List ℕ) → named_parts (front ++ 47 ∷ back) ≡ fold led (named_parts front) (parts_of back)
unfolding named_parts
named_parts-append front back = ap (fold led []) (parts_of-append front back) ∙ fold-append led [] (parts_of front) (parts_of back)

named_parts-join : (front last : List ℕ) → NoSlash last → named_parts (front ++ 47 ∷ last) ≡ led (named_parts front) last
named_parts-join front last no_slash =
    let one : parts_of last ≡ last ∷ [] = slice_split_none (λ c. eqb c 47) last (All-weaker (λ c. c ≢ 47) (λ c. eqb c 47 ≡ false) (λ c e. ne_eqb c 47 e) last no_slash) in
    named_parts-append front last ∙ ap (fold led (named_parts front)) one

pub path_of-folder_and_base : (text : List ℕ) → IsNormalPath text → path_of (folder_of text ++ 47 ∷ base_of text) ≡ Ok text
path_of-folder_and_base text h =
    let parts : ArePathParts (named_parts text) = ArePathParts-IsNormalPath text h in
    let folder : ArePathParts (but_last (named_parts text)) = ArePathParts-but_last (named_parts text) parts in
    let no_slash : NoSlash (base_of text) = All-last_part NoSlash (named_parts text) (All-nil (λ c. c ≢ 47)) parts.no_slash in
    let no_zero : All (λ c. c ≢ 0) (folder_of text ++ 47 ∷ base_of text) =
    All-append (λ c. c ≢ 0) (folder_of text) (47 ∷ base_of text) (All-rooted (λ c. c ≢ 0) (omega arith) (but_last (named_parts text)) folder.no_zero)
    (All-cons (λ c. c ≢ 0) 47 (base_of text) (omega arith) (All-last_part (All (λ c. c ≢ 0)) (named_parts text) (All-nil (λ c. c ≢ 0)) parts.no_zero)) in
    let utf8 : IsUtf8 (folder_of text ++ 47 ∷ base_of text) =
    IsUtf8-append (folder_of text) (47 ∷ base_of text) (rooted_utf8 (but_last (named_parts text)) folder.utf8)
    (IsUtf8-append (47 ∷ []) (base_of text) slash_utf8 (All-last_part IsUtf8 (named_parts text) IsUtf8-nil parts.utf8)) in
    let at_root : begins_at_root (folder_of text ++ 47 ∷ base_of text) ≡ true = begins_at_root-append (folder_of text) (47 ∷ base_of text) (begins_at_root-IsNormalPath (folder_of text) (IsNormalPath-folder_of text h)) in
    let none : path_fault (folder_of text ++ 47 ∷ base_of text) ≡ None = path_fault-IsPath (folder_of text ++ 47 ∷ base_of text) (record { at_root = at_root; no_zero = not_contained (folder_of text ++ 47 ∷ base_of text) 0 no_zero; utf8 = utf8 }) in
    let same : named_parts (folder_of text ++ 47 ∷ base_of text) ≡ named_parts text =
    named_parts-join (folder_of text) (base_of text) no_slash
    ∙ (ap (λ p. led p (base_of text)) (named_parts-rooted (but_last (named_parts text)) folder.named folder.no_slash) ∙ led_last (named_parts text) parts.named) in
    ap (λ f. value_unless f (normal_path (folder_of text ++ 47 ∷ base_of text))) none
    ∙ ap Ok (ap rooted same ∙ normal_path-IsNormalPath text h)

-- ---- a target, joined to a path, stands behind its parts
pub path_of-target : (path target : List ℕ) → IsNormalPath path → IsTarget target → path_of (path ++ 47 ∷ target) ≡ Ok (rooted (named_parts path ++ parts_of target))
path_of-target path target h t =
    let no_zero : All (λ c. c ≢ 0) (path ++ 47 ∷ target) =
    All-append (λ c. c ≢ 0) path (47 ∷ target) (All-from_not_contained path 0 h.no_zero)
    (All-cons (λ c. c ≢ 0) 47 target (omega arith) (All-weaker (λ c. 32 ≤ c) (λ c. c ≢ 0) (λ c l e. omega arith) target t.no_control)) in
    let utf8 : IsUtf8 (path ++ 47 ∷ target) = IsUtf8-append path (47 ∷ target) h.utf8 (IsUtf8-append (47 ∷ []) target slash_utf8 t.utf8) in
    let at_root : begins_at_root (path ++ 47 ∷ target) ≡ true = begins_at_root-append path (47 ∷ target) (begins_at_root-IsNormalPath path h) in
    let none : path_fault (path ++ 47 ∷ target) ≡ None = path_fault-IsPath (path ++ 47 ∷ target) (record { at_root = at_root; no_zero = not_contained (path ++ 47 ∷ target) 0 no_zero; utf8 = utf8 }) in
    ap (λ f. value_unless f (normal_path (path ++ 47 ∷ target))) none
    ∙ ap (λ parts. Ok (rooted parts)) (named_parts-append path target ∙ walk_down (parts_of target) (named_parts path) t.named)
