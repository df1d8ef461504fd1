-- Lemmas on what reading a path gives.
use Rattle.std.proofs.Common.{ℕ, List, [], ◌∷◌, Bool, true, false, eqb, not, Option, None, Some, Ok, ◌≡◌, ◌≢◌, ◌≤◌, ◌+◌, ◌-◌, refl, sym, ◌∙◌, ap, subst, length, take, drop, get_or, zero, suc, length-drop, arith, ◌⊎◌, inl, inr, ⊎_elim, lit<}
use Rattle.std.specs.Prelude.{All, Contains, IsUtf8}
use Rattle.std.specs.List.{join_with_byte, list_any, position_or_len}
use Rattle.std.specs.Str.{is_utf8}
use Rattle.std.proofs.lemmas.Bool.{not-false, not-true, or_cases, eqb-true, eqb-false, ne_eqb, cases_lt, false≢true, false_from_ne_true}
use Rattle.std.proofs.lemmas.List.{get_or_default}
use Rattle.std.proofs.lemmas.List.Elements.{All-nil, All-cons, All-head, All-tail, All-take, All-weaker, All-contains, Contains-append_left, Contains-append_right, Contains-push}
use Rattle.std.proofs.lemmas.List.Folds.{list_any_at, list_any_none}
use Rattle.std.proofs.lemmas.List.Splits.{slice_split_none, slice_split_first}
use Rattle.std.proofs.lemmas.List.Sums.{passes_at_first, fails_before_first}
use Rattle.std.proofs.lemmas.Str.{IsUtf8-append, IsUtf8-nil, IsUtf8-from_ascii, IsUtf8-from_is_utf8, is_utf8-from_IsUtf8, IsUtf8-take, IsUtf8-drop, IsCharBoundary-before_ascii, IsCharBoundary-after_ascii}
use Rattle.std.proofs.lemmas.Str.Ascii.{IsAscii-cons, IsAscii-nil}
use Rattle.answers.specs.First.{first_some, some_where, value_unless}
use Rattle.path_text.specs.Path.{IsNormalPath, IsPath, IsPathFault, IsNamed, begins_at_root, but_last, folder_of, has_nul, is_empty, named_parts, normal_path, parts_of, path_fault, path_of, rooted}
use Rattle.path_text.specs.declared.absolute.PathFault.{PathFault}
use Rattle.path_text.specs.declared.absolute.PathFault.TheVariants.{Empty, Relative, HasNul, NotText}
use Rattle.path_text.proofs.PartLemmas.{All-parts_of, NoSlash-parts_of, NoSlash, All-rooted, All-named_parts, IsNamed-named_parts, named_parts-rooted, or_nothing, parts_of-rooted}

-- ---- the first fault
-- with no fault in a list, its first condition does not hold, and there is none in the rest
pub no_fault : {E : Type 0} (condition : Bool) (fault : E) (more : List (Option E)) → first_some (some_where condition fault ∷ more) ≡ None → (condition ≡ false) × (first_some more ≡ None)
no_fault true fault more h = cc
no_fault false fault more h = (refl, h)

pub fault_skipped : {E : Type 0} (condition : Bool) (fault : E) (more : List (Option E)) → condition ≡ false → first_some (some_where condition fault ∷ more) ≡ first_some more
fault_skipped true fault more h = cc
fault_skipped false fault more h = refl

-- ---- a test that no element passes
pub All-from_no_any : {X : Type 0} (p : X → Bool) (xs : List X) → list_any p xs ≡ false → All (λ x. p x ≡ false) xs
All-from_no_any p xs h = λ k d l. false_from_ne_true (p (get_or xs k d)) (λ e. false≢true (sym h ∙ list_any_at p xs k d l e))

pub All-from_not_contained : (xs : List ℕ) (x : ℕ) → ¬ (Contains xs x) → All (λ c. c ≢ x) xs
All-from_not_contained xs x h = λ k d l e. h (k, l, get_or_default xs k x d l ∙ e)

pub not_contained : (xs : List ℕ) (x : ℕ) → All (λ c. c ≢ x) xs → ¬ (Contains xs x)
not_contained xs x all h = All-contains (λ c. c ≢ x) xs x all h refl

-- ---- UTF-8
pub slash_utf8 : IsUtf8 (47 ∷ [])
slash_utf8 = IsUtf8-from_ascii (47 ∷ []) (IsAscii-cons 47 [] (lit< tt) IsAscii-nil)

join_utf8 : (parts : List (List ℕ)) → All IsUtf8 parts → IsUtf8 (join_with_byte 47 parts)
join_utf8 [] all = IsUtf8-nil
join_utf8 (x ∷ []) all = All-head IsUtf8 x [] all
join_utf8 (x ∷ y ∷ more) all =
    IsUtf8-append x (47 ∷ join_with_byte 47 (y ∷ more)) (All-head IsUtf8 x (y ∷ more) all)
    (IsUtf8-append (47 ∷ []) (join_with_byte 47 (y ∷ more)) slash_utf8 (join_utf8 (y ∷ more) (All-tail IsUtf8 x (y ∷ more) all)))

pub rooted_utf8 : (parts : List (List ℕ)) → All IsUtf8 parts → IsUtf8 (rooted parts)
unfolding rooted
rooted_utf8 parts all = IsUtf8-append (47 ∷ []) (join_with_byte 47 parts) slash_utf8 (join_utf8 parts all)

-- a text in UTF-8 is cut at an ASCII byte; n bounds its length
uncut : (text : List ℕ) → IsUtf8 text → length text ≤ position_or_len (λ c. eqb c 47) text → All IsUtf8 (parts_of text)
uncut text utf8 past =
    let whole : parts_of text ≡ text ∷ [] = slice_split_none (λ c. eqb c 47) text (λ k d l. fails_before_first (λ c. eqb c 47) text k d (omega arith)) in
    subst (All IsUtf8) (sym whole) (All-cons IsUtf8 text [] utf8 (All-nil IsUtf8))

parts_utf8 : (n : ℕ) (text : List ℕ) → length text ≤ n → IsUtf8 text → All IsUtf8 (parts_of text)
parts_utf8 zero text small utf8 = uncut text utf8 (omega arith)
parts_utf8 (suc n) text small utf8 =
    ⊎_elim
    (λ in_text.
    let at : ℕ = position_or_len (λ c. eqb c 47) text in
    let slash : get_or text at 0 ≡ 47 = eqb-true (get_or text at 0) 47 (passes_at_first (λ c. eqb c 47) text 0 in_text) in
    let front : IsUtf8 (take at text) = IsUtf8-take text at utf8 (IsCharBoundary-before_ascii text at in_text (omega arith)) in
    let back : IsUtf8 (drop (at + 1) text) = IsUtf8-drop text (at + 1) utf8 (IsCharBoundary-after_ascii text at utf8 in_text (omega arith)) in
    let rest : All IsUtf8 (parts_of (drop (at + 1) text)) = parts_utf8 n (drop (at + 1) text) (omega (arith, length-drop (at + 1) text)) back in
    subst (All IsUtf8) (sym (slice_split_first (λ c. eqb c 47) text 0 in_text)) (All-cons IsUtf8 (take at text) (parts_of (drop (at + 1) text)) front rest))
    (λ past. uncut text utf8 past)
    (cases_lt (position_or_len (λ c. eqb c 47) text) (length text))

-- ---- what is read is in normal form
-- no fault: the conditions of the faults do not hold
pub record IsSound (text : List ℕ) : Type 0 where
  pub some : is_empty text ≡ false
  pub at_root : begins_at_root text ≡ true
  pub no_nul : has_nul text ≡ false
  pub utf8 : is_utf8 text ≡ true

pub IsSound-from_no_fault : (text : List ℕ) → path_fault text ≡ None → IsSound text
unfolding path_fault
IsSound-from_no_fault text h =
    let some = no_fault (is_empty text) Empty _ h in
    let at_root = no_fault (not (begins_at_root text)) Relative _ some.1 in
    let no_nul = no_fault (has_nul text) HasNul _ at_root.1 in
    let utf8 = no_fault (not (is_utf8 text)) NotText _ no_nul.1 in
    record { some = some.0; at_root = not-false _ at_root.0; no_nul = no_nul.0; utf8 = not-false _ utf8.0 }

nonzero : (text : List ℕ) → has_nul text ≡ false → All (λ c. c ≢ 0) text
nonzero text h = All-weaker (λ c. eqb c 0 ≡ false) (λ c. c ≢ 0) (λ c e. eqb-false c 0 e) text (All-from_no_any (λ c. eqb c 0) text h)

-- parts that a normal path may have
pub record ArePathParts (parts : List (List ℕ)) : Type 0 where
  pub named : All IsNamed parts
  pub no_slash : All NoSlash parts
  pub no_zero : All (All (λ c. c ≢ 0)) parts
  pub utf8 : All IsUtf8 parts

pub IsNormalPath-rooted : (parts : List (List ℕ)) → ArePathParts parts → IsNormalPath (rooted parts)
IsNormalPath-rooted parts h = record {
  parts = parts;
  named = h.named;
  no_slash = All-weaker NoSlash (λ part. ¬ (Contains part 47)) (λ part all. not_contained part 47 all) parts h.no_slash;
  spelled = refl;
  no_zero = not_contained (rooted parts) 0 (All-rooted (λ c. c ≢ 0) (omega arith) parts h.no_zero);
  utf8 = rooted_utf8 parts h.utf8;
}

ArePathParts-named_parts : (text : List ℕ) → All (λ c. c ≢ 0) text → IsUtf8 text → ArePathParts (named_parts text)
ArePathParts-named_parts text no_zero utf8 = record {
  named = IsNamed-named_parts text;
  no_slash = All-named_parts NoSlash text (NoSlash-parts_of text);
  no_zero = All-named_parts (All (λ c. c ≢ 0)) text (All-parts_of (λ c. c ≢ 0) text no_zero);
  utf8 = All-named_parts IsUtf8 text (parts_utf8 (length text) text (omega arith) utf8);
}

pub IsNormalPath-normal_path : (text : List ℕ) → path_fault text ≡ None → IsNormalPath (normal_path text)
IsNormalPath-normal_path text h =
    let sound : IsSound text = IsSound-from_no_fault text h in
    IsNormalPath-rooted (named_parts text) (ArePathParts-named_parts text (nonzero text sound.no_nul) (IsUtf8-from_is_utf8 text sound.utf8))

-- what is read is in normal form
pub IsNormalPath-path_of : (text path : List ℕ) → path_of text ≡ Ok path → IsNormalPath path
IsNormalPath-path_of text path h = go (path_fault text) refl h
  where
    go : (fault : Option PathFault) → path_fault text ≡ fault → value_unless fault (normal_path text) ≡ Ok path → IsNormalPath path
    go None e h = let same : normal_path text ≡ path = cc in subst IsNormalPath same (IsNormalPath-normal_path text e)
    go (Some fault) e h = cc

pub ArePathParts-IsNormalPath : (text : List ℕ) → IsNormalPath text → ArePathParts (named_parts text)
ArePathParts-IsNormalPath text h = ArePathParts-named_parts text (All-from_not_contained text 0 h.no_zero) h.utf8

pub ArePathParts-but_last : (parts : List (List ℕ)) → ArePathParts parts → ArePathParts (but_last parts)
ArePathParts-but_last parts all = record {
  named = All-take IsNamed (length parts - 1) parts all.named;
  no_slash = All-take NoSlash (length parts - 1) parts all.no_slash;
  no_zero = All-take (All (λ c. c ≢ 0)) (length parts - 1) parts all.no_zero;
  utf8 = All-take IsUtf8 (length parts - 1) parts all.utf8;
}

-- the folder of a normal path is one
pub IsNormalPath-folder_of : (text : List ℕ) → IsNormalPath text → IsNormalPath (folder_of text)
IsNormalPath-folder_of text h = IsNormalPath-rooted (but_last (named_parts text)) (ArePathParts-but_last (named_parts text) (ArePathParts-IsNormalPath text h))

-- ---- what the faults say of the text
empty_is : (text : List ℕ) → is_empty text ≡ true → text ≡ []
empty_is [] h = refl
empty_is (c ∷ text) h = cc

Contains-from_any : (xs : List ℕ) (x : ℕ) → list_any (λ c. eqb c x) xs ≡ true → Contains xs x
Contains-from_any [] x h = cc
Contains-from_any (y ∷ xs) x h =
    ⊎_elim
    (λ here. let same : y ≡ x = eqb-true y x here in subst (Contains (y ∷ xs)) same (Contains-append_left (y ∷ []) xs y (Contains-push [] y)))
    (λ later. Contains-append_right (y ∷ []) xs x (Contains-from_any xs x later))
    (or_cases (eqb y x) (list_any (λ c. eqb c x) xs) h)

-- a fault is one of those in the list whose condition holds
pub fault_cases : {E : Type 0} (condition : Bool) (fault : E) (more : List (Option E)) (e : E) → first_some (some_where condition fault ∷ more) ≡ Some e → ((condition ≡ true) × (fault ≡ e)) ⊎ ((condition ≡ false) × (first_some more ≡ Some e))
fault_cases true fault more e h = inl (refl, cc)
fault_cases false fault more e h = inr (refl, h)

pub zero_contained : (text : List ℕ) → has_nul text ≡ true → Contains text 0
zero_contained text h = Contains-from_any text 0 h

pub not_utf8 : (text : List ℕ) → is_utf8 text ≡ false → ¬ (IsUtf8 text)
not_utf8 text h utf8 = false≢true (sym h ∙ is_utf8-from_IsUtf8 text utf8)

pub is_nothing : (text : List ℕ) → is_empty text ≡ true → text ≡ []
is_nothing text h = empty_is text h

pub IsPathFault-from_fault : (text : List ℕ) (fault : PathFault) → path_fault text ≡ Some fault → IsPathFault fault text
unfolding path_fault
IsPathFault-from_fault text fault h =
    ⊎_elim (λ hit. subst (λ f. IsPathFault f text) hit.1 (empty_is text hit.0))
    (λ some. ⊎_elim (λ hit. subst (λ f. IsPathFault f text) hit.1 (not-true _ hit.0))
    (λ at_root. ⊎_elim (λ hit. subst (λ f. IsPathFault f text) hit.1 (zero_contained text hit.0))
    (λ no_nul. ⊎_elim (λ hit. subst (λ f. IsPathFault f text) hit.1 (not_utf8 text (not-true _ hit.0)))
    (λ sound. let none : None ≡ Some fault = sound.1 in cc)
    (fault_cases (not (is_utf8 text)) NotText _ fault no_nul.1))
    (fault_cases (has_nul text) HasNul _ fault at_root.1))
    (fault_cases (not (begins_at_root text)) Relative _ fault some.1))
    (fault_cases (is_empty text) Empty _ fault h)

pub IsPath-from_no_fault : (text : List ℕ) → path_fault text ≡ None → IsPath text
IsPath-from_no_fault text h =
    let sound : IsSound text = IsSound-from_no_fault text h in
    record { at_root = sound.at_root; no_zero = not_contained text 0 (nonzero text sound.no_nul); utf8 = IsUtf8-from_is_utf8 text sound.utf8 }

-- ---- a normal path is read as it is
no_fault_of_sound : (text : List ℕ) → is_empty text ≡ false → begins_at_root text ≡ true → has_nul text ≡ false → is_utf8 text ≡ true → path_fault text ≡ None
unfolding path_fault
no_fault_of_sound text some at_root no_nul utf8 =
    fault_skipped (is_empty text) Empty _ some
    ∙ (fault_skipped (not (begins_at_root text)) Relative _ (ap not at_root)
    ∙ (fault_skipped (has_nul text) HasNul _ no_nul
    ∙ fault_skipped (not (is_utf8 text)) NotText _ (ap not utf8)))

rooted-some : (parts : List (List ℕ)) → is_empty (rooted parts) ≡ false
unfolding rooted
rooted-some parts = refl

rooted-at_root : (parts : List (List ℕ)) → begins_at_root (rooted parts) ≡ true
unfolding rooted
rooted-at_root parts = refl

no_nul : (text : List ℕ) → ¬ (Contains text 0) → has_nul text ≡ false
no_nul text h = list_any_none (λ c. eqb c 0) text (All-weaker (λ c. c ≢ 0) (λ c. eqb c 0 ≡ false) (λ c e. ne_eqb c 0 e) text (All-from_not_contained text 0 h))

pub path_fault-IsNormalPath : (text : List ℕ) → IsNormalPath text → path_fault text ≡ None
path_fault-IsNormalPath text h =
    no_fault_of_sound text
    (subst (λ t. is_empty t ≡ false) (sym h.spelled) (rooted-some h.parts))
    (subst (λ t. begins_at_root t ≡ true) (sym h.spelled) (rooted-at_root h.parts))
    (no_nul text h.no_zero)
    (is_utf8-from_IsUtf8 text h.utf8)

pub named_parts-IsNormalPath : (text : List ℕ) (h : IsNormalPath text) → named_parts text ≡ h.parts
named_parts-IsNormalPath text h =
    ap named_parts h.spelled
    ∙ named_parts-rooted h.parts h.named (All-weaker (λ part. ¬ (Contains part 47)) NoSlash (λ part none. All-from_not_contained part 47 none) h.parts h.no_slash)

-- a normal path begins with a slash, so its first part is empty; the root's one slash stands before an empty part too
pub parts_of-IsNormalPath : (text : List ℕ) (h : IsNormalPath text) → parts_of text ≡ [] ∷ or_nothing h.parts
parts_of-IsNormalPath text h = ap parts_of h.spelled ∙ parts_of-rooted h.parts (All-weaker (λ part. ¬ (Contains part 47)) NoSlash (λ part none. All-from_not_contained part 47 none) h.parts h.no_slash)

pub normal_path-IsNormalPath : (text : List ℕ) → IsNormalPath text → normal_path text ≡ text
normal_path-IsNormalPath text h = ap rooted (named_parts-IsNormalPath text h) ∙ sym h.spelled

pub path_of-IsNormalPath : (text : List ℕ) → IsNormalPath text → path_of text ≡ Ok text
path_of-IsNormalPath text h = ap (λ f. value_unless f (normal_path text)) (path_fault-IsNormalPath text h) ∙ ap Ok (normal_path-IsNormalPath text h)

pub begins_at_root-IsNormalPath : (text : List ℕ) → IsNormalPath text → begins_at_root text ≡ true
begins_at_root-IsNormalPath text h = subst (λ t. begins_at_root t ≡ true) (sym h.spelled) (rooted-at_root h.parts)

begins_some : (text : List ℕ) → begins_at_root text ≡ true → is_empty text ≡ false
begins_some [] h = cc
begins_some (c ∷ text) h = refl

pub path_fault-IsPath : (text : List ℕ) → IsPath text → path_fault text ≡ None
path_fault-IsPath text h = no_fault_of_sound text (begins_some text h.at_root) h.at_root (no_nul text h.no_zero) (is_utf8-from_IsUtf8 text h.utf8)
