-- The folders that a path lies in, by its slashes.
use Rattle.std.proofs.Common.{◌≡◌, ◌≢◌, ◌<◌, ◌≤◌, ◌+◌, ℕ, Bool, true, false, ◌||◌, ◌&&◌, ◌⊎◌, inl, inr, List, [], ◌∷◌, ◌++◌, bytes_eq, get_or, length, take, drop, nat_lt, nat_eq, refl, ap, sym, ◌∙◌, subst, arith, add-one, append_assoc, length-append, length-drop, not, ◌==◌, ◌-◌}
use Rattle.std.specs.List.{list_any, starts_with}
use Rattle.std.proofs.Math.Seq.{take-append_seam, take-length, take-suc}
use Rattle.std.proofs.lemmas.Bool.{ltb-false, ltb-true, lt-ltb}
use Rattle.std.proofs.lemmas.Bool.Decides.{Decides-eqb}
use Rattle.std.proofs.lemmas.List.{length-take-le, take-append-drop}
use Rattle.std.proofs.lemmas.Slice.Eq.{starts_is}
use Rattle.indexmap.specs.IndexSet.{insert_key}
use Rattle.appdir_files.specs.Listing.{is_folder_of, is_in_lib, lib_front}
use Rattle.appdir_files.proofs.TestLemmas.{Passing, and_both, and_parts, both_true, is_same, joined_any, not_both, or_assoc, or_cases, or_left, or_right, passing, same_text}

seam_slash : (folder rest : List ℕ) → get_or ((folder ++ 47 ∷ []) ++ rest) (length folder) 0 ≡ 47
seam_slash [] rest = refl
seam_slash (c ∷ folder) rest = seam_slash folder rest

-- a folder of a path ends before a slash of it
pub record EndsAtSlash (folder path : List ℕ) : Type 0 where
  pub within : length folder < length path
  pub slash : get_or path (length folder) 0 ≡ 47
  pub front : take (length folder) path ≡ folder

ends_of : (folder path rest : List ℕ) → path ≡ (folder ++ 47 ∷ []) ++ rest → EndsAtSlash folder path
ends_of folder path rest e = record {
  within =
      let long : length path ≡ length (folder ++ 47 ∷ []) + length rest = ap length e ∙ length-append (folder ++ 47 ∷ []) rest in
      let mid : length (folder ++ 47 ∷ []) ≡ length folder + 1 = length-append folder (47 ∷ []) in
      omega (arith, long, mid);
  slash = ap (λ p. get_or p (length folder) 0) e ∙ seam_slash folder rest;
  front = ap (take (length folder)) (e ∙ append_assoc folder (47 ∷ []) rest) ∙ take-append_seam folder ((47 ∷ []) ++ rest);
}

pub ends_at_slash : (folder path : List ℕ) → is_folder_of folder path ≡ true → EndsAtSlash folder path
ends_at_slash folder path h =
    ends_of folder path (drop (length (folder ++ 47 ∷ [])) path) ((starts_is {E = nat_eq} Decides-eqb path (folder ++ 47 ∷ []) (is_folder_of folder path) refl).0 h)

-- what stands before a slash of a path is a folder of it
pub slash_ends : (path : List ℕ) (at : ℕ) → at < length path → get_or path at 0 ≡ 47 → is_folder_of (take at path) path ≡ true
slash_ends path at less slash =
    let next : take (at + 1) path ≡ take at path ++ 47 ∷ [] = ap (λ k. take k path) (add-one at) ∙ (take-suc path at 0 less ∙ ap (λ c. take at path ++ c ∷ []) slash) in
    let whole : path ≡ (take at path ++ 47 ∷ []) ++ drop (at + 1) path = sym (take-append-drop (at + 1) path) ∙ ap (λ l. l ++ drop (at + 1) path) next in
    (starts_is {E = nat_eq} Decides-eqb path (take at path ++ 47 ∷ []) (is_folder_of (take at path) path) refl).1 (drop (at + 1) path) whole

-- a folder of the path that ends before this place
pub folder_within : ℕ → List ℕ → List ℕ → Bool
folder_within at folder path = nat_lt (length folder) at && is_folder_of folder path

pub within_none : (folder path : List ℕ) → folder_within 0 folder path ≡ false
unfolding folder_within
within_none folder path = both_true (nat_lt (length folder) 0 && is_folder_of folder path) false
    (λ h. absurd (let less : length folder < 0 = ltb-true (length folder) 0 (and_parts (nat_lt (length folder) 0) (is_folder_of folder path) h).0 in omega (arith, less)))
    (λ h. absurd (cc))

pub within_all : (at : ℕ) (folder path : List ℕ) → length path ≤ at → folder_within at folder path ≡ is_folder_of folder path
unfolding folder_within
within_all at folder path past = both_true (nat_lt (length folder) at && is_folder_of folder path) (is_folder_of folder path)
    (λ h. (and_parts (nat_lt (length folder) at) (is_folder_of folder path) h).1)
    (λ h.
    let ends : EndsAtSlash folder path = ends_at_slash folder path h in
    let less : length folder < at = omega (arith, ends.within, past) in
    and_both (nat_lt (length folder) at) (is_folder_of folder path) (lt-ltb (length folder) at less) h)

-- a later place has those folders too
within_later : (at : ℕ) (folder path : List ℕ) → folder_within at folder path ≡ true → folder_within (at + 1) folder path ≡ true
unfolding folder_within
within_later at folder path h =
    let parts = and_parts (nat_lt (length folder) at) (is_folder_of folder path) h in
    let less : length folder < at + 1 = (let was : length folder < at = ltb-true (length folder) at parts.0 in omega (arith, was)) in
    and_both (nat_lt (length folder) (at + 1)) (is_folder_of folder path) (lt-ltb (length folder) (at + 1) less) parts.1

-- one of a later place ended before, or ends here
within_cases : (at : ℕ) (folder path : List ℕ) → folder_within (at + 1) folder path ≡ true → (folder_within at folder path ≡ true) ⊎ ((get_or path at 0 ≡ 47) × (folder ≡ take at path))
unfolding folder_within
within_cases at folder path h =
    let parts = and_parts (nat_lt (length folder) (at + 1)) (is_folder_of folder path) h in
    let less : length folder < at + 1 = ltb-true (length folder) (at + 1) parts.0 in
    let ends : EndsAtSlash folder path = ends_at_slash folder path parts.1 in
    elim (nat_lt (length folder) at) as (λ b. nat_lt (length folder) at ≡ b → (folder_within at folder path ≡ true) ⊎ ((get_or path at 0 ≡ 47) × (folder ≡ take at path))) [
      | true ↦ λ e. inl (and_both (nat_lt (length folder) at) (is_folder_of folder path) e parts.1)
      | false ↦ λ e. (let same : length folder ≡ at = (let past : at ≤ length folder = ltb-false (length folder) at e in omega (arith, past, less)) in inr (ap (λ k. get_or path k 0) (sym same) ∙ ends.slash, sym ends.front ∙ ap (λ k. take k path) same))
    ] refl

here_ends : (at : ℕ) (folder path : List ℕ) → at < length path → get_or path at 0 ≡ 47 → take at path ≡ folder → folder_within (at + 1) folder path ≡ true
unfolding folder_within
here_ends at folder path less slash same =
    let size : length folder ≡ at = ap length (sym same) ∙ length-take-le at path (omega (arith, less)) in
    let short : length folder < at + 1 = omega (arith, size) in
    and_both (nat_lt (length folder) (at + 1)) (is_folder_of folder path) (lt-ltb (length folder) (at + 1) short) (subst (λ (f : List ℕ). is_folder_of f path ≡ true) same (slash_ends path at less slash))

-- a slash ends one folder more
pub within_slash : (at : ℕ) (folder path : List ℕ) → at < length path → get_or path at 0 ≡ 47 → (folder_within at folder path || bytes_eq (take at path) folder) ≡ folder_within (at + 1) folder path
within_slash at folder path less slash = both_true (folder_within at folder path || bytes_eq (take at path) folder) (folder_within (at + 1) folder path)
    (λ h. elim (or_cases (folder_within at folder path) (bytes_eq (take at path) folder) h) [
      | inl e ↦ within_later at folder path e
      | inr e ↦ here_ends at folder path less slash (same_text (take at path) folder e)
    ])
    (λ h. elim (within_cases at folder path h) [
      | inl e ↦ or_left (folder_within at folder path) (bytes_eq (take at path) folder) e
      | inr e ↦ or_right (folder_within at folder path) (bytes_eq (take at path) folder) (is_same (take at path) folder (sym e.1))
    ])

-- any other byte ends none
pub within_other : (at : ℕ) (folder path : List ℕ) → get_or path at 0 ≢ 47 → folder_within at folder path ≡ folder_within (at + 1) folder path
within_other at folder path other = both_true (folder_within at folder path) (folder_within (at + 1) folder path)
    (λ h. within_later at folder path h)
    (λ h. elim (within_cases at folder path h) [
      | inl e ↦ e
      | inr e ↦ absurd (other e.0)
    ])

-- where the folder that ends at a slash is in a list, the list has a folder of the path
pub folder_there : (path : List ℕ) (at : ℕ) (paths : List (List ℕ)) → at < length path → get_or path at 0 ≡ 47 → list_any (bytes_eq (take at path)) paths ≡ true → list_any (λ folder. is_folder_of folder path) paths ≡ true
folder_there path at paths less slash h =
    let one : Passing (bytes_eq (take at path)) paths = passing (bytes_eq (take at path)) paths h in
    one.there (λ folder. is_folder_of folder path) (subst (λ (f : List ℕ). is_folder_of f path ≡ true) (same_text (take at path) one.it one.passes) (slash_ends path at less slash))

-- where no folder that ends at a slash is in a list, the list has no folder of the path
pub no_folder_there : (path : List ℕ) (paths : List (List ℕ)) → ((k : ℕ) → k < length path → get_or path k 0 ≡ 47 → list_any (bytes_eq (take k path)) paths ≡ false) → list_any (λ folder. is_folder_of folder path) paths ≡ false
no_folder_there path paths none = both_true (list_any (λ folder. is_folder_of folder path) paths) false
    (λ h. absurd (
    let one : Passing (λ (folder : List ℕ). is_folder_of folder path) paths = passing (λ (folder : List ℕ). is_folder_of folder path) paths h in
    let ends : EndsAtSlash one.it path = ends_at_slash one.it path one.passes in
    let there : list_any (bytes_eq (take (length one.it) path)) paths ≡ true = one.there (bytes_eq (take (length one.it) path)) (is_same (take (length one.it) path) one.it ends.front) in
    not_both (list_any (bytes_eq (take (length one.it) path)) paths) there (none (length one.it) ends.within ends.slash)))
    (λ h. absurd (cc))

-- the folders so far, and one more
pub folders_more : (path : List ℕ) (at : ℕ) (first was now : List (List ℕ)) → at < length path → get_or path at 0 ≡ 47 → ((folder : List ℕ) → list_any (bytes_eq folder) was ≡ (list_any (bytes_eq folder) first || folder_within at folder path)) → now ≡ insert_key bytes_eq was (take at path) → (folder : List ℕ) → list_any (bytes_eq folder) now ≡ (list_any (bytes_eq folder) first || folder_within (at + 1) folder path)
folders_more path at first was now less slash has e folder =
    ap (list_any (bytes_eq folder)) e
    ∙ (joined_any folder (take at path) was
    ∙ (ap (λ b. b || bytes_eq (take at path) folder) (has folder)
    ∙ (or_assoc (list_any (bytes_eq folder) first) (folder_within at folder path) (bytes_eq (take at path) folder)
    ∙ ap (λ b. list_any (bytes_eq folder) first || b) (within_slash at folder path less slash))))

-- a target in the folder of libraries, by what stands behind the folder
pub lib_name : (path : List ℕ) (slash : Bool) → starts_with nat_eq path lib_front ≡ true → slash ≡ list_any (λ c. c == 47) (take (length path - 8) (drop 8 path)) → not slash ≡ is_in_lib path
lib_name path slash begins e =
    let rest : take (length path - 8) (drop 8 path) ≡ drop 8 path = (let size : length (drop 8 path) ≡ length path - 8 = length-drop 8 path in ap (λ k. take k (drop 8 path)) (sym size) ∙ take-length (drop 8 path)) in
    ap not (e ∙ ap (list_any (λ c. c == 47)) rest)
    ∙ sym (ap (λ b. b && not (list_any (λ c. c == 47) (drop 8 path))) begins)
