-- A world with one file more.
use Rattle.std.proofs.Common.{ℕ, zero, suc, List, [], ◌∷◌, ◌++◌, ◌≡◌, ◌⊎◌, inl, inr, Bool, true, false, not, ◌||◌, ◌&&◌, length, refl, ap, sym, ◌∙◌, subst, Result, Ok, Err, OnOk, OnErr, Some, slice_get, bytes_eq}
use Rattle.std.specs.List.{list_any}
use Rattle.std.proofs.lemmas.List.Elements.{All-append, All-cons, All-nil}
use Rattle.std.proofs.lemmas.Slice.Eq.{bytes_eq-Decides}
use Rattle.path_text.specs.Path.{path_of}
use Rattle.load_model.specs.World.{World}
use Rattle.load_model.specs.declared.world.WorldFile.{WorldFile}
use Rattle.ports.specs.MemTree.{IsStored, clashes, is_taken}

or_left : (a b : Bool) → (a || b) ≡ false → a ≡ false
or_left false b h = refl
or_left true b h = h

or_right : (a b : Bool) → (a || b) ≡ false → b ≡ false
or_right false b h = h
or_right true b h = cc

and_not : (a b : Bool) → (a && not b) ≡ false → a ≡ true → b ≡ true
and_not true true h e = refl
and_not true false h e = cc
and_not false b h e = cc

-- what no element passes, the element at a place does not pass
none_at : {A : Type 0} (p : A → Bool) (xs : List A) (i : ℕ) (x : A) → list_any p xs ≡ false → slice_get xs i ≡ Some x → p x ≡ false
none_at p [] i x none at = cc
none_at p (y ∷ ys) zero x none at =
    let same : y ≡ x = cc in subst (λ z. p z ≡ false) same (or_left (p y) (list_any p ys) none)
none_at p (y ∷ ys) (suc i) x none at = none_at p ys i x (or_right (p y) (list_any p ys) none) at

-- a place of a list with one element more is one of the list, or the last
slice_get-push : {A : Type 0} (xs : List A) (y : A) (i : ℕ) (x : A) → slice_get (xs ++ y ∷ []) i ≡ Some x → (slice_get xs i ≡ Some x) ⊎ ((i ≡ length xs) × (x ≡ y))
slice_get-push [] y zero x at = let same : x ≡ y = cc in inr (refl, same)
slice_get-push [] y (suc i) x at = cc
slice_get-push (z ∷ zs) y zero x at = inl at
slice_get-push (z ∷ zs) y (suc i) x at =
    elim (slice_get-push zs y i x at) [ inl h ↦ inl h | inr h ↦ inr (ap suc h.0, h.1) ]

no_path : (file other : WorldFile) → clashes file.path file.id file.bytes other ≡ false → other.path ≡ file.path → ⊥
no_path file other free same =
    let found : bytes_eq other.path file.path ≡ true = (bytes_eq-Decides other.path file.path).1 same in
    let lost : bytes_eq other.path file.path ≡ false = or_left _ _ free in
    cc

same_bytes : (file other : WorldFile) → clashes file.path file.id file.bytes other ≡ false → other.id ≡ file.id → other.bytes ≡ file.bytes
same_bytes file other free same =
    let found : bytes_eq other.id file.id ≡ true = (bytes_eq-Decides other.id file.id).1 same in
    (bytes_eq-Decides other.bytes file.bytes).0 (and_not _ _ (or_right _ _ free) found)

module _ (world : World) (file : WorldFile) (was : IsStored world) (free : is_taken world file.path file.id file.bytes ≡ false) where
  distinct_push : (i j : ℕ) (f g : WorldFile) → slice_get (world ++ file ∷ []) i ≡ Some f → slice_get (world ++ file ∷ []) j ≡ Some g → f.path ≡ g.path → i ≡ j
  distinct_push i j f g at_i at_j same =
      elim (slice_get-push world file i f at_i) [
        | inl old_i ↦ elim (slice_get-push world file j g at_j) [
          | inl old_j ↦ was.distinct i j f g old_i old_j same
          | inr new_j ↦ absurd (no_path file f (none_at (clashes file.path file.id file.bytes) world i f free old_i) (same ∙ ap (λ h. h.path) new_j.1))
        ]
        | inr new_i ↦ elim (slice_get-push world file j g at_j) [
          | inl old_j ↦ absurd (no_path file g (none_at (clashes file.path file.id file.bytes) world j g free old_j) (sym same ∙ ap (λ h. h.path) new_i.1))
          | inr new_j ↦ new_i.0 ∙ sym new_j.0
        ]
      ]

  same_bytes_push : (i j : ℕ) (f g : WorldFile) → slice_get (world ++ file ∷ []) i ≡ Some f → slice_get (world ++ file ∷ []) j ≡ Some g → f.id ≡ g.id → f.bytes ≡ g.bytes
  same_bytes_push i j f g at_i at_j same =
      elim (slice_get-push world file i f at_i) [
        | inl old_i ↦ elim (slice_get-push world file j g at_j) [
          | inl old_j ↦ was.same_bytes i j f g old_i old_j same
          | inr new_j ↦ same_bytes file f (none_at (clashes file.path file.id file.bytes) world i f free old_i) (same ∙ ap (λ h. h.id) new_j.1) ∙ sym (ap (λ h. h.bytes) new_j.1)
        ]
        | inr new_i ↦ elim (slice_get-push world file j g at_j) [
          | inl old_j ↦ ap (λ h. h.bytes) new_i.1 ∙ sym (same_bytes file g (none_at (clashes file.path file.id file.bytes) world j g free old_j) (sym same ∙ ap (λ h. h.id) new_i.1))
          | inr new_j ↦ ap (λ h. h.bytes) (new_i.1 ∙ sym new_j.1)
        ]
      ]

  -- a world stays one with a file whose path is free, and whose identity has no other bytes
  pub IsStored-push : path_of file.path ≡ Ok file.path → IsStored (world ++ file ∷ [])
  IsStored-push normal = record {
    paths = All-append (λ f. path_of f.path ≡ Ok f.path) world (file ∷ []) was.paths (All-cons (λ f. path_of f.path ≡ Ok f.path) file [] normal (All-nil (λ f. path_of f.path ≡ Ok f.path)));
    distinct = distinct_push;
    same_bytes = same_bytes_push;
  }

-- a world that took a file or stayed as it was
pub stored_either : {A E : Type 0} (result : Result A E) (before after now : World) → OnOk result (now ≡ after) → OnErr result (now ≡ before) → IsStored before → IsStored after → IsStored now
stored_either (Ok value) before after now took stayed was is = subst IsStored (sym took) is
stored_either (Err error) before after now took stayed was is = subst IsStored (sym stayed) was
