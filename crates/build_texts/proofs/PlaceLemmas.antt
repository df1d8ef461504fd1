-- Load lists and their programs side by side.
use Rattle.std.proofs.Common.{◌≡◌, ◌∙◌, sym, ap, ap₂, refl, ℕ, zero, suc, ◌+◌, ◌<◌, List, [], ◌∷◌, ◌++◌, get_or, length, map, take, zip, arith, add-one}
use Rattle.std.proofs.lemmas.List.{length-map, map-append}
use Rattle.lib_closure.specs.declared.splits.Split.{Split}
use Rattle.load_model.specs.declared.runs.Obj.{Obj}
use Rattle.load_model.specs.declared.runs.Run.{Run}
use Rattle.name_layout.specs.declared.layouts.Layout.{Layout}
use Rattle.build_texts.specs.Places.{library_place, object_places, placed_by}

pub pair_taken : {A B : Type 0} (xs : List A) (ys : List B) (i : ℕ) (x : A) (y : B) → i < length xs → i < length ys → x ≡ get_or xs i x → y ≡ get_or ys i y → zip (take (i + 1) xs) (take (i + 1) ys) ≡ zip (take i xs) (take i ys) ++ (x, y) ∷ []
pair_taken xs ys i x y a b e h = rw add-one (taken xs ys i x y a b e h)
  where
    taken : {A B : Type 0} (xs : List A) (ys : List B) (i : ℕ) (x : A) (y : B) → i < length xs → i < length ys → x ≡ get_or xs i x → y ≡ get_or ys i y → zip (take (suc i) xs) (take (suc i) ys) ≡ zip (take i xs) (take i ys) ++ (x, y) ∷ []
    taken [] ys i x y a b e h = absurd (omega (arith, a))
    taken (v ∷ xs) [] i x y a b e h = absurd (omega (arith, b))
    taken (v ∷ xs) (w ∷ ys) zero x y a b e h =
        let one : v ≡ x = sym e in
        let two : w ≡ y = sym h in
        ap (λ q. (q, w) ∷ []) one ∙ ap (λ q. (x, q) ∷ []) two
    taken (v ∷ xs) (w ∷ ys) (suc i) x y a b e h = ap (λ ps. (v, w) ∷ ps) (taken xs ys i x y (omega (arith, a)) (omega (arith, b)) e h)

-- what is made of one pair more
pub placed_more : {A B C : Type 0} (f : (A × B) → C) (xs : List A) (ys : List B) (i : ℕ) (x : A) (y : B) (sofar more : List C) (made : C) → i < length xs → i < length ys → x ≡ get_or xs i x → y ≡ get_or ys i y → sofar ≡ map f (zip (take i xs) (take i ys)) → more ≡ sofar ++ made ∷ [] → made ≡ f (x, y) → more ≡ map f (zip (take (i + 1) xs) (take (i + 1) ys))
placed_more f xs ys i x y sofar more made a b e h before added is =
    added
    ∙ ap (λ z. sofar ++ z ∷ []) is
    ∙ ap (λ zs. zs ++ f (x, y) ∷ []) before
    ∙ sym (map-append f (zip (take i xs) (take i ys)) ((x, y) ∷ []))
    ∙ sym (ap (map f) (pair_taken xs ys i x y a b e h))

-- each object of a load list has a place
pub places_count : (split : Split) (layout : Layout) (place : List ℕ) (objs : List Obj) → length (object_places split layout place objs) ≡ length objs
unfolding object_places
places_count split layout place [] = refl
places_count split layout place (program ∷ objs) = ap suc (length-map objs (λ (o : Obj). library_place split layout o.id))

pub all_counts : (split : Split) (layout : Layout) (runs : List Run) (programs : List (List ℕ)) → length runs ≡ length programs → map length (map (placed_by split layout) (zip runs programs)) ≡ map (λ (run : Run). length run.objs) runs
all_counts split layout [] programs long = refl
all_counts split layout (run ∷ runs) [] long = absurd (omega (arith, long))
all_counts split layout (run ∷ runs) (place ∷ programs) long =
    ap₂ (λ n ns. n ∷ ns) (places_count split layout place run.objs) (all_counts split layout runs programs (omega (arith, long)))
