-- Values of a list at some places.
use Rattle.std.proofs.Common.{◌≡◌, ◌∙◌, sym, ap, ap₂, refl, ℕ, zero, suc, ◌+◌, ◌<◌, List, [], ◌∷◌, ◌++◌, Some, length, map, take, get_or, slice_get}
use Rattle.std.proofs.lemmas.List.{map-append, take_more}
use Rattle.load_model.proofs.Counts.{slice_get_left}
use Rattle.load_model.specs.Bindings.{offered_by}
use Rattle.load_model.specs.Offers.{Offered}
use Rattle.load_model.specs.declared.faces.Face.{Face}

last_stands : {A : Type 0} (ys : List A) (y : A) → slice_get (ys ++ y ∷ []) (length ys) ≡ Some y
last_stands [] y = refl
last_stands (x ∷ ys) y = last_stands ys y

-- where one more value comes, those at the places stay
pub chosen_stay : {A : Type 0} (ys : List A) (y : A) (places : List ℕ) (chosen : List A) → map (λ v. Some v) chosen ≡ map (slice_get ys) places → map (λ v. Some v) chosen ≡ map (slice_get (ys ++ y ∷ [])) places
chosen_stay ys y [] [] h = refl
chosen_stay ys y [] (c ∷ chosen) h = cc
chosen_stay ys y (p ∷ places) [] h = cc
chosen_stay ys y (p ∷ places) (c ∷ chosen) h =
    let here : Some c ≡ slice_get ys p = cc in
    let rest : map (λ v. Some v) chosen ≡ map (slice_get ys) places = cc in
    ap₂ ◌∷◌ (sym (slice_get_left ys (y ∷ []) p c (sym here))) (chosen_stay ys y places chosen rest)

-- and where it stands at the next place, it is chosen
pub chosen_next : {A : Type 0} (ys : List A) (y : A) (places : List ℕ) (chosen : List A) (next : ℕ) → map (λ v. Some v) chosen ≡ map (slice_get ys) (take next places) → next < length places → get_or places next 0 ≡ length ys → map (λ v. Some v) (chosen ++ y ∷ []) ≡ map (slice_get (ys ++ y ∷ [])) (take (next + 1) places)
chosen_next ys y places chosen next h below at =
    let front : take (next + 1) places ≡ take next places ++ length ys ∷ [] = take_more places next 0 below ∙ ap (λ p. take next places ++ p ∷ []) at in
    map-append (λ v. Some v) chosen (y ∷ [])
    ∙ (ap₂ ◌++◌ (chosen_stay ys y (take next places) chosen h) (ap (λ v. v ∷ []) (sym (last_stands ys y)))
    ∙ (sym (map-append (slice_get (ys ++ y ∷ [])) (take next places) (length ys ∷ [])) ∙ ap (map (slice_get (ys ++ y ∷ []))) (sym front)))

-- the same for what the loop has then
pub chosen_more : {A : Type 0} (ys : List A) (y : A) (places : List ℕ) (chosen chosen_then : List A) (next next_then place : ℕ) → map (λ v. Some v) chosen ≡ map (slice_get ys) (take next places) → next < length places → get_or places next 0 ≡ place → place ≡ length ys → chosen_then ≡ chosen ++ y ∷ [] → next_then ≡ next + 1 → map (λ v. Some v) chosen_then ≡ map (slice_get (ys ++ y ∷ [])) (take next_then places)
chosen_more ys y places chosen chosen_then next next_then place h below at here grown on =
    ap (map (λ v. Some v)) grown ∙ (chosen_next ys y places chosen next h below (at ∙ here) ∙ ap (λ n. map (slice_get (ys ++ y ∷ [])) (take n places)) (sym on))

pub chosen_passed : {A : Type 0} (ys : List A) (y : A) (places : List ℕ) (chosen chosen_then : List A) (next next_then : ℕ) → map (λ v. Some v) chosen ≡ map (slice_get ys) (take next places) → chosen_then ≡ chosen → next_then ≡ next → map (λ v. Some v) chosen_then ≡ map (slice_get (ys ++ y ∷ [])) (take next_then places)
chosen_passed ys y places chosen chosen_then next next_then h same stays =
    ap (map (λ v. Some v)) same ∙ (chosen_stay ys y (take next places) chosen h ∙ ap (λ n. map (slice_get (ys ++ y ∷ [])) (take n places)) (sym stays))

-- what is chosen of faces and of what they offer is of the same files
pub chosen_offers : {T : Type 0} (offered : T → Offered) (faces : List Face) (tables : List T) (places : List ℕ) (kept : List Face) (kept_tables : List T) → map offered tables ≡ map offered_by faces → map (λ v. Some v) kept ≡ map (slice_get faces) places → map (λ v. Some v) kept_tables ≡ map (slice_get tables) places → map offered kept_tables ≡ map offered_by kept
chosen_offers offered faces tables [] [] [] all h k = refl
chosen_offers offered faces tables [] [] (t ∷ ts) all h k = cc
chosen_offers offered faces tables [] (f ∷ fs) ts all h k = cc
chosen_offers offered faces tables (p ∷ places) [] ts all h k = cc
chosen_offers offered faces tables (p ∷ places) (f ∷ fs) [] all h k = cc
chosen_offers offered faces tables (p ∷ places) (f ∷ fs) (t ∷ ts) all h k =
    let face : Some f ≡ slice_get faces p = cc in
    let table : Some t ≡ slice_get tables p = cc in
    let faces_rest : map (λ v. Some v) fs ≡ map (slice_get faces) places = cc in
    let tables_rest : map (λ v. Some v) ts ≡ map (slice_get tables) places = cc in
    ap₂ ◌∷◌ (same_offer offered faces tables p f t all (sym face) (sym table)) (chosen_offers offered faces tables places fs ts all faces_rest tables_rest)
  where
    same_offer : {T : Type 0} (offered : T → Offered) (faces : List Face) (tables : List T) (p : ℕ) (f : Face) (t : T) → map offered tables ≡ map offered_by faces → slice_get faces p ≡ Some f → slice_get tables p ≡ Some t → offered t ≡ offered_by f
    same_offer offered [] tables p f t all h k = cc
    same_offer offered (x ∷ faces) [] p f t all h k = cc
    same_offer offered (x ∷ faces) (y ∷ tables) zero f t all h k =
        let face : x ≡ f = cc in
        let table : y ≡ t = cc in
        let here : offered y ≡ offered_by x = cc in
        ap offered (sym table) ∙ (here ∙ ap offered_by face)
    same_offer offered (x ∷ faces) (y ∷ tables) (suc p) f t all h k =
        let rest : map offered tables ≡ map offered_by faces = cc in
        same_offer offered faces tables p f t rest h k

-- what holds of all faces holds of those that are chosen
pub chosen_known : (P : Face → Type 0) (faces : List Face) (places : List ℕ) (kept : List Face) → ((k : ℕ) (face : Face) → slice_get faces k ≡ Some face → P face) → map (λ v. Some v) kept ≡ map (slice_get faces) places → (k : ℕ) (face : Face) → slice_get kept k ≡ Some face → P face
chosen_known P faces [] [] all h k face g = cc
chosen_known P faces [] (f ∷ kept) all h k face g = cc
chosen_known P faces (p ∷ places) [] all h k face g = cc
chosen_known P faces (p ∷ places) (f ∷ kept) all h zero face g =
    let here : Some f ≡ slice_get faces p = cc in
    all p face (sym here ∙ g)
chosen_known P faces (p ∷ places) (f ∷ kept) all h (suc k) face g =
    let rest : map (λ v. Some v) kept ≡ map (slice_get faces) places = cc in
    chosen_known P faces places kept all rest k face g
