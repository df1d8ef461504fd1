-- Faces of files for a machine, with one more, and those of them that are chosen.
use Rattle.std.proofs.Common.{◌≡◌, ◌∙◌, ap, ap₂, sym, refl, ℕ, zero, suc, ◌+◌, ◌-◌, ◌<◌, ◌≤◌, ◌^◌, List, [], ◌∷◌, ◌++◌, Some, All, length, length-append, map, slice_get, subst, take, arith}
use Rattle.std.proofs.Math.Seq.{take-append_seam}
use Rattle.std.proofs.lemmas.List.{map-append}
use Rattle.std.proofs.lemmas.List.Elements.{All-append}
use Rattle.std.proofs.lemmas.Option.{get_or_from_slice_get, slice_get-get_or, slice_get_within}
use Rattle.load_model.specs.Bindings.{offered_by}
use Rattle.load_model.specs.Offers.{Offered}
use Rattle.load_model.specs.declared.faces.Face.{Face}
use Rattle.tree_opener.proofs.SelectedLemmas.{chosen_known, chosen_offers}
use Rattle.tree_opener.specs.MachineFaces.{AreFacesFor}
use Rattle.tree_opener.specs.Names.{IsFaceFor}

all_at : {X : Type 0} (P : X → Type 0) (xs : List X) (i : ℕ) (x : X) → All P xs → slice_get xs i ≡ Some x → P x
all_at P xs i x all g = subst P (get_or_from_slice_get xs i x x g) (all i x (slice_get_within xs i x g))

all_from : {X : Type 0} (P : X → Type 0) (xs : List X) → ((i : ℕ) (x : X) → slice_get xs i ≡ Some x → P x) → All P xs
all_from P xs h = λ k d below. h k _ (slice_get-get_or xs k d below)

alone : {X : Type 0} (P : X → Type 0) (x : X) → P x → (i : ℕ) (y : X) → slice_get (x ∷ []) i ≡ Some y → P y
alone P x one zero y g = subst P (let e : x ≡ y = cc in e) one
alone P x one (suc i) y g = cc

pub one_more : (machine : ℕ) (faces : List Face) (offers : List Offered) (face : Face) (offer : Offered) → AreFacesFor machine faces offers → IsFaceFor machine face → offer ≡ offered_by face → length faces + 1 < 2 ^ 32 → AreFacesFor machine (faces ++ face ∷ []) (offers ++ offer ∷ [])
one_more machine faces offers face offer are known same few = record {
  known = All-append (IsFaceFor machine) faces (face ∷ []) are.known (all_from (IsFaceFor machine) (face ∷ []) (alone (IsFaceFor machine) face known));
  count = omega (arith, few, length-append faces (face ∷ []));
  tables = ap₂ (λ l o. l ++ o ∷ []) are.tables same ∙ sym (map-append offered_by faces (face ∷ []));
}

pub chosen_faces : {T : Type 0} (machine : ℕ) (offered : T → Offered) (faces kept : List Face) (tables kept_tables : List T) (places : List ℕ) → AreFacesFor machine faces (map offered tables) → length kept ≤ length faces → map (λ v. Some v) kept ≡ map (slice_get faces) places → map (λ v. Some v) kept_tables ≡ map (slice_get tables) places → AreFacesFor machine kept (map offered kept_tables)
chosen_faces machine offered faces kept tables kept_tables places are fewer h k = record {
  known = all_from (IsFaceFor machine) kept (chosen_known (IsFaceFor machine) faces places kept (λ i face g. all_at (IsFaceFor machine) faces i face are.known g) h);
  count = omega (arith, are.count, fewer);
  tables = chosen_offers offered faces tables places kept kept_tables are.tables h k;
}

pub no_faces : (machine : ℕ) → AreFacesFor machine [] []
no_faces machine = record { known = all_from (IsFaceFor machine) [] (λ i face g. cc); count = omega arith; tables = refl }

-- the same of tables of faces: one more of each
pub face_kept : {T : Type 0} (machine : ℕ) (offered : T → Offered) (faces after : List Face) (tables tables_after : List T) (face kept : Face) (table : T) → AreFacesFor machine faces (map offered tables) → IsFaceFor machine face → kept ≡ face → offered table ≡ offered_by face → length faces + 1 < 2 ^ 32 → after ≡ faces ++ kept ∷ [] → tables_after ≡ tables ++ table ∷ [] → AreFacesFor machine after (map offered tables_after)
face_kept machine offered faces after tables tables_after face kept table are known same offers few grown tables_grown =
    let new_faces : after ≡ faces ++ face ∷ [] = grown ∙ ap (λ f. faces ++ f ∷ []) same in
    let new_tables : map offered tables_after ≡ map offered tables ++ offered table ∷ [] = ap (map offered) tables_grown ∙ map-append offered tables (table ∷ []) in
    subst (λ fs. AreFacesFor machine fs (map offered tables_after)) (sym new_faces)
    (subst (λ os. AreFacesFor machine (faces ++ face ∷ []) os) (sym new_tables) (one_more machine faces (map offered tables) face (offered table) are known offers few))

-- a table that was added and taken back
pub taken_back : {T : Type 0} (before added after : List T) (table : T) (count : ℕ) → added ≡ before ++ table ∷ [] → count ≡ length added → after ≡ take (count - 1) added → after ≡ before
taken_back before added after table count grown counted taken =
    let more : length added ≡ length before + 1 = ap length grown ∙ length-append before (table ∷ []) in
    let left : count - 1 ≡ length before = omega (arith, counted, more) in
    taken ∙ (ap (λ n. take n added) left ∙ (ap (take (length before)) grown ∙ take-append_seam before (table ∷ [])))

pub face_refused : {T : Type 0} (machine : ℕ) (offered : T → Offered) (faces after : List Face) (tables tables_after : List T) → AreFacesFor machine faces (map offered tables) → after ≡ faces → tables_after ≡ tables → AreFacesFor machine after (map offered tables_after)
face_refused machine offered faces after tables tables_after are same tables_same =
    subst (λ fs. AreFacesFor machine fs (map offered tables_after)) (sym same) (subst (λ ts. AreFacesFor machine faces (map offered ts)) (sym tables_same) are)
