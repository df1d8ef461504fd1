-- Runs whose objects have faces at the places 0, 1, 2 and so on, over a table with these faces alone.
use Rattle.std.proofs.Common.{◌≡◌, ◌∙◌, sym, ap, ap₂, refl, ℕ, zero, suc, ◌+◌, List, [], ◌∷◌, ◌++◌, Option, Some, None, length, map, slice_get, option_map, arith, subst, length-append}
use Rattle.std.proofs.lemmas.List.{length-map}
use Rattle.std.proofs.lemmas.Option.{slice_get-map}
use Rattle.std.specs.List.{AllZip, range_with_len}
use Rattle.std.specs.Option.{option_and_then}
use Rattle.load_model.proofs.Counts.{slice_get_left}
use Rattle.load_model.specs.LoadList.{up_to}
use Rattle.load_model.specs.declared.faces.Face.{Face}
use Rattle.load_model.specs.declared.runs.Obj.{Obj}
use Rattle.load_model.specs.declared.runs.Run.{Run}
use Rattle.build_runs.specs.BuildRuns.{face_places, places_in}
use Rattle.build_runs.specs.Ordering.{ArePutInOrder, IsSameRun, numbered, numbered_objs, with_face, with_numbered_objs}

range_append : (n a b : ℕ) → range_with_len n (a + b) ≡ range_with_len n a ++ range_with_len (n + a) b
range_append n zero b = ap₂ range_with_len (let e : n ≡ n + 0 = omega arith in e) (let e : 0 + b ≡ b = omega arith in e)
range_append n (suc a) b =
    let count : suc a + b ≡ suc (a + b) = omega arith in
    let start : (n + 1) + a ≡ n + suc a = omega arith in
    ap (range_with_len n) count ∙ ap (λ l. n ∷ l) (range_append (n + 1) a b ∙ ap (λ m. range_with_len (n + 1) a ++ range_with_len m b) start)

pub numbers_range : (n : ℕ) → up_to n ≡ range_with_len 0 n
unfolding up_to
numbers_range zero = refl
numbers_range (suc n) =
    let count : n + 1 ≡ suc n = omega arith in
    let start : 0 + n ≡ n = omega arith in
    ap (λ l. l ++ n ∷ []) (numbers_range n) ∙ (ap (λ m. range_with_len 0 n ++ m ∷ []) (sym start) ∙ (sym (range_append 0 n 1) ∙ ap (range_with_len 0) count))

places_from : (n : ℕ) (xs : List Obj) → places_in (numbered_objs n xs) ≡ range_with_len n (length xs)
unfolding numbered_objs
places_from n [] = refl
places_from n (x ∷ xs) = ap (λ l. n ∷ l) (places_from (n + 1) xs)

length_places : (xs : List Obj) → length (places_in xs) ≡ length xs
length_places xs = length-map xs (λ (x : Obj). x.face)

all_places_from : (n : ℕ) (runs : List Run) → face_places (numbered n runs) ≡ range_with_len n (length (face_places runs))
unfolding numbered
all_places_from n [] = refl
all_places_from n (run ∷ runs) =
    let count : length (places_in run.objs ++ face_places runs) ≡ length run.objs + length (face_places runs) = length-append (places_in run.objs) (face_places runs) ∙ ap (λ k. k + length (face_places runs)) (length_places run.objs) in
    ap₂ ◌++◌ (places_from n run.objs) (all_places_from (n + length run.objs) runs) ∙ (sym (range_append n (length run.objs) (length (face_places runs))) ∙ ap (range_with_len n) (sym count))

-- one run more, behind the others
numbered_push : (n : ℕ) (runs : List Run) (run : Run) → numbered n (runs ++ run ∷ []) ≡ numbered n runs ++ with_numbered_objs (n + length (face_places runs)) run ∷ []
unfolding numbered
numbered_push n [] run = ap (λ p. with_numbered_objs p run ∷ []) (let e : n ≡ n + 0 = omega arith in e)
numbered_push n (r ∷ runs) run =
    let place : (n + length r.objs) + length (face_places runs) ≡ n + length (places_in r.objs ++ face_places runs) = omega (arith, length-append (places_in r.objs) (face_places runs), length_places r.objs) in
    ap (λ l. with_numbered_objs n r ∷ l) (numbered_push (n + length r.objs) runs run ∙ ap (λ p. numbered (n + length r.objs) runs ++ with_numbered_objs p run ∷ []) place)

pub places_push : (runs : List Run) (run : Run) → length (face_places (runs ++ run ∷ [])) ≡ length (face_places runs) + length run.objs
places_push [] run = omega (arith, length-append (places_in run.objs) [], length_places run.objs)
places_push (r ∷ runs) run = omega (arith, length-append (places_in r.objs) (face_places (runs ++ run ∷ [])), length-append (places_in r.objs) (face_places runs), places_push runs run)

pub none_numbered : [] ≡ numbered 0 []
unfolding numbered
none_numbered = refl

pub one_more_numbered : (runs : List Run) (run new : Run) (all after : List Run) (place : ℕ) → all ≡ numbered 0 runs → place ≡ length (face_places runs) → new ≡ with_numbered_objs place run → after ≡ all ++ new ∷ [] → after ≡ numbered 0 (runs ++ run ∷ [])
one_more_numbered runs run new all after place are at is grown =
    let start : place ≡ 0 + length (face_places runs) = omega (arith, at) in
    grown ∙ (ap₂ (λ (l : List Run) (n : Run). l ++ n ∷ []) are (is ∙ ap (λ p. with_numbered_objs p run) start) ∙ sym (numbered_push 0 runs run))

-- an object of the numbered ones
numbered_at : (n : ℕ) (xs : List Obj) (j : ℕ) → slice_get (numbered_objs n xs) j ≡ option_map (λ x. with_face x (n + j)) (slice_get xs j)
unfolding numbered_objs
numbered_at n [] j = refl
numbered_at n (x ∷ xs) zero = ap (λ p. Some (with_face x p)) (let e : n ≡ n + 0 = omega arith in e)
numbered_at n (x ∷ xs) (suc j) =
    let up : (n + 1) + j ≡ n + suc j = omega arith in
    numbered_at (n + 1) xs j ∙ ap (λ p. option_map (λ x. with_face x p) (slice_get xs j)) up

same_objs : (n : ℕ) (xs : List Obj) → map (λ x. with_face x 0) (numbered_objs n xs) ≡ map (λ x. with_face x 0) xs
unfolding numbered_objs
same_objs n [] = refl
same_objs n (x ∷ xs) = ap (λ l. with_face x 0 ∷ l) (same_objs (n + 1) xs)

-- from the place n on the kept table has the faces at these places of the other
abbrev HasFacesFrom : List Face → List Face → ℕ → List ℕ → Type 0
HasFacesFrom faces kept n places = (i p : ℕ) → slice_get places i ≡ Some p → slice_get kept (n + i) ≡ slice_get faces p

chosen : (found : Option Face) (face : Option Face) → option_map (λ (f : Face). Some f) found ≡ Some face → found ≡ face
chosen None face h = cc
chosen (Some f) face h = cc

pub has_faces : (faces kept : List Face) (places : List ℕ) → map (λ face. Some face) kept ≡ map (slice_get faces) places → HasFacesFrom faces kept 0 places
has_faces faces kept places h i p g =
    let start : 0 + i ≡ i = omega arith in
    let there : option_map (λ (f : Face). Some f) (slice_get kept i) ≡ Some (slice_get faces p) = sym (slice_get-map (λ (f : Face). Some f) kept i) ∙ ap (λ xs. slice_get xs i) h ∙ slice_get-map (slice_get faces) places i ∙ ap (option_map (slice_get faces)) g in
    ap (slice_get kept) start ∙ chosen (slice_get kept i) (slice_get faces p) there

behind : (xs ys : List ℕ) (i : ℕ) → slice_get (xs ++ ys) (length xs + i) ≡ slice_get ys i
behind [] ys i = ap (slice_get ys) (let e : 0 + i ≡ i = omega arith in e)
behind (x ∷ xs) ys i = let e : suc (length xs) + i ≡ suc (length xs + i) = omega arith in ap (slice_get (x ∷ (xs ++ ys))) e ∙ behind xs ys i

module _ (faces kept : List Face) where
  face_by : (n : ℕ) (j : ℕ) (xs : List Obj) (found : Option Obj) → slice_get xs j ≡ found → HasFacesFrom faces kept n (places_in xs) → option_and_then (λ (o : Obj). slice_get kept o.face) (option_map (λ x. with_face x (n + j)) found) ≡ option_and_then (λ (o : Obj). slice_get faces o.face) found
  face_by n j xs None g has = refl
  face_by n j xs (Some x) g has = has j x.face (slice_get-map (λ (x : Obj). x.face) xs j ∙ ap (option_map (λ (x : Obj). x.face)) g)

  same_numbered : (n : ℕ) (run : Run) → HasFacesFrom faces kept n (places_in run.objs) → IsSameRun faces kept run (with_numbered_objs n run)
  same_numbered n run has = record {
    faces_same = λ j. ap (option_and_then (λ (o : Obj). slice_get kept o.face)) (numbered_at n run.objs j) ∙ face_by n j run.objs (slice_get run.objs j) refl has;
    objs = same_objs n run.objs;
    rest = refl;
  }

  all_same : (n : ℕ) (runs : List Run) → HasFacesFrom faces kept n (face_places runs) → AllZip (IsSameRun faces kept) runs (numbered n runs)
  unfolding numbered
  all_same n [] has = tt
  all_same n (run ∷ runs) has =
      let front : HasFacesFrom faces kept n (places_in run.objs) = λ i p g. has i p (slice_get_left (places_in run.objs) (face_places runs) i p g) in
      let later : HasFacesFrom faces kept (n + length run.objs) (face_places runs) = λ i p g. (let at : (n + length run.objs) + i ≡ n + (length (places_in run.objs) + i) = omega (arith, length_places run.objs) in ap (slice_get kept) at ∙ has (length (places_in run.objs) + i) p (behind (places_in run.objs) (face_places runs) i ∙ g)) in
      (same_numbered n run front, all_same (n + length run.objs) runs later)

  pub put_in_order : (runs new : List Run) (places : List ℕ) → places ≡ face_places runs → map (λ face. Some face) kept ≡ map (slice_get faces) places → new ≡ numbered 0 runs → ArePutInOrder faces runs kept new
  put_in_order runs new places are h e =
      let has : HasFacesFrom faces kept 0 (face_places runs) = has_faces faces kept (face_places runs) (h ∙ ap (map (slice_get faces)) are) in
      let count : length (face_places runs) ≡ length kept = ap length (sym are) ∙ (sym (length-map places (slice_get faces)) ∙ (ap length (sym h) ∙ length-map kept (λ (f : Face). Some f))) in
      let order : face_places (numbered 0 runs) ≡ up_to (length kept) = all_places_from 0 runs ∙ (ap (range_with_len 0) count ∙ sym (numbers_range (length kept))) in
      subst (λ (rs : List Run). ArePutInOrder faces runs kept rs) (sym e) (record { same = all_same 0 runs has; in_order = order })
