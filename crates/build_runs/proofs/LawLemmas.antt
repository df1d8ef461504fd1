-- At most one build has runs in a world, and one that has runs has no stop.
use Rattle.std.proofs.Common.{◌≡◌, ◌∙◌, sym, ap, ap₂, refl, ℕ, zero, suc, ◌+◌, ◌<◌, List, [], ◌∷◌, ◌++◌, Some, None, length, map, slice_get, arith, subst, inl, inr, length-append}
use Rattle.std.proofs.lemmas.List.{length-map}
use Rattle.std.proofs.lemmas.List.FromFn.{length-range_with_len}
use Rattle.std.proofs.lemmas.Option.{slice_get_within}
use Rattle.std.specs.List.{AllZip, range_with_len}
use Rattle.std.specs.Option.{option_and_then}
use Rattle.load_model.proofs.LoadLists.{at_most_one, list_or_stop}
use Rattle.load_model.proofs.Locals.{one_local}
use Rattle.load_model.specs.Faces.{face_or_flaw}
use Rattle.load_model.specs.LoadList.{Loaded, Object, up_to}
use Rattle.load_model.specs.Runs.{IsRunOf}
use Rattle.load_model.specs.World.{World}
use Rattle.load_model.specs.declared.faces.Face.{Face}
use Rattle.load_model.specs.declared.refusals.LoadRefusal.{LoadRefusal}
use Rattle.load_model.specs.declared.runs.Obj.{Obj}
use Rattle.load_model.specs.declared.runs.Run.{Run}
use Rattle.load_model.specs.declared.setting.Setting.{Setting}
use Rattle.build_runs.proofs.OrderLemmas.{numbers_range}
use Rattle.build_runs.proofs.SameRunLemmas.{count_same}
use Rattle.build_runs.proofs.UnmetLemmas.{faces_agree, first_same}
use Rattle.build_runs.proofs.ZipLemmas.{zip_across}
use Rattle.build_runs.specs.BuildRuns.{AreRuns, IsRunFor, IsTableInOrder, face_places, places_in}
use Rattle.build_runs.specs.FirstStops.{HasLoadList, HasRun, IsFirstStop, LoadStops, StopsFirst, VersionStops}
use Rattle.build_runs.specs.Ordering.{IsSameRun, with_face}
use Rattle.build_runs.specs.declared.programs.Start.{Start}

-- lists that agree at each place
same_lists : {A : Type 0} (xs ys : List A) → length xs ≡ length ys → ((k : ℕ) (x y : A) → slice_get xs k ≡ Some x → slice_get ys k ≡ Some y → x ≡ y) → xs ≡ ys
same_lists [] [] e h = refl
same_lists [] (y ∷ ys) e h = absurd (omega (arith, e))
same_lists (x ∷ xs) [] e h = absurd (omega (arith, e))
same_lists (x ∷ xs) (y ∷ ys) e h = ap₂ ◌∷◌ (h 0 x y refl refl) (same_lists xs ys (omega (arith, e)) (λ k a b. h (suc k) a b))

element : {A : Type 0} (xs : List A) (k : ℕ) → k < length xs → (x : A) × (slice_get xs k ≡ Some x)
element [] k h = absurd (omega arith)
element (x ∷ xs) zero h = (x, refl)
element (x ∷ xs) (suc k) h = element xs k (omega arith)

-- objects that say one load list differ in the places of their faces alone
module _ (faces faces' : List Face) (opens : List (List ℕ)) (loaded : Loaded) (ends : List Loaded) where
  same_obj : (run run' : Run) → IsRunOf faces opens loaded ends run → IsRunOf faces' opens loaded ends run' → (j : ℕ) (x y : Obj) → slice_get run.objs j ≡ Some x → slice_get run'.objs j ≡ Some y → with_face y 0 ≡ with_face x 0
  same_obj run run' is is' j x y g h =
      let a = is.objs j x g in
      let b = is'.objs j y h in
      let both : Some b.object ≡ Some a.object = sym b.stands ∙ a.stands in
      let object : b.object ≡ a.object = cc in
      let path : y.path ≡ x.path = b.path ∙ ap (λ (o : Object). o.path) object ∙ sym a.path in
      let id : y.id ≡ x.id = b.id ∙ ap (λ (o : Object). o.id) object ∙ sym a.id in
      let loader : y.loader ≡ x.loader = b.loader ∙ sym a.loader in
      let phase : y.phase ≡ x.phase = b.phase ∙ sym a.phase in
      cc

  placeless_objs : (xs ys : List Obj) → length ys ≡ length xs → ((j : ℕ) (x y : Obj) → slice_get xs j ≡ Some x → slice_get ys j ≡ Some y → with_face y 0 ≡ with_face x 0) → map (λ x. with_face x 0) ys ≡ map (λ x. with_face x 0) xs
  placeless_objs [] [] e h = refl
  placeless_objs [] (y ∷ ys) e h = absurd (omega (arith, e))
  placeless_objs (x ∷ xs) [] e h = absurd (omega (arith, e))
  placeless_objs (x ∷ xs) (y ∷ ys) e h = ap₂ ◌∷◌ (h 0 x y refl refl) (placeless_objs xs ys (omega (arith, e)) (λ j a b. h (suc j) a b))

  same_locals : (run run' : Run) → IsRunOf faces opens loaded ends run → IsRunOf faces' opens loaded ends run' → run'.locals ≡ run.locals
  same_locals run run' is is' =
      let roots : run'.roots ≡ run.roots = is'.roots ∙ sym is.roots in
      let root_count : length run.roots ≡ length opens = ap length is.roots ∙ length-map opens _ in
      same_lists run'.locals run.locals (is'.local_count ∙ sym is.local_count)
      (λ k ks ls g h.
      let below : k < length run.roots = omega (arith, slice_get_within run'.locals k ks g, is'.local_count, root_count) in
      let root = element run.roots k below in
      one_local loaded root.0 ks ls (is'.locals k root.0 ks (ap (λ rs. slice_get rs k) roots ∙ root.1) g) (is.locals k root.0 ls root.1 h))

  pub same_list : (run run' : Run) → IsRunOf faces opens loaded ends run → IsRunOf faces' opens loaded ends run' → IsSameRun faces faces' run run'
  same_list run run' is is' =
      let targets : run'.targets ≡ run.targets = is'.targets ∙ sym is.targets in
      let global : run'.global ≡ run.global = is'.global ∙ sym is.global in
      let opened : run'.opens ≡ run.opens = is'.opened ∙ sym is.opened in
      let roots : run'.roots ≡ run.roots = is'.roots ∙ sym is.roots in
      let locals : run'.locals ≡ run.locals = same_locals run run' is is' in
      record {
        faces_same = λ j. sym (faces_agree faces faces' opens loaded ends run run' is is' j);
        objs = placeless_objs run.objs run'.objs (is'.count ∙ sym is.count) (same_obj run run' is is');
        rest = cc;
      }

module _ (setting : Setting) (world : World) where
  -- one program has one list
  pub same_loads : (faces faces' : List Face) (program : Start) (run run' : Run) → IsRunFor setting world faces program run → IsRunFor setting world faces' program run' → IsSameRun faces faces' run run'
  same_loads faces faces' program run run' a b =
      let one = at_most_one face_or_flaw setting world program.path program.opens b.loads.loaded a.loads.loaded b.loads.ends a.loads.ends b.loads.list a.loads.list in
      let there : IsRunOf faces' program.opens a.loads.loaded a.loads.ends run' = subst (λ (es : List Loaded). IsRunOf faces' program.opens a.loads.loaded es run') one.1 (subst (λ (s : Loaded). IsRunOf faces' program.opens s b.loads.ends run') one.0 b.loads.run_is) in
      same_list faces faces' program.opens a.loads.loaded a.loads.ends run run' a.loads.run_is there

-- objects with the same places are the same
same_placed : (xs ys : List Obj) → map (λ x. with_face x 0) ys ≡ map (λ x. with_face x 0) xs → places_in xs ≡ places_in ys → xs ≡ ys
same_placed [] [] h e = refl
same_placed [] (y ∷ ys) h e = cc
same_placed (x ∷ xs) [] h e = cc
same_placed (x ∷ xs) (y ∷ ys) h e =
    let head : with_face y 0 ≡ with_face x 0 = cc in
    let tail : map (λ x. with_face x 0) ys ≡ map (λ x. with_face x 0) xs = cc in
    let place : x.face ≡ y.face = cc in
    let places : places_in xs ≡ places_in ys = cc in
    let one : x ≡ y = ap₂ with_face (sym head) place in
    ap₂ ◌∷◌ one (same_placed xs ys tail places)

-- fronts of equal lists that are as long
same_fronts : (xs xs' ys ys' : List ℕ) → length xs ≡ length xs' → xs ++ ys ≡ xs' ++ ys' → (xs ≡ xs') × (ys ≡ ys')
same_fronts [] [] ys ys' e h = (refl, h)
same_fronts [] (x ∷ xs') ys ys' e h = absurd (omega (arith, e))
same_fronts (x ∷ xs) [] ys ys' e h = absurd (omega (arith, e))
same_fronts (x ∷ xs) (x' ∷ xs') ys ys' e h =
    let head : x ≡ x' = cc in
    let tail : xs ++ ys ≡ xs' ++ ys' = cc in
    let rest = same_fronts xs xs' ys ys' (omega (arith, e)) tail in
    (ap₂ ◌∷◌ head rest.0, rest.1)

length_places : (xs : List Obj) → length (places_in xs) ≡ length xs
length_places xs = length-map xs (λ (x : Obj). x.face)

module _ (faces kept : List Face) where
  place_count : (runs new : List Run) → AllZip (IsSameRun faces kept) runs new → length (face_places new) ≡ length (face_places runs)
  place_count [] [] h = refl
  place_count [] (n ∷ new) h = absurd h
  place_count (run ∷ runs) [] h = absurd h
  place_count (run ∷ runs) (n ∷ new) h =
      let rest = place_count runs new h.1 in
      let here = count_same faces kept run n h.0 in
      omega (arith, rest, here, length-append (places_in run.objs) (face_places runs), length-append (places_in n.objs) (face_places new), length_places run.objs, length_places n.objs)

  same_run : (run new : Run) → IsSameRun faces kept run new → places_in run.objs ≡ places_in new.objs → run ≡ new
  same_run run new same places =
      let objs : run.objs ≡ new.objs = same_placed run.objs new.objs same.objs places in
      ap₂ (λ (r : Run) (xs : List Obj). record r { objs = xs }) (sym same.rest) objs

  same_runs : (runs new : List Run) → AllZip (IsSameRun faces kept) runs new → face_places runs ≡ face_places new → runs ≡ new
  same_runs [] [] h e = refl
  same_runs [] (n ∷ new) h e = absurd h
  same_runs (run ∷ runs) [] h e = absurd h
  same_runs (run ∷ runs) (n ∷ new) h e =
      let count : length (places_in run.objs) ≡ length (places_in n.objs) = length_places run.objs ∙ (sym (count_same faces kept run n h.0) ∙ sym (length_places n.objs)) in
      let parts = same_fronts (places_in run.objs) (places_in n.objs) (face_places runs) (face_places new) count e in
      ap₂ ◌∷◌ (same_run run n h.0 parts.0) (same_runs runs new h.1 parts.1)

  faces_of_objs : (xs ys : List Obj) → length ys ≡ length xs → ((j : ℕ) → option_and_then (λ (o : Obj). slice_get kept o.face) (slice_get ys j) ≡ option_and_then (λ (o : Obj). slice_get faces o.face) (slice_get xs j)) → map (slice_get kept) (places_in ys) ≡ map (slice_get faces) (places_in xs)
  faces_of_objs [] [] e h = refl
  faces_of_objs [] (y ∷ ys) e h = absurd (omega (arith, e))
  faces_of_objs (x ∷ xs) [] e h = absurd (omega (arith, e))
  faces_of_objs (x ∷ xs) (y ∷ ys) e h = ap₂ ◌∷◌ (h 0) (faces_of_objs xs ys (omega (arith, e)) (λ j. h (suc j)))

  faces_of_runs : (runs new : List Run) → AllZip (IsSameRun faces kept) runs new → map (slice_get kept) (face_places new) ≡ map (slice_get faces) (face_places runs)
  faces_of_runs [] [] h = refl
  faces_of_runs [] (n ∷ new) h = absurd h
  faces_of_runs (run ∷ runs) [] h = absurd h
  faces_of_runs (run ∷ runs) (n ∷ new) h =
      map_joined (slice_get kept) (places_in n.objs) (face_places new)
      ∙ (ap₂ ◌++◌ (faces_of_objs run.objs n.objs (count_same faces kept run n h.0) h.0.faces_same) (faces_of_runs runs new h.1)
      ∙ sym (map_joined (slice_get faces) (places_in run.objs) (face_places runs)))
    where
      map_joined : {A B : Type 0} (f : A → B) (xs ys : List A) → map f (xs ++ ys) ≡ map f xs ++ map f ys
      map_joined f [] ys = refl
      map_joined f (x ∷ xs) ys = ap (λ l. f x ∷ l) (map_joined f xs ys)

all_from_place : (before all : List Face) (n : ℕ) → length before ≡ n → map (slice_get (before ++ all)) (range_with_len n (length all)) ≡ map (λ face. Some face) all
all_from_place before [] n e = refl
all_from_place before (face ∷ all) n e =
    ap₂ ◌∷◌ (ap (slice_get (before ++ face ∷ all)) (sym e) ∙ stands before face all)
    (ap (λ l. map (slice_get l) (range_with_len (n + 1) (length all))) (one_further before face all) ∙ all_from_place (before ++ face ∷ []) all (n + 1) (length-append before (face ∷ []) ∙ ap (λ k. k + 1) e))
  where
    stands : (before : List Face) (face : Face) (all : List Face) → slice_get (before ++ face ∷ all) (length before) ≡ Some face
    stands [] face all = refl
    stands (b ∷ before) face all = stands before face all

    one_further : (before : List Face) (face : Face) (all : List Face) → before ++ face ∷ all ≡ (before ++ face ∷ []) ++ all
    one_further [] face all = refl
    one_further (b ∷ before) face all = ap (λ l. b ∷ l) (one_further before face all)

all_faces : (faces : List Face) → map (slice_get faces) (up_to (length faces)) ≡ map (λ face. Some face) faces
all_faces faces = ap (map (slice_get faces)) (numbers_range (length faces)) ∙ all_from_place [] faces 0 refl

some_same : (xs ys : List Face) → map (λ face. Some face) xs ≡ map (λ face. Some face) ys → xs ≡ ys
some_same [] [] h = refl
some_same [] (y ∷ ys) h = cc
some_same (x ∷ xs) [] h = cc
some_same (x ∷ xs) (y ∷ ys) h =
    let head : Some x ≡ Some y = cc in
    let tail : map (λ face. Some face) xs ≡ map (λ face. Some face) ys = cc in
    ap₂ ◌∷◌ (let e : x ≡ y = cc in e) (some_same xs ys tail)

length_numbers : (n : ℕ) → length (up_to n) ≡ n
length_numbers n = ap length (numbers_range n) ∙ length-range_with_len 0 n

-- runs that differ in places alone, both over tables in order
pub one_in_order : (faces kept : List Face) (runs new : List Run) → AllZip (IsSameRun faces kept) runs new → IsTableInOrder faces runs → IsTableInOrder kept new → (faces ≡ kept) × (runs ≡ new)
one_in_order faces kept runs new same a b =
    let count : length faces ≡ length kept = sym (length_numbers (length faces)) ∙ (ap length (sym a) ∙ (sym (place_count faces kept runs new same) ∙ (ap length b ∙ length_numbers (length kept)))) in
    let places : face_places runs ≡ face_places new = a ∙ (ap up_to count ∙ sym b) in
    let all : map (λ face. Some face) faces ≡ map (λ face. Some face) kept = sym (all_faces faces) ∙ (ap (map (slice_get faces)) (sym a) ∙ (sym (faces_of_runs faces kept runs new same) ∙ (ap (map (slice_get kept)) b ∙ all_faces kept))) in
    (some_same faces kept all, same_runs faces kept runs new same places)

module _ (setting : Setting) (world : World) (programs : List Start) where
  pub at_most_one_build : (faces faces' : List Face) (runs runs' : List Run) → AreRuns setting world programs faces runs → AreRuns setting world programs faces' runs' → (faces ≡ faces') × (runs ≡ runs')
  at_most_one_build faces faces' runs runs' a b =
      one_in_order faces faces' runs runs' (zip_across (IsRunFor setting world faces) (IsRunFor setting world faces') (IsSameRun faces faces') (same_loads setting world faces faces') programs runs runs' a.each b.each) a.in_order b.in_order

module _ (setting : Setting) (world : World) where
  run_or_load_stop : (program : Start) (faces : List Face) (run : Run) (refusal : LoadRefusal) → IsRunFor setting world faces program run → LoadStops setting world program refusal → ⊥
  run_or_load_stop program faces run refusal a stop = list_or_stop face_or_flaw setting world program.path program.opens a.loads.loaded a.loads.ends refusal a.loads.list stop

  run_or_version_stop : (program : Start) (faces : List Face) (run : Run) (refusal : LoadRefusal) → IsRunFor setting world faces program run → VersionStops setting world program refusal → ⊥
  run_or_version_stop program faces run refusal a stop =
      let one = at_most_one face_or_flaw setting world program.path program.opens stop.loads.loaded a.loads.loaded stop.loads.ends a.loads.ends stop.loads.list a.loads.list in
      let there : IsRunOf stop.faces program.opens a.loads.loaded a.loads.ends stop.run = subst (λ (es : List Loaded). IsRunOf stop.faces program.opens a.loads.loaded es stop.run) one.1 (subst (λ (s : Loaded). IsRunOf stop.faces program.opens s stop.loads.ends stop.run) one.0 stop.loads.run_is) in
      let none : None ≡ Some stop.first = sym a.met ∙ first_same faces stop.faces program.opens a.loads.loaded a.loads.ends run stop.run a.loads.run_is there ∙ stop.unmet in
      absurd (cc)

  runs_or_stop_by : (Passes : Start → Type 0) (Stops : Start → LoadRefusal → Type 0) (faces : List Face) → ((program : Start) (run : Run) (refusal : LoadRefusal) → IsRunFor setting world faces program run → Stops program refusal → ⊥) → (programs : List Start) (runs : List Run) (refusal : LoadRefusal) → AllZip (IsRunFor setting world faces) programs runs → StopsFirst Passes Stops programs refusal → ⊥
  runs_or_stop_by Passes Stops faces apart [] runs refusal h stop = stop
  runs_or_stop_by Passes Stops faces apart (p ∷ programs) [] refusal h stop = h
  runs_or_stop_by Passes Stops faces apart (p ∷ programs) (run ∷ runs) refusal h (inl stop) = apart p run refusal h.0 stop
  runs_or_stop_by Passes Stops faces apart (p ∷ programs) (run ∷ runs) refusal h (inr stop) = runs_or_stop_by Passes Stops faces apart programs runs refusal h.1 stop.1

  pub runs_or_stop : (programs : List Start) (faces : List Face) (runs : List Run) (refusal : LoadRefusal) → AreRuns setting world programs faces runs → IsFirstStop setting world programs refusal → ⊥
  runs_or_stop programs faces runs refusal a (inl stop) = runs_or_stop_by (HasLoadList setting world) (LoadStops setting world) faces (λ program run r. run_or_load_stop program faces run r) programs runs refusal a.each stop
  runs_or_stop programs faces runs refusal a (inr stop) = runs_or_stop_by (HasRun setting world) (VersionStops setting world) faces (λ program run r. run_or_version_stop program faces run r) programs runs refusal a.each stop.1
