-- A run has the same answer as the load list that it says, on whether all of it is listed.
use Rattle.std.proofs.Common.{ℕ, suc, List, [], ◌∷◌, ◌+◌, ◌<◌, Bool, ◌&&◌, not, ◌==◌, ◌≡◌, refl, ap, ap₂, sym, ◌∙◌, length, map, Option, Some, None, is_none, slice_get, arith}
use Rattle.std.proofs.lemmas.Option.{slice_get_within}
use Rattle.std.specs.List.{list_all, range_with_len, zip}
use Rattle.std.specs.Option.{unwrap_or}
use Rattle.path_text.specs.Path.{base_of}
use Rattle.load_model.proofs.AskedNeeds.{map_get}
use Rattle.load_model.proofs.NumberLemmas.{number_at}
use Rattle.load_model.proofs.SameListLemmas.{none_too, same_face, there_too}
use Rattle.load_model.specs.LoadList.{Loaded, Object, up_to}
use Rattle.load_model.specs.Runs.{IsRunOf, face_at, need_targets, needs_at, target_in}
use Rattle.load_model.specs.SameNames.{key_of}
use Rattle.load_model.specs.declared.faces.Face.{Face}
use Rattle.load_model.specs.declared.runs.Obj.{Obj}
use Rattle.load_model.specs.declared.runs.Run.{Run}
use Rattle.listed_runs.specs.Fitting.{fits_as_object, fits_as_program, fits_need, has_key, is_all_listed, is_key, is_on_list, key_at, run_fits_need, run_fits_object, run_is_all_listed}

-- a test of numbers and one of elements that agree by place
all_by_places : {X : Type 0} (f : ℕ → Bool) (g : X → Bool) (k : ℕ) (xs : List X) → ((j : ℕ) (x : X) → slice_get xs j ≡ Some x → f (k + j) ≡ g x) → list_all f (range_with_len k (length xs)) ≡ list_all g xs
all_by_places f g k [] h = refl
all_by_places f g k (x ∷ xs) h =
    let z : k ≡ k + 0 = omega arith in
    let first : f k ≡ g x = ap f z ∙ h 0 x refl in
    let up : (j : ℕ) → (k + 1) + j ≡ k + suc j = λ j. omega arith in
    let rest : list_all f (range_with_len (k + 1) (length xs)) ≡ list_all g xs = all_by_places f g (k + 1) xs (λ j y e. ap f (up j) ∙ h (suc j) y e) in
    ap₂ ◌&&◌ first rest

-- two tests that agree
all_same : {X : Type 0} (f g : X → Bool) (xs : List X) → ((x : X) → f x ≡ g x) → list_all f xs ≡ list_all g xs
all_same f g [] h = refl
all_same f g (x ∷ xs) h = ap₂ ◌&&◌ (h x) (all_same f g xs h)

-- elements beside what a function makes of them
all_zipped : {A : Type 0} {B : Type 0} (p : A → B → Bool) (f : A → B) (xs : List A) → list_all (λ q. p q.0 q.1) (zip xs (map f xs)) ≡ list_all (λ x. p x (f x)) xs
all_zipped p f [] = refl
all_zipped p f (x ∷ xs) = ap (λ b. p x (f x) && b) (all_zipped p f xs)

module _ (names : List (List ℕ)) (faces : List Face) (loaded : Loaded) (ends : List Loaded) (run : Run) (run_is : IsRunOf faces [] loaded ends run) where
  -- what the run has of an object
  record HasObject (j : ℕ) (o : Object) : Type 0 where
    face : face_at faces run j ≡ Some o.face
    key : key_at faces run j ≡ Some (key_of o)
    targets : slice_get run.targets j ≡ Some (map (target_in loaded.log) o.face.needs)

  object_in_run : (j : ℕ) (o : Object) (x : Obj) → slice_get loaded.objs j ≡ Some o → slice_get run.objs j ≡ Some x → HasObject j o
  unfolding key_of
  object_in_run j o x stands there =
      let is = run_is.objs j x there in
      let same : is.object ≡ o = let both : Some is.object ≡ Some o = sym is.stands ∙ stands in cc in
      let face_is : slice_get faces x.face ≡ Some o.face = is.face ∙ ap (λ (p : Object). Some p.face) same in
      let path_is : x.path ≡ o.path = is.path ∙ ap (λ (p : Object). p.path) same in
      let below : j < length loaded.objs = slice_get_within loaded.objs j o stands in
      let needs_are : needs_at (slice_get loaded.objs j) ≡ o.face.needs = ap needs_at stands in
      record {
        face = rw there face_is;
        key = rw (there, face_is) (ap (λ p. Some (unwrap_or o.face.soname (base_of p))) path_is);
        targets = ap (λ ts. slice_get ts j) run_is.targets ∙ map_get (need_targets loaded) (up_to (length loaded.objs)) j j (number_at (length loaded.objs) j below) ∙ ap (λ ns. Some (map (target_in loaded.log) ns)) needs_are;
      }

  object_is : (j : ℕ) (o : Object) → slice_get loaded.objs j ≡ Some o → HasObject j o
  object_is j o stands =
      let w = there_too loaded.objs run.objs j o run_is.count stands in
      object_in_run j o w.0 stands w.1

  same_key : (need : List ℕ) (j : ℕ) (found : Option Object) → slice_get loaded.objs j ≡ found → is_key need (key_at faces run j) ≡ has_key need found
  same_key need j None h = rw (none_too loaded.objs run.objs j run_is.count h) refl
  same_key need j (Some o) h = ap (is_key need) (object_is j o h).key

  same_need : (need : List ℕ) → run_fits_need names faces run need (target_in loaded.log need) ≡ fits_need names loaded need
  same_need need =
      let t : ℕ = target_in loaded.log need in
      ap (λ b. is_on_list names need && (not (t == 0) && b)) (same_key need t (slice_get loaded.objs t) refl)

  same_object : (j : ℕ) (o : Object) → slice_get loaded.objs j ≡ Some o → run_fits_object names faces run j ≡ fits_as_object names loaded o
  same_object j o stands =
      let is = object_is j o stands in
      rw (is.face, is.targets)
      (ap (λ b. is_none o.face.rpath && (is_none o.face.runpath && b))
      (all_zipped (run_fits_need names faces run) (target_in loaded.log) o.face.needs ∙ all_same (λ n. run_fits_need names faces run n (target_in loaded.log n)) (fits_need names loaded) o.face.needs same_need))

  same_answer : run_is_all_listed names faces run ≡ is_all_listed names loaded
  unfolding run_is_all_listed is_all_listed
  same_answer =
      let program = ap (fits_as_program names) (same_face faces loaded ends run run_is 0 (slice_get loaded.objs 0) refl) in
      let count = ap (λ n. list_all (run_fits_object names faces run) (range_with_len 0 n)) run_is.count in
      let z : (j : ℕ) → 0 + j ≡ j = λ j. omega arith in
      let objects = all_by_places (run_fits_object names faces run) (fits_as_object names loaded) 0 loaded.objs (λ j o h. ap (run_fits_object names faces run) (z j) ∙ same_object j o h) in
      ap₂ ◌&&◌ program (count ∙ objects)

-- a run answers as its load list
pub listed_in_run : (names : List (List ℕ)) (faces : List Face) (loaded : Loaded) (ends : List Loaded) (run : Run) → IsRunOf faces [] loaded ends run → run_is_all_listed names faces run ≡ is_all_listed names loaded
listed_in_run names faces loaded ends run run_is = same_answer names faces loaded ends run run_is
