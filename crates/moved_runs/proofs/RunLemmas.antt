-- The run there, as the plain type has it: its objects with the numbers of the run here.
use Rattle.std.proofs.Common.{◌≡◌, ◌∙◌, sym, ap, refl, ℕ, zero, suc, ◌+◌, List, [], ◌∷◌, Some, None, length, map, slice_get, arith, subst}
use Rattle.load_model.specs.LoadList.{Loaded, Object, up_to}
use Rattle.load_model.specs.Runs.{IsLocal, IsObjOf, IsRunOf, face_at, loader_of, need_targets, phase_of, start_count, target_in}
use Rattle.load_model.specs.VersionCheck.{phase_at}
use Rattle.load_model.specs.declared.faces.Face.{Face}
use Rattle.load_model.specs.declared.runs.Obj.{Obj}
use Rattle.load_model.specs.declared.runs.Run.{Run}
use Rattle.load_model.proofs.AskedNeeds.{map_get}
use Rattle.load_model.proofs.OneRun.{there}
use Rattle.load_model.proofs.SameListLemmas.{none_too, there_too}

-- ---- a run over its load list

module _ (faces : List Face) (opens : List (List ℕ)) (loaded : Loaded) (ends : List Loaded) (run : Run) (is : IsRunOf faces opens loaded ends run) where
  face_there : (j : ℕ) (o : Object) (x : Obj) → slice_get loaded.objs j ≡ Some o → slice_get run.objs j ≡ Some x → face_at faces run j ≡ Some o.face
  face_there j o x stands there =
      let w = is.objs j x there in
      let same : w.object ≡ o = let both : Some w.object ≡ Some o = sym w.stands ∙ stands in cc in
      let face_is : slice_get faces x.face ≡ Some o.face = w.face ∙ ap (λ (p : Object). Some p.face) same in
      rw there face_is

  -- an object's face is that of the load list
  pub face_is : (j : ℕ) (o : Object) → slice_get loaded.objs j ≡ Some o → face_at faces run j ≡ Some o.face
  face_is j o h = let w = there_too loaded.objs run.objs j o is.count h in face_there j o w.0 h w.1

  pub face_none : (j : ℕ) → slice_get loaded.objs j ≡ None → face_at faces run j ≡ None
  face_none j h = rw (none_too loaded.objs run.objs j is.count h) refl

  -- its phase too
  pub phase_is : (j : ℕ) (o : Object) → slice_get loaded.objs j ≡ Some o → phase_at run j ≡ phase_of ends j
  phase_is j o h =
      let w = there_too loaded.objs run.objs j o is.count h in
      rw w.1 ((is.objs j w.0 w.1).phase)

-- ---- the objects there, with these loaders and phases

abbrev pub obj_there : ℕ → Obj → Object → Obj
obj_there k x q = record { path = q.path; id = q.id; face = k; loader = x.loader; phase = x.phase }

abbrev pub objs_from : ℕ → List Obj → List Object → List Obj
objs_from k [] qs = []
objs_from k (x ∷ xs) [] = []
objs_from k (x ∷ xs) (q ∷ qs) = obj_there k x q ∷ objs_from (suc k) xs qs

pub length-objs_from : (k : ℕ) (xs : List Obj) (qs : List Object) → length qs ≡ length xs → length (objs_from k xs qs) ≡ length xs
length-objs_from k [] qs e = refl
length-objs_from k (x ∷ xs) [] e = absurd (omega (arith, e))
length-objs_from k (x ∷ xs) (q ∷ qs) e = ap suc (length-objs_from (suc k) xs qs (omega (arith, e)))

pub obj_at : (k : ℕ) (xs : List Obj) (qs : List Object) (j : ℕ) (y : Obj) → slice_get (objs_from k xs qs) j ≡ Some y → (x : Obj) × (q : Object) × (slice_get xs j ≡ Some x) × (slice_get qs j ≡ Some q) × (y ≡ obj_there (k + j) x q)
obj_at k [] qs j y h = cc
obj_at k (x ∷ xs) [] j y h = cc
obj_at k (x ∷ xs) (q ∷ qs) zero y h =
    let e : y ≡ obj_there k x q = cc in
    let z : k ≡ k + 0 = omega arith in
    (x, q, refl, refl, e ∙ ap (λ n. obj_there n x q) z)
obj_at k (x ∷ xs) (q ∷ qs) (suc j) y h =
    let w = obj_at (suc k) xs qs j y h in
    let z : suc k + j ≡ k + suc j = omega arith in
    (w.0, w.1, w.2, w.3, w.4 ∙ ap (λ n. obj_there n w.0 w.1) z)

abbrev pub faces_of : List Object → List Face
faces_of objs_there = map (λ q. q.face) objs_there

abbrev pub run_at : Run → List (List ℕ) → List Object → Run
run_at run opens objs_there = record {
  objs = objs_from 0 run.objs objs_there;
  targets = run.targets;
  global = run.global;
  opens = opens;
  roots = run.roots;
  locals = run.locals;
}

map_equal : {A B : Type 0} (f g : A → B) (xs : List A) → ((x : A) → f x ≡ g x) → map f xs ≡ map g xs
map_equal f g [] h = refl
map_equal f g (x ∷ xs) h = ap (λ y. y ∷ map f xs) (h x) ∙ ap (λ ys. g x ∷ ys) (map_equal f g xs h)

module _ (faces : List Face) (opens : List (List ℕ)) (loaded : Loaded) (ends : List Loaded) (run : Run) (is : IsRunOf faces opens loaded ends run) (opens_there : List (List ℕ)) (loaded_there : Loaded) (ends_there : List Loaded) where
  module _ (count : length loaded_there.objs ≡ length loaded.objs) (loaders : (j : ℕ) → loader_of loaded_there.log j ≡ loader_of loaded.log j) (phases : (j : ℕ) → phase_of ends_there j ≡ phase_of ends j) (global : start_count ends_there ≡ start_count ends) (targets : (k : ℕ) → need_targets loaded_there k ≡ need_targets loaded k) (roots : map (target_in loaded_there.log) opens_there ≡ map (target_in loaded.log) opens) (opened : length opens_there ≡ length opens) (locals : (root : ℕ) (ks : List ℕ) → IsLocal loaded root ks → IsLocal loaded_there root ks) where
    obj_is : (j : ℕ) (y : Obj) → slice_get (objs_from 0 run.objs loaded_there.objs) j ≡ Some y → IsObjOf (faces_of loaded_there.objs) loaded_there ends_there j y
    obj_is j y h =
        let w = obj_at 0 run.objs loaded_there.objs j y h in
        let x = is.objs j w.0 w.2 in
        let z : 0 + j ≡ j = omega arith in
        let e : y ≡ obj_there j w.0 w.1 = w.4 ∙ ap (λ n. obj_there n w.0 w.1) z in
        subst (λ (o : Obj). IsObjOf (faces_of loaded_there.objs) loaded_there ends_there j o) (sym e)
        (record {
          object = w.1;
          stands = w.3;
          path = refl;
          id = refl;
          face = map_get (λ (q : Object). q.face) loaded_there.objs j w.1 w.3;
          loader = x.loader ∙ sym (loaders j);
          phase = x.phase ∙ sym (phases j);
        })

    pub run_there : IsRunOf (faces_of loaded_there.objs) opens_there loaded_there ends_there (run_at run opens_there loaded_there.objs)
    run_there = record {
      count = length-objs_from 0 run.objs loaded_there.objs (count ∙ sym is.count) ∙ is.count ∙ sym count;
      objs = obj_is;
      targets = is.targets ∙ map_equal (need_targets loaded) (need_targets loaded_there) (up_to (length loaded.objs)) (λ k. sym (targets k)) ∙ ap (λ n. map (need_targets loaded_there) (up_to n)) (sym count);
      global = is.global ∙ sym global;
      opened = refl;
      roots = is.roots ∙ sym roots;
      local_count = is.local_count ∙ sym opened;
      locals = λ k root ks g h. locals root ks (is.locals k root ks g h);
    }
