-- Objects of load lists at their first places: each has one, and these have distinct identities.
use Rattle.std.proofs.Common.{◌≡◌, ◌≢◌, ◌∙◌, sym, ap, refl, subst, ℕ, ◌<◌, List, [], ◌∷◌, ◌++◌, All, Bool, true, false, cond, Option, Some, None, bytes_eq, filter, get_or, length, map, slice_get, arith, inl, inr}
use Rattle.std.specs.Prelude.{◌⊎◌}
use Rattle.std.specs.Cmp.Lexicographic.{bytes_decides}
use Rattle.std.specs.List.{Contains, filter_map, find, flat_map, list_any}
use Rattle.std.specs.Option.{option_and_then, option_map, unwrap_or}
use Rattle.std.proofs.lemmas.List.Elements.{All-contains, Contains-append_cases, Contains-append_left, Contains-append_right}
use Rattle.std.proofs.lemmas.Option.{slice_get-get_or, slice_get_within}
use Rattle.load_model.proofs.TwoWorlds.{same_bytes}
use Rattle.load_model.specs.LoadList.{up_to}
use Rattle.load_model.specs.Runs.{IsObjOver, IsRunOver, face_at}
use Rattle.load_model.specs.declared.faces.Face.{Face}
use Rattle.load_model.specs.declared.runs.Obj.{Obj}
use Rattle.load_model.specs.declared.runs.Run.{Run}
use Rattle.text_sets.proofs.FoundLemmas.{find_passes}
use Rattle.lib_closure.specs.Objects.{Occurrence, all_objects, each_first, first_place_of, first_places, has_id, objects_of, occurrence, occurrence_at, with_object}
use Rattle.lib_closure.proofs.ContainedLemmas.{any_in, at_place, cases, found_in, here, in_filter_map, in_flat_map, in_none, later, none_passes, of_any, of_filter_map, of_flat_map, Paired, paired_more}
use Rattle.lib_closure.proofs.NumberLemmas.{number_at}

-- ---- objects where they stand

pub record Occurs (faces : List Face) (run : Run) (j : ℕ) (o : Occurrence) : Type 0 where
  pub faces_are : o.faces ≡ faces
  pub run_is : o.run ≡ run
  pub number : o.number ≡ j
  pub obj : slice_get run.objs j ≡ Some o.obj
  pub face : slice_get faces o.obj.face ≡ Some o.face

occurs_by : (faces : List Face) (run : Run) (j : ℕ) (o : Occurrence) (x : Obj) (face : Option Face) → slice_get run.objs j ≡ Some x → slice_get faces x.face ≡ face → option_map (λ (f : Face). record { faces = faces; run = run; number = j; obj = x; face = f }) face ≡ Some o → Occurs faces run j o
occurs_by faces run j o x None h f e = cc
occurs_by faces run j o x (Some y) h f e =
    let made : Occurrence = record { faces = faces; run = run; number = j; obj = x; face = y } in
    let both : Some made ≡ Some o = e in
    let same : made ≡ o = cc in
    subst (Occurs faces run j) same (record { faces_are = refl; run_is = refl; number = refl; obj = h; face = f })

occurs_at : (faces : List Face) (run : Run) (j : ℕ) (o : Occurrence) (obj : Option Obj) → slice_get run.objs j ≡ obj → option_and_then (occurrence faces run j) obj ≡ Some o → Occurs faces run j o
occurs_at faces run j o None h e = cc
occurs_at faces run j o (Some x) h e = occurs_by faces run j o x (slice_get faces x.face) h refl e

pub occurs : (faces : List Face) (run : Run) (j : ℕ) (o : Occurrence) → occurrence_at faces run j ≡ Some o → Occurs faces run j o
unfolding occurrence_at
occurs faces run j o h = occurs_at faces run j o (slice_get run.objs j) refl h

-- Each object of a run stands there.
pub record Standing (faces : List Face) (run : Run) (j : ℕ) (x : Obj) : Type 0 where
  pub it : Occurrence
  pub at : occurrence_at faces run j ≡ Some it
  pub obj : it.obj ≡ x

standing_by : (faces : List Face) (run : Run) (j : ℕ) (x : Obj) (face : Option Face) → slice_get run.objs j ≡ Some x → slice_get faces x.face ≡ face → (face ≡ None → ⊥) → Standing faces run j x
unfolding occurrence_at
standing_by faces run j x None h f n = absurd (n refl)
standing_by faces run j x (Some y) h f n = record {
  it = record { faces = faces; run = run; number = j; obj = x; face = y };
  at = ap (option_and_then (occurrence faces run j)) h ∙ ap (option_map (λ (z : Face). record { faces = faces; run = run; number = j; obj = x; face = z })) f;
  obj = refl;
}

pub standing_at : (faces : List Face) (run : Run) (j : ℕ) (x : Obj) → IsRunOver faces run → slice_get run.objs j ≡ Some x → Standing faces run j x
standing_at faces run j x over h =
    let is : IsObjOver faces run x = All-contains (IsObjOver faces run) run.objs x over.objs (at_place run.objs j x h) in
    standing_by faces run j x (slice_get faces x.face) h refl (λ none.
    let some : slice_get faces x.face ≡ Some (get_or faces x.face (face_of faces x.face is.face)) = slice_get-get_or faces x.face (face_of faces x.face is.face) is.face in
    let clash : ◌≡◌ {A = Option Face} None (Some (get_or faces x.face (face_of faces x.face is.face))) = sym none ∙ some in
    cc)
  where
    face_of : (faces : List Face) (k : ℕ) → k < length faces → Face
    face_of [] k less = absurd (omega (arith, less))
    face_of (f ∷ faces) k less = f

pub in_all : (faces : List Face) (runs : List Run) (run : Run) (j : ℕ) (o : Occurrence) → Contains runs run → occurrence_at faces run j ≡ Some o → Contains (all_objects faces runs) o
unfolding all_objects objects_of
in_all faces runs run j o c h =
    let within = slice_get_within run.objs j o.obj (occurs faces run j o h).obj in
    in_flat_map (objects_of faces) runs run o c
    (in_filter_map (occurrence_at faces run) (up_to (length run.objs)) j o (at_place (up_to (length run.objs)) j j (number_at (length run.objs) j within)) h)

pub record Comes (faces : List Face) (runs : List Run) (o : Occurrence) : Type 0 where
  pub run : Run
  pub there : Contains runs run
  pub number : ℕ
  pub at : occurrence_at faces run number ≡ Some o

pub of_all : (faces : List Face) (runs : List Run) (o : Occurrence) → Contains (all_objects faces runs) o → Comes faces runs o
unfolding all_objects objects_of
of_all faces runs o c =
    let w = of_flat_map (objects_of faces) runs o c in
    let g = of_filter_map (occurrence_at faces w.from) (up_to (length w.from.objs)) o w.is in
    record { run = w.from; there = w.there; number = g.from; at = g.is }

-- ---- each identity once

abbrev pub AreOthers : Occurrence → Occurrence → Type 0
AreOthers a b = a.obj.id ≢ b.obj.id

pub bytes_same : (a b : List ℕ) → a ≡ b → bytes_eq a b ≡ true
bytes_same a b e = (bytes_decides a b).1 e

pub none_there : {X : Type 0} (t : X → Bool) (xs : List X) (x : X) → list_any t xs ≡ false → Contains xs x → t x ≡ true → ⊥
none_there t xs x h c p = let clash : true ≡ false = sym (any_in t xs x c p) ∙ h in cc

others_by : (os : List Occurrence) (o : Occurrence) (b : Bool) → list_any (has_id o.obj.id) os ≡ b → Paired AreOthers os → Paired AreOthers (cond b os (os ++ o ∷ []))
others_by os o true h p = p
others_by os o false h p = paired_more AreOthers os o p (λ x c e. none_there (has_id o.obj.id) os x h c (bytes_same o.obj.id x.obj.id (sym e)))

pub firsts_apart : (os more : List Occurrence) → Paired AreOthers os → Paired AreOthers (each_first os more)
unfolding each_first
firsts_apart os [] p = p
firsts_apart os (o ∷ more) p = firsts_apart (with_object os o) more (others_by os o (list_any (has_id o.obj.id) os) refl p)

still_by : (os : List Occurrence) (o x : Occurrence) (b : Bool) → Contains os x → Contains (cond b os (os ++ o ∷ [])) x
still_by os o x true c = c
still_by os o x false c = Contains-append_left os (o ∷ []) x c

still : (os more : List Occurrence) (x : Occurrence) → Contains os x → Contains (each_first os more) x
unfolding each_first
still os [] x c = c
still os (o ∷ more) x c = still (with_object os o) more x (still_by os o x (list_any (has_id o.obj.id) os) c)

from_by : (os : List Occurrence) (o x : Occurrence) (b : Bool) → Contains (cond b os (os ++ o ∷ [])) x → Contains os x ⊎ (o ≡ x)
from_by os o x true c = inl c
from_by os o x false c =
    elim (Contains-append_cases os (o ∷ []) x c) [
      | inl left ↦ inl left
      | inr right ↦ elim (cases o x [] right) [
        | inl e ↦ inr e
        | inr none ↦ absurd (in_none x none)
      ]
    ]

pub first_from : (os more : List Occurrence) (x : Occurrence) → Contains (each_first os more) x → Contains os x ⊎ Contains more x
unfolding each_first
first_from os [] x c = inl c
first_from os (o ∷ more) x c =
    elim (first_from (with_object os o) more x c) [
      | inl was ↦ elim (from_by os o x (list_any (has_id o.obj.id) os) was) [
        | inl old ↦ inl old
        | inr e ↦ inr (subst (Contains (o ∷ more)) e (here o more))
      ]
      | inr rest ↦ inr (later o x more rest)
    ]

pub record OfId (os : List Occurrence) (id : List ℕ) : Type 0 where
  pub it : Occurrence
  pub there : Contains os it
  pub same : it.obj.id ≡ id

has_by : (os : List Occurrence) (o : Occurrence) (b : Bool) → list_any (has_id o.obj.id) os ≡ b → OfId (cond b os (os ++ o ∷ [])) o.obj.id
has_by os o true h =
    let p = of_any (has_id o.obj.id) os h in
    record { it = p.it; there = p.there; same = sym (same_bytes o.obj.id p.it.obj.id p.passes) }
has_by os o false h = record { it = o; there = Contains-append_right os (o ∷ []) o (here o []); same = refl }

pub first_has : (os more : List Occurrence) (x : Occurrence) → Contains more x → OfId (each_first os more) x.obj.id
unfolding each_first
first_has os [] x c = absurd (in_none x c)
first_has os (o ∷ more) x c =
    elim (cases o x more c) [
      | inl e ↦
          let h = has_by os o (list_any (has_id o.obj.id) os) refl in
          record { it = h.it; there = still (with_object os o) more h.it h.there; same = h.same ∙ ap (λ (y : Occurrence). y.obj.id) e }
      | inr rest ↦ first_has (with_object os o) more x rest
    ]

-- ---- first places

module _ (faces : List Face) (runs : List Run) where
  pub first_in_all : (f : Occurrence) → Contains (first_places faces runs) f → Contains (all_objects faces runs) f
  first_in_all f c = elim (first_from [] (all_objects faces runs) f c) [
    | inl none ↦ absurd (in_none f none)
    | inr all ↦ all
  ]

  -- The object of an identity that stands first.
  pub record FirstOf (id : List ℕ) : Type 0 where
    pub it : Occurrence
    pub found : find (has_id id) (first_places faces runs) ≡ Some it
    pub there : Contains (first_places faces runs) it
    pub same : it.obj.id ≡ id

  first_by : (id : List ℕ) (found : Option Occurrence) → find (has_id id) (first_places faces runs) ≡ found → OfId (first_places faces runs) id → FirstOf id
  first_by id None h o =
      let off : has_id id o.it ≡ false = none_passes (has_id id) (first_places faces runs) o.it h o.there in
      let clash : true ≡ false = sym (bytes_same id o.it.obj.id (sym o.same)) ∙ off in
      cc
  first_by id (Some f) h o = record {
    it = f;
    found = h;
    there = found_in (has_id id) (first_places faces runs) f h;
    same = sym (same_bytes id f.obj.id (find_passes (has_id id) (first_places faces runs) f h));
  }

  pub first_of : (o : Occurrence) → Contains (all_objects faces runs) o → FirstOf o.obj.id
  first_of o c = first_by o.obj.id (find (has_id o.obj.id) (first_places faces runs)) refl (first_has [] (all_objects faces runs) o c)

  -- Wherever an object of this identity stands, its first place is this one.
  pub placed : (id : List ℕ) (first : FirstOf id) (o : Occurrence) → o.obj.id ≡ id → first_place_of faces runs o ≡ first.it
  unfolding first_place_of
  placed id first o e = ap (λ i. unwrap_or (find (has_id i) (first_places faces runs)) o) e ∙ ap (λ r. unwrap_or r o) first.found
