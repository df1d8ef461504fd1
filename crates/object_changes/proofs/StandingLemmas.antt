-- Objects over a table of faces, and libraries that are found by their identities at their first
-- places.
use Rattle.std.proofs.Common.{◌≡◌, ◌∙◌, sym, ap, ap₂, refl, subst, ℕ, zero, suc, ◌<◌, ◌||◌, List, [], ◌∷◌, ◌++◌, All, Bool, true, false, cond, Option, Some, None, arith, filter, length, map, slice_get, slice_index_or}
use Rattle.std.specs.Cmp.Lexicographic.{bytes_decides}
use Rattle.std.specs.List.{cons_option, filter_map, find, flat_map, list_any}
use Rattle.std.specs.Option.{option_and_then, option_map, option_or, unwrap_or}
use Rattle.std.specs.Str.{bytes_eq}
use Rattle.std.proofs.lemmas.List.Elements.{All-append, All-cons, All-nil, All-push}
use Rattle.std.proofs.lemmas.List.Folds.{find-append}
use Rattle.std.proofs.lemmas.Option.{get_or_from_slice_get, slice_get-get_or, slice_get_within}
use Rattle.elf_rewrite.specs.declared.change.Change.{Change}
use Rattle.lib_closure.specs.Objects.{Occurrence, all_objects, each_first, first_places, has_id, objects_of, occurrence, occurrence_at, own_targets, programs_of, with_object}
use Rattle.lib_closure.specs.Splits.{member_of}
use Rattle.lib_closure.specs.declared.splits.Member.{Member}
use Rattle.lib_closure.specs.declared.splits.Split.{Split}
use Rattle.load_model.specs.LoadList.{up_to}
use Rattle.load_model.specs.Runs.{IsRunOver, face_at}
use Rattle.load_model.specs.declared.faces.Face.{Face}
use Rattle.load_model.specs.declared.runs.Obj.{Obj}
use Rattle.load_model.specs.declared.runs.Run.{Run}
use Rattle.name_layout.specs.declared.layouts.Layout.{Layout}
use Rattle.object_changes.specs.Changing.{change_if_placed, change_of_lib, changes_of_libs, first_of_lib}
use Rattle.object_changes.specs.NamedFiles.{NamedFile}

-- ---- lists

pub all_at : {X : Type 0} (P : X → Type 0) (xs : List X) (i : ℕ) (x : X) → All P xs → slice_get xs i ≡ Some x → P x
all_at P xs i x all h = subst P (get_or_from_slice_get xs i x x h) (all i x (slice_get_within xs i x h))

all_head : {X : Type 0} (P : X → Type 0) (x : X) (xs : List X) → All P (x ∷ xs) → P x
all_head P x xs all = all 0 x (omega arith)

all_tail : {X : Type 0} (P : X → Type 0) (x : X) (xs : List X) → All P (x ∷ xs) → All P xs
all_tail P x xs all = λ k d less. all (suc k) d (omega arith)

cons_each : {Y : Type 0} (P : Y → Type 0) (o : Option Y) (ys : List Y) → ((y : Y) → o ≡ Some y → P y) → All P ys → All P (cons_option o ys)
cons_each P None ys h rest = rest
cons_each P (Some y) ys h rest = All-cons P y ys (h y refl) rest

filter_map_each : {X Y : Type 0} (Q : X → Type 0) (P : Y → Type 0) (f : X → Option Y) → ((x : X) (y : Y) → Q x → f x ≡ Some y → P y) → (xs : List X) → All Q xs → All P (filter_map f xs)
filter_map_each Q P f h [] all = All-nil P
filter_map_each Q P f h (x ∷ xs) all = cons_each P (f x) (filter_map f xs) (λ y e. h x y (all_head Q x xs all) e) (filter_map_each Q P f h xs (all_tail Q x xs all))

flat_map_each : {X Y : Type 0} (Q : X → Type 0) (P : Y → Type 0) (f : X → List Y) → ((x : X) → Q x → All P (f x)) → (xs : List X) → All Q xs → All P (flat_map f xs)
flat_map_each Q P f h [] all = All-nil P
flat_map_each Q P f h (x ∷ xs) all = All-append P (f x) (flat_map f xs) (h x (all_head Q x xs all)) (flat_map_each Q P f h xs (all_tail Q x xs all))

-- ---- objects

pub record StandsOver (faces : List Face) (o : Occurrence) : Type 0 where
  pub face : slice_get faces o.obj.face ≡ Some o.face
  pub targets : length (own_targets o) ≡ length o.face.needs

counted : (faces : List Face) (run : Run) (j : ℕ) (x : Obj) (y : Face) → IsRunOver faces run → slice_get run.objs j ≡ Some x → slice_get faces x.face ≡ Some y → length (unwrap_or (slice_get run.targets j) []) ≡ length y.needs
counted faces run j x y over h e = go (slice_get run.targets j) refl
  where
    less : j < length run.targets
    less = let within = slice_get_within run.objs j x h in let lists = over.lists in omega (arith, within, lists)

    go : (o : Option (List ℕ)) → slice_get run.targets j ≡ o → length (unwrap_or o []) ≡ length y.needs
    go (Some ts) g = over.counts j y ts (ap (option_and_then (λ (z : Obj). slice_get faces z.face)) h ∙ e) g
    go None g = absurd (let there = slice_get-get_or run.targets j [] less in cc)

stands_by : (faces : List Face) (run : Run) (j : ℕ) (o : Occurrence) (x : Obj) (f : Option Face) → IsRunOver faces run → slice_get run.objs j ≡ Some x → slice_get faces x.face ≡ f → option_map (λ (y : Face). record { faces = faces; run = run; number = j; obj = x; face = y }) f ≡ Some o → StandsOver faces o
stands_by faces run j o x None over h e g = cc
stands_by faces run j o x (Some y) over h e g =
    let made : Occurrence = record { faces = faces; run = run; number = j; obj = x; face = y } in
    let same : made ≡ o = cc in
    subst (StandsOver faces) same (record { face = e; targets = counted faces run j x y over h e })

stands_where : (faces : List Face) (run : Run) (j : ℕ) (o : Occurrence) (x : Option Obj) → IsRunOver faces run → slice_get run.objs j ≡ x → option_and_then (occurrence faces run j) x ≡ Some o → StandsOver faces o
stands_where faces run j o None over h g = cc
stands_where faces run j o (Some x) over h g = stands_by faces run j o x (slice_get faces x.face) over h refl g

stands_over : (faces : List Face) (run : Run) (j : ℕ) (o : Occurrence) → IsRunOver faces run → occurrence_at faces run j ≡ Some o → StandsOver faces o
unfolding occurrence_at
stands_over faces run j o over g = stands_where faces run j o (slice_get run.objs j) over refl g

objects_stand : (faces : List Face) (run : Run) → IsRunOver faces run → All (StandsOver faces) (objects_of faces run)
unfolding objects_of
objects_stand faces run over =
    filter_map_each (λ j. IsRunOver faces run) (StandsOver faces) (occurrence_at faces run) (λ j o run_over e. stands_over faces run j o run_over e) (up_to (length run.objs)) (λ k d less. over)

all_stand : (faces : List Face) (runs : List Run) → All (IsRunOver faces) runs → All (StandsOver faces) (all_objects faces runs)
unfolding all_objects
all_stand faces runs over = flat_map_each (IsRunOver faces) (StandsOver faces) (objects_of faces) (objects_stand faces) runs over

pub programs_stand : (faces : List Face) (runs : List Run) → All (IsRunOver faces) runs → All (StandsOver faces) (programs_of faces runs)
unfolding programs_of
programs_stand faces runs over =
    filter_map_each (IsRunOver faces) (StandsOver faces) (λ (run : Run). occurrence_at faces run 0) (λ run o run_over e. stands_over faces run 0 o run_over e) runs over

-- ---- first places

each_with : (P : Occurrence → Type 0) (os : List Occurrence) (o : Occurrence) (b : Bool) → All P os → P o → All P (cond b os (os ++ o ∷ []))
each_with P os o true all h = all
each_with P os o false all h = All-push P os o all h

each_of_firsts : (P : Occurrence → Type 0) (os more : List Occurrence) → All P os → All P more → All P (each_first os more)
unfolding each_first
each_of_firsts P os [] all rest = all
each_of_firsts P os (o ∷ more) all rest =
    each_of_firsts P (with_object os o) more (each_with P os o (list_any (has_id o.obj.id) os) all (all_head P o more rest)) (all_tail P o more rest)

pub firsts_stand : (faces : List Face) (runs : List Run) → All (IsRunOver faces) runs → All (StandsOver faces) (first_places faces runs)
firsts_stand faces runs over = each_of_firsts (StandsOver faces) [] (all_objects faces runs) (All-nil (StandsOver faces)) (all_stand faces runs over)

abbrev IsFound : List Occurrence → Occurrence → Type 0
IsFound os o = find (has_id o.obj.id) os ≡ Some o

none_found_by : {X : Type 0} (p : X → Bool) (b : Bool) (x : X) (xs : List X) → p x ≡ b → (b || list_any p xs) ≡ false → (list_any p xs ≡ false → find p xs ≡ None) → cond b (Some x) (find p xs) ≡ None
none_found_by p true x xs e h rest = cc
none_found_by p false x xs e h rest = rest h

none_found : {X : Type 0} (p : X → Bool) (xs : List X) → list_any p xs ≡ false → find p xs ≡ None
none_found p [] h = refl
none_found p (x ∷ xs) h = none_found_by p (p x) x xs refl h (none_found p xs)

found_with : (os : List Occurrence) (o : Occurrence) (b : Bool) → list_any (has_id o.obj.id) os ≡ b → All (IsFound os) os → All (IsFound (cond b os (os ++ o ∷ []))) (cond b os (os ++ o ∷ []))
found_with os o true h all = all
found_with os o false h all =
    let own : bytes_eq o.obj.id o.obj.id ≡ true = (bytes_decides o.obj.id o.obj.id).1 refl in
    let last : IsFound (os ++ o ∷ []) o =
    find-append (has_id o.obj.id) os (o ∷ []) ∙ ap (λ r. option_or r (find (has_id o.obj.id) (o ∷ []))) (none_found (has_id o.obj.id) os h)
    ∙ ap (λ c. cond c (Some o) None) own in
    All-push (IsFound (os ++ o ∷ [])) os o
    (λ k d less. find-append (has_id (slice_index_or os k d).obj.id) os (o ∷ []) ∙ ap (λ r. option_or r (find (has_id (slice_index_or os k d).obj.id) (o ∷ []))) (all k d less)) last

found_firsts : (os more : List Occurrence) → All (IsFound os) os → All (IsFound (each_first os more)) (each_first os more)
unfolding each_first
found_firsts os [] all = all
found_firsts os (o ∷ more) all = found_firsts (with_object os o) more (found_with os o (list_any (has_id o.obj.id) os) refl all)

-- Each object is found at its first place by its identity.
pub firsts_found : (faces : List Face) (runs : List Run) → All (IsFound (first_places faces runs)) (first_places faces runs)
firsts_found faces runs = found_firsts [] (all_objects faces runs) (All-nil (IsFound []))

module _ (split : Split) (layout : Layout) (named : List NamedFile) (firsts : List Occurrence) where
  placed : (os : List Occurrence) → All (IsFound firsts) os → filter_map (change_if_placed split layout named firsts) (map member_of os) ≡ map (change_of_lib split layout named) os
  placed [] all = refl
  placed (o ∷ os) all =
      ap (λ found. cons_option (option_map (change_of_lib split layout named) found) (filter_map (change_if_placed split layout named firsts) (map member_of os))) (all_head (IsFound firsts) o os all)
      ∙ ap (λ l. change_of_lib split layout named o ∷ l) (placed os (all_tail (IsFound firsts) o os all))

  -- Libraries that are found at their first places are all changed.
  pub all_placed : (os : List Occurrence) → split.libs ≡ map member_of os → All (IsFound firsts) os → changes_of_libs split layout named firsts ≡ map (change_of_lib split layout named) os
  unfolding changes_of_libs
  all_placed os e all = ap (filter_map (change_if_placed split layout named firsts)) e ∙ placed os all
