-- Where the needs of objects go, and that each becomes the name of its target.
use Rattle.std.proofs.Common.{◌≡◌, ◌∙◌, sym, ap, ap₂, refl, subst, ℕ, zero, suc, ◌<◌, List, [], ◌∷◌, All, Bool, true, false, cond, Option, Some, None, is_some, bytes_eq, length, map, slice_get, zip, arith}
use Rattle.std.specs.Prelude.{not}
use Rattle.std.specs.List.{Contains, find}
use Rattle.std.specs.Option.{option_and_then, option_map, unwrap_or}
use Rattle.std.proofs.lemmas.Bool.{not-false}
use Rattle.std.proofs.lemmas.List.Elements.{All-contains}
use Rattle.std.proofs.lemmas.Option.{slice_get_within}
use Rattle.answers.specs.First.{some_where}
use Rattle.build_plan.specs.Building.{Building}
use Rattle.lib_closure.specs.Clashes.{first_file_split, first_need_split, goes_elsewhere, host_alias, host_needs_unlisted, is_alias, is_other_key, key_of_object, need_alias, need_split, need_unlisted, needs_bundled, path_of_object, split_at, split_from, split_need}
use Rattle.lib_closure.specs.Kinds.{is_bundled, is_bundled_if_any, is_host_library}
use Rattle.lib_closure.specs.Objects.{Occurrence, all_objects, first_place_of, first_places, has_id, in_same_list, key_held, occurrence_at, own_needs, own_targets}
use Rattle.lib_closure.specs.declared.splits.Member.{Member}
use Rattle.lib_closure.specs.declared.stops.ClosureStop.{ClosureStop}
use Rattle.lib_closure.specs.declared.stops.ClosureStop.TheVariants.{HostAlias, HostNeedsUnlisted, SplitNeed}
use Rattle.lib_closure.proofs.ContainedLemmas.{any_in, at_place, is_there, none_gives, none_passes}
use Rattle.lib_closure.proofs.PlacedLemmas.{Occurs, first_in_all, first_of, in_all, occurs, of_all, standing_at}
use Rattle.lib_closure.proofs.SplitLemmas.{none_first, none_mapped}
use Rattle.load_model.specs.Runs.{IsRunOver, face_at}
use Rattle.load_model.specs.declared.faces.Face.{Face}
use Rattle.load_model.specs.declared.runs.Obj.{Obj}
use Rattle.load_model.specs.declared.runs.Run.{Run}
use Rattle.load_model.proofs.TwoWorlds.{same_bytes}
use Rattle.appdir_build.proofs.FirstLemmas.{get_zip}
use Rattle.name_layout.specs.Openings.{lib_with}
use Rattle.object_changes.specs.Changing.{has_bundled_need, new_need, new_needs}
use Rattle.object_changes.specs.Names.{goes_to_bundled, name_beside, new_name_of}

-- ---- lists side by side

pub zip_map_by : {X Y Z : Type 0} (f : (X × Y) → Z) (g : X → Z) (xs : List X) (ys : List Y) → length ys ≡ length xs → ((e : ℕ) (x : X) (y : Y) → slice_get xs e ≡ Some x → slice_get ys e ≡ Some y → f (x, y) ≡ g x) → map f (zip xs ys) ≡ map g xs
zip_map_by f g [] ys count h = refl
zip_map_by f g (x ∷ xs) [] count h = absurd (omega (arith, count))
zip_map_by f g (x ∷ xs) (y ∷ ys) count h = ap₂ (λ z zs. z ∷ zs) (h 0 x y refl refl) (zip_map_by f g xs ys (omega (arith, count)) (λ e v w a c. h (suc e) v w a c))

pub map_same_by : {X Y : Type 0} (f g : X → Y) (xs : List X) → ((e : ℕ) (x : X) → slice_get xs e ≡ Some x → f x ≡ g x) → map f xs ≡ map g xs
map_same_by f g [] h = refl
map_same_by f g (x ∷ xs) h = ap₂ (λ z zs. z ∷ zs) (h 0 x refl) (map_same_by f g xs (λ e v a. h (suc e) v a))

pub map_stays_by : {X : Type 0} (f : X → X) (xs : List X) → ((e : ℕ) (x : X) → slice_get xs e ≡ Some x → f x ≡ x) → map f xs ≡ xs
map_stays_by f [] h = refl
map_stays_by f (x ∷ xs) h = ap₂ (λ z zs. z ∷ zs) (h 0 x refl) (map_stays_by f xs (λ e v a. h (suc e) v a))

pub zip_parts : {X Y : Type 0} (xs : List X) (ys : List Y) (k : ℕ) (p : X × Y) → slice_get (zip xs ys) k ≡ Some p → (slice_get xs k ≡ Some p.0) × (slice_get ys k ≡ Some p.1)
zip_parts [] ys k p h = cc
zip_parts (x ∷ xs) [] k p h = cc
zip_parts {X} {Y} (x ∷ xs) (y ∷ ys) zero p h =
    let made : X × Y = (x, y) in
    let one : made ≡ p = cc in
    (ap (λ (z : X × Y). Some z.0) one, ap (λ (z : X × Y). Some z.1) one)
zip_parts (x ∷ xs) (y ∷ ys) (suc k) p h = zip_parts xs ys k p h

-- ---- a need where an object stands

-- The need of this number goes to an object of this identity.
pub record GoesTo (o : Occurrence) (e : ℕ) (id : List ℕ) : Type 0 where
  pub target : ℕ
  pub to : slice_get (own_targets o) e ≡ Some target
  pub it : Occurrence
  pub there : in_same_list o target ≡ Some it
  pub same : it.obj.id ≡ id

named_by : (b : Building) (o : Occurrence) (target : ℕ) (it : Occurrence) (id name need : List ℕ) → in_same_list o target ≡ Some it → it.obj.id ≡ id → new_name_of b.split b.layout id ≡ Some name → new_need b.split b.layout o (need, target) ≡ name
unfolding name_beside
named_by b o target it id name need there same known =
    ap (λ p. unwrap_or (option_and_then (λ (q : Occurrence). new_name_of b.split b.layout q.obj.id) p) need) there
    ∙ ap (λ i. unwrap_or (new_name_of b.split b.layout i) need) same ∙ ap (λ n. unwrap_or n need) known

pub bundled_by : (b : Building) (o : Occurrence) (target : ℕ) (it : Occurrence) (id : List ℕ) (lib : Member) → in_same_list o target ≡ Some it → it.obj.id ≡ id → lib_with b.split id ≡ Some lib → goes_to_bundled b.split b.layout o target ≡ true
unfolding goes_to_bundled
bundled_by b o target it id lib there same known =
    ap (λ p. is_some (option_and_then (λ (q : Occurrence). lib_with b.split q.obj.id) p)) there
    ∙ ap (λ i. is_some (lib_with b.split i)) same ∙ ap is_some known

-- Needs become the names of what they go to.
pub needs_named : (b : Building) (o : Occurrence) (g : List ℕ → List ℕ) → length (own_targets o) ≡ length o.face.needs → ((e : ℕ) (need : List ℕ) → slice_get o.face.needs e ≡ Some need → (id : List ℕ) × GoesTo o e id × (new_name_of b.split b.layout id ≡ Some (g need))) → new_needs b.split b.layout o ≡ map g o.face.needs
unfolding new_needs
needs_named b o g count h =
    zip_map_by (new_need b.split b.layout o) g o.face.needs (own_targets o) count
    (λ e need t hn ht.
    let w = h e need hn in
    let to = w.1 in
    let both : Some to.target ≡ Some t = sym to.to ∙ ht in
    let one : to.target ≡ t = cc in
    ap (λ k. new_need b.split b.layout o (need, k)) (sym one) ∙ named_by b o to.target to.it w.0 (g need) need to.there to.same w.2)

pub has_need : (b : Building) (o : Occurrence) (e : ℕ) (id : List ℕ) (lib : Member) → GoesTo o e id → lib_with b.split id ≡ Some lib → has_bundled_need b.split b.layout o ≡ true
unfolding has_bundled_need
has_need b o e id lib to known =
    any_in (goes_to_bundled b.split b.layout o) (own_targets o) to.target (at_place (own_targets o) e to.target to.to) (bundled_by b o to.target to.it id lib to.there to.same known)

-- ---- where an object of a run stands

pub beside : (faces : List Face) (run : Run) (j t : ℕ) (o p : Occurrence) → Occurs faces run j o → occurrence_at faces run t ≡ Some p → in_same_list o t ≡ Some p
beside faces run j t o p is h = ap (λ fs. occurrence_at fs o.run t) is.faces_are ∙ ap (λ r. occurrence_at faces r t) is.run_is ∙ h

pub own_targets_are : (faces : List Face) (run : Run) (j : ℕ) (o : Occurrence) (ts : List ℕ) → Occurs faces run j o → slice_get run.targets j ≡ Some ts → own_targets o ≡ ts
own_targets_are faces run j o ts is h =
    ap (λ (r : Run). unwrap_or (slice_get r.targets o.number) []) is.run_is
    ∙ ap (λ n. unwrap_or (slice_get run.targets n) []) is.number ∙ ap (λ x. unwrap_or x []) h

module _ (faces : List Face) (run : Run) (over : IsRunOver faces run) where
  -- Each need has a target there.
  pub goes_at : (j : ℕ) (o : Occurrence) → occurrence_at faces run j ≡ Some o → (e : ℕ) (need : List ℕ) → slice_get o.face.needs e ≡ Some need → (t : ℕ) × (p : Occurrence) × (slice_get (own_targets o) e ≡ Some t) × (occurrence_at faces run t ≡ Some p) × (in_same_list o t ≡ Some p)
  goes_at j o h e need g =
      let is = occurs faces run j o h in
      let face : face_at faces run j ≡ Some o.face = ap (option_and_then (λ (x : Obj). slice_get faces x.face)) is.obj ∙ is.face in
      let inside = slice_get_within run.objs j o.obj is.obj in
      let ts = is_there run.targets j (let l = over.lists in omega (arith, l, inside)) in
      let many = over.counts j o.face ts.it face ts.is in
      let within = slice_get_within o.face.needs e need g in
      let t = is_there ts.it e (omega (arith, many, within)) in
      let below = All-contains (λ ns. All (λ n. n < length run.objs) ns) run.targets ts.it over.targets (at_place run.targets j ts.it ts.is) in
      let less = All-contains (λ n. n < length run.objs) ts.it t.it below (at_place ts.it e t.it t.is) in
      let x = is_there run.objs t.it less in
      let p = standing_at faces run t.it x.it over x.is in
      (t.it, p.it, ap (λ ns. slice_get ns e) (own_targets_are faces run j o ts.it is ts.is) ∙ t.is, p.at, beside faces run j t.it o p.it is p.at)

  pub counted : (j : ℕ) (o : Occurrence) → occurrence_at faces run j ≡ Some o → length (own_targets o) ≡ length o.face.needs
  counted j o h =
      let is = occurs faces run j o h in
      let face : face_at faces run j ≡ Some o.face = ap (option_and_then (λ (x : Obj). slice_get faces x.face)) is.obj ∙ is.face in
      let inside = slice_get_within run.objs j o.obj is.obj in
      let ts = is_there run.targets j (let l = over.lists in omega (arith, l, inside)) in
      ap length (own_targets_are faces run j o ts.it is ts.is) ∙ over.counts j o.face ts.it face ts.is

none_then : {A : Type 0} (c : Bool) (o : Option A) → c ≡ true → cond c o None ≡ None → o ≡ None
none_then true o h e = e
none_then false o h e = cc

same_by : (c : Bool) (stop : ClosureStop) → some_where (not c) stop ≡ None → c ≡ true
same_by true stop h = refl
same_by false stop h = cc

module _ (faces : List Face) (runs : List Run) (names : List (List ℕ)) where
  -- ---- a bundled library has the same targets wherever it stands

  split_none : (o : Occurrence) → split_need faces runs names ≡ None → Contains (all_objects faces runs) o → is_bundled faces runs names o ≡ true → first_need_split faces runs names (first_place_of faces runs o) o ≡ None
  unfolding split_need split_at
  split_none o h c is =
      let none = none_gives (split_at faces runs names) (all_objects faces runs) o h c in
      let from = none_then (is_bundled faces runs names o) (split_from faces runs names (first_place_of faces runs o) o) is none in
      (none_first (first_need_split faces runs names (first_place_of faces runs o) o) (first_file_split faces runs names (first_place_of faces runs o) o ∷ []) from).0

  same_target : (first o : Occurrence) (e t' t : ℕ) (need : List ℕ) (p' p : Occurrence) → first_need_split faces runs names first o ≡ None → slice_get (own_targets first) e ≡ Some t' → slice_get o.face.needs e ≡ Some need → slice_get (own_targets o) e ≡ Some t → in_same_list first t' ≡ Some p' → in_same_list o t ≡ Some p → p'.obj.id ≡ p.obj.id
  unfolding first_need_split
  same_target first o e t' t need p' p none to' hn to there' there =
      let pair : slice_get (own_needs o) e ≡ Some (need, t) = get_zip o.face.needs (own_targets o) e need t hn to in
      let both : slice_get (zip (own_targets first) (own_needs o)) e ≡ Some (t', (need, t)) = get_zip (own_targets first) (own_needs o) e t' (need, t) to' pair in
      let alike = none_gives (need_split faces runs names first o) (zip (own_targets first) (own_needs o)) (t', (need, t)) none (at_place (zip (own_targets first) (own_needs o)) e (t', (need, t)) both) in
      let gone : goes_elsewhere faces runs names o need (Some p') (Some p) ≡ None = ap₂ (λ x y. goes_elsewhere faces runs names o need x y) (sym there') (sym there) ∙ alike in
      same_bytes p'.obj.id p.obj.id
      (same_by (bytes_eq p'.obj.id p.obj.id) (SplitNeed (path_of_object faces runs names o) need (path_of_object faces runs names p') (path_of_object faces runs names p)) gone)

  -- The first place of a bundled library goes where it goes here.
  pub first_goes : (over : All (IsRunOver faces) runs) (run : Run) (j : ℕ) (o first : Occurrence) → split_need faces runs names ≡ None → Contains runs run → occurrence_at faces run j ≡ Some o → find (has_id o.obj.id) (first_places faces runs) ≡ Some first → is_bundled faces runs names o ≡ true → first.face ≡ o.face → (e t : ℕ) (need : List ℕ) (p : Occurrence) → slice_get o.face.needs e ≡ Some need → slice_get (own_targets o) e ≡ Some t → in_same_list o t ≡ Some p → GoesTo first e p.obj.id
  unfolding first_place_of
  first_goes over run j o first none c h found is seen e t need p hn to there =
      let all = in_all faces runs run j o c h in
      let f = first_of faces runs o all in
      let both : Some f.it ≡ Some first = sym f.found ∙ found in
      let one : f.it ≡ first = cc in
      let place : first_place_of faces runs o ≡ first = ap (λ r. unwrap_or r o) found in
      let comes = of_all faces runs first (first_in_all faces runs first (subst (Contains (first_places faces runs)) one f.there)) in
      let w = goes_at faces comes.run (All-contains (IsRunOver faces) runs comes.run over comes.there) comes.number first comes.at e need (ap (λ (x : Face). slice_get x.needs e) seen ∙ hn) in
      let gone : first_need_split faces runs names first o ≡ None = ap (λ q. first_need_split faces runs names q o) (sym place) ∙ split_none o none all is in
      record { target = w.0; to = w.2; it = w.1; there = w.4; same = same_target first o e w.0 t need w.1 p gone w.2 hn to w.4 there }

  -- ---- needs of host libraries are the keys of what they go to

  not_aliased : (o : Occurrence) → host_alias faces runs names ≡ None → Contains (all_objects faces runs) o → is_host_library faces runs names o ≡ true → find (is_alias faces runs names o) (own_needs o) ≡ None
  unfolding host_alias need_alias
  not_aliased o h c is =
      let found : Option (List ℕ × ℕ) = find (is_alias faces runs names o) (own_needs o) in
      let stop : (List ℕ × ℕ) → ClosureStop = λ need. HostAlias (path_of_object faces runs names o) need.0 in
      none_mapped stop found
      (none_then (is_host_library faces runs names o) (option_map stop found) is (none_gives (need_alias faces runs names) (all_objects faces runs) o h c))

  not_unlisted : (o : Occurrence) → host_needs_unlisted faces runs names ≡ None → Contains (all_objects faces runs) o → is_host_library faces runs names o ≡ true → find (needs_bundled faces runs names o) (own_needs o) ≡ None
  unfolding host_needs_unlisted need_unlisted
  not_unlisted o h c is =
      let found : Option (List ℕ × ℕ) = find (needs_bundled faces runs names o) (own_needs o) in
      let stop : (List ℕ × ℕ) → ClosureStop = λ need. HostNeedsUnlisted (path_of_object faces runs names o) need.0 in
      none_mapped stop found
      (none_then (is_host_library faces runs names o) (option_map stop found) is (none_gives (need_unlisted faces runs names) (all_objects faces runs) o h c))

  -- A host library asks for the key of its target, which is not bundled.
  pub host_goes : (o p : Occurrence) (e t : ℕ) (need : List ℕ) → host_alias faces runs names ≡ None → host_needs_unlisted faces runs names ≡ None → Contains (all_objects faces runs) o → is_host_library faces runs names o ≡ true → slice_get o.face.needs e ≡ Some need → slice_get (own_targets o) e ≡ Some t → in_same_list o t ≡ Some p → (need ≡ key_held (first_place_of faces runs p)) × (is_bundled faces runs names p ≡ false)
  host_goes o p e t need aliases unlisted c is hn to there =
      let pair : slice_get (own_needs o) e ≡ Some (need, t) = get_zip o.face.needs (own_targets o) e need t hn to in
      let has = at_place (own_needs o) e (need, t) pair in
      let alias = none_passes (is_alias faces runs names o) (own_needs o) (need, t) (not_aliased o aliases c is) has in
      let bundled = none_passes (needs_bundled faces runs names o) (own_needs o) (need, t) (not_unlisted o unlisted c is) has in
      let key : not (bytes_eq need (key_of_object faces runs names p)) ≡ false = sym (ap (is_other_key faces runs names need) there) ∙ alias in (
        same_bytes need (key_of_object faces runs names p) (not-false (bytes_eq need (key_of_object faces runs names p)) key),
        sym (ap (is_bundled_if_any faces runs names) there) ∙ bundled,
      )
