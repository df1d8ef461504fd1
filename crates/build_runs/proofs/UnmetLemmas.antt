-- Runs that agree on faces, phases and targets have the same first ask that is not met; so have runs that say one load list.
use Rattle.std.proofs.Common.{ℕ, zero, suc, List, [], ◌∷◌, ◌++◌, ◌==◌, ◌&&◌, ◌||◌, nat_le, Option, Some, None, ◌≡◌, refl, sym, ◌∙◌, ap, ap₂, option_map, length, map, cond, slice_get, take, zip, filter, find, arith}
use Rattle.std.proofs.Math.Path.{fun_ext}
use Rattle.std.specs.List.{enumerate_from, flat_map, list_any}
use Rattle.std.specs.Option.{unwrap_or}
use Rattle.std.specs.Str.{bytes_eq}
use Rattle.answers.specs.First.{first_some}
use Rattle.load_model.specs.LoadList.{Loaded, Object, is_named, up_to}
use Rattle.load_model.specs.Runs.{IsRunOf, face_at, phase_of}
use Rattle.load_model.specs.VersionCheck.{Unmet, VersionLacking, asked_by, asks_in, defs_in, first_unmet, has_defined, is_known_by, loaded_by, needs_in, needs_to, phase_at, soname_in, unmet, unmet_by, unmet_of, version_file_of}
use Rattle.load_model.specs.declared.asks.Ask.{Ask}
use Rattle.load_model.specs.declared.faces.Face.{Face}
use Rattle.load_model.specs.declared.runs.Run.{Run}

module _ (faces faces' : List Face) (run run' : Run) (faces_same : (j : ℕ) → face_at faces run j ≡ face_at faces' run' j) (phases_same : (j : ℕ) → phase_at run j ≡ phase_at run' j) (count_same : length run.objs ≡ length run'.objs) (targets_same : run.targets ≡ run'.targets) (opens_same : run.opens ≡ run'.opens) (roots_same : run.roots ≡ run'.roots) where
  numbers_same : up_to (length run.objs) ≡ up_to (length run'.objs)
  numbers_same = ap up_to count_same

  opened_same : zip run.opens run.roots ≡ zip run'.opens run'.roots
  opened_same = ap₂ zip opens_same roots_same

  loaded_same : (phase : ℕ) → loaded_by run phase ≡ loaded_by run' phase
  loaded_same phase = ap₂ filter (fun_ext (λ j. ap (λ p. nat_le p phase) (phases_same j))) numbers_same

  needs_same : (j : ℕ) → needs_to faces run j ≡ needs_to faces' run' j
  needs_same j = ap₂ zip (ap needs_in (faces_same j)) (ap (λ (ts : List (List ℕ)). unwrap_or (slice_get ts j) []) targets_same)

  asked_same : (phase : ℕ) → asked_by faces run phase ≡ asked_by faces' run' phase
  asked_same phase = ap₂ ◌++◌ (ap₂ flat_map (fun_ext needs_same) (loaded_same phase)) (ap (take phase) opened_same)

  known_same : (phase : ℕ) (name : List ℕ) (j : ℕ) → is_known_by faces run phase name j ≡ is_known_by faces' run' phase name j
  known_same phase name j = ap₂ ◌||◌ (ap (λ (f : Option Face). is_named (soname_in f) name) (faces_same j)) (ap (list_any (λ (a : List ℕ × ℕ). bytes_eq a.0 name && (a.1 == j))) (asked_same phase))

  file_same : (j : ℕ) (file : List ℕ) → version_file_of faces run j file ≡ version_file_of faces' run' j file
  unfolding version_file_of
  file_same j file = ap (λ (p : ℕ). find (is_known_by faces run p file) (loaded_by run p)) (phases_same j) ∙ ap₂ find (fun_ext (known_same (phase_at run' j) file)) (loaded_same (phase_at run' j))

  unmet_by_same : (version : List ℕ) (file : Option ℕ) → unmet_by faces run version file ≡ unmet_by faces' run' version file
  unmet_by_same version None = refl
  unmet_by_same version (Some j) = ap (λ (f : Option Face). cond (has_defined version (defs_in f)) None (Some VersionLacking)) (faces_same j)

  unmet_same : (j : ℕ) (ask : Ask) → unmet faces run j ask ≡ unmet faces' run' j ask
  unmet_same j ask = ap (λ (o : Option Unmet). cond ask.weak None o) (ap (unmet_by faces run ask.name) (file_same j ask.file) ∙ unmet_by_same ask.name (version_file_of faces' run' j ask.file))

  of_same : (j : ℕ) → unmet_of faces run j ≡ unmet_of faces' run' j
  of_same j = ap₂ map (fun_ext (λ (numbered : ℕ × Ask). ap (option_map (λ (why : Unmet). record { obj = j; ask = numbered.0; why = why })) (unmet_same j numbered.1))) (ap (λ (f : Option Face). enumerate_from 0 (asks_in f)) (faces_same j))

  pub first_agreed : first_unmet faces run ≡ first_unmet faces' run'
  unfolding first_unmet
  first_agreed = ap first_some (ap₂ flat_map (fun_ext of_same) numbers_same)

-- as long a list has an element there too
pub there_too : {X : Type 0} {Y : Type 0} (xs : List X) (ys : List Y) (j : ℕ) (x : X) → length ys ≡ length xs → slice_get xs j ≡ Some x → (y : Y) × (slice_get ys j ≡ Some y)
there_too [] ys j x e h = cc
there_too (z ∷ xs) [] j x e h = absurd (omega (arith, e))
there_too (z ∷ xs) (y ∷ ys) zero x e h = (y, refl)
there_too (z ∷ xs) (y ∷ ys) (suc j) x e h = there_too xs ys j x (omega (arith, e)) h

pub none_too : {X : Type 0} {Y : Type 0} (xs : List X) (ys : List Y) (j : ℕ) → length ys ≡ length xs → slice_get xs j ≡ None → slice_get ys j ≡ None
none_too [] [] j e h = refl
none_too [] (y ∷ ys) j e h = absurd (omega (arith, e))
none_too (z ∷ xs) [] j e h = absurd (omega (arith, e))
none_too (z ∷ xs) (y ∷ ys) zero e h = absurd (cc)
none_too (z ∷ xs) (y ∷ ys) (suc j) e h = none_too xs ys j (omega (arith, e)) h

abbrev phase_in : List Loaded → ℕ → Option Object → ℕ
phase_in ends j None = 0
phase_in ends j (Some o) = phase_of ends j

abbrev face_in : Option Object → Option Face
face_in None = None
face_in (Some o) = Some o.face

-- what a run says of an object is what its load list has
module _ (faces : List Face) (opens : List (List ℕ)) (loaded : Loaded) (ends : List Loaded) (run : Run) (is : IsRunOf faces opens loaded ends run) where
  phase_is : (j : ℕ) (found : Option Object) → slice_get loaded.objs j ≡ found → phase_at run j ≡ phase_in ends j found
  phase_is j None h = rw (none_too loaded.objs run.objs j is.count h) refl
  phase_is j (Some o) h =
      let w = there_too loaded.objs run.objs j o is.count h in
      rw w.1 ((is.objs j w.0 w.1).phase)

  pub face_is : (j : ℕ) (found : Option Object) → slice_get loaded.objs j ≡ found → face_at faces run j ≡ face_in found
  face_is j None h = rw (none_too loaded.objs run.objs j is.count h) refl
  face_is j (Some o) h =
      let w = there_too loaded.objs run.objs j o is.count h in
      let x = is.objs j w.0 w.1 in
      let same : Some x.object ≡ Some o = sym x.stands ∙ h in
      let object : x.object ≡ o = cc in
      rw w.1 (x.face ∙ ap (λ (object : Object). Some object.face) object)

module _ (faces faces' : List Face) (opens : List (List ℕ)) (loaded : Loaded) (ends : List Loaded) (run run' : Run) (is : IsRunOf faces opens loaded ends run) (is' : IsRunOf faces' opens loaded ends run') where
  pub faces_agree : (j : ℕ) → face_at faces run j ≡ face_at faces' run' j
  faces_agree j = face_is faces opens loaded ends run is j (slice_get loaded.objs j) refl ∙ sym (face_is faces' opens loaded ends run' is' j (slice_get loaded.objs j) refl)

  phases_agree : (j : ℕ) → phase_at run j ≡ phase_at run' j
  phases_agree j = phase_is faces opens loaded ends run is j (slice_get loaded.objs j) refl ∙ sym (phase_is faces' opens loaded ends run' is' j (slice_get loaded.objs j) refl)

  pub first_same : first_unmet faces run ≡ first_unmet faces' run'
  first_same = first_agreed faces faces' run run' faces_agree phases_agree (is.count ∙ sym is'.count) (is.targets ∙ sym is'.targets) (is.opened ∙ sym is'.opened) (is.roots ∙ sym is'.roots)
