-- Runs over one load list have the same first ask that is not met; so its versions are met or refused, and never both.
use Rattle.std.proofs.Common.{ℕ, zero, suc, List, [], ◌∷◌, ◌++◌, ◌==◌, ◌&&◌, ◌||◌, nat_le, Option, Some, None, ◌≡◌, refl, sym, ◌∙◌, ap, ap₂, subst, option_map, length, map, cond, slice_get, take, zip, filter, find, arith, inl, inr}
use Rattle.std.proofs.Math.Path.{fun_ext}
use Rattle.std.specs.List.{enumerate_from, flat_map, list_any}
use Rattle.std.specs.Option.{unwrap_or}
use Rattle.std.specs.Str.{bytes_eq}
use Rattle.answers.specs.First.{first_some}
use Rattle.load_model.proofs.LoadLists.{at_most_one, list_or_stop}
use Rattle.load_model.specs.Faces.{face_or_flaw}
use Rattle.load_model.specs.LoadList.{Loaded, Object, is_named, up_to}
use Rattle.load_model.specs.Loads.{IsLoadList}
use Rattle.load_model.specs.Replays.{IsReplayStop}
use Rattle.load_model.specs.Runs.{IsRunOf, face_at, face_of_object, phase_of}
use Rattle.load_model.specs.VersionCheck.{Unmet, VersionLacking, asked_by, asks_in, defs_in, first_unmet, has_defined, is_known_by, loaded_by, needs_in, needs_to, phase_at, soname_in, unmet, unmet_by, unmet_of, version_file_of}
use Rattle.load_model.specs.World.{World}
use Rattle.load_model.specs.declared.asks.Ask.{Ask}
use Rattle.load_model.specs.declared.faces.Face.{Face}
use Rattle.load_model.specs.declared.refusals.LoadRefusal.{LoadRefusal}
use Rattle.load_model.specs.declared.runs.Obj.{Obj}
use Rattle.load_model.specs.declared.runs.Run.{Run}
use Rattle.load_model.specs.declared.setting.Setting.{Setting}

-- as long a list has an element there too
pub there_too : {X : Type 0} {Y : Type 0} (xs : List X) (ys : List Y) (j : ℕ) (x : X) → length ys ≡ length xs → slice_get xs j ≡ Some x → (y : Y) × (slice_get ys j ≡ Some y)
there_too [] ys j x e h = cc
there_too (z ∷ xs) [] j x e h = absurd (omega (arith, e))
there_too (z ∷ xs) (y ∷ ys) zero x e h = (y, refl)
there_too (z ∷ xs) (y ∷ ys) (suc j) x e h = there_too xs ys j x (omega (arith, e)) h

-- and none where the other has none
pub none_too : {X : Type 0} {Y : Type 0} (xs : List X) (ys : List Y) (j : ℕ) → length ys ≡ length xs → slice_get xs j ≡ None → slice_get ys j ≡ None
none_too [] [] j e h = refl
none_too [] (y ∷ ys) j e h = absurd (omega (arith, e))
none_too (z ∷ xs) [] j e h = absurd (omega (arith, e))
none_too (z ∷ xs) (y ∷ ys) zero e h = absurd (cc)
none_too (z ∷ xs) (y ∷ ys) (suc j) e h = none_too xs ys j (omega (arith, e)) h

module _ (faces : List Face) (loaded : Loaded) (ends : List Loaded) (run : Run) (run_is : IsRunOf faces [] loaded ends run) where
  face_there : (j : ℕ) (o : Object) (x : Obj) → slice_get loaded.objs j ≡ Some o → slice_get run.objs j ≡ Some x → face_at faces run j ≡ Some o.face
  face_there j o x stands there =
      let is = run_is.objs j x there in
      let same : is.object ≡ o = let both : Some is.object ≡ Some o = sym is.stands ∙ stands in cc in
      let face_is : slice_get faces x.face ≡ Some o.face = is.face ∙ ap (λ (p : Object). Some p.face) same in
      rw there face_is

  -- an object's face is that of the load list
  pub same_face : (j : ℕ) (found : Option Object) → slice_get loaded.objs j ≡ found → face_at faces run j ≡ face_of_object found
  same_face j None h = rw (none_too loaded.objs run.objs j run_is.count h) refl
  same_face j (Some o) h =
      let w = there_too loaded.objs run.objs j o run_is.count h in
      face_there j o w.0 h w.1

abbrev phase_in : List Loaded → ℕ → Option Object → ℕ
phase_in ends j None = 0
phase_in ends j (Some o) = phase_of ends j

-- an object's phase is that of the load list
phase_is : (faces : List Face) (loaded : Loaded) (ends : List Loaded) (run : Run) → IsRunOf faces [] loaded ends run → (j : ℕ) (found : Option Object) → slice_get loaded.objs j ≡ found → phase_at run j ≡ phase_in ends j found
phase_is faces loaded ends run is j None h = rw (none_too loaded.objs run.objs j is.count h) refl
phase_is faces loaded ends run is j (Some o) h =
    let w = there_too loaded.objs run.objs j o is.count h in
    rw w.1 ((is.objs j w.0 w.1).phase)

module _ (faces faces' : List Face) (loaded : Loaded) (ends : List Loaded) (run run' : Run) (is : IsRunOf faces [] loaded ends run) (is' : IsRunOf faces' [] loaded ends run') where
  faces_same : (j : ℕ) → face_at faces run j ≡ face_at faces' run' j
  faces_same j = same_face faces loaded ends run is j (slice_get loaded.objs j) refl ∙ sym (same_face faces' loaded ends run' is' j (slice_get loaded.objs j) refl)

  phases_same : (j : ℕ) → phase_at run j ≡ phase_at run' j
  phases_same j = phase_is faces loaded ends run is j (slice_get loaded.objs j) refl ∙ sym (phase_is faces' loaded ends run' is' j (slice_get loaded.objs j) refl)

  numbers_same : up_to (length run.objs) ≡ up_to (length run'.objs)
  numbers_same = ap up_to (is.count ∙ sym is'.count)

  targets_same : run.targets ≡ run'.targets
  targets_same = is.targets ∙ sym is'.targets

  opened_same : zip run.opens run.roots ≡ zip run'.opens run'.roots
  opened_same = ap₂ zip (is.opened ∙ sym is'.opened) (is.roots ∙ sym is'.roots)

  loaded_same : (phase : ℕ) → loaded_by run phase ≡ loaded_by run' phase
  loaded_same phase = ap₂ filter (fun_ext (λ j. ap (λ p. nat_le p phase) (phases_same j))) numbers_same

  needs_same : (j : ℕ) → needs_to faces run j ≡ needs_to faces' run' j
  needs_same j = ap₂ zip (ap needs_in (faces_same j)) (ap (λ (ts : List (List ℕ)). unwrap_or (slice_get ts j) []) targets_same)

  asked_same : (phase : ℕ) → asked_by faces run phase ≡ asked_by faces' run' phase
  asked_same phase = ap₂ ◌++◌ (ap₂ flat_map (fun_ext needs_same) (loaded_same phase)) (ap (take phase) opened_same)

  known_same : (phase : ℕ) (name : List ℕ) (j : ℕ) → is_known_by faces run phase name j ≡ is_known_by faces' run' phase name j
  known_same phase name j = ap₂ ◌||◌ (ap (λ (f : Option Face). is_named (soname_in f) name) (faces_same j)) (ap (list_any (λ (a : List ℕ × ℕ). bytes_eq a.0 name && (a.1 == j))) (asked_same phase))

  file_same : (j : ℕ) (file : List ℕ) → version_file_of faces run j file ≡ version_file_of faces' run' j file
  unfolding version_file_of
  file_same j file = ap (λ (p : ℕ). find (is_known_by faces run p file) (loaded_by run p)) (phases_same j) ∙ ap₂ find (fun_ext (known_same (phase_at run' j) file)) (loaded_same (phase_at run' j))

  unmet_by_same : (version : List ℕ) (file : Option ℕ) → unmet_by faces run version file ≡ unmet_by faces' run' version file
  unmet_by_same version None = refl
  unmet_by_same version (Some j) = ap (λ (f : Option Face). cond (has_defined version (defs_in f)) None (Some VersionLacking)) (faces_same j)

  unmet_same : (j : ℕ) (ask : Ask) → unmet faces run j ask ≡ unmet faces' run' j ask
  unmet_same j ask = ap (λ (o : Option Unmet). cond ask.weak None o) (ap (unmet_by faces run ask.name) (file_same j ask.file) ∙ unmet_by_same ask.name (version_file_of faces' run' j ask.file))

  of_same : (j : ℕ) → unmet_of faces run j ≡ unmet_of faces' run' j
  of_same j = ap₂ map (fun_ext (λ (numbered : ℕ × Ask). ap (option_map (λ (why : Unmet). record { obj = j; ask = numbered.0; why = why })) (unmet_same j numbered.1))) (ap (λ (f : Option Face). enumerate_from 0 (asks_in f)) (faces_same j))

  pub first_same : first_unmet faces run ≡ first_unmet faces' run'
  unfolding first_unmet
  first_same = ap first_some (ap₂ flat_map (fun_ext of_same) numbers_same)

-- a program whose versions are met is not refused
pub met_or_refused : (setting : Setting) (world : World) (path : List ℕ) (loaded : Loaded) (ends : List Loaded) (faces : List Face) (run : Run) (refusal : LoadRefusal) → IsLoadList face_or_flaw setting world path [] loaded ends → IsRunOf faces [] loaded ends run → first_unmet faces run ≡ None → IsReplayStop face_or_flaw setting world path [] refusal → ⊥
met_or_refused setting world path loaded ends faces run refusal list is met (inl stopped) = list_or_stop face_or_flaw setting world path [] loaded ends refusal list stopped
met_or_refused setting world path loaded ends faces run refusal list is met (inr unmet) =
    let same = at_most_one face_or_flaw setting world path [] unmet.loads.loaded loaded unmet.loads.ends ends unmet.loads.list list in
    let there : IsRunOf unmet.faces [] loaded ends unmet.run = subst (λ (es : List Loaded). IsRunOf unmet.faces [] loaded es unmet.run) same.1 (subst (λ (s : Loaded). IsRunOf unmet.faces [] s unmet.loads.ends unmet.run) same.0 unmet.loads.run_is) in
    let none : None ≡ Some unmet.first = sym met ∙ first_same faces unmet.faces loaded ends run unmet.run is there ∙ unmet.unmet in
    absurd (cc)
