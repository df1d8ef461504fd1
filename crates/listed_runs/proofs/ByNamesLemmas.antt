-- A load list that is all on a list of file names goes by names.
use Rattle.std.proofs.Common.{ℕ, zero, suc, List, [], ◌∷◌, Bool, true, false, not, Option, Some, None, Result, is_none, ◌≡◌, ◌<◌, ◌==◌, ◌&&◌, ◌||◌, inl, inr, refl, sym, ◌∙◌, ap, subst, map, slice_get, arith}
use Rattle.std.specs.Prelude.{All}
use Rattle.std.specs.List.{list_all}
use Rattle.std.specs.Str.{bytes_eq}
use Rattle.std.proofs.lemmas.Bool.{and_parts}
use Rattle.std.proofs.lemmas.List.{append-nil}
use Rattle.std.proofs.lemmas.List.Elements.{All-head, All-tail}
use Rattle.byte_view.specs.declared.flaws.Flaw.{Flaw}
use Rattle.path_text.specs.FileName.{IsFileName}
use Rattle.load_model.specs.LoadList.{Object, Request, Asked, Loaded, needs_from, requests_of}
use Rattle.load_model.specs.Loads.{IsLoadList}
use Rattle.load_model.specs.Runs.{target_in, face_of_object}
use Rattle.load_model.specs.SameNames.{HasNoRunPath, IsByNames, key_of}
use Rattle.load_model.specs.World.{World}
use Rattle.load_model.specs.declared.faces.Face.{Face}
use Rattle.load_model.specs.declared.setting.Setting.{Setting}
use Rattle.load_model.proofs.AskedNeeds.{map_get}
use Rattle.load_model.proofs.Counts.{slice_get-append}
use Rattle.load_model.proofs.LoadLists.{forget, name_has_target}
use Rattle.load_model.proofs.Places.{slice_get-take}
use Rattle.load_model.proofs.TwoWorlds.{same_bytes}
use Rattle.listed_runs.specs.Fitting.{fits_as_object, fits_as_program, fits_need, has_key, has_listed_interpreter, is_all_listed, is_on_list}

none_is : {A : Type 0} (o : Option A) → is_none o ≡ true → o ≡ None
none_is None h = refl
none_is (Some x) h = cc

all_pass : {A : Type 0} (test : A → Bool) (xs : List A) (j : ℕ) (x : A) → list_all test xs ≡ true → slice_get xs j ≡ Some x → test x ≡ true
all_pass test [] j x h g = cc
all_pass test (y ∷ xs) zero x h g =
    let same : y ≡ x = cc in
    ap test (sym same) ∙ (and_parts (test y) (list_all test xs) h).0
all_pass test (y ∷ xs) (suc j) x h g = all_pass test xs j x (and_parts (test y) (list_all test xs) h).1 g

is_name_by : (b : Bool) (n name : List ℕ) (rest : Bool) → bytes_eq n name ≡ b → IsFileName n → (rest ≡ true → IsFileName name) → (b || rest) ≡ true → IsFileName name
is_name_by true n name rest e plain more h = subst IsFileName (same_bytes n name e) plain
is_name_by false n name rest e plain more h = more h

-- what is on a list of file names is one
is_name : (names : List (List ℕ)) (name : List ℕ) → All IsFileName names → is_on_list names name ≡ true → IsFileName name
is_name [] name all h = cc
is_name (n ∷ names) name all h =
    is_name_by (bytes_eq n name) n name (is_on_list names name) refl (All-head IsFileName n names all) (λ g. is_name names name (All-tail IsFileName n names all) g) h

above_zero : (t : ℕ) → not (t == 0) ≡ true → 0 < t
above_zero zero h = cc
above_zero (suc t) h = omega arith

has_its_key : (name : List ℕ) (x : Option Object) → has_key name x ≡ true → (o : Object) × (x ≡ Some o) × (key_of o ≡ name)
has_its_key name None h = cc
has_its_key name (Some o) h = (o, refl, same_bytes (key_of o) name h)

module _ (names : List (List ℕ)) (loaded : Loaded) where
  needs_fit : (i : ℕ) (needs : List (List ℕ)) (j : ℕ) (r : Request) → list_all (fits_need names loaded) needs ≡ true → slice_get (map (λ n. record { by = i; name = n }) needs) j ≡ Some r → fits_need names loaded r.name ≡ true
  needs_fit i [] j r h g = cc
  needs_fit i (n ∷ needs) zero r h g =
      let same : record { by = i; name = n } ≡ r = cc in
      ap (λ (q : Request). fits_need names loaded q.name) (sym same) ∙ (and_parts (fits_need names loaded n) (list_all (fits_need names loaded) needs) h).0
  needs_fit i (n ∷ needs) (suc j) r h g = needs_fit i needs j r (and_parts (fits_need names loaded n) (list_all (fits_need names loaded) needs) h).1 g

  needs_of : (o : Object) → fits_as_object names loaded o ≡ true → list_all (fits_need names loaded) o.face.needs ≡ true
  needs_of o h =
      let bare = and_parts (is_none o.face.rpath) (is_none o.face.runpath && list_all (fits_need names loaded) o.face.needs) h in
      (and_parts (is_none o.face.runpath) (list_all (fits_need names loaded) o.face.needs) bare.1).1

  bare_of : (o : Object) → fits_as_object names loaded o ≡ true → HasNoRunPath o
  bare_of o h =
      let bare = and_parts (is_none o.face.rpath) (is_none o.face.runpath && list_all (fits_need names loaded) o.face.needs) h in
      record {
        rpath = none_is o.face.rpath bare.0;
        runpath = none_is o.face.runpath (and_parts (is_none o.face.runpath) (list_all (fits_need names loaded) o.face.needs) bare.1).0;
      }

  -- each request for a need of these objects fits
  asked_from : (i : ℕ) (os : List Object) (j : ℕ) (r : Request) → list_all (fits_as_object names loaded) os ≡ true → slice_get (needs_from i os) j ≡ Some r → fits_need names loaded r.name ≡ true
  asked_from i [] j r h g = cc
  asked_from i (o ∷ os) j r h g =
      let both = and_parts (fits_as_object names loaded o) (list_all (fits_as_object names loaded) os) h in
      elim (slice_get-append (map (λ n. record { by = i; name = n }) o.face.needs) (needs_from (suc i) os) j r g) [
        | inl e ↦ needs_fit i o.face.needs j r (needs_of o both.0) e
        | inr e ↦ asked_from (suc i) os e.0 r both.1 e.1
      ]

  requests_fit : (p : Object) (os : List Object) (j : ℕ) (r : Request) → list_all (fits_as_object names loaded) os ≡ true → slice_get os 0 ≡ Some p → slice_get (requests_of p.face.needs 1 os) j ≡ Some r → fits_need names loaded r.name ≡ true
  requests_fit p [] j r h first g = cc
  requests_fit p (o ∷ os) j r h first g =
      let same : o ≡ p = cc in
      asked_from 0 (o ∷ os) j r h (ap (λ (x : Object). slice_get (requests_of x.face.needs 1 (o ∷ os)) j) same ∙ g)

  listed_parts : is_all_listed names loaded ≡ true → (fits_as_program names (face_of_object (slice_get loaded.objs 0)) ≡ true) × (list_all (fits_as_object names loaded) loaded.objs ≡ true)
  unfolding is_all_listed
  listed_parts h = and_parts (fits_as_program names (face_of_object (slice_get loaded.objs 0))) (list_all (fits_as_object names loaded) loaded.objs) h

module _ (read : List ℕ → Result Face Flaw) (setting : Setting) (world : World) (path : List ℕ) (names : List (List ℕ)) (loaded : Loaded) (ends : List Loaded) (list : IsLoadList read setting world path [] loaded ends) (listed : is_all_listed names loaded ≡ true) where
  -- each name that was asked for fits
  asked_fits : (m : ℕ) (a : Asked) → slice_get loaded.log m ≡ Some a → fits_need names loaded a.request.name ≡ true
  asked_fits m a g =
      let run = forget read setting world path list.program [] loaded ends list.run in
      let phase = run.1 in
      let asked : map (λ (x : Asked). x.request) phase.more ≡ requests_of list.program.face.needs 1 run.0.objs = sym (append-nil (map (λ (x : Asked). x.request) phase.more)) ∙ phase.asked in
      let more : slice_get phase.more m ≡ Some a = ap (λ (xs : List Asked). slice_get xs m) (sym phase.log) ∙ ap (λ (s : Loaded). slice_get s.log m) (sym run.2) ∙ g in
      let request : slice_get (requests_of list.program.face.needs 1 run.0.objs) m ≡ Some a.request = ap (λ (rs : List Request). slice_get rs m) (sym asked) ∙ map_get (λ (x : Asked). x.request) phase.more m a more in
      let first : slice_get run.0.objs 0 ≡ Some list.program = (slice_get-take 1 run.0.objs 0 list.program (ap (λ (os : List Object). slice_get os 0) phase.objs)).1 in
      requests_fit names loaded list.program run.0.objs m a.request (ap (λ (s : Loaded). list_all (fits_as_object names loaded) s.objs) (sym run.2) ∙ (listed_parts names loaded listed).1) first request

  no_soname : (o : Object) → slice_get loaded.objs 0 ≡ Some o → o.face.soname ≡ None
  no_soname o g =
      let fits : fits_as_program names (Some o.face) ≡ true = ap (λ (x : Option Object). fits_as_program names (face_of_object x)) (sym g) ∙ (listed_parts names loaded listed).0 in
      none_is o.face.soname (and_parts (is_none o.face.soname) (has_listed_interpreter names o.face.interp) fits).0

  -- a list that is all on a list of file names goes by names
  pub goes_by_names : All IsFileName names → IsByNames loaded
  goes_by_names plain = record {
    soname = no_soname;
    run_path = λ o g. bare_of names loaded o (all_pass (fits_as_object names loaded) loaded.objs 0 o (listed_parts names loaded listed).1 g);
    goes = record {
      by_key = λ m a g.
          let need : List ℕ = a.request.name in
          let t : ℕ = target_in loaded.log need in
          let on = and_parts (is_on_list names need) (not (t == 0) && has_key need (slice_get loaded.objs t)) (asked_fits m a g) in
          let other = and_parts (not (t == 0)) (has_key need (slice_get loaded.objs t)) on.1 in
          let target : t ≡ a.target = name_has_target read setting world path [] loaded ends list m a g in
          let key = has_its_key need (slice_get loaded.objs t) other.1 in
          (key.0, ap (slice_get loaded.objs) (sym target) ∙ key.1, subst (λ (k : ℕ). 0 < k) target (above_zero t other.0), key.2);
    };
    names = λ m a g.
        let need : List ℕ = a.request.name in
        let t : ℕ = target_in loaded.log need in
        is_name names need plain (and_parts (is_on_list names need) (not (t == 0) && has_key need (slice_get loaded.objs t)) (asked_fits m a g)).0;
  }
