-- A host that meets the record of a build has its libraries, each a file of its own.
use Rattle.std.proofs.Common.{◌≡◌, ◌∙◌, sym, ap, refl, ℕ, zero, suc, ◌<◌, ◌||◌, ◌++◌, List, [], ◌∷◌, All, Bool, true, false, append_assoc, Option, Some, None, is_some, Result, Ok, Err, bytes_eq, length, map, max, slice_get, take, arith, inl, inr}
use Rattle.std.specs.Prelude.{not}
use Rattle.std.specs.List.{Contains, find, flat_map}
use Rattle.std.specs.Option.{option_eq, option_map}
use Rattle.std.proofs.lemmas.Bool.{both_ways, not-false}
use Rattle.std.proofs.lemmas.List.{append-nil}
use Rattle.std.proofs.lemmas.List.Elements.{Contains-append_left, Contains-append_right}
use Rattle.answers.specs.First.{first_some, some_where}
use Rattle.host_list.specs.Meeting.{HostMeets, are_one_file, damage, differ_at, file_difference, first_difference, first_differing, interp_difference, is_same_file, lib_decision, lib_difference, lib_object, look_difference, object_difference, object_in, own_differences, same_file, soname_difference, version_difference}
use Rattle.host_list.specs.declared.differences.Difference.{Difference}
use Rattle.host_list.specs.declared.differences.Difference.TheVariants.{HasRunPath, NeedsDiffer, SameFile, SonameDiffers}
use Rattle.host_record.specs.declared.records.RecLib.{RecLib}
use Rattle.host_record.specs.declared.records.Record.{Record}
use Rattle.lib_closure.specs.Clashes.{beside_earlier}
use Rattle.met_hosts.specs.Libraries.{HasLibrary}
use Rattle.lib_closure.proofs.ContainedLemmas.{at_place, cases, in_map, in_none, none_passes}
use Rattle.lib_closure.proofs.NumberLemmas.{number_at}
use Rattle.lib_closure.proofs.PlacedLemmas.{bytes_same}
use Rattle.lib_closure.proofs.SplitLemmas.{none_first, none_mapped}
use Rattle.load_model.specs.Candidates.{At, decided_by, decision, listed_candidates}
use Rattle.load_model.specs.Faces.{face_or_flaw}
use Rattle.load_model.specs.Joined.{joined}
use Rattle.load_model.specs.LoadList.{Object, up_to}
use Rattle.load_model.specs.SameNames.{listed_decision}
use Rattle.load_model.specs.World.{World, Kind, Absent, Other, Object as IsObject, Damaged as IsDamaged, kind_of}
use Rattle.load_model.specs.declared.faces.Face.{Face}
use Rattle.load_model.specs.declared.refusals.LoadRefusal.{LoadRefusal}
use Rattle.load_model.specs.declared.refusals.LoadRefusal.TheVariants.{Damaged}
use Rattle.load_model.specs.declared.setting.Setting.{Setting}
use Rattle.load_model.proofs.DecidingLemmas.{first_decides}
use Rattle.load_model.proofs.ListedLemmas.{listed_cases, mapped_at}
use Rattle.load_model.proofs.Places.{slice_get_front}
use Rattle.load_model.proofs.TwoWorlds.{same_bytes}
use Rattle.path_text.specs.FileName.{IsFileName}
use Rattle.path_text.specs.Path.{IsNormalPath}
use Rattle.byte_view.specs.declared.flaws.Flaw.{Flaw}

-- ---- lists

none_in : {A : Type 0} (xs : List (Option A)) (o : Option A) → first_some xs ≡ None → Contains xs o → o ≡ None
none_in [] o h c = absurd (in_none o c)
none_in (x ∷ xs) o h c =
    let both = none_first x xs h in
    elim (cases x o xs c) [
      | inl same ↦ sym same ∙ both.0
      | inr more ↦ none_in xs o both.1 more
    ]

same_option : (x y : Option (List ℕ)) → option_eq bytes_eq x y ≡ true → x ≡ y
same_option None None h = refl
same_option None (Some y) h = cc
same_option (Some x) None h = cc
same_option (Some x) (Some y) h = ap Some (same_bytes x y h)

same_lists : (xs ys : List (List ℕ)) → ((k : ℕ) → k < max (length xs) (length ys) → slice_get xs k ≡ slice_get ys k) → xs ≡ ys
same_lists [] [] h = refl
same_lists [] (y ∷ ys) h = let clash : None ≡ Some y = h 0 (omega arith) in cc
same_lists (x ∷ xs) [] h = let clash : Some x ≡ None = h 0 (omega arith) in cc
same_lists (x ∷ xs) (y ∷ ys) h =
    let first : Some x ≡ Some y = h 0 (omega arith) in
    let one : x ≡ y = cc in
    ap (λ z. z ∷ xs) one ∙ ap (λ zs. y ∷ zs) (same_lists xs ys (λ k less. h (suc k) (omega (arith, less))))

none_differ : (xs ys : List (List ℕ)) → first_differing xs ys ≡ None → xs ≡ ys
none_differ xs ys h =
    same_lists xs ys (λ k less.
    let there = at_place (up_to (max (length xs) (length ys))) k k (number_at (max (length xs) (length ys)) k less) in
    same_option (slice_get xs k) (slice_get ys k) (not-false (option_eq bytes_eq (slice_get xs k) (slice_get ys k)) (none_passes (differ_at xs ys) (up_to (max (length xs) (length ys))) k h there)))

beside_at : {X : Type 0} (before xs : List X) (j : ℕ) (x : X) → slice_get xs j ≡ Some x → slice_get (beside_earlier before xs) j ≡ Some (before ++ take j xs, x)
beside_at before [] j x h = cc
beside_at before (y ∷ xs) zero x h =
    let one : y ≡ x = cc in
    ap (λ l. Some (l, y)) (sym (append-nil before)) ∙ ap (λ z. Some (before ++ [], z)) one
beside_at before (y ∷ xs) (suc j) x h =
    beside_at (before ++ y ∷ []) xs j x h ∙ ap (λ l. Some (l, x)) (append_assoc before (y ∷ []) (take j xs))

-- ---- what a host owes

no_path : (a c : Bool) (d : Difference) → some_where (a || c) d ≡ None → (a ≡ false) × (c ≡ false)
no_path true c d h = cc
no_path false true d h = cc
no_path false false d h = (refl, refl)

none_of : {A : Type 0} (o : Option A) → is_some o ≡ false → o ≡ None
none_of None h = refl
none_of (Some a) h = cc

soname_by : (name t s : List ℕ) (b : Bool) → bytes_eq t name ≡ b → some_where (not b) (SonameDiffers name t) ≡ None → Some t ≡ Some s → s ≡ name
soname_by name t s true e h g = let one : t ≡ s = cc in sym one ∙ same_bytes t name e
soname_by name t s false e h g = cc

module _ (setting : Setting) (there : World) (dirs : All IsNormalPath setting.dirs) (r : Record) (meets : HostMeets face_or_flaw setting there r) where
  -- What the listed directories have for a name, where it is refused, is damaged.
  damaged_by : (path : List ℕ) (kind : Kind Face Flaw) (refusal : LoadRefusal) → decided_by face_or_flaw setting there path kind ≡ Some (Err refusal) → (flaw : Flaw) × (refusal ≡ Damaged path flaw)
  damaged_by path Absent refusal h = cc
  damaged_by path Other refusal h = cc
  damaged_by path (IsObject file face) refusal h = let clash : ◌≡◌ {A = Result Object LoadRefusal} (Ok (record { path = path; id = file.id; face = face })) (Err refusal) = cc in cc
  damaged_by path (IsDamaged file flaw) refusal h =
      let one : ◌≡◌ {A = Result Object LoadRefusal} (Err (Damaged path flaw)) (Err refusal) = cc in
      let is : Damaged path flaw ≡ refusal = cc in
      (flaw, sym is)

  damaged_at : (path : List ℕ) (refusal : LoadRefusal) → decision face_or_flaw setting there (At path) ≡ Some (Err refusal) → (flaw : Flaw) × (refusal ≡ Damaged path flaw)
  unfolding decision
  damaged_at path refusal h = damaged_by path (kind_of face_or_flaw setting.machine there path) refusal h

  damaged : (name : List ℕ) (refusal : LoadRefusal) → IsFileName name → listed_decision face_or_flaw setting there name ≡ Some (Err refusal) → (path : List ℕ) × (flaw : Flaw) × (refusal ≡ Damaged path flaw)
  damaged name refusal h found =
      let w = first_decides face_or_flaw setting there (listed_candidates setting name) (Err refusal) found in
      elim (listed_cases setting name dirs h) [
        | inl e ↦
            let at = mapped_at (λ dir. At (joined dir name)) setting.dirs w.number w.candidate (ap (λ cs. slice_get cs w.number) (sym e) ∙ w.stands) in
            let d = damaged_at (joined at.0 name) refusal (ap (decision face_or_flaw setting there) (sym at.2) ∙ w.decides) in
            (joined at.0 name, d.0, d.1)
        | inr e ↦ absurd (let none : None ≡ Some w.candidate = ap (λ cs. slice_get cs w.number) (sym e) ∙ w.stands in cc)
      ]

  -- ---- each demand is met

  lib_met : (lib : RecLib) → Contains r.libs lib → lib_difference face_or_flaw setting there r lib ≡ None
  unfolding first_difference
  lib_met lib c =
      let more : List (Option Difference) = map (same_file face_or_flaw setting there r) (beside_earlier [] r.libs) ++ (map (version_difference face_or_flaw setting there r) r.versions ++ (map (look_difference face_or_flaw setting there r) r.looks ++ flat_map (own_differences face_or_flaw setting there r) r.libs)) in
      let all : List (Option Difference) = map (lib_difference face_or_flaw setting there r) r.libs in
      let first : List (Option Difference) = map (interp_difference face_or_flaw setting there r) r.interps in
      let o = lib_difference face_or_flaw setting there r lib in
      none_in (first ++ (all ++ more)) o meets (Contains-append_right first (all ++ more) o (Contains-append_left all more o (in_map (lib_difference face_or_flaw setting there r) r.libs lib c)))

  same_met : (both : List RecLib × RecLib) → Contains (beside_earlier [] r.libs) both → same_file face_or_flaw setting there r both ≡ None
  unfolding first_difference
  same_met both c =
      let more : List (Option Difference) = map (version_difference face_or_flaw setting there r) r.versions ++ (map (look_difference face_or_flaw setting there r) r.looks ++ flat_map (own_differences face_or_flaw setting there r) r.libs) in
      let all : List (Option Difference) = map (same_file face_or_flaw setting there r) (beside_earlier [] r.libs) in
      let second : List (Option Difference) = map (lib_difference face_or_flaw setting there r) r.libs in
      let first : List (Option Difference) = map (interp_difference face_or_flaw setting there r) r.interps in
      let o = same_file face_or_flaw setting there r both in
      none_in (first ++ (second ++ (all ++ more))) o meets
      (Contains-append_right first (second ++ (all ++ more)) o
      (Contains-append_right second (all ++ more) o
      (Contains-append_left all more o (in_map (same_file face_or_flaw setting there r) (beside_earlier [] r.libs) both c))))

  -- ---- libraries

  soname_is : (name : List ℕ) (soname : Option (List ℕ)) (s : List ℕ) → soname_difference face_or_flaw setting there r name soname ≡ None → soname ≡ Some s → s ≡ name
  soname_is name None s h e = cc
  soname_is name (Some t) s h e = soname_by name t s (bytes_eq t name) refl h e

  object_met : (lib : RecLib) (o : Object) → listed_decision face_or_flaw setting there lib.name ≡ Some (Ok o) → object_difference face_or_flaw setting there r lib o.face ≡ None → HasLibrary setting there lib
  object_met lib o found h =
      let named = soname_difference face_or_flaw setting there r lib.name o.face.soname in
      let paths = some_where (is_some o.face.rpath || is_some o.face.runpath) (HasRunPath lib.name) in
      let needs = option_map (NeedsDiffer lib.name) (first_differing lib.needs o.face.needs) in
      let a = none_first named (paths ∷ needs ∷ []) h in
      let c = none_first paths (needs ∷ []) a.1 in
      let d = none_first needs [] c.1 in
      let bare = no_path (is_some o.face.rpath) (is_some o.face.runpath) (HasRunPath lib.name) c.0 in
      record {
        it = o;
        found = found;
        soname = λ s e. soname_is lib.name o.face.soname s a.0 e;
        run_path = record { rpath = none_of o.face.rpath bare.0; runpath = none_of o.face.runpath bare.1 };
        needs = sym (none_differ lib.needs o.face.needs (none_mapped (NeedsDiffer lib.name) (first_differing lib.needs o.face.needs) d.0));
      }

  file_met : (lib : RecLib) (d : Option (Result Object LoadRefusal)) → IsFileName lib.name → listed_decision face_or_flaw setting there lib.name ≡ d → file_difference face_or_flaw setting there r lib d ≡ None → HasLibrary setting there lib
  file_met lib None named e h = cc
  file_met lib (Some (Err refusal)) named e h =
      let w = damaged lib.name refusal named e in
      let some : damage face_or_flaw setting there r refusal ≡ damage face_or_flaw setting there r (Damaged w.0 w.1) = ap (damage face_or_flaw setting there r) w.2 in
      let clash : damage face_or_flaw setting there r (Damaged w.0 w.1) ≡ None = sym some ∙ h in
      cc
  file_met lib (Some (Ok o)) named e h = object_met lib o e h

  pub has_file : (lib : RecLib) → Contains r.libs lib → IsFileName lib.name → HasLibrary setting there lib
  has_file lib c named = file_met lib (lib_decision face_or_flaw setting there r lib.name) named refl (lib_met lib c)

  -- Libraries of two numbers are two files.
  pub files_apart : (i j : ℕ) (x y : RecLib) (p q : Object) → i < j → slice_get r.libs i ≡ Some x → slice_get r.libs j ≡ Some y → listed_decision face_or_flaw setting there x.name ≡ Some (Ok p) → listed_decision face_or_flaw setting there y.name ≡ Some (Ok q) → p.id ≡ q.id → ⊥
  files_apart i j x y p q less hx hy fx fy same =
      let both : List RecLib × RecLib = ([] ++ take j r.libs, y) in
      let at : slice_get (beside_earlier [] r.libs) j ≡ Some both = beside_at [] r.libs j y hy in
      let none = same_met both (at_place (beside_earlier [] r.libs) j both at) in
      let alone : find (is_same_file face_or_flaw setting there r y) (take j r.libs) ≡ None = none_mapped (λ (a : RecLib). SameFile a.name y.name) (find (is_same_file face_or_flaw setting there r y) (take j r.libs)) none in
      let front = slice_get_front j r.libs i x less hx in
      let off : is_same_file face_or_flaw setting there r y x ≡ false = none_passes (is_same_file face_or_flaw setting there r y) (take j r.libs) x alone (at_place (take j r.libs) i x front) in
      let ids : is_same_file face_or_flaw setting there r y x ≡ bytes_eq p.id q.id =
      ap (λ d. are_one_file face_or_flaw setting there r (object_in face_or_flaw setting there r d) (lib_object face_or_flaw setting there r y.name)) fx
      ∙ ap (λ d. are_one_file face_or_flaw setting there r (Some p) (object_in face_or_flaw setting there r d)) fy in
      both_ways (bytes_eq p.id q.id) (sym ids ∙ off) (bytes_same p.id q.id same)
