-- A world with more files at one place is the same elsewhere, so it meets the record that it met.
use Rattle.std.proofs.Common.{◌≡◌, ◌∙◌, sym, ap, ap₂, refl, subst, ℕ, zero, suc, ◌<◌, ◌||◌, ◌&&◌, List, [], ◌∷◌, ◌++◌, Bool, true, false, cond, Option, Some, None, Result, Ok, Err, arith, bytes_eq, is_none, is_some, length, map, slice_get, inl, inr}
use Rattle.std.specs.Prelude.{All, not}
use Rattle.std.specs.List.{AllByRecursion, Contains, find, flat_map, list_all, list_any}
use Rattle.std.specs.Option.{option_and_then, option_map, option_or}
use Rattle.std.proofs.lemmas.Bool.{or_cases}
use Rattle.std.proofs.lemmas.List.Elements.{All-contains, Contains-append_cases}
use Rattle.answers.specs.First.{first_some, some_where}
use Rattle.byte_view.specs.declared.flaws.Flaw.{Flaw}
use Rattle.host_list.specs.Answers.{answer_in_face}
use Rattle.host_list.specs.Meeting.{HostMeets, are_one_file, asks_of_lib, damage, differences_in_order, file_difference, first_difference, interp_difference, is_reached, is_same_file, lacks_version, lib_decision, lib_difference, lib_object, look_difference, name_of_lib, needs_of_lib, object_difference, object_in, own_difference, own_differences, recorded_needs, same_file, soname_difference, version_difference}
use Rattle.host_list.specs.declared.differences.Difference.{Difference}
use Rattle.host_list.specs.declared.differences.Difference.TheVariants.{HasRunPath, NeedsDiffer, NoInterp, NoVersion, OwnVersion, SameFile}
use Rattle.host_list.specs.Meeting.{answer_difference, first_differing}
use Rattle.host_record.specs.Grammar.{lib_name_at}
use Rattle.host_record.specs.Said.{is_declared, lib_names, needs_declared}
use Rattle.host_record.specs.declared.records.Look.{Look}
use Rattle.host_record.specs.declared.records.RecLib.{RecLib}
use Rattle.host_record.specs.declared.records.RecVersion.{RecVersion}
use Rattle.host_record.specs.declared.records.Record.{Record}
use Rattle.lib_closure.specs.Clashes.{beside_earlier}
use Rattle.lib_closure.proofs.ContainedLemmas.{at_place, cases, found_in, here, in_none, later, of_any, of_map, place_of}
use Rattle.load_model.specs.Candidates.{At, Candidate, decided_by, decision, first_decision, listed_candidates}
use Rattle.load_model.specs.Faces.{face_or_flaw}
use Rattle.load_model.specs.Joined.{joined}
use Rattle.load_model.specs.LoadList.{Object}
use Rattle.load_model.specs.SameNames.{listed_decision}
use Rattle.load_model.specs.World.{World, Kind, Absent, Other, Object as IsObject, Damaged as IsDamaged, file_at, kind_of_file}
use Rattle.load_model.specs.declared.asks.Ask.{Ask}
use Rattle.load_model.specs.declared.faces.Face.{Face}
use Rattle.load_model.specs.declared.refusals.LoadRefusal.{LoadRefusal}
use Rattle.load_model.specs.declared.refusals.LoadRefusal.TheVariants.{NoProgram, Damaged, RelativeNeed, TokenInNeed, RelativeItem, TokenUnset, MissingLibrary, TooManyObjects, VersionFileUnloaded, UnsatisfiedVersion}
use Rattle.load_model.specs.declared.setting.Setting.{Setting}
use Rattle.load_model.specs.declared.world.WorldFile.{WorldFile}
use Rattle.load_model.proofs.ListedLemmas.{listed_cases}
use Rattle.load_model.proofs.TwoWorlds.{same_bytes}
use Rattle.moved_runs.specs.Placed.{IsUnder}
use Rattle.moved_runs.proofs.PlaceLemmas.{dir_under}
use Rattle.moved_runs.proofs.SearchLemmas.{find_at}
use Rattle.path_text.specs.FileName.{IsFileName}
use Rattle.path_text.specs.Path.{IsNormalPath}

-- ---- lists

mapped_same : {A B : Type 0} (f g : A → B) (xs : List A) → ((x : A) → Contains xs x → f x ≡ g x) → map f xs ≡ map g xs
mapped_same f g [] h = refl
mapped_same f g (x ∷ xs) h = ap₂ (λ y ys. y ∷ ys) (h x (here x xs)) (mapped_same f g xs (λ z c. h z (later x z xs c)))

find_same : {A : Type 0} (p q : A → Bool) (xs : List A) → ((x : A) → Contains xs x → p x ≡ q x) → find p xs ≡ find q xs
find_same p q [] h = refl
find_same p q (x ∷ xs) h = ap₂ (λ b o. cond b (Some x) o) (h x (here x xs)) (find_same p q xs (λ z c. h z (later x z xs c)))

-- lists of what may be there, one behind the other

both_none : {A : Type 0} (xs ys : List (Option A)) → first_some xs ≡ None → first_some ys ≡ None → first_some (xs ++ ys) ≡ None
both_none [] ys h k = k
both_none (None ∷ xs) ys h k = both_none xs ys h k
both_none (Some x ∷ xs) ys h k = absurd (cc)

none_both : {A : Type 0} (xs ys : List (Option A)) → first_some (xs ++ ys) ≡ None → (first_some xs ≡ None) × (first_some ys ≡ None)
none_both [] ys h = (refl, h)
none_both (None ∷ xs) ys h = none_both xs ys h
none_both (Some x ∷ xs) ys h = absurd (cc)

-- what gives nothing for one gives nothing for the other
mapped_none : {A B C : Type 0} (f : A → Option B) (g : A → Option C) (xs : List A) → ((x : A) → Contains xs x → f x ≡ None → g x ≡ None) → first_some (map f xs) ≡ None → first_some (map g xs) ≡ None
mapped_none f g [] h none = refl
mapped_none f g (x ∷ xs) h none =
    let parts = none_both (f x ∷ []) (map f xs) none in
    both_none (g x ∷ []) (map g xs) (one (g x) (h x (here x xs) (held (f x) parts.0))) (mapped_none f g xs (λ z c. h z (later x z xs c)) parts.1)
  where
    held : {A : Type 0} (o : Option A) → first_some (o ∷ []) ≡ None → o ≡ None
    held None e = refl
    held (Some y) e = absurd (cc)

    one : {A : Type 0} (o : Option A) → o ≡ None → first_some (o ∷ []) ≡ None
    one None e = refl
    one (Some y) e = absurd (cc)

several_none : {A B C : Type 0} (f : A → List (Option B)) (g : A → List (Option C)) (xs : List A) → ((x : A) → Contains xs x → first_some (f x) ≡ None → first_some (g x) ≡ None) → first_some (flat_map f xs) ≡ None → first_some (flat_map g xs) ≡ None
several_none f g [] h none = refl
several_none f g (x ∷ xs) h none =
    let parts = none_both (f x) (flat_map f xs) none in
    both_none (g x) (flat_map g xs) (h x (here x xs) parts.0) (several_none f g xs (λ z c. h z (later x z xs c)) parts.1)

all_in : {A : Type 0} (t : A → Bool) (xs : List A) (x : A) → list_all t xs ≡ true → Contains xs x → t x ≡ true
all_in t [] x h c = absurd (in_none x c)
all_in t (y ∷ ys) x h c =
    let both = and_both (t y) (list_all t ys) h in
    elim (cases y x ys c) [
      | inl same ↦ ap t (sym same) ∙ both.0
      | inr more ↦ all_in t ys x both.1 more
    ]
  where
    and_both : (a b : Bool) → (a && b) ≡ true → (a ≡ true) × (b ≡ true)
    and_both true b h = (refl, h)
    and_both false b h = cc

-- ---- files

either_by : (b : Bool) (g : WorldFile) (o other : Option WorldFile) → cond b (Some g) (option_or o other) ≡ option_or (cond b (Some g) o) other
either_by true g o other = refl
either_by false g o other = refl

file_either : (source added : World) (path : List ℕ) → file_at (source ++ added) path ≡ option_or (file_at source path) (file_at added path)
file_either [] added path = refl
file_either (g ∷ source) added path =
    ap (cond (bytes_eq g.path path) (Some g)) (file_either source added path) ∙ either_by (bytes_eq g.path path) g (file_at source path) (file_at added path)

alone : (o other : Option WorldFile) → other ≡ None → option_or o other ≡ o
alone None other h = h
alone (Some f) other h = refl

nothing_at : (added : World) (place path : List ℕ) (found : Option WorldFile) → ((file : WorldFile) → Contains added file → IsUnder place file.path) → (IsUnder place path → ⊥) → file_at added path ≡ found → file_at added path ≡ None
nothing_at added place path None under out e = e
nothing_at added place path (Some f) under out e =
    let w = find_at path added f e in
    absurd (out (subst (IsUnder place) w.2 (under f (at_place added w.0 f w.1))))

-- what lies elsewhere is the same
same_file_at : (source added : World) (place path : List ℕ) → ((file : WorldFile) → Contains added file → IsUnder place file.path) → (IsUnder place path → ⊥) → file_at (source ++ added) path ≡ file_at source path
same_file_at source added place path under out =
    file_either source added path ∙ alone (file_at source path) (file_at added path) (nothing_at added place path (file_at added path) under out refl)

-- ---- names that a record speaks of

name_at : (libs : List RecLib) (n : ℕ) → ((lib : RecLib) → Contains libs lib → IsFileName lib.name) → n < length libs → IsFileName (lib_name_at (lib_names libs) n)
name_at [] n named less = absurd (omega (arith, less))
name_at (lib ∷ libs) zero named less = named lib (here lib libs)
name_at (lib ∷ libs) (suc n) named less = name_at libs n (λ l c. named l (later lib l libs c)) (omega (arith, less))

module _ (libs : List RecLib) (named : (lib : RecLib) → Contains libs lib → IsFileName lib.name) (declared : needs_declared libs ≡ true) where
  declared_name : (need : List ℕ) → is_declared (lib_names libs) need ≡ true → IsFileName need
  declared_name need h =
      let p = of_any (λ n. bytes_eq need n) (lib_names libs) h in
      let lib = of_map (λ (l : RecLib). l.name) libs p.it p.there in
      subst IsFileName (lib.is ∙ sym (same_bytes need p.it p.passes)) (named lib.from lib.there)

  need_by : (found : Option RecLib) (from need : List ℕ) → find (λ (lib : RecLib). bytes_eq lib.name from) libs ≡ found → Contains (needs_of_lib found) need → IsFileName need
  need_by None from need e c = absurd (in_none need c)
  need_by (Some lib) from need e c =
      let among = found_in (λ (l : RecLib). bytes_eq l.name from) libs lib e in
      let all = all_in (λ (l : RecLib). list_all (is_declared (lib_names libs)) l.needs) libs lib declared among in
      declared_name need (all_in (is_declared (lib_names libs)) lib.needs need all c)

  -- A name that is reached from the name of a library is that of one.
  reached_name : (n : ℕ) (name from : List ℕ) → IsFileName from → is_reached libs n name from ≡ true → IsFileName name
  unfolding is_reached
  reached_name zero name from h e = subst IsFileName (same_bytes from name e) h
  reached_name (suc n) name from h e =
      elim (or_cases (bytes_eq from name) (list_any (is_reached libs n name) (recorded_needs libs from)) e) [
        | inl same ↦ subst IsFileName (same_bytes from name same) h
        | inr more ↦
            let p = of_any (is_reached libs n name) (recorded_needs libs from) more in
            reached_name n name p.it (need_by (find (λ (lib : RecLib). bytes_eq lib.name from) libs) from p.it refl p.there) p.passes
      ]

-- ---- asks

hidden : {A : Type 0} (b : Bool) (x : A) → some_where b x ≡ None → b ≡ false
hidden true x h = cc
hidden false x h = refl

asked_by : (weak reached lacks there : Bool) → (reached ≡ true → there ≡ lacks) → (not weak && (not reached || lacks)) ≡ false → (not weak && (not reached || there)) ≡ false
asked_by true reached lacks there same h = refl
asked_by false true lacks there same h = same refl ∙ h
asked_by false false lacks there same h = cc

-- ---- a record

-- What is so of a record, that it speaks of file names alone.
pub record SpeaksOfNames (r : Record) : Type 0 where
  pub named : (lib : RecLib) → Contains r.libs lib → IsFileName lib.name
  pub declared : needs_declared r.libs ≡ true
  pub versions : (v : RecVersion) → Contains r.versions v → v.lib < length r.libs
  pub looks : (l : Look) → Contains r.looks l → l.lib < length r.libs

module _ (source added : World) (place : List ℕ) (setting : Setting) (r : Record) (speaks : SpeaksOfNames r) (normal : IsNormalPath place) (dirs : All IsNormalPath setting.dirs) (apart : (i : ℕ) (dir : List ℕ) → slice_get setting.dirs i ≡ Some dir → (dir ≡ place → ⊥) × (IsUnder place dir → ⊥)) (under : (file : WorldFile) → Contains added file → IsUnder place file.path) where
  abbrev both : World
  both = source ++ added

  -- ---- what the listed directories have

  decided_same : (path : List ℕ) (kind : Kind Face Flaw) → decided_by face_or_flaw setting both path kind ≡ decided_by face_or_flaw setting source path kind
  decided_same path Absent = refl
  decided_same path Other = refl
  decided_same path (IsObject file face) = refl
  decided_same path (IsDamaged file flaw) = refl

  decision_same : (path : List ℕ) → file_at both path ≡ file_at source path → decision face_or_flaw setting both (At path) ≡ decision face_or_flaw setting source (At path)
  unfolding decision
  decision_same path h =
      ap (λ o. decided_by face_or_flaw setting both path (kind_of_file face_or_flaw setting.machine o)) h
      ∙ decided_same path (kind_of_file face_or_flaw setting.machine (file_at source path))

  outside : (dir name : List ℕ) → IsFileName name → Contains setting.dirs dir → IsUnder place (joined dir name) → ⊥
  outside dir name h c w =
      let off = apart c.0 dir (place_of setting.dirs dir c) in
      elim (dir_under dir place name w.0 (All-contains IsNormalPath setting.dirs dir dirs c) normal h w.1) [
        | inl same ↦ off.0 same
        | inr lies ↦ off.1 lies
      ]

  candidates_same : (name : List ℕ) → IsFileName name → (ds : List (List ℕ)) → ((dir : List ℕ) → Contains ds dir → Contains setting.dirs dir) → map (decision face_or_flaw setting both) (map (λ dir. At (joined dir name)) ds) ≡ map (decision face_or_flaw setting source) (map (λ dir. At (joined dir name)) ds)
  candidates_same name h [] among = refl
  candidates_same name h (dir ∷ ds) among =
      ap₂ (λ o os. o ∷ os) (decision_same (joined dir name) (same_file_at source added place (joined dir name) under (outside dir name h (among dir (here dir ds)))))
      (candidates_same name h ds (λ d c. among d (later dir d ds c)))

  listed_same : (name : List ℕ) → IsFileName name → listed_decision face_or_flaw setting both name ≡ listed_decision face_or_flaw setting source name
  unfolding first_decision
  listed_same name h =
      elim (listed_cases setting name dirs h) [
        | inl e ↦
            ap (λ (cs : List Candidate). first_some (map (decision face_or_flaw setting both) cs)) e
            ∙ ap first_some (candidates_same name h setting.dirs (λ d c. c))
            ∙ sym (ap (λ (cs : List Candidate). first_some (map (decision face_or_flaw setting source) cs)) e)
        | inr e ↦
            ap (λ (cs : List Candidate). first_some (map (decision face_or_flaw setting both) cs)) e
            ∙ sym (ap (λ (cs : List Candidate). first_some (map (decision face_or_flaw setting source) cs)) e)
      ]

  object_by : (d : Option (Result Object LoadRefusal)) → object_in face_or_flaw setting both r d ≡ object_in face_or_flaw setting source r d
  object_by None = refl
  object_by (Some (Err refusal)) = refl
  object_by (Some (Ok o)) = refl

  object_same : (name : List ℕ) → IsFileName name → lib_object face_or_flaw setting both r name ≡ lib_object face_or_flaw setting source r name
  object_same name h =
      ap (object_in face_or_flaw setting both r) (listed_same name h) ∙ object_by (lib_decision face_or_flaw setting source r name)

  -- ---- demand by demand

  is_file : (path : List ℕ) (o : Option WorldFile) → file_at source path ≡ o → some_where (is_none o) (NoInterp path) ≡ None → interp_difference face_or_flaw setting both r path ≡ None
  is_file path None e h = absurd (cc)
  is_file path (Some f) e h =
      ap (λ o. some_where (is_none o) (NoInterp path)) (file_either source added path ∙ ap (λ o. option_or o (file_at added path)) e)

  soname_same : (name : List ℕ) (soname : Option (List ℕ)) → soname_difference face_or_flaw setting both r name soname ≡ soname_difference face_or_flaw setting source r name soname
  soname_same name None = refl
  soname_same name (Some s) = refl

  damage_same : (refusal : LoadRefusal) → damage face_or_flaw setting both r refusal ≡ damage face_or_flaw setting source r refusal
  damage_same (NoProgram p) = refl
  damage_same (Damaged p f) = refl
  damage_same (RelativeNeed n p) = refl
  damage_same (TokenInNeed n p) = refl
  damage_same (RelativeItem n) = refl
  damage_same (TokenUnset n) = refl
  damage_same (MissingLibrary n p) = refl
  damage_same (TooManyObjects p) = refl
  damage_same (VersionFileUnloaded p n) = refl
  damage_same (UnsatisfiedVersion p n v) = refl

  object_difference_same : (lib : RecLib) (face : Face) → object_difference face_or_flaw setting both r lib face ≡ object_difference face_or_flaw setting source r lib face
  object_difference_same lib face =
      ap (λ o. first_some (o ∷ some_where (is_some face.rpath || is_some face.runpath) (HasRunPath lib.name) ∷ option_map (NeedsDiffer lib.name) (first_differing lib.needs face.needs) ∷ [])) (soname_same lib.name face.soname)

  file_difference_same : (lib : RecLib) (d : Option (Result Object LoadRefusal)) → file_difference face_or_flaw setting both r lib d ≡ file_difference face_or_flaw setting source r lib d
  file_difference_same lib None = refl
  file_difference_same lib (Some (Err refusal)) = damage_same refusal
  file_difference_same lib (Some (Ok o)) = object_difference_same lib o.face

  lib_same : (lib : RecLib) → Contains r.libs lib → lib_difference face_or_flaw setting both r lib ≡ lib_difference face_or_flaw setting source r lib
  lib_same lib c =
      ap (file_difference face_or_flaw setting both r lib) (listed_same lib.name (speaks.named lib c)) ∙ file_difference_same lib (lib_decision face_or_flaw setting source r lib.name)

  one_file_same : (a b : Option Object) → are_one_file face_or_flaw setting both r a b ≡ are_one_file face_or_flaw setting source r a b
  one_file_same None None = refl
  one_file_same None (Some q) = refl
  one_file_same (Some p) None = refl
  one_file_same (Some p) (Some q) = refl

  is_same_same : (x y : RecLib) → Contains r.libs x → Contains r.libs y → is_same_file face_or_flaw setting both r x y ≡ is_same_file face_or_flaw setting source r x y
  is_same_same x y cx cy =
      ap₂ (are_one_file face_or_flaw setting both r) (object_same y.name (speaks.named y cy)) (object_same x.name (speaks.named x cx))
      ∙ one_file_same (lib_object face_or_flaw setting source r y.name) (lib_object face_or_flaw setting source r x.name)

  beside_same : (before xs : List RecLib) → ((x : RecLib) → Contains before x → Contains r.libs x) → ((x : RecLib) → Contains xs x → Contains r.libs x) → map (same_file face_or_flaw setting both r) (beside_earlier before xs) ≡ map (same_file face_or_flaw setting source r) (beside_earlier before xs)
  beside_same before [] were are = refl
  beside_same before (x ∷ xs) were are =
      ap₂ (λ o os. o ∷ os)
      (ap (option_map (λ (a : RecLib). SameFile a.name x.name)) (find_same (is_same_file face_or_flaw setting both r x) (is_same_file face_or_flaw setting source r x) before (λ y c. is_same_same x y (are x (here x xs)) (were y c))))
      (beside_same (before ++ x ∷ []) xs
      (λ y c.
      elim (Contains-append_cases before (x ∷ []) y c) [
        | inl was ↦ were y was
        | inr one ↦ elim (cases x y [] one) [
          | inl same ↦ subst (Contains r.libs) same (are x (here x xs))
          | inr none ↦ absurd (in_none y none)
        ]
      ])
      (λ y c. are y (later x y xs c)))

  lacks_same : (version : List ℕ) (o : Option Object) → lacks_version face_or_flaw setting both r version o ≡ lacks_version face_or_flaw setting source r version o
  lacks_same version None = refl
  lacks_same version (Some o) = refl

  lacks_at : (version name : List ℕ) → IsFileName name → lacks_version face_or_flaw setting both r version (lib_object face_or_flaw setting both r name) ≡ lacks_version face_or_flaw setting source r version (lib_object face_or_flaw setting source r name)
  lacks_at version name h =
      ap (lacks_version face_or_flaw setting both r version) (object_same name h) ∙ lacks_same version (lib_object face_or_flaw setting source r name)

  version_same : (v : RecVersion) → Contains r.versions v → version_difference face_or_flaw setting both r v ≡ version_difference face_or_flaw setting source r v
  version_same v c =
      let name = name_of_lib face_or_flaw setting source r v.lib in
      ap (λ b. some_where b (NoVersion name v.version)) (lacks_at v.version name (name_at r.libs v.lib speaks.named (speaks.versions v c)))

  look_same : (l : Look) → Contains r.looks l → look_difference face_or_flaw setting both r l ≡ look_difference face_or_flaw setting source r l
  look_same l c =
      let name = name_of_lib face_or_flaw setting source r l.lib in
      ap (option_and_then (λ (o : Object). answer_difference face_or_flaw setting source r l (answer_in_face o.face l.name l.version l.call))) (object_same name (name_at r.libs l.lib speaks.named (speaks.looks l c)))

  -- ---- what libraries ask themselves

  ask_met : (lib : RecLib) (ask : Ask) → Contains r.libs lib → own_difference face_or_flaw setting source r lib ask ≡ None → own_difference face_or_flaw setting both r lib ask ≡ None
  ask_met lib ask c none =
      let reached = is_reached r.libs (length r.libs) ask.file lib.name in
      let was = lacks_version face_or_flaw setting source r ask.name (lib_object face_or_flaw setting source r ask.file) in
      let is = lacks_version face_or_flaw setting both r ask.name (lib_object face_or_flaw setting both r ask.file) in
      let off = hidden (not ask.weak && (not reached || was)) (OwnVersion lib.name ask.file ask.name) none in
      ap (λ b. some_where b (OwnVersion lib.name ask.file ask.name))
      (asked_by ask.weak reached was is (λ e. lacks_at ask.name ask.file (reached_name r.libs speaks.named speaks.declared (length r.libs) ask.file lib.name (speaks.named lib c) e)) off)

  asks_same : (o : Option Object) → asks_of_lib face_or_flaw setting both r o ≡ asks_of_lib face_or_flaw setting source r o
  asks_same None = refl
  asks_same (Some o) = refl

  own_met : (lib : RecLib) → Contains r.libs lib → first_some (own_differences face_or_flaw setting source r lib) ≡ None → first_some (own_differences face_or_flaw setting both r lib) ≡ None
  own_met lib c none =
      let asks = asks_of_lib face_or_flaw setting source r (lib_object face_or_flaw setting source r lib.name) in
      let are : asks_of_lib face_or_flaw setting both r (lib_object face_or_flaw setting both r lib.name) ≡ asks = ap (asks_of_lib face_or_flaw setting both r) (object_same lib.name (speaks.named lib c)) ∙ asks_same (lib_object face_or_flaw setting source r lib.name) in
      ap (λ (list : List Ask). first_some (map (own_difference face_or_flaw setting both r lib) list)) are
      ∙ mapped_none (own_difference face_or_flaw setting source r lib) (own_difference face_or_flaw setting both r lib) asks (λ ask among. ask_met lib ask c) none

  -- ---- all of them

  pub met_with : HostMeets face_or_flaw setting source r → HostMeets face_or_flaw setting both r
  unfolding first_difference
  met_with meets =
      let interps = map (interp_difference face_or_flaw setting source r) r.interps in
      let libs = map (lib_difference face_or_flaw setting source r) r.libs in
      let files = map (same_file face_or_flaw setting source r) (beside_earlier [] r.libs) in
      let versions = map (version_difference face_or_flaw setting source r) r.versions in
      let looks = map (look_difference face_or_flaw setting source r) r.looks in
      let own = flat_map (own_differences face_or_flaw setting source r) r.libs in
      let a = none_both interps (libs ++ (files ++ (versions ++ (looks ++ own)))) meets in
      let b = none_both libs (files ++ (versions ++ (looks ++ own))) a.1 in
      let c = none_both files (versions ++ (looks ++ own)) b.1 in
      let d = none_both versions (looks ++ own) c.1 in
      let e = none_both looks own d.1 in
      let libs_there = map (lib_difference face_or_flaw setting both r) r.libs in
      let files_there = map (same_file face_or_flaw setting both r) (beside_earlier [] r.libs) in
      let versions_there = map (version_difference face_or_flaw setting both r) r.versions in
      let looks_there = map (look_difference face_or_flaw setting both r) r.looks in
      let own_there = flat_map (own_differences face_or_flaw setting both r) r.libs in
      both_none (map (interp_difference face_or_flaw setting both r) r.interps) (libs_there ++ (files_there ++ (versions_there ++ (looks_there ++ own_there))))
      (mapped_none (interp_difference face_or_flaw setting source r) (interp_difference face_or_flaw setting both r) r.interps (λ path among none. is_file path (file_at source path) refl none) a.0)
      (both_none libs_there (files_there ++ (versions_there ++ (looks_there ++ own_there)))
      (ap first_some (mapped_same (lib_difference face_or_flaw setting both r) (lib_difference face_or_flaw setting source r) r.libs lib_same) ∙ b.0)
      (both_none files_there (versions_there ++ (looks_there ++ own_there))
      (ap first_some (beside_same [] r.libs (λ x none. absurd (in_none x none)) (λ x among. among)) ∙ c.0)
      (both_none versions_there (looks_there ++ own_there)
      (ap first_some (mapped_same (version_difference face_or_flaw setting both r) (version_difference face_or_flaw setting source r) r.versions version_same) ∙ d.0)
      (both_none looks_there own_there
      (ap first_some (mapped_same (look_difference face_or_flaw setting both r) (look_difference face_or_flaw setting source r) r.looks look_same) ∙ e.0)
      (several_none (own_differences face_or_flaw setting source r) (own_differences face_or_flaw setting both r) r.libs own_met e.1)))))
