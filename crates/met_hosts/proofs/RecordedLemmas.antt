-- What a record keeps of what is recorded, and what a host says of it that meets it.
use Rattle.std.proofs.Common.{◌≡◌, ◌∙◌, sym, ap, ap₂, refl, subst, ℕ, List, [], ◌∷◌, ◌++◌, Bool, true, false, fold, ◌&&◌, ◌||◌, Option, Some, None, Ok, length, map, inl, inr}
use Rattle.std.specs.Prelude.{◌⊎◌, not}
use Rattle.std.specs.BTreeSet.{insert_key}
use Rattle.std.specs.List.{Contains, flat_map}
use Rattle.std.specs.Option.{option_and_then, option_cmp}
use Rattle.std.specs.Ordering.{match_ordering, nat_cmp, ordering_then}
use Rattle.std.specs.declared.cmp.Ordering.{Ordering}
use Rattle.std.specs.declared.cmp.Ordering.TheVariants.{Less, Equal, Greater}
use Rattle.std.proofs.lemmas.Bool.{not-false}
use Rattle.std.proofs.lemmas.List.Elements.{Contains-append_left, Contains-append_right}
use Rattle.std.proofs.lemmas.Map.Lookups.{exact_bytes, exact_unsigned}
use Rattle.answers.specs.First.{some_where}
use Rattle.host_list.specs.Answers.{answer_in_face}
use Rattle.host_list.specs.Meeting.{HostMeets, answer_difference, asks_of_lib, differences_in_order, first_difference, interp_difference, is_answer, is_reached, lacks_version, lib_difference, lib_object, look_difference, name_of_lib, object_in, own_difference, own_differences, same_file, version_difference}
use Rattle.host_list.specs.Recording.{distinct_in_order}
use Rattle.host_list.specs.declared.differences.Difference.{Difference}
use Rattle.host_list.specs.declared.differences.Difference.TheVariants.{NoVersion}
use Rattle.host_record.specs.Orders.{answer_cmp, class_number, full_look_cmp, look_cmp, text_cmp, version_cmp}
use Rattle.host_record.specs.declared.records.Answer.{Answer}
use Rattle.host_record.specs.declared.records.Answer.TheVariants.{Nothing, Plain, Version}
use Rattle.host_record.specs.declared.records.Look.{Look}
use Rattle.host_record.specs.declared.records.RecLib.{RecLib}
use Rattle.host_record.specs.declared.records.RecVersion.{RecVersion}
use Rattle.host_record.specs.declared.records.Record.{Record}
use Rattle.lib_closure.specs.Clashes.{beside_earlier}
use Rattle.lib_closure.proofs.ContainedLemmas.{cases, here, in_flat_map, in_map, in_none, later, place_of}
use Rattle.load_model.specs.Faces.{face_or_flaw}
use Rattle.load_model.specs.LoadList.{Object}
use Rattle.load_model.specs.SameNames.{listed_decision}
use Rattle.load_model.specs.VersionCheck.{has_defined}
use Rattle.load_model.specs.World.{World}
use Rattle.load_model.specs.declared.asks.Ask.{Ask}
use Rattle.load_model.specs.declared.setting.Setting.{Setting}
use Rattle.moved_runs.proofs.ListLemmas.{all_none}

-- ---- a list made distinct in an order has each element

module _ {X : Type 0} (cmp : X → X → Ordering) (exact : (x y : X) → cmp x y ≡ Equal → x ≡ y) where
  in_by : (o : Ordering) (k x y : X) (xs rest : List X) → cmp k x ≡ o → (k ≡ y) ⊎ Contains (x ∷ xs) y → ((k ≡ y) ⊎ Contains xs y → Contains rest y) → Contains (match_ordering o (k ∷ x ∷ xs) (x ∷ xs) (x ∷ rest)) y
  in_by Less k x y xs rest e (inl same) f = subst (λ z. Contains (k ∷ x ∷ xs) z) same (here k (x ∷ xs))
  in_by Less k x y xs rest e (inr more) f = later k y (x ∷ xs) more
  in_by Equal k x y xs rest e (inl same) f = subst (λ z. Contains (x ∷ xs) z) (sym (exact k x e) ∙ same) (here x xs)
  in_by Equal k x y xs rest e (inr more) f = more
  in_by Greater k x y xs rest e (inl same) f = later x y rest (f (inl same))
  in_by Greater k x y xs rest e (inr more) f =
      elim (cases x y xs more) [
        | inl one ↦ subst (λ z. Contains (x ∷ rest) z) one (here x rest)
        | inr other ↦ later x y rest (f (inr other))
      ]

  inserted : (xs : List X) (k y : X) → (k ≡ y) ⊎ Contains xs y → Contains (insert_key cmp xs k) y
  inserted [] k y (inl same) = subst (λ z. Contains (k ∷ []) z) same (here k [])
  inserted [] k y (inr none) = absurd (in_none y none)
  inserted (x ∷ xs) k y h = in_by (cmp k x) k x y xs (insert_key cmp xs k) refl h (inserted xs k y)

  folded : (had xs : List X) (y : X) → Contains had y ⊎ Contains xs y → Contains (fold (insert_key cmp) had xs) y
  folded had [] y (inl c) = c
  folded had [] y (inr none) = absurd (in_none y none)
  folded had (x ∷ xs) y (inl c) = folded (insert_key cmp had x) xs y (inl (inserted had x y (inr c)))
  folded had (x ∷ xs) y (inr c) =
      elim (cases x y xs c) [
        | inl same ↦ folded (insert_key cmp had x) xs y (inl (inserted had x y (inl same)))
        | inr more ↦ folded (insert_key cmp had x) xs y (inr more)
      ]

  pub kept : (xs : List X) (y : X) → Contains xs y → Contains (distinct_in_order cmp xs) y
  unfolding distinct_in_order
  kept xs y c = folded [] xs y (inr c)

then_equal : (o s : Ordering) → ordering_then o s ≡ Equal → (o ≡ Equal) × (s ≡ Equal)
then_equal Less s h = cc
then_equal Equal s h = (refl, h)
then_equal Greater s h = cc

pub version_exact : (a c : RecVersion) → version_cmp a c ≡ Equal → a ≡ c
version_exact a c h =
    let both = then_equal (nat_cmp a.lib c.lib) (text_cmp a.version c.version) h in
    ap₂ (λ (l : ℕ) (v : List ℕ). record { lib = l; version = v }) (exact_unsigned a.lib c.lib both.0) (exact_bytes a.version c.version both.1)

option_exact : (x y : Option (List ℕ)) → option_cmp text_cmp x y ≡ Equal → x ≡ y
option_exact None None h = refl
option_exact None (Some y) h = cc
option_exact (Some x) None h = cc
option_exact (Some x) (Some y) h = ap Some (exact_bytes x y h)

call_exact : (x y : Bool) → nat_cmp (class_number x) (class_number y) ≡ Equal → x ≡ y
call_exact true true h = refl
call_exact true false h = cc
call_exact false true h = cc
call_exact false false h = refl

answer_exact : (a c : Answer) → answer_cmp a c ≡ Equal → a ≡ c
answer_exact Nothing Nothing h = refl
answer_exact Nothing Plain h = cc
answer_exact Nothing (Version v) h = cc
answer_exact Plain Nothing h = cc
answer_exact Plain Plain h = refl
answer_exact Plain (Version v) h = cc
answer_exact (Version v) Nothing h = cc
answer_exact (Version v) Plain h = cc
answer_exact (Version v) (Version w) h = ap Version (exact_bytes v w h)

pub look_exact : (a c : Look) → full_look_cmp a c ≡ Equal → a ≡ c
look_exact a c h =
    let k2 : Ordering = ordering_then (option_cmp text_cmp a.version c.version) (nat_cmp (class_number a.call) (class_number c.call)) in
    let k1 : Ordering = ordering_then (text_cmp a.name c.name) k2 in
    let all = then_equal (look_cmp a c) (answer_cmp a.answer c.answer) h in
    let one = then_equal (nat_cmp a.lib c.lib) k1 all.0 in
    let two = then_equal (text_cmp a.name c.name) k2 one.1 in
    let three = then_equal (option_cmp text_cmp a.version c.version) (nat_cmp (class_number a.call) (class_number c.call)) two.1 in
    ap₂ (λ (l : ℕ) (n : List ℕ). record { lib = l; name = n; version = a.version; call = a.call; answer = a.answer }) (exact_unsigned a.lib c.lib one.0) (exact_bytes a.name c.name two.0)
    ∙ ap₂ (λ (v : Option (List ℕ)) (k : Bool). record { lib = c.lib; name = c.name; version = v; call = k; answer = a.answer }) (option_exact a.version c.version three.0) (call_exact a.call c.call three.1)
    ∙ ap (λ (w : Answer). record { lib = c.lib; name = c.name; version = c.version; call = c.call; answer = w }) (answer_exact a.answer c.answer all.1)

-- ---- a host that meets a record

hidden : {A : Type 0} (b : Bool) (x : A) → some_where b x ≡ None → b ≡ false
hidden true x h = cc
hidden false x h = refl

own_parts : (weak reached lacks : Bool) → (not weak && (not reached || lacks)) ≡ false → weak ≡ false → (reached ≡ true) × (lacks ≡ false)
own_parts true reached lacks h w = cc
own_parts false true true h w = cc
own_parts false true false h w = (refl, refl)
own_parts false false lacks h w = cc

pub object_is : (setting : Setting) (there : World) (r : Record) (q : Object) (name : List ℕ) → listed_decision face_or_flaw setting there name ≡ Some (Ok q) → lib_object face_or_flaw setting there r name ≡ Some q
object_is setting there r q name h = ap (object_in face_or_flaw setting there r) h

module _ (setting : Setting) (there : World) (r : Record) (meets : HostMeets face_or_flaw setting there r) where
  abbrev Differences : Type 0
  Differences = List (Option Difference)

  abbrev of_looks : Differences
  of_looks = map (look_difference face_or_flaw setting there r) r.looks

  abbrev of_own : Differences
  of_own = flat_map (own_differences face_or_flaw setting there r) r.libs

  abbrev of_versions : Differences
  of_versions = map (version_difference face_or_flaw setting there r) r.versions

  abbrev of_files : Differences
  of_files = map (same_file face_or_flaw setting there r) (beside_earlier [] r.libs)

  abbrev of_libs : Differences
  of_libs = map (lib_difference face_or_flaw setting there r) r.libs

  abbrev of_interps : Differences
  of_interps = map (interp_difference face_or_flaw setting there r) r.interps

  met : (o : Option Difference) → Contains (of_versions ++ (of_looks ++ of_own)) o → o ≡ None
  unfolding first_difference
  met o c =
      let all : Contains (differences_in_order face_or_flaw setting there r) o =
      Contains-append_right of_interps (of_libs ++ (of_files ++ (of_versions ++ (of_looks ++ of_own)))) o
      (Contains-append_right of_libs (of_files ++ (of_versions ++ (of_looks ++ of_own))) o
      (Contains-append_right of_files (of_versions ++ (of_looks ++ of_own)) o c)) in
      all_none (differences_in_order face_or_flaw setting there r) meets all.0 o (place_of (differences_in_order face_or_flaw setting there r) o all)

  -- A library has a version that is asked of it.
  pub version_there : (v : RecVersion) (q : Object) → Contains r.versions v → lib_object face_or_flaw setting there r (name_of_lib face_or_flaw setting there r v.lib) ≡ Some q → has_defined v.version q.face.defs ≡ true
  version_there v q c h =
      let name = name_of_lib face_or_flaw setting there r v.lib in
      let none = met (version_difference face_or_flaw setting there r v) (Contains-append_left of_versions (of_looks ++ of_own) (version_difference face_or_flaw setting there r v) (in_map (version_difference face_or_flaw setting there r) r.versions v c)) in
      let off = hidden (lacks_version face_or_flaw setting there r v.version (lib_object face_or_flaw setting there r name)) (NoVersion name v.version) none in
      not-false (has_defined v.version q.face.defs) (ap (lacks_version face_or_flaw setting there r v.version) (sym h) ∙ off)

  -- A look has the recorded answer.
  pub look_there : (l : Look) (q : Object) → Contains r.looks l → lib_object face_or_flaw setting there r (name_of_lib face_or_flaw setting there r l.lib) ≡ Some q → is_answer l.answer (answer_in_face q.face l.name l.version l.call) ≡ true
  look_there l q c h =
      let none = met (look_difference face_or_flaw setting there r l) (Contains-append_right of_versions (of_looks ++ of_own) (look_difference face_or_flaw setting there r l) (Contains-append_left of_looks of_own (look_difference face_or_flaw setting there r l) (in_map (look_difference face_or_flaw setting there r) r.looks l c))) in
      let at : answer_difference face_or_flaw setting there r l (answer_in_face q.face l.name l.version l.call) ≡ None =
      ap (option_and_then (λ (o : Object). answer_difference face_or_flaw setting there r l (answer_in_face o.face l.name l.version l.call))) (sym h) ∙ none in
      not-false (is_answer l.answer (answer_in_face q.face l.name l.version l.call)) (hidden (not (is_answer l.answer (answer_in_face q.face l.name l.version l.call))) _ at)

  -- What a library asks itself goes to what it reaches, which has the version.
  pub own_there : (lib : RecLib) (q : Object) (ask : Ask) → Contains r.libs lib → lib_object face_or_flaw setting there r lib.name ≡ Some q → Contains q.face.asks ask → ask.weak ≡ false → (is_reached r.libs (length r.libs) ask.file lib.name ≡ true) × (lacks_version face_or_flaw setting there r ask.name (lib_object face_or_flaw setting there r ask.file) ≡ false)
  own_there lib q ask c h a weak =
      let differs = own_difference face_or_flaw setting there r lib ask in
      let among : Contains (asks_of_lib face_or_flaw setting there r (lib_object face_or_flaw setting there r lib.name)) ask = subst (λ o. Contains (asks_of_lib face_or_flaw setting there r o) ask) (sym h) a in
      let own : Contains (own_differences face_or_flaw setting there r lib) differs = in_map (own_difference face_or_flaw setting there r lib) (asks_of_lib face_or_flaw setting there r (lib_object face_or_flaw setting there r lib.name)) ask among in
      let none = met differs (Contains-append_right of_versions (of_looks ++ of_own) differs (Contains-append_right of_looks of_own differs (in_flat_map (own_differences face_or_flaw setting there r) r.libs lib differs c own))) in
      own_parts ask.weak (is_reached r.libs (length r.libs) ask.file lib.name) (lacks_version face_or_flaw setting there r ask.name (lib_object face_or_flaw setting there r ask.file)) (hidden _ _ none) weak
