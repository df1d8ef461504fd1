-- No name of the new dynamic table is bad.
use Rattle.std.proofs.Common.{◌≡◌, ℕ, ◌==◌, ◌||◌, ◌&&◌, Bool, true, false, cond, List, [], ◌∷◌, ◌++◌, Option, Some, None, length, drop, refl, arith}
use Rattle.std.specs.Prelude.{nat_le, slice_index}
use Rattle.std.specs.List.{All, filter, find, list_any}
use Rattle.std.proofs.lemmas.Bool.Decides.{nat_tests}
use Rattle.std.proofs.lemmas.List.Elements.{All-head, All-tail}
use Rattle.std.proofs.lemmas.List.Folds.{list_any-append}
use Rattle.byte_view.specs.Dynamic.{dynamic_entries, strings_size, tagged}
use Rattle.byte_view.specs.DynamicFlaws.{bad_name, has_tag, is_name}
use Rattle.byte_view.specs.declared.constants.TheConstants.{DT_NEEDED, DT_SONAME, DT_RPATH, DT_RUNPATH, DT_STRTAB, DT_STRSZ}
use Rattle.byte_view.specs.declared.dynamic.Entry.{Entry}
use Rattle.load_model.specs.Faces.{bad_text_of, is_no_text}
use Rattle.two_files.specs.Entries.{Places, added_path, new_entries, new_value, rewritten, where_some}

-- entries that a test does not pass, by what gives their values
pub record AreGood (bad : Entry → Bool) (w : Places) : Type 0 where
  pub needs : All (λ n. bad (tagged DT_NEEDED n) ≡ false) w.needs
  pub others : (e : Entry) (v : ℕ) → (e.tag == DT_NEEDED) ≡ false → new_value w e ≡ Some v → bad (tagged e.tag v) ≡ false
  pub path : (v : ℕ) → w.runpath ≡ Some v → bad (tagged DT_RUNPATH v) ≡ false

rewritten_good : (bad : Entry → Bool) (w : Places) (needs : List ℕ) (xs : List Entry) → AreGood bad w → All (λ n. bad (tagged DT_NEEDED n) ≡ false) needs → length needs ≡ length (filter (λ e. e.tag == DT_NEEDED) xs) → list_any bad (rewritten w needs xs) ≡ false
unfolding rewritten
rewritten_good bad w needs [] good all h = refl
rewritten_good bad w needs (e ∷ more) good all h =
    go (e.tag == DT_NEEDED) refl (new_value w e) refl needs all h (λ ns a g. rewritten_good bad w ns more good a g)
  where
    go : (b : Bool) → (e.tag == DT_NEEDED) ≡ b → (o : Option ℕ) → new_value w e ≡ o → (needs : List ℕ) → All (λ n. bad (tagged DT_NEEDED n) ≡ false) needs → length needs ≡ length (cond b (e ∷ filter (λ e. e.tag == DT_NEEDED) more) (filter (λ e. e.tag == DT_NEEDED) more))
        → ((ns : List ℕ) → All (λ n. bad (tagged DT_NEEDED n) ≡ false) ns → length ns ≡ length (filter (λ e. e.tag == DT_NEEDED) more) → list_any bad (rewritten w ns more) ≡ false)
        → list_any bad (cond b (tagged e.tag (slice_index needs 0) ∷ rewritten w (drop 1 needs) more) (where_some e.tag o ++ rewritten w needs more)) ≡ false
    go true t o n [] all h later = absurd (omega arith)
    go true t o n (x ∷ ns) all h later =
        let tag : e.tag ≡ DT_NEEDED = grind (arith, nat_tests) in
        rw (tag, All-head (λ n. bad (tagged DT_NEEDED n) ≡ false) x ns all) (later ns (All-tail (λ n. bad (tagged DT_NEEDED n) ≡ false) x ns all) (omega arith))
    go false t None n needs all h later = later needs all h
    go false t (Some v) n needs all h later = rw (good.others e v t n) (later needs all h)

pub new_good : (bad : Entry → Bool) (w : Places) (xs : List Entry) → AreGood bad w → length w.needs ≡ length (filter (λ e. e.tag == DT_NEEDED) xs) → list_any bad (new_entries w xs) ≡ false
unfolding new_entries
new_good bad w xs good h =
    rw (list_any-append bad (rewritten w w.needs xs) (added_path w xs), rewritten_good bad w w.needs xs good good.needs h) (go (has_tag DT_RUNPATH xs) w.runpath refl)
  where
    go : (b : Bool) (o : Option ℕ) → w.runpath ≡ o → list_any bad (cond b [] (where_some DT_RUNPATH o)) ≡ false
    go true o e = refl
    go false None e = refl
    go false (Some v) e = rw (good.path v e) refl

-- of the entries that are no needs, names have the places that are wanted
pub record AreWanted (test : ℕ → Bool) (w : Places) : Type 0 where
  pub needs : All (λ n. test n ≡ false) w.needs
  pub soname : (v : ℕ) → w.soname ≡ Some v → test v ≡ false
  pub runpath : (v : ℕ) → w.runpath ≡ Some v → test v ≡ false

named_good : (test : ℕ → Bool) (w : Places) → AreWanted test w → AreGood (λ e. is_name e && test e.value) w
named_good test w good = record { needs = λ k d h. good.needs k d h; others = others; path = λ v e. good.runpath v e }
  where
    others : (e : Entry) (v : ℕ) → (e.tag == DT_NEEDED) ≡ false → new_value w e ≡ Some v → (is_name (tagged e.tag v) && test v) ≡ false
    others e v t n = go (e.tag == DT_SONAME) (e.tag == DT_RPATH) (e.tag == DT_RUNPATH) refl refl refl n
      where
        go : (a b c : Bool) → (e.tag == DT_SONAME) ≡ a → (e.tag == DT_RPATH) ≡ b → (e.tag == DT_RUNPATH) ≡ c
            → cond a w.soname (cond b None (cond c w.runpath (cond (e.tag == DT_STRTAB) (Some w.strings_at) (cond (e.tag == DT_STRSZ) (Some w.strings_size) (Some e.value))))) ≡ Some v
            → (is_name (tagged e.tag v) && test v) ≡ false
        go true b c s r p n = let no : test v ≡ false = good.soname v n in grind (arith, nat_tests)
        go false true c s r p n = absurd (cc)
        go false false true s r p n = let no : test v ≡ false = good.runpath v n in grind (arith, nat_tests)
        go false false false s r p n = rw (t, s, r, p) refl

none_found : (p : Entry → Bool) (xs : List Entry) → list_any p xs ≡ false → find p xs ≡ None
none_found p [] h = refl
none_found p (x ∷ xs) h = go (p x) h (none_found p xs)
  where
    go : (b : Bool) → (b || list_any p xs) ≡ false → (list_any p xs ≡ false → find p xs ≡ None) → cond b (Some x) (find p xs) ≡ None
    go true h on = absurd (cc)
    go false h on = on h

-- each name is within the table
pub names_within : (w : Places) (xs : List Entry) → AreWanted (λ n. nat_le (strings_size (new_entries w xs)) n) w → length w.needs ≡ length (filter (λ e. e.tag == DT_NEEDED) xs) → bad_name (new_entries w xs) ≡ None
names_within w xs good h =
    let size : ℕ = strings_size (new_entries w xs) in
    let none : list_any (λ e. is_name e && nat_le size e.value) (new_entries w xs) ≡ false = new_good (λ e. is_name e && nat_le size e.value) w xs (named_good (λ n. nat_le size n) w good) h in
    rw (none_found (λ e. is_name e && nat_le size e.value) (new_entries w xs) none) refl

-- an entry with the tag of a name is a name
fewer : (tag : ℕ) (test : ℕ → Bool) (xs : List Entry) → ((e : Entry) → (e.tag == tag) ≡ true → is_name e ≡ true) → list_any (λ e. is_name e && test e.value) xs ≡ false → list_any (λ e. (e.tag == tag) && test e.value) xs ≡ false
fewer tag test [] names h = refl
fewer tag test (e ∷ xs) names h = go (e.tag == tag) (test e.value) refl h (fewer tag test xs names)
  where
    go : (a b : Bool) → (e.tag == tag) ≡ a → ((is_name e && b) || list_any (λ e. is_name e && test e.value) xs) ≡ false → (list_any (λ e. is_name e && test e.value) xs ≡ false → list_any (λ e. (e.tag == tag) && test e.value) xs ≡ false) → ((a && b) || list_any (λ e. (e.tag == tag) && test e.value) xs) ≡ false
    go true true t h on = absurd (let name : is_name e ≡ true = names e t in let no : ((is_name e && true) || list_any (λ e. is_name e && test e.value) xs) ≡ true = rw name refl in cc)
    go true false t h on = on (rest (is_name e) h)
      where
        rest : (n : Bool) → ((n && false) || list_any (λ e. is_name e && test e.value) xs) ≡ false → list_any (λ e. is_name e && test e.value) xs ≡ false
        rest true h = h
        rest false h = h
    go false b t h on = on (rest (is_name e && b) h)
      where
        rest : (n : Bool) → (n || list_any (λ e. is_name e && test e.value) xs) ≡ false → list_any (λ e. is_name e && test e.value) xs ≡ false
        rest true h = absurd (cc)
        rest false h = h

-- each name is a text
pub names_texts : (c : List ℕ) (w : Places) (xs : List Entry) (tag : ℕ) → dynamic_entries c ≡ new_entries w xs → ((e : Entry) → (e.tag == tag) ≡ true → is_name e ≡ true) → AreWanted (is_no_text c) w → length w.needs ≡ length (filter (λ e. e.tag == DT_NEEDED) xs) → bad_text_of c tag ≡ None
names_texts c w xs tag same names good h =
    let none : list_any (λ e. is_name e && is_no_text c e.value) (new_entries w xs) ≡ false = new_good (λ e. is_name e && is_no_text c e.value) w xs (named_good (is_no_text c) w good) h in
    rw (same, none_found (λ e. (e.tag == tag) && is_no_text c e.value) (new_entries w xs) (fewer tag (is_no_text c) (new_entries w xs) names none)) refl
