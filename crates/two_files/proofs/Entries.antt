-- Values of tags in the new dynamic table.
use Rattle.std.proofs.Common.{◌≡◌, ℕ, ◌==◌, ◌||◌, Bool, true, false, cond, List, [], ◌∷◌, ◌++◌, Option, Some, None, is_some, length, drop, map, refl, ap, sym, ◌∙◌, append-nil, arith}
use Rattle.std.specs.Prelude.{slice_index}
use Rattle.std.specs.List.{filter, find}
use Rattle.std.specs.Option.{option_map}
use Rattle.std.proofs.lemmas.Bool.Decides.{nat_tests}
use Rattle.byte_view.specs.Dynamic.{value_of, tagged}
use Rattle.byte_view.specs.DynamicFlaws.{has_tag}
use Rattle.byte_view.specs.declared.constants.TheConstants.{DT_NEEDED, DT_SONAME, DT_RPATH, DT_RUNPATH, DT_STRTAB, DT_STRSZ}
use Rattle.byte_view.specs.declared.dynamic.Entry.{Entry}
use Rattle.two_files.specs.Alike.{is_changed}
use Rattle.two_files.specs.Entries.{Places, added_path, new_entries, new_value, rewritten, where_some}

-- a tag is there exactly where it has a value
pub tag_there : (tag : ℕ) (xs : List Entry) → has_tag tag xs ≡ is_some (value_of tag xs)
tag_there tag [] = refl
tag_there tag (e ∷ xs) = go (e.tag == tag) (tag_there tag xs)
  where
    go : (b : Bool) → has_tag tag xs ≡ is_some (value_of tag xs) → (b || has_tag tag xs) ≡ is_some (option_map (λ e. e.value) (cond b (Some e) (find (λ e. e.tag == tag) xs)))
    go true later = refl
    go false later = later

abbrev first_of : Option ℕ → Option ℕ → Option ℕ
first_of None b = b
first_of (Some a) b = Some a

pub value_both : (tag : ℕ) (xs ys : List Entry) → value_of tag (xs ++ ys) ≡ first_of (value_of tag xs) (value_of tag ys)
value_both tag [] ys = refl
value_both tag (e ∷ xs) ys = go (e.tag == tag) (value_both tag xs ys)
  where
    go : (b : Bool) → value_of tag (xs ++ ys) ≡ first_of (value_of tag xs) (value_of tag ys) → option_map (λ e. e.value) (cond b (Some e) (find (λ e. e.tag == tag) (xs ++ ys))) ≡ first_of (option_map (λ e. e.value) (cond b (Some e) (find (λ e. e.tag == tag) xs))) (value_of tag ys)
    go true later = refl
    go false later = later

nothing_both : (b : Bool) → cond {A = Option ℕ} b None None ≡ None
nothing_both true = refl
nothing_both false = refl

value_some : (tag t : ℕ) (o : Option ℕ) → value_of tag (where_some t o) ≡ cond (t == tag) o None
value_some tag t None = sym (nothing_both (t == tag))
value_some tag t (Some v) = go (t == tag)
  where
    go : (b : Bool) → option_map (λ e. e.value) (cond b (Some (tagged t v)) None) ≡ cond b (Some v) None
    go true = refl
    go false = refl

value_next : (tag t : ℕ) (o : Option ℕ) (more : List Entry) → value_of tag (where_some t o ++ more) ≡ first_of (cond (t == tag) o None) (value_of tag more)
value_next tag t o more = value_both tag (where_some t o) more ∙ ap (λ v. first_of v (value_of tag more)) (value_some tag t o)

-- the value of a tag that is set
set_value : (w : Places) (tag : ℕ) (o : Option ℕ) (needs : List ℕ) (xs : List Entry) → (tag == DT_NEEDED) ≡ false → ((e : Entry) → (e.tag == tag) ≡ true → new_value w e ≡ o) → value_of tag (rewritten w needs xs) ≡ cond (has_tag tag xs) o None
unfolding rewritten
set_value w tag o needs [] t set = refl
set_value w tag o needs (e ∷ more) t set =
    go (e.tag == DT_NEEDED) (e.tag == tag) refl refl (set_value w tag o (drop 1 needs) more t set) (set_value w tag o needs more t set)
  where
    go : (a b : Bool) → (e.tag == DT_NEEDED) ≡ a → (e.tag == tag) ≡ b
        → value_of tag (rewritten w (drop 1 needs) more) ≡ cond (has_tag tag more) o None
        → value_of tag (rewritten w needs more) ≡ cond (has_tag tag more) o None
        → value_of tag (cond a (tagged e.tag (slice_index needs 0) ∷ rewritten w (drop 1 needs) more) (where_some e.tag (new_value w e) ++ rewritten w needs more)) ≡ cond (b || has_tag tag more) o None
    go true true n s later other = absurd (grind (arith, nat_tests))
    go true false n s later other = rw s later
    go false true n s later other = value_next tag e.tag (new_value w e) (rewritten w needs more) ∙ rw (s, set e s, other) (same o (has_tag tag more))
      where
        same : (o : Option ℕ) (h : Bool) → first_of o (cond h o None) ≡ o
        same None true = refl
        same None false = refl
        same (Some v) h = refl
    go false false n s later other = value_next tag e.tag (new_value w e) (rewritten w needs more) ∙ rw s other

-- the value of a tag that is not changed
kept_value : (w : Places) (tag : ℕ) (needs : List ℕ) (xs : List Entry) → is_changed tag ≡ false → value_of tag (rewritten w needs xs) ≡ value_of tag xs
unfolding rewritten
kept_value w tag needs [] t = refl
kept_value w tag needs (e ∷ more) t =
    go (e.tag == DT_NEEDED) (e.tag == tag) refl refl (kept_value w tag (drop 1 needs) more t) (kept_value w tag needs more t)
  where
    go : (a b : Bool) → (e.tag == DT_NEEDED) ≡ a → (e.tag == tag) ≡ b
        → value_of tag (rewritten w (drop 1 needs) more) ≡ value_of tag more
        → value_of tag (rewritten w needs more) ≡ value_of tag more
        → value_of tag (cond a (tagged e.tag (slice_index needs 0) ∷ rewritten w (drop 1 needs) more) (where_some e.tag (new_value w e) ++ rewritten w needs more)) ≡ option_map (λ e. e.value) (cond b (Some e) (find (λ e. e.tag == tag) more))
    go true true n s later other = absurd (grind (arith, nat_tests))
    go true false n s later other = rw s later
    go false true n s later other =
        let value : new_value w e ≡ Some e.value = grind (arith, nat_tests) in
        value_next tag e.tag (new_value w e) (rewritten w needs more) ∙ rw (s, value) refl
    go false false n s later other = value_next tag e.tag (new_value w e) (rewritten w needs more) ∙ rw s other

added_none : (w : Places) (tag : ℕ) (xs : List Entry) → (DT_RUNPATH == tag) ≡ false → value_of tag (added_path w xs) ≡ None
added_none w tag xs t = go (has_tag DT_RUNPATH xs)
  where
    go : (b : Bool) → value_of tag (cond b [] (where_some DT_RUNPATH w.runpath)) ≡ None
    go true = refl
    go false = value_some tag DT_RUNPATH w.runpath ∙ rw t refl

first_none : (o : Option ℕ) → first_of o None ≡ o
first_none None = refl
first_none (Some v) = refl

pub new_kept : (w : Places) (tag : ℕ) (xs : List Entry) → is_changed tag ≡ false → value_of tag (new_entries w xs) ≡ value_of tag xs
unfolding new_entries
new_kept w tag xs t =
    let other : (DT_RUNPATH == tag) ≡ false = grind (arith, nat_tests) in
    value_both tag (rewritten w w.needs xs) (added_path w xs) ∙ rw (added_none w tag xs other, kept_value w tag w.needs xs t) (first_none (value_of tag xs))

new_set : (w : Places) (tag : ℕ) (o : Option ℕ) (xs : List Entry) → (tag == DT_NEEDED) ≡ false → (DT_RUNPATH == tag) ≡ false → ((e : Entry) → (e.tag == tag) ≡ true → new_value w e ≡ o) → value_of tag (new_entries w xs) ≡ cond (has_tag tag xs) o None
unfolding new_entries
new_set w tag o xs t other set =
    value_both tag (rewritten w w.needs xs) (added_path w xs) ∙ rw (added_none w tag xs other, set_value w tag o w.needs xs t set) (first_none (cond (has_tag tag xs) o None))

pub new_soname : (w : Places) (xs : List Entry) → value_of DT_SONAME (new_entries w xs) ≡ cond (has_tag DT_SONAME xs) w.soname None
new_soname w xs = new_set w DT_SONAME w.soname xs refl refl (λ e h. rw h refl)

pub new_rpath : (w : Places) (xs : List Entry) → value_of DT_RPATH (new_entries w xs) ≡ None
new_rpath w xs = new_set w DT_RPATH None xs refl refl (λ e h. let tag : e.tag ≡ DT_RPATH = grind (arith, nat_tests) in rw tag refl) ∙ nothing_both (has_tag DT_RPATH xs)

pub new_strings_at : (w : Places) (xs : List Entry) → value_of DT_STRTAB (new_entries w xs) ≡ cond (has_tag DT_STRTAB xs) (Some w.strings_at) None
new_strings_at w xs = new_set w DT_STRTAB (Some w.strings_at) xs refl refl (λ e h. let tag : e.tag ≡ DT_STRTAB = grind (arith, nat_tests) in rw tag refl)

pub new_strings_size : (w : Places) (xs : List Entry) → value_of DT_STRSZ (new_entries w xs) ≡ cond (has_tag DT_STRSZ xs) (Some w.strings_size) None
new_strings_size w xs = new_set w DT_STRSZ (Some w.strings_size) xs refl refl (λ e h. let tag : e.tag ≡ DT_STRSZ = grind (arith, nat_tests) in rw tag refl)

pub new_runpath : (w : Places) (xs : List Entry) → value_of DT_RUNPATH (new_entries w xs) ≡ w.runpath
unfolding new_entries
new_runpath w xs =
    value_both DT_RUNPATH (rewritten w w.needs xs) (added_path w xs)
    ∙ rw (set_value w DT_RUNPATH w.runpath w.needs xs refl (λ e h. let tag : e.tag ≡ DT_RUNPATH = grind (arith, nat_tests) in rw tag refl)) (go (has_tag DT_RUNPATH xs) w.runpath)
  where
    go : (b : Bool) (o : Option ℕ) → first_of (cond b o None) (value_of DT_RUNPATH (cond b [] (where_some DT_RUNPATH o))) ≡ o
    go true None = refl
    go true (Some v) = refl
    go false None = refl
    go false (Some v) = refl

-- the needs by turns
is_need : Entry → Bool
is_need e = e.tag == DT_NEEDED

abbrev needs_in : List Entry → List ℕ
needs_in xs = map (λ e. e.value) (filter (λ e. e.tag == DT_NEEDED) xs)

filter_both : (p : Entry → Bool) (xs ys : List Entry) → filter p (xs ++ ys) ≡ filter p xs ++ filter p ys
filter_both p [] ys = refl
filter_both p (x ∷ xs) ys = go (p x) (filter_both p xs ys)
  where
    go : (b : Bool) → filter p (xs ++ ys) ≡ filter p xs ++ filter p ys → cond b (x ∷ filter p (xs ++ ys)) (filter p (xs ++ ys)) ≡ cond b (x ∷ filter p xs) (filter p xs) ++ filter p ys
    go true later = ap (λ l. x ∷ l) later
    go false later = later

none_needed : (t : ℕ) (o : Option ℕ) → (t == DT_NEEDED) ≡ false → filter (λ e. e.tag == DT_NEEDED) (where_some t o) ≡ []
none_needed t None h = refl
none_needed t (Some v) h = rw h refl

turns : (w : Places) (needs : List ℕ) (xs : List Entry) → length needs ≡ length (filter (λ e. e.tag == DT_NEEDED) xs) → needs_in (rewritten w needs xs) ≡ needs
unfolding rewritten
turns w [] [] h = refl
turns w (n ∷ needs) [] h = absurd (omega arith)
turns w needs (e ∷ more) h = go (e.tag == DT_NEEDED) refl needs h (λ g. turns w (drop 1 needs) more g) (turns w needs more)
  where
    go : (b : Bool) → (e.tag == DT_NEEDED) ≡ b → (needs : List ℕ) → length needs ≡ length (cond b (e ∷ filter (λ e. e.tag == DT_NEEDED) more) (filter (λ e. e.tag == DT_NEEDED) more))
        → (length (drop 1 needs) ≡ length (filter (λ e. e.tag == DT_NEEDED) more) → needs_in (rewritten w (drop 1 needs) more) ≡ drop 1 needs)
        → (length needs ≡ length (filter (λ e. e.tag == DT_NEEDED) more) → needs_in (rewritten w needs more) ≡ needs)
        → needs_in (cond b (tagged e.tag (slice_index needs 0) ∷ rewritten w (drop 1 needs) more) (where_some e.tag (new_value w e) ++ rewritten w needs more)) ≡ needs
    go true t [] h later other = absurd (omega arith)
    go true t (n ∷ needs) h later other = rw t (ap (λ l. n ∷ l) (later (omega arith)))
    go false t needs h later other = rw (filter_both (λ e. e.tag == DT_NEEDED) (where_some e.tag (new_value w e)) (rewritten w needs more), none_needed e.tag (new_value w e) t) (other h)

added_needs : (w : Places) (xs : List Entry) → filter (λ e. e.tag == DT_NEEDED) (added_path w xs) ≡ []
added_needs w xs = go (has_tag DT_RUNPATH xs)
  where
    go : (b : Bool) → filter (λ e. e.tag == DT_NEEDED) (cond b [] (where_some DT_RUNPATH w.runpath)) ≡ []
    go true = refl
    go false = none_needed DT_RUNPATH w.runpath refl

pub new_needs : (w : Places) (xs : List Entry) → length w.needs ≡ length (filter (λ e. e.tag == DT_NEEDED) xs) → needs_in (new_entries w xs) ≡ w.needs
unfolding new_entries
new_needs w xs h = rw (filter_both (λ e. e.tag == DT_NEEDED) (rewritten w w.needs xs) (added_path w xs), added_needs w xs, append-nil) (turns w w.needs xs h)
