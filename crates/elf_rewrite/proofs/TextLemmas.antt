-- The texts that the new file has
use Rattle.std.proofs.Common.{◌≡◌, ℕ, suc, ◌<◌, ◌≤◌, ◌==◌, ◌&&◌, ◌||◌, Bool, true, false, cond, not, List, [], ◌∷◌, ◌++◌, Option, Some, None, is_some, length, map, refl, ap, sym, subst, ◌∙◌, arith}
use Rattle.std.specs.Prelude.{nat_le}
use Rattle.std.specs.List.{All, filter, find, list_all, zip}
use Rattle.std.specs.Option.{option_map, unwrap_or}
use Rattle.std.specs.Str.{bytes_eq, is_utf8}
use Rattle.std.proofs.lemmas.Bool.Decides.{nat_tests}
use Rattle.std.proofs.lemmas.Cmp.{nat_list_eq_equiv}
use Rattle.std.proofs.lemmas.List.Elements.{All-cons, All-nil}
use Rattle.std.proofs.lemmas.List.Folds.{list_any-append}
use Rattle.byte_view.specs.Checks.{flaw_at}
use Rattle.byte_view.specs.Dynamic.{dynamic_entries, string_at, strings_of, strings_size, text_in, value_of}
use Rattle.byte_view.specs.DynamicFlaws.{bad_name, has_tag, is_name, strings_flaw}
use Rattle.byte_view.specs.Headers.{headers}
use Rattle.byte_view.specs.declared.constants.TheConstants.{DT_NEEDED, DT_RPATH, DT_RUNPATH, DT_SONAME}
use Rattle.byte_view.specs.declared.dynamic.Entry.{Entry}
use Rattle.byte_view.specs.declared.flaws.TheConstants.{STRING_PLACE}
use Rattle.load_model.proofs.TwoWorlds.{same_bytes}
use Rattle.load_model.specs.Faces.{is_no_text, named_text, needs_of}
use Rattle.load_model.specs.VersionTables.{ask_needs_of, ask_of, asks_of, dynamic_value, text_of, vernauxs, verneed_place, vn_file}
use Rattle.path_text.specs.Path.{has_nul}
use Rattle.strtab_grow.specs.Growth.{Growth, PlacesTexts as KeepsGrown, added, growth, place_from, stands_in}
use Rattle.strtab_grow.proofs.TextLaws.{keeps_texts}
use Rattle.two_files.specs.Alike.{KeepsTags, KeepsTexts}
use Rattle.two_files.specs.Entries.{new_entries}
use Rattle.two_files.proofs.Entries.{new_kept, new_needs, new_rpath, new_runpath, new_soname, tag_there}
use Rattle.two_files.proofs.Records.{text_same}
use Rattle.two_files.proofs.Strings.{strings_long, texts_kept}
use Rattle.elf_rewrite.specs.NewFile.{Fits, is_name_or_none, is_name_text}
use Rattle.elf_rewrite.specs.NewTable.{entries_in, grown_by, name_place, need_places, need_values, new_place, new_size, new_strings_at, old_size, place_instead, text_places, places_with}
use Rattle.elf_rewrite.specs.NewTexts.{ask_files, changed, changed_name, changed_texts, new_texts}
use Rattle.elf_rewrite.specs.Rewriting.{file_for, ask_file_in}
use Rattle.elf_rewrite.specs.declared.change.Change.{Change}
use Rattle.elf_rewrite.proofs.FileSteps.{place_below}
use Rattle.elf_rewrite.proofs.TextSteps.{needs_counted, needs_listed}
use Rattle.elf_rewrite.proofs.UnflawedLemmas.{has_strings}

-- a file with the new entries and the new strings
pub record HasGrown (b : List ℕ) (change : Change) (c : List ℕ) : Type 0 where
  pub entries : dynamic_entries c ≡ entries_in b change
  pub size : strings_size (dynamic_entries c) ≡ new_size b change
  pub strings : strings_of c (headers c) (dynamic_entries c) ≡ strings_of b (headers b) (dynamic_entries b) ++ added (new_texts b change)

pub entries_are : (b : List ℕ) (change : Change) → entries_in b change ≡ new_entries (text_places b change) (dynamic_entries b)
unfolding entries_in
entries_are b change = refl

pub places_are : (b : List ℕ) (change : Change) → text_places b change ≡ places_with b change (new_strings_at b change)
unfolding text_places
places_are b change = refl

size_grows : (b : List ℕ) (change : Change) → old_size b ≤ new_size b change
size_grows b change = omega arith

pub grown_texts : (b : List ℕ) (change : Change) (c : List ℕ) → strings_flaw b (headers b) (dynamic_entries b) ≡ None → HasGrown b change c → KeepsTexts b c (headers b) (headers c) (dynamic_entries b) (dynamic_entries c)
grown_texts b change c e g =
    texts_kept b c (headers b) (headers c) (dynamic_entries b) (dynamic_entries c) (added (new_texts b change)) e g.strings (omega (arith, g.size, size_grows b change))

pub grown_tags : (b : List ℕ) (change : Change) (c : List ℕ) → HasGrown b change c → KeepsTags (dynamic_entries b) (dynamic_entries c)
grown_tags b change c g = record {
  tags = λ tag other. rw (g.entries, entries_are b change) (new_kept (text_places b change) tag (dynamic_entries b) other);
}

-- a name that can be read where it stands
pub record Reads (b : List ℕ) (change : Change) (c : List ℕ) (at : ℕ) (t : List ℕ) : Type 0 where
  pub text : text_of c at ≡ t
  pub below : at < new_size b change

new_reads : (b : List ℕ) (change : Change) (c : List ℕ) (t : List ℕ) → HasGrown b change c → stands_in t (changed_texts b change) ≡ true → has_nul t ≡ false → Reads b change c (new_place (grown_by b change) t) t
unfolding string_at
new_reads b change c t g stands clean =
    go (place_from (old_size b) t (new_texts b change)) refl
  where
    go : (o : Option ℕ) → place_from (old_size b) t (new_texts b change) ≡ o → Reads b change c (unwrap_or (place_from (old_size b) t (new_texts b change)) 0) t
    go None e = absurd (
        let there : is_some (place_from (old_size b) t (new_texts b change)) ≡ true = (keeps_texts (old_size b) (changed_texts b change)).placed t stands in
        cc
        )
    go (Some p) e =
        let k : KeepsGrown (growth (old_size b) (changed_texts b change)) (changed_texts b change) = keeps_texts (old_size b) (changed_texts b change) in
        let long : length (strings_of b (headers b) (dynamic_entries b)) ≡ old_size b = strings_long b (headers b) (dynamic_entries b) in
        let read : text_in (strings_of b (headers b) (dynamic_entries b) ++ added (new_texts b change)) p ≡ Some t = k.reads (strings_of b (headers b) (dynamic_entries b)) t p long clean e in
        let there : text_in (strings_of c (headers c) (dynamic_entries c)) p ≡ Some t = rw g.strings read in
        rw e (record { text = ap (λ (o : Option (List ℕ)). unwrap_or o []) there; below = place_below (old_size b) t (new_texts b change) p e })

-- what the new texts come from
abbrev pub AreAmong : List (List ℕ) → List (List ℕ) → Type 0
AreAmong xs ys = (t : List ℕ) → stands_in t xs ≡ true → stands_in t ys ≡ true

named : (t : List ℕ) → is_name_text t ≡ true → (is_utf8 t ≡ true) × (has_nul t ≡ false)
named t h = go (is_utf8 t) refl (has_nul t) refl h
  where
    go : (a : Bool) → is_utf8 t ≡ a → (n : Bool) → has_nul t ≡ n → (a && not n) ≡ true → (is_utf8 t ≡ true) × (has_nul t ≡ false)
    go false u n m h = absurd (cc)
    go true u true m h = absurd (cc)
    go true u false m h = (u, m)

pub stands_first : (t : List ℕ) (more : List (List ℕ)) → stands_in t (t ∷ more) ≡ true
stands_first t more = rw (nat_list_eq_equiv.refl t) refl

instead_reads : (b : List ℕ) (change : Change) (c : List ℕ) (at : ℕ) (t : List ℕ) → HasGrown b change c → KeepsTexts b c (headers b) (headers c) (dynamic_entries b) (dynamic_entries c) → at < old_size b → is_name_text t ≡ true → AreAmong (changed (text_of b at ∷ []) (t ∷ [])) (changed_texts b change) → Reads b change c (place_instead b (grown_by b change) at t) t
instead_reads b change c at t g k low name among = go (bytes_eq (text_of b at) t) refl
  where
    go : (s : Bool) → bytes_eq (text_of b at) t ≡ s → Reads b change c (cond s at (new_place (grown_by b change) t)) t
    go true e = record { text = text_same b c at k low ∙ same_bytes (text_of b at) t e; below = omega (arith, size_grows b change) }
    go false e =
        let here : stands_in t (changed (text_of b at ∷ []) (t ∷ [])) ≡ true = rw e (stands_first t []) in
        new_reads b change c t g (among t here) (named t name).1

-- needs
more_changed : (o n : List ℕ) (os ns : List (List ℕ)) → AreAmong (changed (o ∷ []) (n ∷ [])) (changed (o ∷ os) (n ∷ ns))
more_changed o n os ns t h = go (bytes_eq o n) refl h
  where
    go : (s : Bool) → bytes_eq o n ≡ s → stands_in t (map (λ (p : List ℕ × List ℕ). p.1) (cond (not s) ((o, n) ∷ []) [])) ≡ true → stands_in t (map (λ (p : List ℕ × List ℕ). p.1) (cond (not (bytes_eq o n)) ((o, n) ∷ filter (λ (p : List ℕ × List ℕ). not (bytes_eq p.0 p.1)) (zip os ns)) (filter (λ (p : List ℕ × List ℕ). not (bytes_eq p.0 p.1)) (zip os ns)))) ≡ true
    go true e h = absurd (cc)
    go false e h = rw e (first (bytes_eq n t) (stands_in t (map (λ (p : List ℕ × List ℕ). p.1) (filter (λ (p : List ℕ × List ℕ). not (bytes_eq p.0 p.1)) (zip os ns)))) h)
      where
        first : (x y : Bool) → (x || false) ≡ true → (x || y) ≡ true
        first true y h = refl
        first false y h = absurd (cc)

later_changed : (o n : List ℕ) (os ns : List (List ℕ)) → AreAmong (changed os ns) (changed (o ∷ os) (n ∷ ns))
later_changed o n os ns t h = go (bytes_eq o n)
  where
    go : (s : Bool) → stands_in t (map (λ (p : List ℕ × List ℕ). p.1) (cond (not s) ((o, n) ∷ filter (λ (p : List ℕ × List ℕ). not (bytes_eq p.0 p.1)) (zip os ns)) (filter (λ (p : List ℕ × List ℕ). not (bytes_eq p.0 p.1)) (zip os ns)))) ≡ true
    go true = h
    go false = or_later (bytes_eq n t) (stands_in t (changed os ns)) h
      where
        or_later : (x y : Bool) → y ≡ true → (x || y) ≡ true
        or_later true y h = refl
        or_later false y h = h

pub both_true : (a b : Bool) → (a && b) ≡ true → (a ≡ true) × (b ≡ true)
both_true true b e = (refl, e)
both_true false b e = absurd (cc)

pub record ReadsAll (b : List ℕ) (change : Change) (c : List ℕ) (places : List ℕ) (texts : List (List ℕ)) : Type 0 where
  pub texts_are : map (λ at. text_of c at) places ≡ texts
  pub all : All (λ at. (at < new_size b change) × (is_no_text c at ≡ false)) places

no_text_off : (c : List ℕ) (at : ℕ) (t : List ℕ) → text_of c at ≡ t → is_utf8 t ≡ true → is_no_text c at ≡ false
no_text_off c at t e u = rw (e, u) refl

needs_read : (b : List ℕ) (change : Change) (c : List ℕ) (values : List ℕ) (news : List (List ℕ)) → HasGrown b change c → KeepsTexts b c (headers b) (headers c) (dynamic_entries b) (dynamic_entries c) → length values ≡ length news → All (λ at. at < old_size b) values → list_all is_name_text news ≡ true → AreAmong (changed (map (text_of b) values) news) (changed_texts b change) → ReadsAll b change c (need_places b (grown_by b change) values news) news
needs_read b change c [] [] g k h low names among = record { texts_are = refl; all = All-nil (λ at. (at < new_size b change) × (is_no_text c at ≡ false)) }
needs_read b change c [] (n ∷ news) g k h low names among = absurd (omega arith)
needs_read b change c (at ∷ values) [] g k h low names among = absurd (omega arith)
needs_read b change c (at ∷ values) (n ∷ news) g k h low names among =
    let P : ℕ → Type 0 = λ at. at < old_size b in
    let name = both_true (is_name_text n) (list_all is_name_text news) names in
    let first : at < old_size b = low 0 0 (omega arith) in
    let here : Reads b change c (place_instead b (grown_by b change) at n) n = instead_reads b change c at n g k first name.0 (λ t s. among t (more_changed (text_of b at) n (map (text_of b) values) news t s)) in
    let later : ReadsAll b change c (need_places b (grown_by b change) values news) news =
    needs_read b change c values news g k (omega arith) (λ i d l. low (suc i) d (omega arith)) name.1 (λ t s. among t (later_changed (text_of b at) n (map (text_of b) values) news t s)) in
    record {
      texts_are = rw (here.text, later.texts_are) refl;
      all = All-cons (λ at. (at < new_size b change) × (is_no_text c at ≡ false)) (place_instead b (grown_by b change) at n) (need_places b (grown_by b change) values news) (here.below, no_text_off c (place_instead b (grown_by b change) at n) n here.text (named n name.0).0) later.all;
    }

-- each name of a table without a flaw lies in its strings
pub values_low : (size : ℕ) (entries : List Entry) → find (λ e. is_name e && nat_le size e.value) entries ≡ None → All (λ at. at < size) (need_values entries)
values_low size [] h = All-nil (λ at. at < size)
values_low size (e ∷ more) h = go (e.tag == DT_NEEDED) refl (nat_le size e.value) refl h (λ g. values_low size more g)
  where
    go : (a : Bool) → (e.tag == DT_NEEDED) ≡ a → (l : Bool) → nat_le size e.value ≡ l → cond ((a || (e.tag == DT_SONAME) || (e.tag == DT_RPATH) || (e.tag == DT_RUNPATH)) && l) (Some e) (find (λ e. is_name e && nat_le size e.value) more) ≡ None → (find (λ e. is_name e && nat_le size e.value) more ≡ None → All (λ at. at < size) (need_values more)) → All (λ at. at < size) (map (λ e. e.value) (cond a (e ∷ filter (λ e. e.tag == DT_NEEDED) more) (filter (λ e. e.tag == DT_NEEDED) more)))
    go true t true u h on = absurd (cc)
    go true t false u h on = All-cons (λ at. at < size) e.value (need_values more) (grind (arith, nat_tests)) (on h)
    go false t l u h on = on (rest (((e.tag == DT_SONAME) || (e.tag == DT_RPATH) || (e.tag == DT_RUNPATH)) && l) h)
      where
        rest : (x : Bool) → cond x (Some e) (find (λ e. is_name e && nat_le size e.value) more) ≡ None → find (λ e. is_name e && nat_le size e.value) more ≡ None
        rest true h = absurd (cc)
        rest false h = h

pub value_low : (size tag : ℕ) (entries : List Entry) (v : ℕ) → ((e : Entry) → (e.tag == tag) ≡ true → is_name e ≡ true) → find (λ e. is_name e && nat_le size e.value) entries ≡ None → value_of tag entries ≡ Some v → v < size
value_low size tag [] v names h s = absurd (cc)
value_low size tag (e ∷ more) v names h s = go (e.tag == tag) refl (is_name e) refl (nat_le size e.value) refl h s (λ a b. value_low size tag more v names a b)
  where
    go : (a : Bool) → (e.tag == tag) ≡ a → (n : Bool) → is_name e ≡ n → (l : Bool) → nat_le size e.value ≡ l → cond (n && l) (Some e) (find (λ e. is_name e && nat_le size e.value) more) ≡ None → option_map (λ e. e.value) (cond a (Some e) (find (λ e. e.tag == tag) more)) ≡ Some v → (find (λ e. is_name e && nat_le size e.value) more ≡ None → value_of tag more ≡ Some v → v < size) → v < size
    go true t false n l u h s on = absurd (let name : is_name e ≡ true = names e t in cc)
    go true t true n true u h s on = absurd (cc)
    go true t true n false u h s on = let same : e.value ≡ v = cc in grind (arith, nat_tests)
    go false t n m l u h s on = on (rest (n && l) h) s
      where
        rest : (x : Bool) → cond x (Some e) (find (λ e. is_name e && nat_le size e.value) more) ≡ None → find (λ e. is_name e && nat_le size e.value) more ≡ None
        rest true h = absurd (cc)
        rest false h = h

pub none_bad : (entries : List Entry) → bad_name entries ≡ None → find (λ e. is_name e && nat_le (strings_size entries) e.value) entries ≡ None
none_bad entries e = go (find (λ e. is_name e && nat_le (strings_size entries) e.value) entries) e
  where
    go : (o : Option Entry) → flaw_at STRING_PLACE (option_map (λ e. e.value) o) ≡ None → o ≡ None
    go None e = refl
    go (Some x) e = absurd (cc)

-- a name that may be missing
pub record ReadsName (b : List ℕ) (change : Change) (c : List ℕ) (place : Option ℕ) (text : Option (List ℕ)) : Type 0 where
  pub text_is : option_map (text_of c) place ≡ text
  pub fine : (v : ℕ) → place ≡ Some v → (v < new_size b change) × (is_no_text c v ≡ false)

some_value : (v w : ℕ) → Some v ≡ Some w → v ≡ w
some_value v w e = cc

name_read : (b : List ℕ) (change : Change) (c : List ℕ) (old : Option ℕ) (new : Option (List ℕ)) → HasGrown b change c → KeepsTexts b c (headers b) (headers c) (dynamic_entries b) (dynamic_entries c) → ((v : ℕ) → old ≡ Some v → v < old_size b) → is_name_or_none new ≡ true → AreAmong (changed_name (option_map (text_of b) old) new) (changed_texts b change) → ReadsName b change c (name_place b (grown_by b change) old new) new
name_read b change c old None g k low name among = record { text_is = refl; fine = λ v e. absurd (cc) }
name_read b change c None (Some t) g k low name among =
    let here = new_reads b change c t g (among t (stands_first t [])) (named t name).1 in
    record {
      text_is = ap Some here.text;
      fine = λ v e. subst (λ n. (n < new_size b change) × (is_no_text c n ≡ false)) (some_value _ v e) (here.below, no_text_off c (new_place (grown_by b change) t) t here.text (named t name).0);
    }
name_read b change c (Some at) (Some t) g k low name among =
    let here = instead_reads b change c at t g k (low at refl) name (λ s h. among s (as_name (text_of b at) t s h)) in
    record {
      text_is = ap Some here.text;
      fine = λ v e. subst (λ n. (n < new_size b change) × (is_no_text c n ≡ false)) (some_value _ v e) (here.below, no_text_off c (place_instead b (grown_by b change) at t) t here.text (named t name).0);
    }
  where
    as_name : (o t s : List ℕ) → stands_in s (changed (o ∷ []) (t ∷ [])) ≡ true → stands_in s (cond (bytes_eq o t) [] (t ∷ [])) ≡ true
    as_name o t s h = go (bytes_eq o t) h
      where
        go : (x : Bool) → stands_in s (map (λ (p : List ℕ × List ℕ). p.1) (cond (not x) ((o, t) ∷ []) [])) ≡ true → stands_in s (cond x [] (t ∷ [])) ≡ true
        go true h = h
        go false h = h

-- the parts of all that changes
among_needs : (b : List ℕ) (change : Change) → AreAmong (changed (needs_of b) change.needs) (changed_texts b change)
unfolding changed_texts
among_needs b change t h =
    list_any-append (λ s. bytes_eq s t) (changed (needs_of b) change.needs) _ ∙ rw h refl

or_right : (x y : Bool) → y ≡ true → (x || y) ≡ true
or_right true y h = refl
or_right false y h = h

or_first : (x y : Bool) → x ≡ true → (x || y) ≡ true
or_first true y h = refl
or_first false y h = absurd (cc)

among_soname : (b : List ℕ) (change : Change) → AreAmong (changed_name (named_text b DT_SONAME) change.soname) (changed_texts b change)
unfolding changed_texts
among_soname b change t h =
    list_any-append (λ s. bytes_eq s t) (changed (needs_of b) change.needs) _
    ∙ or_right (stands_in t (changed (needs_of b) change.needs)) _
    (list_any-append (λ s. bytes_eq s t) (changed_name (named_text b DT_SONAME) change.soname) _ ∙ or_first _ _ h)

among_path : (b : List ℕ) (change : Change) → AreAmong (changed_name (named_text b DT_RUNPATH) change.runpath) (changed_texts b change)
unfolding changed_texts
among_path b change t h =
    list_any-append (λ s. bytes_eq s t) (changed (needs_of b) change.needs) _
    ∙ or_right (stands_in t (changed (needs_of b) change.needs)) _
    (list_any-append (λ s. bytes_eq s t) (changed_name (named_text b DT_SONAME) change.soname) _
    ∙ or_right (stands_in t (changed_name (named_text b DT_SONAME) change.soname)) _
    (list_any-append (λ s. bytes_eq s t) (changed_name (named_text b DT_RUNPATH) change.runpath) _ ∙ or_first _ _ h))

pub among_files : (b : List ℕ) (change : Change) → AreAmong (changed (ask_files b) change.files) (changed_texts b change)
unfolding changed_texts
among_files b change t h =
    list_any-append (λ s. bytes_eq s t) (changed (needs_of b) change.needs) _
    ∙ or_right (stands_in t (changed (needs_of b) change.needs)) _
    (list_any-append (λ s. bytes_eq s t) (changed_name (named_text b DT_SONAME) change.soname) _
    ∙ or_right (stands_in t (changed_name (named_text b DT_SONAME) change.soname)) _
    (list_any-append (λ s. bytes_eq s t) (changed_name (named_text b DT_RUNPATH) change.runpath) _ ∙ or_right _ _ h))

-- needs, the soname and the run path of the new file
pub record ReadsNames (b : List ℕ) (change : Change) (c : List ℕ) : Type 0 where
  pub needs : ReadsAll b change c (text_places b change).needs change.needs
  pub soname : ReadsName b change c (text_places b change).soname change.soname
  pub runpath : ReadsName b change c (text_places b change).runpath change.runpath

pub names_read : (b : List ℕ) (change : Change) (c : List ℕ) → strings_flaw b (headers b) (dynamic_entries b) ≡ None → Fits change b → HasGrown b change c → ReadsNames b change c
unfolding text_places named_text
names_read b change c e fits g =
    let k = grown_texts b change c e g in
    let s = has_strings b e in
    let bad = none_bad (dynamic_entries b) s.names in
    record {
      needs = needs_read b change c (need_values (dynamic_entries b)) change.needs g k (needs_counted b change fits) (values_low (old_size b) (dynamic_entries b) bad) fits.need_texts (λ t h. among_needs b change t (rw (← needs_listed b) h));
      soname = name_read b change c (dynamic_value b DT_SONAME) change.soname g k (λ v h. value_low (old_size b) DT_SONAME (dynamic_entries b) v (λ x t. grind (arith, nat_tests)) bad h) fits.soname_text (λ t h. among_soname b change t h);
      runpath = name_read b change c (dynamic_value b DT_RUNPATH) change.runpath g k (λ v h. value_low (old_size b) DT_RUNPATH (dynamic_entries b) v (λ x t. grind (arith, nat_tests)) bad h) fits.path_text (λ t h. among_path b change t h);
    }

pub needs_are : (b : List ℕ) (change : Change) (c : List ℕ) → Fits change b → HasGrown b change c → ReadsNames b change c → needs_of c ≡ change.needs
needs_are b change c fits g r =
    let counted : length (text_places b change).needs ≡ length (filter (λ e. e.tag == DT_NEEDED) (dynamic_entries b)) = count in
    let values : need_values (dynamic_entries c) ≡ (text_places b change).needs = rw (g.entries, entries_are b change) (new_needs (text_places b change) (dynamic_entries b) counted) in
    sym (needs_listed c) ∙ (ap (λ l. map (text_of c) l) values ∙ r.needs.texts_are)
  where
    mapped_long : (c : List ℕ) (xs : List ℕ) → length (map (λ at. text_of c at) xs) ≡ length xs
    mapped_long c [] = refl
    mapped_long c (x ∷ xs) = ap suc (mapped_long c xs)

    valued_long : (xs : List Entry) → length (map (λ e. e.value) xs) ≡ length xs
    valued_long [] = refl
    valued_long (x ∷ xs) = ap suc (valued_long xs)

    count : length (text_places b change).needs ≡ length (filter (λ e. e.tag == DT_NEEDED) (dynamic_entries b))
    count =
        let a = sym (mapped_long c (text_places b change).needs) ∙ ap length r.needs.texts_are in
        let d = valued_long (filter (λ e. e.tag == DT_NEEDED) (dynamic_entries b)) in
        omega (arith, a, d, needs_counted b change fits)

pub soname_is : (b : List ℕ) (change : Change) (c : List ℕ) → Fits change b → HasGrown b change c → ReadsNames b change c → named_text c DT_SONAME ≡ change.soname
unfolding named_text
soname_is b change c fits g r =
    let value : dynamic_value c DT_SONAME ≡ cond (has_tag DT_SONAME (dynamic_entries b)) (text_places b change).soname None = rw (g.entries, entries_are b change) (new_soname (text_places b change) (dynamic_entries b)) in
    ap (λ o. option_map (text_of c) o) value ∙ go (has_tag DT_SONAME (dynamic_entries b)) refl change.soname refl
  where
    go : (t : Bool) → has_tag DT_SONAME (dynamic_entries b) ≡ t → (o : Option (List ℕ)) → change.soname ≡ o → option_map (text_of c) (cond t (text_places b change).soname None) ≡ change.soname
    go true e o s = r.soname.text_is
    go false e None s = sym s
    go false e (Some t) s = absurd (
        let wanted : is_some change.soname ≡ true = rw s refl in
        let there : is_some (option_map (text_of b) (dynamic_value b DT_SONAME)) ≡ true = fits.soname wanted in
        let none : is_some (dynamic_value b DT_SONAME) ≡ false = sym (tag_there DT_SONAME (dynamic_entries b)) ∙ e in
        missing (dynamic_value b DT_SONAME) there none
        )
      where
        missing : (o : Option ℕ) → is_some (option_map (text_of b) o) ≡ true → is_some o ≡ false → ⊥
        missing None a h = cc
        missing (Some x) a h = cc

pub rpath_is : (b : List ℕ) (change : Change) (c : List ℕ) → HasGrown b change c → named_text c DT_RPATH ≡ None
unfolding named_text
rpath_is b change c g =
    let value : dynamic_value c DT_RPATH ≡ None = rw (g.entries, entries_are b change) (new_rpath (text_places b change) (dynamic_entries b)) in
    ap (λ o. option_map (text_of c) o) value

pub runpath_is : (b : List ℕ) (change : Change) (c : List ℕ) → HasGrown b change c → ReadsNames b change c → named_text c DT_RUNPATH ≡ change.runpath
unfolding named_text
runpath_is b change c g r =
    let value : dynamic_value c DT_RUNPATH ≡ (text_places b change).runpath = rw (g.entries, entries_are b change) (new_runpath (text_places b change) (dynamic_entries b)) in
    ap (λ o. option_map (text_of c) o) value ∙ r.runpath.text_is

-- the files of which versions are needed
pub record HasFile (b : List ℕ) (change : Change) (k : ℕ) (p : List ℕ × List ℕ) : Type 0 where
  pub old : p.0 ≡ text_of b (vn_file b (verneed_place b k))
  pub name : is_name_text p.1 ≡ true
  pub among : bytes_eq p.0 p.1 ≡ false → stands_in p.1 (changed_texts b change) ≡ true

abbrev file_names : List ℕ → List (ℕ × ℕ) → List (List ℕ)
file_names b xs = map (λ a. a.file) (map (λ a. ask_of b (verneed_place b a.0) a.1) xs)

file_found : (b : List ℕ) (change : Change) (k : ℕ) (p : List ℕ × List ℕ) (xs : List (ℕ × ℕ)) (news : List (List ℕ)) → ask_file_in (map (λ a. a.0) xs) (file_names b xs) news k ≡ Some p → list_all is_name_text news ≡ true → AreAmong (changed (file_names b xs) news) (changed_texts b change) → HasFile b change k p
file_found b change k p [] news e names among = absurd (cc)
file_found b change k p (x ∷ xs) [] e names among = absurd (cc)
file_found b change k p (x ∷ xs) (n ∷ news) e names among =
    let name = both_true (is_name_text n) (list_all is_name_text news) names in
    let o : List ℕ = text_of b (vn_file b (verneed_place b x.0)) in
    go (x.0 == k) refl e name.0
    (λ h. file_found b change k p xs news h name.1 (λ t s. among t (later_changed o n (file_names b xs) news t s)))
    (λ h. among n (more_changed o n (file_names b xs) news n (rw h (stands_first n []))))
  where
    go : (t : Bool) → (x.0 == k) ≡ t → option_map (λ q. q.1) (cond t (Some (x.0, (text_of b (vn_file b (verneed_place b x.0)), n))) (find (λ q. q.0 == k) (zip (map (λ a. a.0) xs) (zip (file_names b xs) news)))) ≡ Some p → is_name_text n ≡ true
        → (ask_file_in (map (λ a. a.0) xs) (file_names b xs) news k ≡ Some p → HasFile b change k p)
        → (bytes_eq (text_of b (vn_file b (verneed_place b x.0))) n ≡ false → stands_in n (changed_texts b change) ≡ true) → HasFile b change k p
    go false s e name later here = later e
    go true s e name later here =
        let same : x.0 ≡ k = grind (arith, nat_tests) in
        let pair : (text_of b (vn_file b (verneed_place b x.0)), n) ≡ p = some_pair (text_of b (vn_file b (verneed_place b x.0)), n) p e in
        subst (λ q. HasFile b change k q) pair (record { old = ap (λ j. text_of b (vn_file b (verneed_place b j))) same; name = name; among = here })
      where
        some_pair : (q p : List ℕ × List ℕ) → Some q ≡ Some p → q ≡ p
        some_pair q p e = cc

pub file_known : (b : List ℕ) (change : Change) (k : ℕ) (p : List ℕ × List ℕ) → Fits change b → file_for b change k ≡ Some p → HasFile b change k p
unfolding ask_needs_of asks_of
file_known b change k p fits e = file_found b change k p (vernauxs b) change.files e fits.file_texts (λ t h. among_files b change t h)

-- the place of the name of a need's file
abbrev pub file_value : List ℕ → Growth → ℕ → Option (List ℕ × List ℕ) → ℕ
file_value b g at None = at
file_value b g at (Some p) = cond (bytes_eq p.0 p.1) at (new_place g p.1)

pub record ReadsFile (b : List ℕ) (change : Change) (c : List ℕ) (k word : ℕ) : Type 0 where
  pub text : text_of c word ≡ unwrap_or (option_map (λ p. p.1) (file_for b change k)) (text_of b (vn_file b (verneed_place b k)))
  pub below : word < new_size b change
  pub fine : is_no_text b (vn_file b (verneed_place b k)) ≡ false → is_no_text c word ≡ false

pub file_read : (b : List ℕ) (change : Change) (c : List ℕ) (k : ℕ) → Fits change b → HasGrown b change c → KeepsTexts b c (headers b) (headers c) (dynamic_entries b) (dynamic_entries c) → vn_file b (verneed_place b k) < old_size b → ReadsFile b change c k (file_value b (grown_by b change) (vn_file b (verneed_place b k)) (file_for b change k))
file_read b change c k fits g keeps low = go (file_for b change k) refl
  where
    at : ℕ
    at = vn_file b (verneed_place b k)

    go : (o : Option (List ℕ × List ℕ)) → file_for b change k ≡ o → ReadsFile b change c k (file_value b (grown_by b change) (vn_file b (verneed_place b k)) o)
    go None e =
        let same : text_of c at ≡ text_of b at = text_same b c at keeps low in
        record {
          text = rw e same;
          below = omega (arith, size_grows b change);
          fine = λ h. ap (λ t. not (is_utf8 t)) same ∙ h;
        }
    go (Some p) e = step (bytes_eq p.0 p.1) refl
      where
        step : (t : Bool) → bytes_eq p.0 p.1 ≡ t → ReadsFile b change c k (cond t at (new_place (grown_by b change) p.1))
        step true s =
            let known = file_known b change k p fits e in
            let same : text_of c at ≡ p.1 = text_same b c at keeps low ∙ (sym known.old ∙ same_bytes p.0 p.1 s) in
            record {
              text = rw e same;
              below = omega (arith, size_grows b change);
              fine = λ h. no_text_off c at p.1 same (named p.1 known.name).0;
            }
        step false s =
            let known = file_known b change k p fits e in
            let here = new_reads b change c p.1 g (known.among s) (named p.1 known.name).1 in
            record {
              text = rw e here.text;
              below = here.below;
              fine = λ h. no_text_off c (new_place (grown_by b change) p.1) p.1 here.text (named p.1 known.name).0;
            }
