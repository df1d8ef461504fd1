-- The new entries have no flaw.
use Rattle.std.proofs.Common.{◌≡◌, ℕ, ◌==◌, ◌||◌, ◌&&◌, Bool, true, false, cond, not, List, [], ◌∷◌, ◌++◌, Option, Some, None, is_some, drop, refl, ap, sym, ◌∙◌, append-nil, append_assoc, arith}
use Rattle.std.specs.Prelude.{slice_index}
use Rattle.std.specs.List.{list_any}
use Rattle.std.proofs.lemmas.Bool.Decides.{nat_tests}
use Rattle.std.proofs.lemmas.List.Folds.{list_any-append}
use Rattle.answers.specs.First.{some_where}
use Rattle.byte_view.specs.declared.flaws.TheConstants.{MISSING_TAG, REPEATED, TAG_REFUSED}
use Rattle.byte_view.specs.Checks.{flaw}
use Rattle.byte_view.specs.Dynamic.{is_end, value_of, tagged}
use Rattle.byte_view.specs.DynamicFlaws.{entry_flaw, has_tag, is_refused, is_repeated, is_single, missing_tag, missing_beside, missing_flaw}
use Rattle.byte_view.specs.declared.constants.TheConstants.{DT_NEEDED, DT_RUNPATH, DT_STRTAB, DT_STRSZ, DT_SYMTAB, DT_SYMENT, DT_VERDEF, DT_VERDEFNUM, DT_VERNEED, DT_VERNEEDNUM, DT_FLAGS_1}
use Rattle.byte_view.specs.declared.dynamic.Entry.{Entry}
use Rattle.byte_view.specs.declared.flaws.Flaw.{Flaw}
use Rattle.byte_view.proofs.Loads.{none_first}
use Rattle.two_files.specs.Entries.{Places, added_path, new_entries, new_value, rewritten, where_some}
use Rattle.two_files.proofs.Entries.{new_kept, new_strings_at, new_strings_size, tag_there}

-- a tag that stands once is among the first only where it is among the second
abbrev Covers : List Entry → List Entry → Type 0
Covers before whole = (tag : ℕ) → is_single tag ≡ true → has_tag tag before ≡ true → has_tag tag whole ≡ true

tag_both : (tag : ℕ) (xs ys : List Entry) → has_tag tag (xs ++ ys) ≡ (has_tag tag xs || has_tag tag ys)
tag_both tag xs ys = list_any-append (λ e. e.tag == tag) xs ys

either : (a b : Bool) → (a || b) ≡ true → (a ≡ false → b ≡ true → (a || b) ≡ true)
either a b h e f = h

or_right : (a : Bool) → (a || true) ≡ true
or_right true = refl
or_right false = refl

-- one entry more on both sides, with the same tag
covers_both : (before whole : List Entry) (d e : Entry) → d.tag ≡ e.tag → Covers before whole → Covers (before ++ d ∷ []) (whole ++ e ∷ [])
covers_both before whole d e same covers tag single h =
    rw (tag_both tag whole (e ∷ [])) (go (has_tag tag before) refl (rw (tag_both tag before (d ∷ [])) at h))
  where
    go : (b : Bool) → has_tag tag before ≡ b → (b || has_tag tag (d ∷ [])) ≡ true → (has_tag tag whole || has_tag tag (e ∷ [])) ≡ true
    go true t h = let there : has_tag tag whole ≡ true = covers tag single t in rw there refl
    go false t h = rw (← same, h) (or_right (has_tag tag whole))

-- and one more on the other side alone
covers_more : (before whole : List Entry) (e : Entry) → Covers before whole → Covers before (whole ++ e ∷ [])
covers_more before whole e covers tag single h =
    let there : has_tag tag whole ≡ true = covers tag single h in
    rw (tag_both tag whole (e ∷ []), there) refl

none_test : (t : Bool) (f : Flaw) → some_where t f ≡ None → t ≡ false
none_test true f e = absurd (cc)
none_test false f e = refl

-- no entry is refused for its new value
not_refused : (w : Places) (e : Entry) (v : ℕ) → is_refused e ≡ false → new_value w e ≡ Some v → is_refused (tagged e.tag v) ≡ false
not_refused w e v h n = go (e.tag == DT_FLAGS_1) refl
  where
    go : (b : Bool) → (e.tag == DT_FLAGS_1) ≡ b → is_refused (tagged e.tag v) ≡ false
    go true t =
        let tag : e.tag ≡ DT_FLAGS_1 = grind (arith, nat_tests) in
        let value : new_value w e ≡ Some e.value = rw tag refl in
        let same : e.value ≡ v = cc in
        rw same at h
    go false t = let no : is_refused (tagged e.tag v) ≡ is_refused e = rw t refl in no ∙ h

-- no tag stands twice
not_repeated : (before whole : List Entry) (e : Entry) (v : ℕ) → Covers before whole → is_repeated whole e ≡ false → is_repeated before (tagged e.tag v) ≡ false
not_repeated before whole e v covers h = go (is_single e.tag) (has_tag e.tag before) refl refl (has_tag e.tag whole) refl h
  where
    go : (a b : Bool) → is_single e.tag ≡ a → has_tag e.tag before ≡ b → (c : Bool) → has_tag e.tag whole ≡ c → (a && c) ≡ false → (a && b) ≡ false
    go false b s t c u h = refl
    go true false s t c u h = refl
    go true true s t false u h = absurd (let there : has_tag e.tag whole ≡ true = covers e.tag s t in cc)
    go true true s t true u h = absurd (cc)

one_fine : (before rest : List Entry) (e : Entry) → is_refused e ≡ false → is_repeated before e ≡ false → entry_flaw (before ++ e ∷ []) rest ≡ None → entry_flaw before (e ∷ rest) ≡ None
unfolding entry_flaw
one_fine before rest e r t more = rw (r, t, more) refl

-- what is left of the entries
abbrev TailFine : List Entry → List Entry → Type 0
TailFine whole tail = (before : List Entry) → Covers before whole → entry_flaw before tail ≡ None

rewritten_fine : (w : Places) (needs : List ℕ) (before whole xs tail : List Entry) → Covers before whole → entry_flaw whole xs ≡ None → TailFine (whole ++ xs) tail → entry_flaw before (rewritten w needs xs ++ tail) ≡ None
unfolding rewritten entry_flaw
rewritten_fine w needs before whole [] tail covers e fine = fine before (rw append-nil covers)
rewritten_fine w needs before whole (d ∷ more) tail covers e fine =
    let first = none_first (some_where (is_refused d) (flaw TAG_REFUSED d.tag 0)) (some_where (is_repeated whole d) (flaw REPEATED d.tag 0) ∷ entry_flaw (whole ++ d ∷ []) more ∷ []) e in
    let second = none_first (some_where (is_repeated whole d) (flaw REPEATED d.tag 0)) (entry_flaw (whole ++ d ∷ []) more ∷ []) first.1 in
    let third : entry_flaw (whole ++ d ∷ []) more ≡ None = (none_first (entry_flaw (whole ++ d ∷ []) more) [] second.1).0 in
    let refused : is_refused d ≡ false = none_test (is_refused d) (flaw TAG_REFUSED d.tag 0) first.0 in
    let repeated : is_repeated whole d ≡ false = none_test (is_repeated whole d) (flaw REPEATED d.tag 0) second.0 in
    let rest : TailFine ((whole ++ d ∷ []) ++ more) tail = λ b c. fine b (rw append_assoc at c) in
    go (d.tag == DT_NEEDED) refl (new_value w d) refl refused repeated
    (λ v. rewritten_fine w (drop 1 needs) (before ++ tagged d.tag v ∷ []) (whole ++ d ∷ []) more tail (covers_both before whole (tagged d.tag v) d refl covers) third rest)
    (λ v. rewritten_fine w needs (before ++ tagged d.tag v ∷ []) (whole ++ d ∷ []) more tail (covers_both before whole (tagged d.tag v) d refl covers) third rest)
    (rewritten_fine w needs before (whole ++ d ∷ []) more tail (covers_more before whole d covers) third rest)
  where
    go : (b : Bool) → (d.tag == DT_NEEDED) ≡ b → (o : Option ℕ) → new_value w d ≡ o → is_refused d ≡ false → is_repeated whole d ≡ false
        → ((v : ℕ) → entry_flaw (before ++ tagged d.tag v ∷ []) (rewritten w (drop 1 needs) more ++ tail) ≡ None)
        → ((v : ℕ) → entry_flaw (before ++ tagged d.tag v ∷ []) (rewritten w needs more ++ tail) ≡ None)
        → entry_flaw before (rewritten w needs more ++ tail) ≡ None
        → entry_flaw before (cond b (tagged d.tag (slice_index needs 0) ∷ rewritten w (drop 1 needs) more) (where_some d.tag o ++ rewritten w needs more) ++ tail) ≡ None
    go true t o n r s need kept dropped =
        let v : ℕ = slice_index needs 0 in
        let tag : d.tag ≡ DT_NEEDED = grind (arith, nat_tests) in
        let fine_tag : is_refused (tagged d.tag v) ≡ false = rw tag refl in
        one_fine before (rewritten w (drop 1 needs) more ++ tail) (tagged d.tag v) fine_tag (not_repeated before whole d v covers s) (need v)
    go false t None n r s need kept dropped = dropped
    go false t (Some v) n r s need kept dropped =
        one_fine before (rewritten w needs more ++ tail) (tagged d.tag v) (not_refused w d v r n) (not_repeated before whole d v covers s) (kept v)

path_fine : (w : Places) (xs : List Entry) → TailFine xs (added_path w xs)
unfolding entry_flaw
path_fine w xs before covers = go (has_tag DT_RUNPATH xs) refl w.runpath
  where
    go : (b : Bool) → has_tag DT_RUNPATH xs ≡ b → (o : Option ℕ) → entry_flaw before (cond b [] (where_some DT_RUNPATH o)) ≡ None
    go true t o = refl
    go false t None = refl
    go false t (Some v) = one_fine before [] (tagged DT_RUNPATH v) refl (other (has_tag DT_RUNPATH before) refl) refl
      where
        other : (b : Bool) → has_tag DT_RUNPATH before ≡ b → b ≡ false
        other true h = absurd (let there : has_tag DT_RUNPATH xs ≡ true = covers DT_RUNPATH refl h in cc)
        other false h = refl

pub entries_fine : (w : Places) (xs : List Entry) → entry_flaw [] xs ≡ None → entry_flaw [] (new_entries w xs) ≡ None
unfolding new_entries
entries_fine w xs e = rewritten_fine w w.needs [] [] xs (added_path w xs) (λ tag s h. h) e (path_fine w xs)

-- tags that each table has are still there
tag_kept : (w : Places) (tag : ℕ) (xs : List Entry) → value_of tag (new_entries w xs) ≡ value_of tag xs → has_tag tag (new_entries w xs) ≡ has_tag tag xs
tag_kept w tag xs e = tag_there tag (new_entries w xs) ∙ (ap is_some e ∙ sym (tag_there tag xs))

set_there : (tag : ℕ) (o : Option ℕ) (b : Bool) (v : ℕ) → b ≡ true → o ≡ cond b (Some v) None → is_some o ≡ true
set_there tag o true v h e = rw e refl
set_there tag o false v h e = absurd (cc)

there : (tag : ℕ) (xs : List Entry) → missing_tag tag xs ≡ None → has_tag tag xs ≡ true
there tag xs e = go (has_tag tag xs) e
  where
    go : (b : Bool) → some_where (not b) (flaw MISSING_TAG tag 0) ≡ None → b ≡ true
    go true e = refl
    go false e = absurd (cc)

pub tags_fine : (w : Places) (xs : List Entry) → missing_flaw xs ≡ None → missing_flaw (new_entries w xs) ≡ None
unfolding missing_flaw
tags_fine w xs e =
    let first = none_first (missing_tag DT_STRTAB xs) (missing_tag DT_SYMTAB xs ∷ missing_tag DT_STRSZ xs ∷ missing_tag DT_SYMENT xs ∷ missing_beside DT_VERDEF DT_VERDEFNUM xs ∷ missing_beside DT_VERNEED DT_VERNEEDNUM xs ∷ []) e in
    let second = none_first (missing_tag DT_SYMTAB xs) (missing_tag DT_STRSZ xs ∷ missing_tag DT_SYMENT xs ∷ missing_beside DT_VERDEF DT_VERDEFNUM xs ∷ missing_beside DT_VERNEED DT_VERNEEDNUM xs ∷ []) first.1 in
    let third = none_first (missing_tag DT_STRSZ xs) (missing_tag DT_SYMENT xs ∷ missing_beside DT_VERDEF DT_VERDEFNUM xs ∷ missing_beside DT_VERNEED DT_VERNEEDNUM xs ∷ []) second.1 in
    let fourth = none_first (missing_tag DT_SYMENT xs) (missing_beside DT_VERDEF DT_VERDEFNUM xs ∷ missing_beside DT_VERNEED DT_VERNEEDNUM xs ∷ []) third.1 in
    let fifth = none_first (missing_beside DT_VERDEF DT_VERDEFNUM xs) (missing_beside DT_VERNEED DT_VERNEEDNUM xs ∷ []) fourth.1 in
    let sixth : missing_beside DT_VERNEED DT_VERNEEDNUM xs ≡ None = (none_first (missing_beside DT_VERNEED DT_VERNEEDNUM xs) [] fifth.1).0 in
    let begins : has_tag DT_STRTAB (new_entries w xs) ≡ true = tag_there DT_STRTAB (new_entries w xs) ∙ set_there DT_STRTAB (value_of DT_STRTAB (new_entries w xs)) (has_tag DT_STRTAB xs) w.strings_at (there DT_STRTAB xs first.0) (new_strings_at w xs) in
    let sized : has_tag DT_STRSZ (new_entries w xs) ≡ true = tag_there DT_STRSZ (new_entries w xs) ∙ set_there DT_STRSZ (value_of DT_STRSZ (new_entries w xs)) (has_tag DT_STRSZ xs) w.strings_size (there DT_STRSZ xs third.0) (new_strings_size w xs) in
    let symbols : has_tag DT_SYMTAB (new_entries w xs) ≡ true = tag_kept w DT_SYMTAB xs (new_kept w DT_SYMTAB xs refl) ∙ there DT_SYMTAB xs second.0 in
    let size : has_tag DT_SYMENT (new_entries w xs) ≡ true = tag_kept w DT_SYMENT xs (new_kept w DT_SYMENT xs refl) ∙ there DT_SYMENT xs fourth.0 in
    let verdef = tag_kept w DT_VERDEF xs (new_kept w DT_VERDEF xs refl) in
    let verdefnum = tag_kept w DT_VERDEFNUM xs (new_kept w DT_VERDEFNUM xs refl) in
    let verneed = tag_kept w DT_VERNEED xs (new_kept w DT_VERNEED xs refl) in
    let verneednum = tag_kept w DT_VERNEEDNUM xs (new_kept w DT_VERNEEDNUM xs refl) in
    rw (begins, symbols, sized, size, verdef, verdefnum, verneed, verneednum, fifth.0, sixth) refl

-- no entry ends the table
none_ends : (w : Places) (needs : List ℕ) (xs : List Entry) → list_any is_end xs ≡ false → list_any is_end (rewritten w needs xs) ≡ false
unfolding rewritten
none_ends w needs [] e = refl
none_ends w needs (d ∷ more) e = go (d.tag == DT_NEEDED) (is_end d) refl (new_value w d) e (none_ends w (drop 1 needs) more) (none_ends w needs more)
  where
    go : (a b : Bool) → is_end d ≡ b → (o : Option ℕ) → (b || list_any is_end more) ≡ false
        → (list_any is_end more ≡ false → list_any is_end (rewritten w (drop 1 needs) more) ≡ false)
        → (list_any is_end more ≡ false → list_any is_end (rewritten w needs more) ≡ false)
        → list_any is_end (cond a (tagged d.tag (slice_index needs 0) ∷ rewritten w (drop 1 needs) more) (where_some d.tag o ++ rewritten w needs more)) ≡ false
    go a true t o e later other = absurd (cc)
    go true false t o e later other = rw t (later e)
    go false false t None e later other = other e
    go false false t (Some v) e later other = rw t (other e)

pub new_unended : (w : Places) (xs : List Entry) → list_any is_end xs ≡ false → list_any is_end (new_entries w xs) ≡ false
unfolding new_entries
new_unended w xs e = rw (list_any-append is_end (rewritten w w.needs xs) (added_path w xs), none_ends w w.needs xs e) (go (has_tag DT_RUNPATH xs) w.runpath)
  where
    go : (b : Bool) (o : Option ℕ) → list_any is_end (cond b [] (where_some DT_RUNPATH o)) ≡ false
    go true o = refl
    go false None = refl
    go false (Some v) = refl
