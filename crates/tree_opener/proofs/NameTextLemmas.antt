-- A file without a flaw has names that are texts.
use Rattle.std.proofs.Common.{◌≡◌, ℕ, suc, ◌+◌, ◌==◌, ◌&&◌, not, Bool, true, false, cond, List, [], ◌∷◌, ◌++◌, Option, Some, None, length, map, take, drop, nat_lt, refl, ap, ◌∙◌, arith}
use Rattle.std.proofs.lemmas.Bool.Decides.{nat_tests}
use Rattle.std.proofs.lemmas.List.Folds.{list_all-append}
use Rattle.std.specs.List.{before_first, filter, find, flat_map, list_all, position_or_len, range_with_len}
use Rattle.std.specs.Option.{option_map, unwrap_or}
use Rattle.std.specs.Str.{is_utf8}
use Rattle.answers.specs.First.{some_where}
use Rattle.byte_view.proofs.Loads.{none_first}
use Rattle.byte_view.specs.Checks.{flaw, flaw_at}
use Rattle.byte_view.specs.Dynamic.{dynamic_entries, string_at, strings_of, value_of}
use Rattle.byte_view.specs.DynamicFlaws.{dynamic_flaw}
use Rattle.byte_view.specs.HeaderFlaws.{header_flaw}
use Rattle.byte_view.specs.Headers.{headers, is_interp}
use Rattle.byte_view.specs.declared.constants.TheConstants.{DT_NEEDED, DT_RPATH, DT_RUNPATH, DT_SONAME}
use Rattle.byte_view.specs.declared.dynamic.Entry.{Entry}
use Rattle.byte_view.specs.declared.flaws.TheConstants.{BAD_NAME}
use Rattle.byte_view.specs.declared.segments.Segment.{Segment}
use Rattle.load_model.specs.Faces.{bad_interp, bad_path_in, bad_place, bad_text_of, bad_version_file, face_of, first_flaw, interp_of, is_no_text, name_flaw, named_text, names_no_text, needs_of, path_in}
use Rattle.load_model.specs.SymbolFlaws.{symbol_count, symbol_flaw}
use Rattle.load_model.specs.VersionFlaws.{version_flaw}
use Rattle.load_model.specs.VersionTables.{ask_of, asks_of, text_of, vernauxs, vernauxs_of, verneed_count, verneed_place, verneeds, vn_cnt, vn_file}
use Rattle.load_model.specs.declared.asks.Ask.{Ask}
use Rattle.path_text.specs.Path.{has_nul}
use Rattle.tree_opener.specs.Names.{HasTextNames, files_asked, is_name_or_none, is_name_text}

took : (n x : ℕ) (xs : List ℕ) → take (1 + n) (x ∷ xs) ≡ x ∷ take n xs
took n x xs = ap (λ k. take k (x ∷ xs)) one
  where
    one : 1 + n ≡ suc n
    one = omega arith

-- what stands before the first zero byte has none
none_before : (xs : List ℕ) → has_nul (before_first (λ c. c == 0) xs) ≡ false
none_before [] = refl
none_before (x ∷ xs) = go (x == 0) refl (none_before xs)
  where
    go : (b : Bool) → (x == 0) ≡ b → has_nul (before_first (λ c. c == 0) xs) ≡ false → has_nul (before_first (λ c. c == 0) (x ∷ xs)) ≡ false
    go true e rest = rw e refl
    go false e rest = rw e (ap has_nul (took (position_or_len (λ c. c == 0) xs) x xs) ∙ rw e rest)

no_nul_in : (strings : List ℕ) (at : ℕ) (b : Bool) → has_nul (unwrap_or (cond b (Some (before_first (λ c. c == 0) (drop at strings))) None) []) ≡ false
no_nul_in strings at true = none_before (drop at strings)
no_nul_in strings at false = refl

no_nul : (file : List ℕ) (at : ℕ) → has_nul (text_of file at) ≡ false
unfolding string_at
no_nul file at = let strings : List ℕ = strings_of file (headers file) (dynamic_entries file) in no_nul_in strings at (nat_lt at (length strings))

both_hold : (a b : Bool) → not a ≡ false → b ≡ false → (a && not b) ≡ true
both_hold true b h k = rw k refl
both_hold false b h k = absurd (cc)

-- a name of the string table that is UTF-8
is_text : (file : List ℕ) (at : ℕ) → is_no_text file at ≡ false → is_name_text (text_of file at) ≡ true
is_text file at h = both_hold (is_utf8 (text_of file at)) (has_nul (text_of file at)) h (no_nul file at)

no_place : (found : Option ℕ) → flaw_at BAD_NAME found ≡ None → found ≡ None
no_place None h = refl
no_place (Some at) h = absurd (cc)

none_found : {A : Type 0} (f : A → ℕ) (found : Option A) → option_map f found ≡ None → found ≡ None
none_found f None h = refl
none_found f (Some a) h = absurd (cc)

abbrev no_bad : List ℕ → ℕ → List Entry → Type 0
no_bad file tag entries = find (λ e. (e.tag == tag) && is_no_text file e.value) entries ≡ None

bad_none : (file : List ℕ) (tag : ℕ) → bad_text_of file tag ≡ None → no_bad file tag (dynamic_entries file)
bad_none file tag h = none_found (λ (e : Entry). e.value) (find (λ e. (e.tag == tag) && is_no_text file e.value) (dynamic_entries file)) (no_place (bad_place file tag (dynamic_entries file)) h)

-- the texts of all entries with a tag
all_texts : (file : List ℕ) (tag : ℕ) (entries : List Entry) → no_bad file tag entries → list_all is_name_text (map (λ e. text_of file e.value) (filter (λ e. e.tag == tag) entries)) ≡ true
all_texts file tag [] h = refl
all_texts file tag (e ∷ entries) h = go (e.tag == tag) (is_no_text file e.value) refl h (all_texts file tag entries)
  where
    go : (a b : Bool) → is_no_text file e.value ≡ b → cond (a && b) (Some e) (find (λ e. (e.tag == tag) && is_no_text file e.value) entries) ≡ None
        → (no_bad file tag entries → list_all is_name_text (map (λ e. text_of file e.value) (filter (λ e. e.tag == tag) entries)) ≡ true)
        → list_all is_name_text (map (λ e. text_of file e.value) (cond a (e ∷ filter (λ e. e.tag == tag) entries) (filter (λ e. e.tag == tag) entries))) ≡ true
    go true true k h rest = absurd (cc)
    go true false k h rest = rw (is_text file e.value k) (rest h)
    go false b k h rest = rest h

-- and that of the first of them
first_text : (file : List ℕ) (tag : ℕ) (entries : List Entry) → no_bad file tag entries → is_name_or_none (option_map (text_of file) (value_of tag entries)) ≡ true
first_text file tag [] h = refl
first_text file tag (e ∷ entries) h = go (e.tag == tag) (is_no_text file e.value) refl h (first_text file tag entries)
  where
    go : (a b : Bool) → is_no_text file e.value ≡ b → cond (a && b) (Some e) (find (λ e. (e.tag == tag) && is_no_text file e.value) entries) ≡ None
        → (no_bad file tag entries → is_name_or_none (option_map (text_of file) (value_of tag entries)) ≡ true)
        → is_name_or_none (option_map (text_of file) (option_map (λ e. e.value) (cond a (Some e) (find (λ e. e.tag == tag) entries)))) ≡ true
    go true true k h rest = absurd (cc)
    go true false k h rest = is_text file e.value k
    go false b k h rest = rest h

-- a record of a need beside the number of the need
abbrev numbered : ℕ → ℕ → ℕ × ℕ
numbered k vernaux = (k, vernaux)

-- the files of the asks of one need
files_of_need : (file : List ℕ) (k : ℕ) (places : List ℕ) → is_no_text file (vn_file file (verneed_place file k)) ≡ false → list_all is_name_text (files_asked (map (λ (a : ℕ × ℕ). ask_of file (verneed_place file a.0) a.1) (map (numbered k) places))) ≡ true
files_of_need file k [] h = refl
files_of_need file k (p ∷ places) h = rw (is_text file (vn_file file (verneed_place file k)) h) (files_of_need file k places h)

none_of_need : (file : List ℕ) (k : ℕ) → (vn_cnt file (verneed_place file k) == 0) ≡ true → map (numbered k) (vernauxs_of file (verneed_place file k)) ≡ []
none_of_need file k h =
    let none : vn_cnt file (verneed_place file k) ≡ 0 = grind (arith, nat_tests) in
    rw none refl

abbrev asks_among : List ℕ → List ℕ → List (List ℕ)
asks_among file ks = files_asked (map (λ (a : ℕ × ℕ). ask_of file (verneed_place file a.0) a.1) (flat_map (λ k. map (numbered k) (vernauxs_of file (verneed_place file k))) ks))

need_texts : (file : List ℕ) (k : ℕ) (a b : Bool) → (vn_cnt file (verneed_place file k) == 0) ≡ a → is_no_text file (vn_file file (verneed_place file k)) ≡ b → (not a && b) ≡ false → list_all is_name_text (files_asked (map (λ (a : ℕ × ℕ). ask_of file (verneed_place file a.0) a.1) (map (numbered k) (vernauxs_of file (verneed_place file k))))) ≡ true
need_texts file k true b e f h = rw (none_of_need file k e) refl
need_texts file k false true e f h = absurd (cc)
need_texts file k false false e f h = files_of_need file k (vernauxs_of file (verneed_place file k)) f

map_append : {A B : Type 0} (f : A → B) (xs ys : List A) → map f (xs ++ ys) ≡ map f xs ++ map f ys
map_append f [] ys = refl
map_append f (x ∷ xs) ys = ap (λ more. f x ∷ more) (map_append f xs ys)

asks_texts : (file ks : List ℕ) → find (names_no_text file) (map (verneed_place file) ks) ≡ None → list_all is_name_text (asks_among file ks) ≡ true
asks_texts file [] h = refl
asks_texts file (k ∷ ks) h = go (names_no_text file (verneed_place file k)) refl h (asks_texts file ks)
  where
    ask : ℕ × ℕ → Ask
    ask a = ask_of file (verneed_place file a.0) a.1

    go : (b : Bool) → names_no_text file (verneed_place file k) ≡ b → cond b (Some (verneed_place file k)) (find (names_no_text file) (map (verneed_place file) ks)) ≡ None
        → (find (names_no_text file) (map (verneed_place file) ks) ≡ None → list_all is_name_text (asks_among file ks) ≡ true) → list_all is_name_text (asks_among file (k ∷ ks)) ≡ true
    go true e h rest = absurd (cc)
    go false e h rest =
        let here : List (ℕ × ℕ) = map (numbered k) (vernauxs_of file (verneed_place file k)) in
        let later : List (ℕ × ℕ) = flat_map (λ k. map (numbered k) (vernauxs_of file (verneed_place file k))) ks in
        let f : ℕ × ℕ → Ask = λ (a : ℕ × ℕ). ask_of file (verneed_place file a.0) a.1 in
        let split : files_asked (map f (here ++ later)) ≡ files_asked (map f here) ++ files_asked (map f later) = ap files_asked (map_append f here later) ∙ map_append (λ (ask : Ask). ask.file) (map f here) (map f later) in
        ap (list_all is_name_text) split ∙ (list_all-append is_name_text (files_asked (map f here)) (files_asked (map f later))
        ∙ rw (need_texts file k (vn_cnt file (verneed_place file k) == 0) (is_no_text file (vn_file file (verneed_place file k))) refl refl e) (rest h))

-- the path of the interpreter
path_text : (file : List ℕ) (found : Option Segment) → bad_path_in file found ≡ None → is_name_or_none (option_map (path_in file) found) ≡ true
path_text file None h = refl
path_text file (Some s) h = both_hold (is_utf8 (path_in file s)) (has_nul (path_in file s)) (go (not (is_utf8 (path_in file s))) h) (none_before (take s.filesz (drop s.offset file)))
  where
    go : (b : Bool) → some_where b (flaw BAD_NAME s.offset 0) ≡ None → b ≡ false
    go true h = absurd (cc)
    go false h = refl

names_by : (file : List ℕ) → name_flaw file ≡ None → HasTextNames (face_of file)
unfolding name_flaw face_of needs_of named_text interp_of asks_of vernauxs
names_by file e =
    let needs = none_first (bad_text_of file DT_NEEDED) (bad_text_of file DT_SONAME ∷ bad_text_of file DT_RPATH ∷ bad_text_of file DT_RUNPATH ∷ bad_version_file file ∷ bad_interp file ∷ []) e in
    let soname = none_first (bad_text_of file DT_SONAME) (bad_text_of file DT_RPATH ∷ bad_text_of file DT_RUNPATH ∷ bad_version_file file ∷ bad_interp file ∷ []) needs.1 in
    let rpath = none_first (bad_text_of file DT_RPATH) (bad_text_of file DT_RUNPATH ∷ bad_version_file file ∷ bad_interp file ∷ []) soname.1 in
    let runpath = none_first (bad_text_of file DT_RUNPATH) (bad_version_file file ∷ bad_interp file ∷ []) rpath.1 in
    let files = none_first (bad_version_file file) (bad_interp file ∷ []) runpath.1 in
    let interp = none_first (bad_interp file) [] files.1 in
    record {
      interp = path_text file (find is_interp (headers file)) interp.0;
      needs = all_texts file DT_NEEDED (dynamic_entries file) (bad_none file DT_NEEDED needs.0);
      soname = first_text file DT_SONAME (dynamic_entries file) (bad_none file DT_SONAME soname.0);
      rpath = first_text file DT_RPATH (dynamic_entries file) (bad_none file DT_RPATH rpath.0);
      runpath = first_text file DT_RUNPATH (dynamic_entries file) (bad_none file DT_RUNPATH runpath.0);
      files = asks_texts file (range_with_len 0 (verneed_count file)) (none_found (vn_file file) (find (names_no_text file) (verneeds file)) (no_place (option_map (vn_file file) (find (names_no_text file) (verneeds file))) files.0));
    }

pub text_names : (file : List ℕ) → first_flaw file ≡ None → HasTextNames (face_of file)
unfolding first_flaw
text_names file e =
    let first = none_first (header_flaw file) (dynamic_flaw file ∷ symbol_flaw file ∷ version_flaw (symbol_count file) file ∷ name_flaw file ∷ []) e in
    let second = none_first (dynamic_flaw file) (symbol_flaw file ∷ version_flaw (symbol_count file) file ∷ name_flaw file ∷ []) first.1 in
    let third = none_first (symbol_flaw file) (version_flaw (symbol_count file) file ∷ name_flaw file ∷ []) second.1 in
    let fourth = none_first (version_flaw (symbol_count file) file) (name_flaw file ∷ []) third.1 in
    let fifth = none_first (name_flaw file) [] fourth.1 in
    names_by file fifth.0
