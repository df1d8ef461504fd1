-- Names that are given are file names, and texts.
use Rattle.std.proofs.Common.{◌≡◌, ◌≢◌, ◌∙◌, sym, ap, refl, subst, ℕ, zero, suc, ◌+◌, ◌<◌, ◌-◌, ◌/◌, ◌%◌, List, [], ◌∷◌, ◌++◌, Bool, true, false, cond, not, Option, Some, None, All, bytes_eq, get_or, length, map, slice_get, take, arith}
use Rattle.std.specs.Prelude.{◌==◌, IfSome, IsUtf8, nat_lt, zip}
use Rattle.std.specs.Fmt.{decimal, digit_glyph, digits, digits_onto}
use Rattle.std.specs.List.{cons_option, filter_map, find, flat_map}
use Rattle.std.specs.Option.{option_and_then, option_map, unwrap_or}
use Rattle.std.proofs.lemmas.List.Elements.{All-append, All-cons, All-from_get_or, All-head, All-nil, All-tail}
use Rattle.std.proofs.lemmas.Nat.{mod_below}
use Rattle.std.proofs.lemmas.Option.{get_or_from_slice_get, slice_get-get_or, slice_get_within}
use Rattle.std.proofs.lemmas.Str.{IsUtf8-append, IsUtf8-from_ascii, IsUtf8-nil}
use Rattle.answers.specs.First.{first_some, some_where}
use Rattle.path_text.proofs.NameLemmas.{IsFileName-from_test}
use Rattle.path_text.proofs.PathLemmas.{ArePathParts-IsNormalPath}
use Rattle.path_text.specs.FileName.{IsFileName, IsNameByte, is_file_name_text}
use Rattle.path_text.specs.Path.{IsNormalPath, base_of, last_part, named_parts}
use Rattle.load_model.specs.declared.faces.Face.{Face}
use Rattle.load_model.specs.declared.runs.Obj.{Obj}
use Rattle.load_model.specs.declared.runs.Run.{Run}
use Rattle.lib_closure.specs.declared.splits.Member.{Member}
use Rattle.lib_closure.specs.declared.splits.Split.{Split}
use Rattle.name_layout.proofs.LawLemmas.{missing, none_first, none_then, stands_at}
use Rattle.name_layout.specs.Laws.{HaveTextKeys}
use Rattle.name_layout.specs.Layouts.{AreNames, HasName, bad_key, candidate_name, first_bad_key, first_name_stop, given_names, member_key, opened_name, soname_at, unfit_name}
use Rattle.name_layout.specs.Openings.{Opening, first_opening_stop, opening, openings, openings_of}
use Rattle.name_layout.specs.declared.stops.NameStop.{NameStop}
use Rattle.name_layout.specs.declared.stops.NameStop.TheVariants.{BadFileName}

-- ---- candidates

glyph_byte : (d : ℕ) → d < 10 → IsNameByte (digit_glyph false d) × (digit_glyph false d < 128)
glyph_byte d small = by (nat_lt d 10)
  where
    by : (a : Bool) → IsNameByte (cond a (48 + d) (87 + d)) × (cond a (48 + d) (87 + d) < 128)
    by true = (((λ e. omega arith), (λ e. omega arith), omega arith, (λ e. omega arith)), omega arith)
    by false = (((λ e. omega arith), (λ e. omega arith), omega arith, (λ e. omega arith)), omega arith)

abbrev IsGlyph : ℕ → Type 0
IsGlyph c = IsNameByte c × (c < 128)

either : (b : Bool) (xs ys : List ℕ) → All IsGlyph xs → All IsGlyph ys → All IsGlyph (cond b xs ys)
either true xs ys p q = p
either false xs ys p q = q

onto_glyphs : (k n : ℕ) (acc : List ℕ) → All IsGlyph acc → All IsGlyph (digits_onto k 10 false n acc)
onto_glyphs zero n acc all = all
onto_glyphs (suc k) n acc all =
    let more : All IsGlyph (digit_glyph false (n % 10) ∷ acc) = All-cons IsGlyph (digit_glyph false (n % 10)) acc (glyph_byte (n % 10) (mod_below n 10 (omega arith))) all in
    either (n / 10 == 0) (digit_glyph false (n % 10) ∷ acc) (digits_onto k 10 false (n / 10) (digit_glyph false (n % 10) ∷ acc)) more (onto_glyphs k (n / 10) (digit_glyph false (n % 10) ∷ acc) more)

number_glyphs : (n : ℕ) → All IsGlyph (45 ∷ decimal n)
unfolding digits
number_glyphs n =
    All-cons IsGlyph 45 (decimal n) (((λ e. omega arith), (λ e. omega arith), omega arith, (λ e. omega arith)), omega arith) (onto_glyphs 64 n [] (All-nil IsGlyph))

-- A name with a number behind it is no other file name than it.
byte_at : (i : ℕ) (xs ys : List ℕ) → xs ≡ ys → get_or xs i 0 ≡ get_or ys i 0
byte_at i xs ys h = ap (λ (zs : List ℕ). get_or zs i 0) h

not_dot : (c : ℕ) → c ≡ 45 → c ≡ 46 → ⊥
not_dot c h g = omega arith

not_here : (key more : List ℕ) → key ++ 45 ∷ more ≢ 46 ∷ []
not_here [] more h = not_dot 45 refl (byte_at 0 (45 ∷ more) (46 ∷ []) h)
not_here (a ∷ []) more h = cc
not_here (a ∷ b ∷ key) more h = cc

not_parent : (key more : List ℕ) → key ++ 45 ∷ more ≢ 46 ∷ 46 ∷ []
not_parent [] more h = not_dot 45 refl (byte_at 0 (45 ∷ more) (46 ∷ 46 ∷ []) h)
not_parent (a ∷ []) more h = not_dot 45 refl (byte_at 1 (a ∷ 45 ∷ more) (46 ∷ 46 ∷ []) h)
not_parent (a ∷ b ∷ []) more h = cc
not_parent (a ∷ b ∷ c ∷ key) more h = cc

not_empty : (key more : List ℕ) → key ++ 45 ∷ more ≢ []
not_empty [] more h = cc
not_empty (a ∷ key) more h = cc

candidate_named : (key : List ℕ) (k : ℕ) → IsFileName key → IsFileName (candidate_name key k)
candidate_named key zero named = named
candidate_named key (suc k) named = record {
  not_empty = not_empty key (decimal (k + 2));
  not_here = not_here key (decimal (k + 2));
  not_parent = not_parent key (decimal (k + 2));
  bytes = All-append IsNameByte key (45 ∷ decimal (k + 2)) named.bytes (λ i d within. (number_glyphs (k + 2) i d within).0);
}

ascii_by : (xs : List ℕ) → All IsGlyph xs → (i : ℕ) → get_or xs i 0 < 128
ascii_by [] all i = omega arith
ascii_by (x ∷ xs) all zero = (All-head IsGlyph x xs all).1
ascii_by (x ∷ xs) all (suc i) = ascii_by xs (All-tail IsGlyph x xs all) i

candidate_text : (key : List ℕ) (k : ℕ) → IsUtf8 key → IsUtf8 (candidate_name key k)
candidate_text key zero text = text
candidate_text key (suc k) text =
    IsUtf8-append key (45 ∷ decimal (k + 2)) text (IsUtf8-from_ascii (45 ∷ decimal (k + 2)) (ascii_by (45 ∷ decimal (k + 2)) (number_glyphs (k + 2))))

-- ---- opened names

all_at : {X : Type 0} (P : X → Type 0) (xs : List X) (i : ℕ) (x : X) → All P xs → slice_get xs i ≡ Some x → P x
all_at P xs i x all h = subst P (get_or_from_slice_get xs i x x h) (all i x (slice_get_within xs i x h))

abbrev opening_with : List ℕ → Obj → Opening
opening_with name obj = record { name = name; root = obj.id }

module _ (P : List ℕ → Type 0) where
  made : (name : List ℕ) (obj : Option Obj) → P name → IfSome (option_map (opening_with name) obj) (λ (e : Opening). P e.name)
  made name None p = tt
  made name (Some obj) p = p

  joined : (o : Option Opening) (more : List Opening) → IfSome o (λ (e : Opening). P e.name) → All (λ (e : Opening). P e.name) more → All (λ (e : Opening). P e.name) (cons_option o more)
  joined None more h all = all
  joined (Some e) more h all = All-cons (λ (e : Opening). P e.name) e more h all

  of_run : (run : Run) (names : List (List ℕ)) (roots : List ℕ) → All P names → All (λ (e : Opening). P e.name) (filter_map (opening run) (zip names roots))
  of_run run [] roots all = All-nil (λ (e : Opening). P e.name)
  of_run run (name ∷ names) [] all = All-nil (λ (e : Opening). P e.name)
  of_run run (name ∷ names) (root ∷ roots) all =
      joined (opening run (name, root)) (filter_map (opening run) (zip names roots)) (made name (slice_get run.objs root) (All-head P name names all))
      (of_run run names roots (All-tail P name names all))

  all_opened : (runs : List Run) → All (λ (run : Run). All P run.opens) runs → All (λ (e : Opening). P e.name) (openings runs)
  unfolding openings
  all_opened [] all = All-nil (λ (e : Opening). P e.name)
  all_opened (run ∷ runs) all =
      All-append (λ (e : Opening). P e.name) (openings_of run) (flat_map openings_of runs)
      (of_run run run.opens run.roots (All-head (λ (r : Run). All P r.opens) run runs all))
      (all_opened runs (All-tail (λ (r : Run). All P r.opens) run runs all))

  opened_is : (runs : List Run) (p : Opening → Bool) (o : Opening) → All (λ (run : Run). All P run.opens) runs → find p (openings runs) ≡ Some o → P o.name
  opened_is runs p o all found =
      let place = stands_at p (openings runs) o found in
      all_at (λ (e : Opening). P e.name) (openings runs) place.0 o (all_opened runs all) place.1

-- ---- keys

none_at : {X A : Type 0} (f : X → Option A) (xs : List X) (i : ℕ) (x : X) → slice_get xs i ≡ Some x → first_some (map f xs) ≡ None → f x ≡ None
none_at f [] i x at none = cc
none_at f (y ∷ ys) zero x at none = let same : y ≡ x = cc in ap f (sym same) ∙ none_first (f y) (map f ys) none
none_at f (y ∷ ys) (suc i) x at none = none_at f ys i x at (none_then (f y) (map f ys) none)

fits : (b : Bool) (stop : NameStop) → some_where (not b) stop ≡ None → b ≡ true
fits true stop h = refl
fits false stop h = cc

module _ (faces : List Face) (runs : List Run) (split : Split) (names : List (List ℕ)) where
  key_named : (lib : Member) (i : ℕ) (found : Option Opening) → slice_get split.libs i ≡ Some lib → find (λ (o : Opening). bytes_eq lib.id o.root) (openings runs) ≡ found → found ≡ None → first_bad_key faces runs split names ≡ None → IsFileName (member_key faces lib)
  unfolding first_bad_key
  key_named lib i found at is gone none =
      let fine : bad_key faces runs split names lib ≡ None = none_at (bad_key faces runs split names) split.libs i lib at none in
      let unopened : opened_name runs lib ≡ None = ap (option_map (λ (o : Opening). o.name)) (is ∙ gone) in
      IsFileName-from_test (member_key faces lib)
      (fits (is_file_name_text (member_key faces lib)) (BadFileName (member_key faces lib)) (ap (unfit_name faces runs split names (member_key faces lib)) (sym unopened) ∙ fine))

  last_part_text : (parts : List (List ℕ)) → All IsUtf8 parts → IsUtf8 (last_part parts)
  last_part_text [] all = IsUtf8-nil
  last_part_text (part ∷ parts) all = all (length (part ∷ parts) - 1) [] (omega arith)

  soname_text : (face : Option Face) → IfSome face (λ (f : Face). IfSome f.soname IsUtf8) → IfSome (option_and_then (λ (f : Face). f.soname) face) IsUtf8
  soname_text None h = tt
  soname_text (Some face) h = h

  key_by : (soname : Option (List ℕ)) (path : List ℕ) → IfSome soname IsUtf8 → IsNormalPath path → IsUtf8 (unwrap_or soname (base_of path))
  key_by None path text normal = last_part_text (named_parts path) (ArePathParts-IsNormalPath path normal).utf8
  key_by (Some soname) path text normal = text

  face_text : (place : ℕ) (face : Option Face) → All (λ (f : Face). IfSome f.soname IsUtf8) faces → slice_get faces place ≡ face → IfSome face (λ (f : Face). IfSome f.soname IsUtf8)
  face_text place None all h = tt
  face_text place (Some face) all h = all_at (λ (f : Face). IfSome f.soname IsUtf8) faces place face all h

  key_text : (lib : Member) → HaveTextKeys faces split → IsNormalPath lib.path → IsUtf8 (member_key faces lib)
  key_text lib texts normal =
      key_by (soname_at faces lib.face) lib.path (soname_text (slice_get faces lib.face) (face_text lib.face (slice_get faces lib.face) texts.sonames refl)) normal

  -- ---- all names

  module _ (P : List ℕ → Type 0) (opened : All (λ (run : Run). All P run.opens) runs) (candidates : (key : List ℕ) (k : ℕ) → P key → P (candidate_name key k)) where
    one_name : (taken : List (List ℕ)) (lib : Member) (name : List ℕ) (found : Option Opening) → find (λ (o : Opening). bytes_eq lib.id o.root) (openings runs) ≡ found → (found ≡ None → P (member_key faces lib)) → HasName faces runs split names taken lib name (option_map (λ (o : Opening). o.name) found) → P name
    one_name taken lib name None is key has = subst P (sym has.spelled) (candidates (member_key faces lib) has.number (key refl))
    one_name taken lib name (Some o) is key has = subst P (sym has) (opened_is P runs (λ (o : Opening). bytes_eq lib.id o.root) o opened is)

    name_by : (layout : List (List ℕ)) (i : ℕ) (lib : Option Member) (name : List ℕ) → AreNames faces runs split names layout → ((l : Member) → slice_get split.libs i ≡ Some l → find (λ (o : Opening). bytes_eq l.id o.root) (openings runs) ≡ None → P (member_key faces l)) → slice_get split.libs i ≡ lib → slice_get layout i ≡ Some name → P name
    name_by layout i None name are keys at got =
        let past = missing split.libs i at in
        let within = slice_get_within layout i name got in
        let count = are.count in absurd (omega arith)
    name_by layout i (Some lib) name are keys at got =
        one_name (given_names runs split ++ take i layout) lib name (find (λ (o : Opening). bytes_eq lib.id o.root) (openings runs)) refl (keys lib at) (are.each i lib name at got)

    each_name : (layout : List (List ℕ)) → AreNames faces runs split names layout → ((i : ℕ) (l : Member) → slice_get split.libs i ≡ Some l → find (λ (o : Opening). bytes_eq l.id o.root) (openings runs) ≡ None → P (member_key faces l)) → All P layout
    each_name layout are keys =
        All-from_get_or P layout []
        (λ i less. name_by layout i (slice_get split.libs i) (get_or layout i []) are (keys i) refl (slice_get-get_or layout i [] less))

  keys_none : first_name_stop faces runs split names ≡ None → first_bad_key faces runs split names ≡ None
  unfolding first_name_stop
  keys_none h = none_first (first_bad_key faces runs split names) [] (none_then (first_opening_stop split names runs) (first_bad_key faces runs split names ∷ []) h)

  -- Each name is a file name, where opened names are.
  pub all_named : (layout : List (List ℕ)) → AreNames faces runs split names layout → first_name_stop faces runs split names ≡ None → All (λ (run : Run). All IsFileName run.opens) runs → All IsFileName layout
  all_named layout are none opened =
      each_name IsFileName opened candidate_named layout are
      (λ i lib at gone. key_named lib i (find (λ (o : Opening). bytes_eq lib.id o.root) (openings runs)) at refl gone (keys_none none))

  -- Each name is a text, where sonames, paths and opened names are.
  pub all_texts : (layout : List (List ℕ)) → AreNames faces runs split names layout → HaveTextKeys faces split → All (λ (run : Run). All IsUtf8 run.opens) runs → All IsUtf8 layout
  all_texts layout are texts opened =
      each_name IsUtf8 opened candidate_text layout are
      (λ i lib at gone. key_text lib texts (all_at (λ (l : Member). IsNormalPath l.path) split.libs i lib texts.paths at))
