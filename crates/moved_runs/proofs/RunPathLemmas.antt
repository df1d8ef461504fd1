-- The run paths of programs and libraries lead to the folder of libraries.
use Rattle.std.proofs.Common.{ℕ, List, [], ◌∷◌, ◌++◌, Bool, true, false, cond, eqb, not, ◌≡◌, ◌≢◌, ◌≤◌, ◌<◌, ◌+◌, ◌-◌, refl, sym, ◌∙◌, ap, subst, suc, fold, length, take, drop, get_or, arith, inl, inr}
use Rattle.std.specs.Prelude.{All, IsUtf8, codes}
use Rattle.std.specs.List.{flat_map, onto_first}
use Rattle.std.specs.Str.{bytes_eq, is_utf8}
use Rattle.std.proofs.lemmas.Bool.{cases_Bool, eqb-false, eqb-true, false_from_ne_true, ne_eqb, or_from}
use Rattle.std.proofs.lemmas.List.{append-nil, length-append}
use Rattle.std.proofs.lemmas.List.Elements.{All-append, All-cons, All-weaker}
use Rattle.std.proofs.lemmas.List.Splits.{length-slice_split, slice_split_none}
use Rattle.std.proofs.lemmas.List.Sums.{fold-append}
use Rattle.std.proofs.lemmas.Str.{IsCharBoundary-after_ascii, IsUtf8-append, IsUtf8-drop, IsUtf8-from_is_utf8, is_utf8-from_IsUtf8}
use Rattle.answers.specs.First.{first_some, some_where, value_unless}
use Rattle.path_text.specs.FileName.{IsFileName, IsNameByte}
use Rattle.path_text.specs.Path.{IsNamed, IsNormalPath, begins_at_root, but_last, folder_of, has_nul, is_empty, led, named_parts, normal_path, parts_of, path_fault, path_of, rooted}
use Rattle.path_text.specs.declared.absolute.PathFault.TheVariants.{Empty, Relative, HasNul, NotText}
use Rattle.path_text.proofs.PartLemmas.{led_down}
use Rattle.path_text.proofs.PathLemmas.{All-from_no_any, All-from_not_contained, begins_at_root-IsNormalPath, normal_path-IsNormalPath, not_contained, slash_utf8, zero_contained}
use Rattle.load_model.specs.Candidates.{candidate_at, candidate_in}
use Rattle.load_model.specs.Joined.{joined}
use Rattle.load_model.specs.RunPaths.{Folder, items_of, parts_behind}
use Rattle.load_model.specs.declared.setting.Setting.{Setting}
use Rattle.load_model.proofs.Texts.{text}
use Rattle.load_model.proofs.TwoWorlds.{same_bytes}
use Rattle.moved_runs.specs.Placed.{lib_folder, lib_place}
use Rattle.moved_runs.proofs.PlaceLemmas.{in_libs, joined_more, joined_normal, lib_is_normal, usr_normal}
use Rattle.path_text.proofs.NameLemmas.{IsFileName-from_test}

-- ---- parts of joined texts

onto_append : (c : ℕ) (xs ys : List (List ℕ)) → 0 < length xs → onto_first c (xs ++ ys) ≡ onto_first c xs ++ ys
onto_append c [] ys some = absurd (omega arith)
onto_append c (x ∷ xs) ys some = refl

cons_append : (b : Bool) (c : ℕ) (xs ys zs : List (List ℕ)) → zs ≡ xs ++ ys → 0 < length xs → cond b ([] ∷ zs) (onto_first c zs) ≡ cond b ([] ∷ xs) (onto_first c xs) ++ ys
cons_append true c xs ys zs e some = ap (λ t. [] ∷ t) e
cons_append false c xs ys zs e some = ap (onto_first c) e ∙ onto_append c xs ys some

parts_some : (t : List ℕ) → 0 < length (parts_of t)
parts_some t = omega (arith, length-slice_split (λ c. eqb c 47) t)

parts_of-append : (front back : List ℕ) → parts_of (front ++ 47 ∷ back) ≡ parts_of front ++ parts_of back
parts_of-append [] back = refl
parts_of-append (c ∷ front) back = cons_append (eqb c 47) c (parts_of front) (parts_of back) (parts_of (front ++ 47 ∷ back)) (parts_of-append front back) (parts_some front)

named-append : (front back : List ℕ) → named_parts (front ++ 47 ∷ back) ≡ fold led (named_parts front) (parts_of back)
unfolding named_parts
named-append front back = ap (fold led []) (parts_of-append front back) ∙ fold-append led [] (parts_of front) (parts_of back)

one_part : (name : List ℕ) → IsFileName name → parts_of name ≡ name ∷ []
one_part name h = slice_split_none (λ c. eqb c 47) name (All-weaker IsNameByte (λ c. eqb c 47 ≡ false) (λ c b. ne_eqb c 47 b.0) name h.bytes)

not_text : (xs ys : List ℕ) → (xs ≡ ys → ⊥) → bytes_eq xs ys ≡ false
not_text xs ys h = false_from_ne_true (bytes_eq xs ys) (λ e. h (same_bytes xs ys e))

is_named : (name : List ℕ) → IsFileName name → IsNamed name
is_named name h = (
  or_from (bytes_eq name []) (bytes_eq name (codes ".")) (not_text name [] h.not_empty) (not_text name (codes ".") h.not_here),
  not_text name (codes "..") h.not_parent,
)

named-push : (front name : List ℕ) → IsFileName name → named_parts (front ++ 47 ∷ name) ≡ named_parts front ++ name ∷ []
named-push front name h = named-append front name ∙ ap (fold led (named_parts front)) (one_part name h) ∙ led_down (named_parts front) name (is_named name h)

root_named : named_parts (47 ∷ []) ≡ []
unfolding named_parts
root_named = refl

empty_named : named_parts [] ≡ []
unfolding named_parts
empty_named = refl

joined_by : (b : Bool) (dir name : List ℕ) → bytes_eq dir (47 ∷ []) ≡ b → IsFileName name → named_parts (cond b (47 ∷ name) (dir ++ 47 ∷ name)) ≡ named_parts dir ++ name ∷ []
joined_by true dir name e h =
    named-push [] name h ∙ ap (λ ps. ps ++ name ∷ []) (empty_named ∙ sym root_named ∙ ap named_parts (sym (same_bytes dir (47 ∷ []) e)))
joined_by false dir name e h = named-push dir name h

named-joined : (dir name : List ℕ) → IsFileName name → named_parts (joined dir name) ≡ named_parts dir ++ name ∷ []
named-joined dir name h = joined_by (bytes_eq dir (47 ∷ [])) dir name refl h

front : (ps : List (List ℕ)) (last : List ℕ) → take (length ps) (ps ++ last ∷ []) ≡ ps
front [] last = refl
front (p ∷ ps) last = ap (λ xs. p ∷ xs) (front ps last)

all_but_last : (parts : List (List ℕ)) (last : List ℕ) → but_last (parts ++ last ∷ []) ≡ parts
all_but_last [] last = refl
all_but_last (p ∷ ps) last =
    let size : length ((p ∷ ps) ++ last ∷ []) - 1 ≡ suc (length ps) = omega (arith, length-append ps (last ∷ [])) in
    ap (λ n. take n ((p ∷ ps) ++ last ∷ [])) size ∙ ap (λ xs. p ∷ xs) (front ps last)

-- the folder of a file in a directory is the directory
pub folder-joined : (dir name : List ℕ) → IsNormalPath dir → IsFileName name → folder_of (joined dir name) ≡ dir
folder-joined dir name d h =
    ap (λ ps. rooted (but_last ps)) (named-joined dir name h) ∙ ap rooted (all_but_last (named_parts dir) name) ∙ normal_path-IsNormalPath dir d

-- ---- two texts that lead to the same

behind : (front name : List ℕ) → drop (suc (length front)) (front ++ 47 ∷ name) ≡ name
behind [] name = refl
behind (c ∷ front) name = behind front name

at_slash : (front name : List ℕ) → get_or (front ++ 47 ∷ name) (length front) 0 ≡ 47
at_slash [] name = refl
at_slash (c ∷ front) name = at_slash front name

within : (front name : List ℕ) → length front < length (front ++ 47 ∷ name)
within [] name = omega arith
within (c ∷ front) name = let rest = within front name in omega arith

utf8_behind : (front name : List ℕ) → IsUtf8 (front ++ 47 ∷ name) → IsUtf8 name
utf8_behind front name utf8 =
    let all : List ℕ = front ++ 47 ∷ name in
    let i : ℕ = length front in
    let small : get_or all i 0 < 128 = subst (λ (c : ℕ). c < 128) (sym (at_slash front name)) (omega arith) in
    let cut = IsUtf8-drop all (i + 1) utf8 (IsCharBoundary-after_ascii all i utf8 (within front name) small) in
    let one : i + 1 ≡ suc i = omega arith in
    subst IsUtf8 (ap (λ n. drop n all) one ∙ behind front name) cut

same_utf8 : (front name : List ℕ) → IsUtf8 front → is_utf8 (front ++ 47 ∷ name) ≡ is_utf8 name
same_utf8 front name utf8 =
    elim (cases_Bool (is_utf8 name)) [
      | inl t ↦ is_utf8-from_IsUtf8 (front ++ 47 ∷ name) (IsUtf8-append front (47 ∷ name) utf8 (IsUtf8-append (47 ∷ []) name slash_utf8 (IsUtf8-from_is_utf8 name t))) ∙ sym t
      | inr f ↦ false_from_ne_true (is_utf8 (front ++ 47 ∷ name)) (λ e. let no : true ≡ false = sym (is_utf8-from_IsUtf8 name (utf8_behind front name (IsUtf8-from_is_utf8 (front ++ 47 ∷ name) e))) ∙ f in cc) ∙ sym f
    ]

-- a front of a path: a slash, and no zero byte
pub record IsFront (front : List ℕ) : Type 0 where
  pub rest : List ℕ
  pub spelled : front ≡ 47 ∷ rest
  pub no_zero : All (λ c. c ≢ 0) front
  pub utf8 : IsUtf8 front

no_nul : (front name : List ℕ) → IsFront front → IsFileName name → has_nul (front ++ 47 ∷ name) ≡ false
no_nul front name f h =
    let names : All (λ c. c ≢ 0) name = All-weaker IsNameByte (λ c. c ≢ 0) (λ c b e. let low : 32 ≤ c = b.2 in omega arith) name h.bytes in
    let all : All (λ c. c ≢ 0) (front ++ 47 ∷ name) = All-append (λ c. c ≢ 0) front (47 ∷ name) f.no_zero (All-cons (λ c. c ≢ 0) 47 name (λ e. omega arith) names) in
    false_from_ne_true (has_nul (front ++ 47 ∷ name)) (λ e. not_contained (front ++ 47 ∷ name) 0 all (zero_contained (front ++ 47 ∷ name) e))

fault_by : (a b c d e : Bool) → a ≡ false → b ≡ true → c ≡ false → d ≡ e → first_some (some_where a Empty ∷ some_where (not b) Relative ∷ some_where c HasNul ∷ some_where (not d) NotText ∷ []) ≡ first_some (some_where (not e) NotText ∷ [])
fault_by a b c d e h i j k = rw (h, i, j, k) refl

front_fault : (front name : List ℕ) → IsFront front → IsFileName name → path_fault (front ++ 47 ∷ name) ≡ first_some (some_where (not (is_utf8 name)) NotText ∷ [])
unfolding path_fault
front_fault front name f h =
    let all : List ℕ = front ++ 47 ∷ name in
    fault_by (is_empty (front ++ 47 ∷ name)) (begins_at_root (front ++ 47 ∷ name)) (has_nul (front ++ 47 ∷ name)) (is_utf8 (front ++ 47 ∷ name)) (is_utf8 name)
    (ap (λ t. is_empty (t ++ 47 ∷ name)) f.spelled) (ap (λ t. begins_at_root (t ++ 47 ∷ name)) f.spelled) (no_nul front name f h) (same_utf8 front name f.utf8)

same_path : (s t name : List ℕ) → IsFront s → IsFront t → IsFileName name → named_parts s ≡ named_parts t → path_of (s ++ 47 ∷ name) ≡ path_of (t ++ 47 ∷ name)
same_path s t name f g h e =
    ap (λ o. value_unless o (normal_path (s ++ 47 ∷ name))) (front_fault s name f h ∙ sym (front_fault t name g h))
    ∙ ap (λ ps. value_unless (path_fault (t ++ 47 ∷ name)) (rooted ps)) (named-push s name h ∙ ap (λ ps. ps ++ name ∷ []) e ∙ sym (named-push t name h))

head_slash : (path : List ℕ) → begins_at_root path ≡ true → (r : List ℕ) × (path ≡ 47 ∷ r)
head_slash [] h = cc
head_slash (c ∷ r) h = (r, ap (λ d. d ∷ r) (eqb-true c 47 h))

normal_front : (path : List ℕ) → IsNormalPath path → IsFront path
normal_front path p =
    let w = head_slash path (begins_at_root-IsNormalPath path p) in
    record { rest = w.0; spelled = w.1; no_zero = All-from_not_contained path 0 p.no_zero; utf8 = p.utf8 }

longer_front : (path more : List ℕ) → IsFront path → All (λ c. c ≢ 0) more → IsUtf8 more → IsFront (path ++ more)
longer_front path more f no_zero utf8 = record {
  rest = f.rest ++ more;
  spelled = ap (λ t. t ++ more) f.spelled;
  no_zero = All-append (λ c. c ≢ 0) path more f.no_zero no_zero;
  utf8 = IsUtf8-append path more f.utf8 utf8;
}

-- ---- the run paths

usr_name : IsFileName (codes "usr")
usr_name = IsFileName-from_test (codes "usr") refl

lib_name : IsFileName (codes "lib")
lib_name = IsFileName-from_test (codes "lib") refl

bin_name : IsFileName (codes "bin")
bin_name = IsFileName-from_test (codes "bin") refl

no_zeros : (bs : List ℕ) → has_nul bs ≡ false → All (λ c. c ≢ 0) bs
no_zeros bs h = All-weaker (λ c. eqb c 0 ≡ false) (λ c. c ≢ 0) (λ c e. eqb-false c 0 e) bs (All-from_no_any (λ c. eqb c 0) bs h)

usr_lib : (place : List ℕ) → named_parts (place ++ codes "/usr/lib") ≡ (named_parts place ++ codes "usr" ∷ []) ++ codes "lib" ∷ []
usr_lib place =
    named-append place (codes "usr/lib")
    ∙ ap (λ ps. led ps (codes "lib")) (led_down (named_parts place) (codes "usr") (is_named (codes "usr") usr_name))
    ∙ led_down (named_parts place ++ codes "usr" ∷ []) (codes "lib") (is_named (codes "lib") lib_name)

up_lib : (place : List ℕ) → named_parts (joined (joined place (codes "usr")) (codes "bin") ++ codes "/../lib") ≡ (named_parts place ++ codes "usr" ∷ []) ++ codes "lib" ∷ []
up_lib place =
    named-append (joined (joined place (codes "usr")) (codes "bin")) (codes "../lib")
    ∙ ap (λ ps. led (led ps (codes "..")) (codes "lib")) (named-joined (joined place (codes "usr")) (codes "bin") bin_name ∙ ap (λ ps. ps ++ codes "bin" ∷ []) (named-joined place (codes "usr") usr_name))
    ∙ ap (λ ps. led ps (codes "lib")) (all_but_last (named_parts place ++ codes "usr" ∷ []) (codes "bin"))
    ∙ led_down (named_parts place ++ codes "usr" ∷ []) (codes "lib") (is_named (codes "lib") lib_name)

in_bin : (place tool : List ℕ) → joined (joined (joined place (codes "usr")) (codes "bin")) tool ≡ joined place (codes "usr/bin/" ++ tool)
in_bin place tool =
    ap (λ d. joined d tool) (joined_more place 117 (115 ∷ 114 ∷ []) (codes "bin")) ∙ joined_more place 117 (115 ∷ 114 ∷ 47 ∷ 98 ∷ 105 ∷ 110 ∷ []) tool

lib_parts : (place : List ℕ) → named_parts (lib_folder place) ≡ (named_parts place ++ codes "usr" ∷ []) ++ codes "lib" ∷ []
lib_parts place = named-joined (joined place (codes "usr")) (codes "lib") lib_name ∙ ap (λ ps. ps ++ codes "lib" ∷ []) (named-joined place (codes "usr") usr_name)

first_items : (setting : Setting) (r : List ℕ) → items_of setting (47 ∷ r) (codes "$ORIGIN/usr/lib") ≡ Folder ((47 ∷ r) ++ codes "/usr/lib") ∷ []
unfolding items_of parts_behind
first_items setting r = refl

other_items : (setting : Setting) (r : List ℕ) → items_of setting (47 ∷ r) (codes "$ORIGIN/../lib") ≡ Folder ((47 ∷ r) ++ codes "/../lib") ∷ []
unfolding items_of parts_behind
other_items setting r = refl

lib_items : (setting : Setting) (r : List ℕ) → items_of setting (47 ∷ r) (codes "$ORIGIN") ≡ Folder ((47 ∷ r) ++ []) ∷ []
unfolding items_of parts_behind
lib_items setting r = refl

-- one folder whose text leads where another does
one_folder : (s t name : List ℕ) → IsFront s → IsFront t → IsFileName name → named_parts s ≡ named_parts t → flat_map (candidate_in name) (Folder s ∷ []) ≡ candidate_in name (Folder t)
one_folder s t name f g h e = append-nil (candidate_at (path_of (s ++ 47 ∷ name))) ∙ ap candidate_at (same_path s t name f g h e)

pub first_leads : (setting : Setting) (place program name : List ℕ) → IsNormalPath place → IsFileName program → IsFileName name → flat_map (candidate_in name) (items_of setting (folder_of (joined place program)) (codes "$ORIGIN/usr/lib")) ≡ candidate_in name (Folder (lib_folder place))
first_leads setting place program name p q h =
    let f = normal_front place p in
    let zero : All (λ c. c ≢ 0) (codes "/usr/lib") = no_zeros (codes "/usr/lib") refl in
    let front = longer_front place (codes "/usr/lib") f zero (IsUtf8-from_is_utf8 (codes "/usr/lib") (text (codes "/usr/lib") refl)) in
    ap (λ d. flat_map (candidate_in name) (items_of setting d (codes "$ORIGIN/usr/lib"))) (folder-joined place program p q ∙ f.spelled)
    ∙ ap (flat_map (candidate_in name)) (first_items setting f.rest)
    ∙ ap (λ d. flat_map (candidate_in name) (Folder (d ++ codes "/usr/lib") ∷ [])) (sym f.spelled)
    ∙ one_folder (place ++ codes "/usr/lib") (lib_folder place) name front (normal_front (lib_folder place) (lib_is_normal place p)) h (usr_lib place ∙ sym (lib_parts place))

pub other_leads : (setting : Setting) (place tool name : List ℕ) → IsNormalPath place → IsFileName tool → IsFileName name → flat_map (candidate_in name) (items_of setting (folder_of (joined place (codes "usr/bin/" ++ tool))) (codes "$ORIGIN/../lib")) ≡ candidate_in name (Folder (lib_folder place))
other_leads setting place tool name p q h =
    let bin : List ℕ = joined (joined place (codes "usr")) (codes "bin") in
    let normal : IsNormalPath (joined (joined place (codes "usr")) (codes "bin")) = joined_normal (joined place (codes "usr")) (codes "bin") (usr_normal place p) bin_name (IsUtf8-from_is_utf8 (codes "bin") (text (codes "bin") refl)) in
    let f = normal_front (joined (joined place (codes "usr")) (codes "bin")) normal in
    let zero : All (λ c. c ≢ 0) (codes "/../lib") = no_zeros (codes "/../lib") refl in
    let front = longer_front (joined (joined place (codes "usr")) (codes "bin")) (codes "/../lib") f zero (IsUtf8-from_is_utf8 (codes "/../lib") (text (codes "/../lib") refl)) in
    ap (λ d. flat_map (candidate_in name) (items_of setting (folder_of d) (codes "$ORIGIN/../lib"))) (sym (in_bin place tool))
    ∙ ap (λ d. flat_map (candidate_in name) (items_of setting d (codes "$ORIGIN/../lib"))) (folder-joined (joined (joined place (codes "usr")) (codes "bin")) tool normal q ∙ f.spelled)
    ∙ ap (flat_map (candidate_in name)) (other_items setting f.rest)
    ∙ ap (λ d. flat_map (candidate_in name) (Folder (d ++ codes "/../lib") ∷ [])) (sym f.spelled)
    ∙ one_folder (joined (joined place (codes "usr")) (codes "bin") ++ codes "/../lib") (lib_folder place) name front (normal_front (lib_folder place) (lib_is_normal place p)) h (up_lib place ∙ sym (lib_parts place))

pub lib_leads : (setting : Setting) (place lib name : List ℕ) → IsNormalPath place → IsFileName lib → IsFileName name → flat_map (candidate_in name) (items_of setting (folder_of (joined place (lib_place lib))) (codes "$ORIGIN")) ≡ candidate_in name (Folder (lib_folder place))
lib_leads setting place lib name p q h =
    let f = normal_front (lib_folder place) (lib_is_normal place p) in
    ap (λ d. flat_map (candidate_in name) (items_of setting (folder_of d) (codes "$ORIGIN"))) (sym (in_libs place lib))
    ∙ ap (λ d. flat_map (candidate_in name) (items_of setting d (codes "$ORIGIN"))) (folder-joined (lib_folder place) lib (lib_is_normal place p) q ∙ f.spelled)
    ∙ ap (flat_map (candidate_in name)) (lib_items setting f.rest)
    ∙ ap (λ d. flat_map (candidate_in name) (Folder d ∷ [])) (append-nil (47 ∷ f.rest) ∙ sym f.spelled)
    ∙ append-nil (candidate_at (path_of (lib_folder place ++ 47 ∷ name)))
