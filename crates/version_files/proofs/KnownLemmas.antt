-- What is kept of known names tells the same as all of them.
use Rattle.std.proofs.Common.{◌≡◌, ◌∙◌, sym, ap, ap₂, refl, ℕ, ◌+◌, ◌<◌, ◌≤◌, ◌&&◌, List, [], ◌∷◌, ◌++◌, Bool, true, false, cond, Option, Some, None, bytes_eq, get_or, length, map, min, nat_le, slice_get, take, arith}
use Rattle.std.specs.List.{find, list_any, position}
use Rattle.std.specs.Option.{option_and_then, option_map, option_or}
use Rattle.std.proofs.lemmas.List.{map-append}
use Rattle.std.proofs.lemmas.Option.{slice_get-map}
use Rattle.indexmap.specs.IndexSet.{insert_key}
use Rattle.std.proofs.lemmas.Bool.{le-leb, leb-true}
use Rattle.std.proofs.lemmas.List.Folds.{find-append}
use Rattle.version_files.specs.Known.{KnownName, first_known_by, known_by}
use Rattle.load_model.specs.LoadList.{lesser_of}
use Rattle.version_files.specs.Telling.{known_as, told_first}
use Rattle.version_files.specs.declared.known.Known.{Known}
use Rattle.text_sets.proofs.FoundLemmas.{find_passes, none_any}
use Rattle.version_files.proofs.TakenLemmas.{take_next}
use Rattle.text_sets.proofs.MappedLemmas.{any-map, find-position, position-map}
use Rattle.load_model.proofs.TwoWorlds.{same_bytes}

pub lesser_of-none : (o : Option ℕ) → lesser_of o None ≡ o
lesser_of-none None = refl
lesser_of-none (Some i) = refl

pub lesser_of-assoc : (a b c : Option ℕ) → lesser_of (lesser_of a b) c ≡ lesser_of a (lesser_of b c)
lesser_of-assoc None b c = refl
lesser_of-assoc (Some i) None c = refl
lesser_of-assoc (Some i) (Some j) None = refl
lesser_of-assoc (Some i) (Some j) (Some k) = let e : min (min i j) k ≡ min i (min j k) = omega arith in ap Some e

pub lesser_of-sym : (a b : Option ℕ) → lesser_of a b ≡ lesser_of b a
lesser_of-sym None None = refl
lesser_of-sym None (Some j) = refl
lesser_of-sym (Some i) None = refl
lesser_of-sym (Some i) (Some j) = let e : min i j ≡ min j i = omega arith in ap Some e

pub first_known_by-append : (phase : ℕ) (name : List ℕ) (xs ys : List KnownName) → first_known_by phase name (xs ++ ys) ≡ lesser_of (first_known_by phase name xs) (first_known_by phase name ys)
first_known_by-append phase name [] ys = refl
first_known_by-append phase name (x ∷ xs) ys =
    ap (lesser_of (known_by phase name x)) (first_known_by-append phase name xs ys)
    ∙ sym (lesser_of-assoc (known_by phase name x) (first_known_by phase name xs) (first_known_by phase name ys))

pub first_known_more : (phase : ℕ) (name : List ℕ) (xs : List KnownName) (x : KnownName) → first_known_by phase name (xs ++ x ∷ []) ≡ lesser_of (first_known_by phase name xs) (known_by phase name x)
first_known_more phase name xs x = first_known_by-append phase name xs (x ∷ []) ∙ ap (lesser_of (first_known_by phase name xs)) (lesser_of-none (known_by phase name x))

by_false : (phase : ℕ) (name : List ℕ) (k : KnownName) → bytes_eq name k.name ≡ false → known_by phase name k ≡ None
by_false phase name k h = ap (λ b. cond (b && nat_le k.since phase) (Some k.target) None) h

by_true : (phase : ℕ) (name : List ℕ) (k : KnownName) → bytes_eq name k.name ≡ true → known_by phase name k ≡ cond (nat_le k.since phase) (Some k.target) None
by_true phase name k h = ap (λ b. cond (b && nat_le k.since phase) (Some k.target) None) h

-- An entry beside.
pub other_added : (firsts others after : List KnownName) (k : KnownName) → after ≡ others ++ k ∷ [] → (phase : ℕ) (name : List ℕ) → lesser_of (told_first firsts phase name) (first_known_by phase name after) ≡ lesser_of (lesser_of (told_first firsts phase name) (first_known_by phase name others)) (known_by phase name k)
other_added firsts others after k e phase name =
    ap (λ l. lesser_of (told_first firsts phase name) (first_known_by phase name l)) e
    ∙ ap (lesser_of (told_first firsts phase name)) (first_known_more phase name others k)
    ∙ sym (lesser_of-assoc (told_first firsts phase name) (first_known_by phase name others) (known_by phase name k))

first_cases : (firsts : List KnownName) (k : KnownName) (phase : ℕ) (name : List ℕ) (o : Option ℕ) (b : Bool) (found : Option KnownName) → find (λ (f : KnownName). bytes_eq k.name f.name) firsts ≡ None → bytes_eq name k.name ≡ b → find (λ (f : KnownName). bytes_eq name f.name) firsts ≡ found → lesser_of (option_and_then (known_by phase name) (option_or found (cond b (Some k) None))) o ≡ lesser_of (lesser_of (option_and_then (known_by phase name) found) o) (known_by phase name k)
first_cases firsts k phase name o true None h g e = lesser_of-sym (known_by phase name k) o
first_cases firsts k phase name o false None h g e = sym (ap (lesser_of o) (by_false phase name k g) ∙ lesser_of-none o)
first_cases firsts k phase name o true (Some f) h g e =
    let none : ◌≡◌ {A = Option KnownName} None (Some f) = sym h ∙ ap (λ n. find (λ (x : KnownName). bytes_eq n x.name) firsts) (sym (same_bytes name k.name g)) ∙ e in
    cc
first_cases firsts k phase name o false (Some f) h g e =
    sym (ap (lesser_of (lesser_of (known_by phase name f) o)) (by_false phase name k g) ∙ lesser_of-none (lesser_of (known_by phase name f) o))

-- The first entry of a name.
pub first_added : (firsts others after : List KnownName) (k : KnownName) → find (λ (f : KnownName). bytes_eq k.name f.name) firsts ≡ None → after ≡ firsts ++ k ∷ [] → (phase : ℕ) (name : List ℕ) → lesser_of (told_first after phase name) (first_known_by phase name others) ≡ lesser_of (lesser_of (told_first firsts phase name) (first_known_by phase name others)) (known_by phase name k)
first_added firsts others after k h e phase name =
    ap (λ l. lesser_of (told_first l phase name) (first_known_by phase name others)) e
    ∙ ap (λ r. lesser_of (option_and_then (known_by phase name) r) (first_known_by phase name others)) (find-append (λ (f : KnownName). bytes_eq name f.name) firsts (k ∷ []))
    ∙ first_cases firsts k phase name (first_known_by phase name others) (bytes_eq name k.name) (find (λ (f : KnownName). bytes_eq name f.name) firsts) h refl refl

-- ---- an entry that the first one of its name settles

absorbs : (i k : ℕ) (o : Option ℕ) → i ≤ k → lesser_of (lesser_of (Some i) o) (Some k) ≡ lesser_of (Some i) o
absorbs i k None le = let e : min i k ≡ i = omega arith in ap Some e
absorbs i k (Some j) le = let e : min (min i j) k ≡ min i j = omega arith in ap Some e

le_true : (a b : ℕ) → a ≤ b → nat_le a b ≡ true
le_true a b h = le-leb a b h

settled_by : (f k : KnownName) (phase : ℕ) (name : List ℕ) (o : Option ℕ) (b : Bool) → nat_le k.since phase ≡ b → f.since ≤ k.since → f.target ≤ k.target → bytes_eq name f.name ≡ true → bytes_eq name k.name ≡ true → lesser_of (known_by phase name f) o ≡ lesser_of (lesser_of (known_by phase name f) o) (known_by phase name k)
settled_by f k phase name o true h since target g e =
    let less : k.since ≤ phase = leb-true k.since phase h in
    let of_f : known_by phase name f ≡ Some f.target = by_true phase name f g ∙ ap (λ c. cond c (Some f.target) None) (le_true f.since phase (omega arith)) in
    let of_k : known_by phase name k ≡ Some k.target = by_true phase name k e ∙ ap (λ c. cond c (Some k.target) None) h in
    ap (λ a. lesser_of a o) of_f ∙ sym (absorbs f.target k.target o target)
    ∙ ap₂ (λ a c. lesser_of (lesser_of a o) c) (sym of_f) (sym of_k)
settled_by f k phase name o false h since target g e =
    let of_k : known_by phase name k ≡ None = by_true phase name k e ∙ ap (λ c. cond c (Some k.target) None) h in
    sym (ap (lesser_of (lesser_of (known_by phase name f) o)) of_k ∙ lesser_of-none (lesser_of (known_by phase name f) o))

settled_cases : (firsts : List KnownName) (f k : KnownName) (phase : ℕ) (name : List ℕ) (o : Option ℕ) (b : Bool) → find (λ (x : KnownName). bytes_eq k.name x.name) firsts ≡ Some f → bytes_eq name k.name ≡ b → f.since ≤ k.since → f.target ≤ k.target → lesser_of (told_first firsts phase name) o ≡ lesser_of (lesser_of (told_first firsts phase name) o) (known_by phase name k)
settled_cases firsts f k phase name o true h g since target =
    let same : name ≡ k.name = same_bytes name k.name g in
    let found : find (λ (x : KnownName). bytes_eq name x.name) firsts ≡ Some f = ap (λ n. find (λ (x : KnownName). bytes_eq n x.name) firsts) same ∙ h in
    let is : told_first firsts phase name ≡ known_by phase name f = ap (option_and_then (known_by phase name)) found in
    let mine : bytes_eq name f.name ≡ true = find_passes (λ (x : KnownName). bytes_eq name x.name) firsts f found in
    ap (λ a. lesser_of a o) is ∙ settled_by f k phase name o (nat_le k.since phase) refl since target mine g
    ∙ ap (λ a. lesser_of (lesser_of a o) (known_by phase name k)) (sym is)
settled_cases firsts f k phase name o false h g since target =
    sym (ap (lesser_of (lesser_of (told_first firsts phase name) o)) (by_false phase name k g) ∙ lesser_of-none (lesser_of (told_first firsts phase name) o))

pub settled : (firsts others : List KnownName) (f k : KnownName) → find (λ (x : KnownName). bytes_eq k.name x.name) firsts ≡ Some f → f.since ≤ k.since → f.target ≤ k.target → (phase : ℕ) (name : List ℕ) → lesser_of (told_first firsts phase name) (first_known_by phase name others) ≡ lesser_of (lesser_of (told_first firsts phase name) (first_known_by phase name others)) (known_by phase name k)
settled firsts others f k h since target phase name = settled_cases firsts f k phase name (first_known_by phase name others) (bytes_eq name k.name) h refl since target

-- The entry at the place of a name is the one that is found by it.
pub at_name : (firsts : List Known) (names : List (List ℕ)) (name text : List ℕ) (place : Option ℕ) → names ≡ map (λ (f : KnownName). f.name) (map known_as firsts) → text ≡ name → place ≡ position (bytes_eq text) names → option_map known_as (option_and_then (slice_get firsts) place) ≡ find (λ (f : KnownName). bytes_eq name f.name) (map known_as firsts)
at_name firsts names name text place are e h =
    let by_names : place ≡ position (λ (f : KnownName). bytes_eq name f.name) (map known_as firsts) = h ∙ ap (λ t. position (bytes_eq t) names) e ∙ ap (position (bytes_eq name)) are ∙ position-map (bytes_eq name) (λ (f : KnownName). f.name) (map known_as firsts) in
    moved firsts place ∙ ap (option_and_then (slice_get (map known_as firsts))) by_names ∙ sym (find-position (λ (f : KnownName). bytes_eq name f.name) (map known_as firsts))
  where
    moved : (firsts : List Known) (place : Option ℕ) → option_map known_as (option_and_then (slice_get firsts) place) ≡ option_and_then (slice_get (map known_as firsts)) place
    moved firsts None = refl
    moved firsts (Some k) = sym (slice_get-map known_as firsts k)

-- The names with one more entry.
pub named_more : (firsts after : List Known) (names now : List (List ℕ)) (k : Known) → names ≡ map (λ (f : KnownName). f.name) (map known_as firsts) → find (λ (f : KnownName). bytes_eq k.name.now f.name) (map known_as firsts) ≡ None → now ≡ insert_key bytes_eq names k.name.now → after ≡ firsts ++ k ∷ [] → now ≡ map (λ (f : KnownName). f.name) (map known_as after)
named_more firsts after names now k are none e h =
    let new : list_any (bytes_eq k.name.now) names ≡ false = ap (list_any (bytes_eq k.name.now)) are ∙ any-map (bytes_eq k.name.now) (λ (f : KnownName). f.name) (map known_as firsts) ∙ none_any (λ (f : KnownName). bytes_eq k.name.now f.name) (map known_as firsts) none in
    e ∙ ap (λ b. cond b names (names ++ k.name.now ∷ [])) new ∙ ap (λ ns. ns ++ k.name.now ∷ []) are
    ∙ sym (ap (λ l. map (λ (f : KnownName). f.name) (map known_as l)) h ∙ ap (map (λ (f : KnownName). f.name)) (map-append known_as firsts (k ∷ [])) ∙ map-append (λ (f : KnownName). f.name) (map known_as firsts) (known_as k ∷ []))

pub told_next : (first : Option ℕ) (phase : ℕ) (name : List ℕ) (xs : List Known) (i : ℕ) (x : Known) (was now : Option ℕ) → i < length xs → x ≡ get_or xs i x → was ≡ lesser_of first (first_known_by phase name (map known_as (take i xs))) → now ≡ lesser_of was (known_by phase name (known_as x)) → now ≡ lesser_of first (first_known_by phase name (map known_as (take (i + 1) xs)))
told_next first phase name xs i x was now less r h e =
    e ∙ ap (λ o. lesser_of o (known_by phase name (known_as x))) h
    ∙ lesser_of-assoc first (first_known_by phase name (map known_as (take i xs))) (known_by phase name (known_as x))
    ∙ ap (lesser_of first) (sym (ap (λ l. first_known_by phase name (map known_as l)) (take_next xs i x less r) ∙ ap (first_known_by phase name) (map-append known_as (take i xs) (x ∷ [])) ∙ first_known_more phase name (map known_as (take i xs)) (known_as x)))
