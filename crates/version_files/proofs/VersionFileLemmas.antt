-- The object that the file of an ask names is the first that is known by the name.
use Rattle.std.proofs.Common.{◌≡◌, ◌∙◌, sym, ap, ap₂, refl, ℕ, zero, suc, ◌+◌, ◌-◌, ◌<◌, ◌≤◌, List, [], ◌∷◌, ◌++◌, Bool, true, false, cond, ◌&&◌, ◌||◌, ◌==◌, Option, Some, None, bytes_eq, filter, length, map, max, nat_le, take, zip, arith, inl, inr}
use Rattle.std.specs.List.{enumerate_from, find, flat_map, list_any}
use Rattle.std.specs.Option.{option_to_list}
use Rattle.std.proofs.lemmas.Bool.{and_parts, cases_lt, eqb-true, eq-eqb, ne_eqb, le-leb, lt-leb, leb-true, and_right}
use Rattle.std.proofs.lemmas.List.Folds.{list_any-append}
use Rattle.load_model.specs.LoadList.{is_named, up_to}
use Rattle.load_model.specs.Runs.{face_at}
use Rattle.load_model.specs.VersionCheck.{is_known_by, loaded_by, needs_to, phase_at, soname_in}
use Rattle.load_model.specs.declared.faces.Face.{Face}
use Rattle.load_model.specs.declared.runs.Run.{Run}
use Rattle.version_files.specs.Known.{KnownName, all_known, first_known_by, known_from, known_soname, needs_known, opens_known, sonames_known}
use Rattle.load_model.specs.LoadList.{lesser_of}
use Rattle.text_sets.proofs.FoundLemmas.{bytes_eq-sym}
use Rattle.version_files.proofs.LesserLemmas.{find-filter, find_alike, find_none, lesser_either, one_target}
use Rattle.text_sets.proofs.MappedLemmas.{any-map}

-- ---- lists and tests

or_false : (b : Bool) → (b || false) ≡ b
or_false true = refl
or_false false = refl

or_both : (a b c : Bool) → (a || (b || c)) ≡ ((a || b) || c)
or_both true b c = refl
or_both false b c = refl

and_or : (a b c : Bool) → ((a && b) || (a && c)) ≡ (a && (b || c))
and_or true b c = refl
and_or false b c = refl

any_flat : {X Y : Type 0} (q : Y → Bool) (g : X → List Y) (xs : List X) → list_any q (flat_map g xs) ≡ list_any (λ x. list_any q (g x)) xs
any_flat q g [] = refl
any_flat q g (x ∷ xs) = list_any-append q (g x) (flat_map g xs) ∙ ap (λ b. list_any q (g x) || b) (any_flat q g xs)

any_alike : {X : Type 0} (p q : X → Bool) (xs : List X) → ((x : X) → p x ≡ q x) → list_any p xs ≡ list_any q xs
any_alike p q [] h = refl
any_alike p q (x ∷ xs) h = ap₂ ◌||◌ (h x) (any_alike p q xs h)

any_and : {X : Type 0} (a : Bool) (q : X → Bool) (xs : List X) → list_any (λ x. a && q x) xs ≡ (a && list_any q xs)
any_and true q [] = refl
any_and false q [] = refl
any_and true q (x ∷ xs) = ap (λ b. q x || b) (any_and true q xs)
any_and false q (x ∷ xs) = any_and false q xs

any_kept : {X Y : Type 0} (t : X → Bool) (q : Y → Bool) (g : X → List Y) (xs : List X) → list_any q (flat_map g (filter t xs)) ≡ list_any (λ x. t x && list_any q (g x)) xs
any_kept t q g [] = refl
any_kept t q g (x ∷ xs) = kept (t x) t q g x xs (any_kept t q g xs)
  where
    kept : {X Y : Type 0} (b : Bool) (t : X → Bool) (q : Y → Bool) (g : X → List Y) (x : X) (xs : List X) → list_any q (flat_map g (filter t xs)) ≡ list_any (λ y. t y && list_any q (g y)) xs → list_any q (flat_map g (cond b (x ∷ filter t xs) (filter t xs))) ≡ ((b && list_any q (g x)) || list_any (λ y. t y && list_any q (g y)) xs)
    kept true t q g x xs h = list_any-append q (g x) (flat_map g (filter t xs)) ∙ ap (λ c. list_any q (g x) || c) h
    kept false t q g x xs h = h

-- A test of one number among all.
none_other : (r : ℕ → Bool) (j n : ℕ) → n ≤ j → list_any (λ i. (i == j) && r i) (up_to n) ≡ false
unfolding up_to
none_other r j zero h = refl
none_other r j (suc n) h =
    list_any-append (λ i. (i == j) && r i) (up_to n) (n ∷ [])
    ∙ ap₂ ◌||◌ (none_other r j n (omega arith)) (ap (λ b. (b && r n) || false) (ne_eqb n j (λ e. absurd (omega arith))))

any_number : (r : ℕ → Bool) (j n : ℕ) → j < n → list_any (λ i. (i == j) && r i) (up_to n) ≡ r j
unfolding up_to
any_number r j zero h = absurd (omega arith)
any_number r j (suc n) h =
    list_any-append (λ i. (i == j) && r i) (up_to n) (n ∷ []) ∙ elim (cases_lt j n) [
      | inl a ↦
          ap₂ (λ b c. b || c) (any_number r j n a) (ap (λ b. (b && r n) || false) (ne_eqb n j (λ e. absurd (omega arith))))
          ∙ or_false (r j)
      | inr a ↦
          let same : n ≡ j = omega arith in
          ap₂ (λ b c. b || c) (none_other r j n (omega arith)) (ap (λ b. (b && r n) || false) (eq-eqb n j same) ∙ or_false (r n)) ∙ ap r same
    ]

-- ---- one entry

-- The entry is one for this object by the name.
abbrev sees : ℕ → List ℕ → ℕ → KnownName → Bool
sees p name j k = (bytes_eq name k.name && nat_le k.since p) && (k.target == j)

max_le : (a b p : ℕ) → b ≤ p → nat_le (max a b) p ≡ nat_le a p
max_le a b p h =
    elim (cases_lt p a) [
      | inl e ↦ lt-leb (max a b) p (omega arith) ∙ sym (lt-leb a p e)
      | inr e ↦ le-leb (max a b) p (omega arith) ∙ sym (le-leb a p e)
    ]

swapped : (x y c : Bool) → ((x && y) && c) ≡ (y && (x && c))
swapped true true c = refl
swapped true false c = refl
swapped false true c = refl
swapped false false c = refl

request_seen : (run : Run) (p : ℕ) (name : List ℕ) (j phase : ℕ) (a : List ℕ × ℕ) (b : Bool) → phase_at run j ≤ p → (a.1 == j) ≡ b → sees p name j (known_from run phase a) ≡ (nat_le phase p && (bytes_eq a.0 name && (a.1 == j)))
request_seen run p name j phase a true loaded h =
    let same : a.1 ≡ j = eqb-true a.1 j h in
    let late : nat_le (max phase (phase_at run a.1)) p ≡ nat_le phase p = max_le phase (phase_at run a.1) p (let e = ap (phase_at run) same in omega arith) in
    ap₂ (λ x y. (x && y) && (a.1 == j)) (bytes_eq-sym name a.0) late ∙ swapped (bytes_eq a.0 name) (nat_le phase p) (a.1 == j)
request_seen run p name j phase a false loaded h =
    and_right (bytes_eq name a.0 && nat_le (max phase (phase_at run a.1)) p) (a.1 == j) h
    ∙ sym (and_right (nat_le phase p) (bytes_eq a.0 name && (a.1 == j)) (and_right (bytes_eq a.0 name) (a.1 == j) h))

soname_seen : (run : Run) (p : ℕ) (name : List ℕ) (j i : ℕ) (soname : Option (List ℕ)) (b : Bool) → phase_at run j ≤ p → (i == j) ≡ b → list_any (sees p name j) (map (known_soname run i) (option_to_list soname)) ≡ ((i == j) && is_named soname name)
soname_seen run p name j i None b loaded h = sym (and_right (i == j) false refl)
soname_seen run p name j i (Some s) true loaded h =
    let same : i ≡ j = eqb-true i j h in
    let early : nat_le (phase_at run i) p ≡ true = le-leb (phase_at run i) p (let e = ap (phase_at run) same in omega arith) in
    or_false ((bytes_eq name s && nat_le (phase_at run i) p) && (i == j))
    ∙ ap₂ (λ x y. (x && y) && (i == j)) (bytes_eq-sym name s) early ∙ swapped (bytes_eq s name) true (i == j)
    ∙ both_sides (bytes_eq s name) (i == j)
  where
    both_sides : (x c : Bool) → (true && (x && c)) ≡ (c && x)
    both_sides true true = refl
    both_sides true false = refl
    both_sides false true = refl
    both_sides false false = refl
soname_seen run p name j i (Some s) false loaded h =
    or_false ((bytes_eq name s && nat_le (phase_at run i) p) && (i == j))
    ∙ and_right (bytes_eq name s && nat_le (phase_at run i) p) (i == j) h ∙ sym (ap (λ c. c && bytes_eq s name) h)

-- ---- all entries

-- A request is of this name and went to this object.
abbrev asks_for : List ℕ → ℕ → (List ℕ × ℕ) → Bool
asks_for name j a = bytes_eq a.0 name && (a.1 == j)

opens_seen : (run : Run) (p : ℕ) (name : List ℕ) (j m : ℕ) (zs : List (List ℕ × ℕ)) → phase_at run j ≤ p → list_any (sees p name j) (map (λ numbered. known_from run (numbered.0 + 1) numbered.1) (enumerate_from m zs)) ≡ list_any (asks_for name j) (take (p - m) zs)
opens_seen run p name j m [] loaded = nothing (p - m)
  where
    nothing : (k : ℕ) → false ≡ list_any (asks_for name j) (take k [])
    nothing zero = refl
    nothing (suc k) = refl
opens_seen run p name j m (z ∷ zs) loaded =
    elim (cases_lt m p) [
      | inl e ↦
          let up : p - m ≡ suc (p - (m + 1)) = omega arith in
          let here : nat_le (m + 1) p ≡ true = le-leb (m + 1) p (omega arith) in
          ap₂ ◌||◌ (request_seen run p name j (m + 1) z (z.1 == j) loaded refl ∙ ap (λ b. b && asks_for name j z) here) (opens_seen run p name j (m + 1) zs loaded)
          ∙ sym (ap (λ k. list_any (asks_for name j) (take k (z ∷ zs))) up)
      | inr e ↦
          let up : p - m ≡ 0 = omega arith in
          let down : p - (m + 1) ≡ 0 = omega arith in
          let here : nat_le (m + 1) p ≡ false = lt-leb (m + 1) p (omega arith) in
          ap₂ ◌||◌ (request_seen run p name j (m + 1) z (z.1 == j) loaded refl ∙ ap (λ b. b && asks_for name j z) here) (opens_seen run p name j (m + 1) zs loaded ∙ ap (λ k. list_any (asks_for name j) (take k zs)) down)
          ∙ sym (ap (λ k. list_any (asks_for name j) (take k (z ∷ zs))) up)
    ]

needs_seen : (faces : List Face) (run : Run) (p : ℕ) (name : List ℕ) (j : ℕ) (xs : List ℕ) → phase_at run j ≤ p → list_any (sees p name j) (flat_map (needs_known faces run) xs) ≡ list_any (asks_for name j) (flat_map (needs_to faces run) (filter (λ i. nat_le (phase_at run i) p) xs))
needs_seen faces run p name j xs loaded =
    any_flat (sees p name j) (needs_known faces run) xs
    ∙ any_alike (λ i. list_any (sees p name j) (needs_known faces run i)) (λ i. nat_le (phase_at run i) p && list_any (asks_for name j) (needs_to faces run i)) xs
    (λ i. any-map (sees p name j) (known_from run (phase_at run i)) (needs_to faces run i)
    ∙ any_alike (λ a. sees p name j (known_from run (phase_at run i) a)) (λ a. nat_le (phase_at run i) p && asks_for name j a) (needs_to faces run i) (λ a. request_seen run p name j (phase_at run i) a (a.1 == j) loaded refl)
    ∙ any_and (nat_le (phase_at run i) p) (asks_for name j) (needs_to faces run i))
    ∙ sym (any_kept (λ i. nat_le (phase_at run i) p) (asks_for name j) (needs_to faces run) xs)

sonames_seen : (faces : List Face) (run : Run) (p : ℕ) (name : List ℕ) (j n : ℕ) → j < n → phase_at run j ≤ p → list_any (sees p name j) (flat_map (sonames_known faces run) (up_to n)) ≡ is_named (soname_in (face_at faces run j)) name
sonames_seen faces run p name j n less loaded =
    any_flat (sees p name j) (sonames_known faces run) (up_to n)
    ∙ any_alike (λ i. list_any (sees p name j) (sonames_known faces run i)) (λ i. (i == j) && is_named (soname_in (face_at faces run i)) name) (up_to n) (λ i. soname_seen run p name j i (soname_in (face_at faces run i)) (i == j) loaded refl)
    ∙ any_number (λ i. is_named (soname_in (face_at faces run i)) name) j n less

all_seen : (faces : List Face) (run : Run) (p : ℕ) (name : List ℕ) (j : ℕ) → j < length run.objs → phase_at run j ≤ p → list_any (sees p name j) (all_known faces run) ≡ is_known_by faces run p name j
unfolding all_known
all_seen faces run p name j less loaded =
    let n : ℕ = length run.objs in
    list_any-append (sees p name j) (flat_map (sonames_known faces run) (up_to n)) (flat_map (needs_known faces run) (up_to n) ++ opens_known run)
    ∙ ap₂ ◌||◌ (sonames_seen faces run p name j n less loaded)
    (list_any-append (sees p name j) (flat_map (needs_known faces run) (up_to n)) (opens_known run)
    ∙ ap₂ ◌||◌ (needs_seen faces run p name j (up_to n) loaded) (opens_seen run p name j 0 (zip run.opens run.roots) loaded ∙ ap (λ k. list_any (asks_for name j) (take k (zip run.opens run.roots))) (let e : p - 0 ≡ p = omega arith in e))
    ∙ sym (list_any-append (asks_for name j) (flat_map (needs_to faces run) (loaded_by run p)) (take p (zip run.opens run.roots))))

-- ---- the first of them

-- The entries name objects that are there, and loaded when the name is known.
pub record IsSound (run : Run) (k : KnownName) : Type 0 where
  pub within : k.target < length run.objs
  pub loaded : phase_at run k.target ≤ k.since

abbrev pub AllSound : Run → List KnownName → Type 0
AllSound run [] = Unit {0}
AllSound run (k ∷ ks) = IsSound run k × AllSound run ks

loaded_then : (run : Run) (p : ℕ) (name : List ℕ) (k : KnownName) → IsSound run k → (bytes_eq name k.name && nat_le k.since p) ≡ true → nat_le (phase_at run k.target) p ≡ true
loaded_then run p name k sound h =
    let early : k.since ≤ p = leb-true k.since p (and_parts (bytes_eq name k.name) (nat_le k.since p) h).1 in
    le-leb (phase_at run k.target) p (let l = sound.loaded in omega arith)

first_of_known : (run : Run) (p : ℕ) (name : List ℕ) (ks : List KnownName) → AllSound run ks → first_known_by p name ks ≡ find (λ j. nat_le (phase_at run j) p && list_any (sees p name j) ks) (up_to (length run.objs))
first_of_known run p name [] sound = sym (find_none (λ j. nat_le (phase_at run j) p && false) (length run.objs) (λ j less. and_right (nat_le (phase_at run j) p) false refl))
first_of_known run p name (k ∷ ks) sound =
    let n : ℕ = length run.objs in
    let b : Bool = bytes_eq name k.name && nat_le k.since p in
    ap₂ lesser_of (sym (one_target (λ j. nat_le (phase_at run j) p) b k.target n sound.0.within (loaded_then run p name k sound.0))) (first_of_known run p name ks sound.1)
    ∙ lesser_either (λ j. nat_le (phase_at run j) p && sees p name j k) (λ j. nat_le (phase_at run j) p && list_any (sees p name j) ks) n
    ∙ find_alike (λ j. (nat_le (phase_at run j) p && sees p name j k) || (nat_le (phase_at run j) p && list_any (sees p name j) ks)) (λ j. nat_le (phase_at run j) p && (sees p name j k || list_any (sees p name j) ks)) n (λ j less. and_or (nat_le (phase_at run j) p) (sees p name j k) (list_any (sees p name j) ks))

loaded_alike : (faces : List Face) (run : Run) (p : ℕ) (name : List ℕ) (j : ℕ) (b : Bool) → j < length run.objs → nat_le (phase_at run j) p ≡ b → (b && list_any (sees p name j) (all_known faces run)) ≡ (b && is_known_by faces run p name j)
loaded_alike faces run p name j true less h = all_seen faces run p name j less (leb-true (phase_at run j) p h)
loaded_alike faces run p name j false less h = refl

pub known_first : (faces : List Face) (run : Run) (p : ℕ) (name : List ℕ) → AllSound run (all_known faces run) → first_known_by p name (all_known faces run) ≡ find (is_known_by faces run p name) (loaded_by run p)
known_first faces run p name sound =
    first_of_known run p name (all_known faces run) sound
    ∙ find_alike (λ j. nat_le (phase_at run j) p && list_any (sees p name j) (all_known faces run)) (λ j. nat_le (phase_at run j) p && is_known_by faces run p name j) (length run.objs) (λ j less. loaded_alike faces run p name j (nat_le (phase_at run j) p) less refl)
    ∙ sym (find-filter (λ j. nat_le (phase_at run j) p) (is_known_by faces run p name) (up_to (length run.objs)))
