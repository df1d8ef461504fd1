-- Tables of first places.
use Rattle.std.proofs.Common.{◌≡◌, ◌∙◌, sym, ap, ap₂, refl, subst, ℕ, ◌+◌, ◌<◌, ◌≤◌, ◌==◌, List, [], ◌∷◌, ◌++◌, Bool, true, false, cond, Option, Some, None, Bor, inl, inr, bytes_eq, get_or, length, map, slice_get, take, arith}
use Rattle.std.specs.Prelude.{nat_lt, not}
use Rattle.std.specs.List.{find, list_any, position, position_or_len}
use Rattle.std.specs.Option.{option_and_then, option_map, option_or}
use Rattle.std.specs.Slice.{IsGetResult}
use Rattle.std.proofs.lemmas.Bool.{both_ways, cases_lt, eq-eqb, ne_eqb}
use Rattle.std.proofs.lemmas.Bool.Decides.{nat_tests}
use Rattle.std.proofs.lemmas.List.{map-append, length-append, take_all}
use Rattle.std.proofs.lemmas.List.Folds.{position_or_len_push}
use Rattle.std.proofs.lemmas.List.Sums.{prefix_len-le-length}
use Rattle.std.proofs.lemmas.Option.{slice_get-get_or, slice_get-map, slice_get_past, slice_get_read}
use Rattle.indexmap.specs.IndexSet.{insert_key}
use Rattle.load_model.proofs.Counts.{slice_get_left}
use Rattle.load_model.proofs.TwoWorlds.{same_bytes}
use Rattle.text_sets.proofs.FoundLemmas.{none_any, position_within}
use Rattle.text_sets.proofs.MappedLemmas.{find-position, position-map}
use Rattle.version_files.proofs.TakenLemmas.{take_next}
use Rattle.name_layout.specs.Sets.{HasPlaces, place_kept}
use Rattle.name_layout.specs.declared.places.Places.{Places}

-- What stands at the place of a key is the first that has it.
pub found_at : {X : Type 0} (f : X → List ℕ) (xs : List X) (places : Places) (key : List ℕ) (place : Option ℕ) → HasPlaces places (map f xs) → place ≡ place_kept places key → option_and_then (slice_get xs) place ≡ find (λ x. bytes_eq key (f x)) xs
found_at f xs places key place has h =
    ap (option_and_then (slice_get xs)) (h ∙ has.each key ∙ position-map (bytes_eq key) f xs)
    ∙ sym (find-position (λ x. bytes_eq key (f x)) xs)

-- The same of elements that are seen through a function.
pub found_through : {W X : Type 0} (v : W → X) (f : X → List ℕ) (ws : List W) (xs : List X) (places : Places) (key : List ℕ) (place : Option ℕ) → map v ws ≡ xs → HasPlaces places (map f xs) → place ≡ place_kept places key → option_map v (option_and_then (slice_get ws) place) ≡ find (λ x. bytes_eq key (f x)) xs
found_through v f ws xs places key place e has h =
    moved place ∙ ap (λ l. option_and_then (slice_get l) place) e ∙ found_at f xs places key place has h
  where
    moved : (place : Option ℕ) → option_map v (option_and_then (slice_get ws) place) ≡ option_and_then (slice_get (map v ws)) place
    moved None = refl
    moved (Some k) = sym (slice_get-map v ws k)

-- What `get` gives, as it is there.
pub got_now : {X : Type 0} (xs : List X) (i : ℕ) (r : Option (Bor X)) → IsGetResult xs i i r → option_map (λ (b : Bor X). b.now) r ≡ slice_get xs i
got_now xs i None h = sym (slice_get_past xs i h.3)
got_now xs i (Some x) h = sym (slice_get_read xs (length xs) i x.now refl h.3.0 h.1)

-- The key of the next element of a list.
pub places_next : {X : Type 0} (f : X → List ℕ) (xs : List X) (i : ℕ) (x : X) (places now : Places) (text : List ℕ) → i < length xs → x ≡ get_or xs i x → HasPlaces places (map f (take i xs)) → text ≡ f x → ((names : List (List ℕ)) → HasPlaces places names → HasPlaces now (names ++ text ∷ [])) → HasPlaces now (map f (take (i + 1) xs))
places_next f xs i x places now text less r has e h =
    let all : map f (take i xs) ++ text ∷ [] ≡ map f (take (i + 1) xs) = ap (λ t. map f (take i xs) ++ t ∷ []) e ∙ sym (ap (map f) (take_next xs i x less r) ∙ map-append f (take i xs) (x ∷ [])) in
    subst (HasPlaces now) all (h (map f (take i xs)) has)

-- The keys of all elements.
pub places_all : {X : Type 0} (f : X → List ℕ) (xs : List X) (i : ℕ) (places : Places) → length xs ≤ i → HasPlaces places (map f (take i xs)) → HasPlaces places (map f xs)
places_all f xs i places h has = subst (HasPlaces places) (ap (map f) (take_all i xs h)) has

pub map_through : {X Y Z : Type 0} (v : X → Y) (f : Y → Z) (xs : List X) → map (λ x. f (v x)) xs ≡ map f (map v xs)
map_through v f [] = refl
map_through v f (x ∷ xs) = ap (λ l. f (v x) ∷ l) (map_through v f xs)

-- ---- one more name

is_less : (a b : ℕ) → a < b → nat_lt a b ≡ true
is_less a b h = grind (arith, nat_tests)

no_less : (a b : ℕ) → b ≤ a → nat_lt a b ≡ false
no_less a b h = grind (arith, nat_tests)

-- It stood before the end, or it may stand there now.
stood : (n l m k : ℕ) (r : Option ℕ) → m ≡ n → k ≡ l + 1 → n < l → cond (nat_lt m k) (Some m) None ≡ option_or (cond (nat_lt n l) (Some n) None) r
stood n l m k r e g less =
    ap (λ c. cond c (Some m) None) (is_less m k (omega arith)) ∙ ap Some e
    ∙ sym (ap (λ c. option_or (cond c (Some n) None) r) (is_less n l less))

stands : (n l m k : ℕ) (b : Bool) → m ≡ l + cond b 0 1 → k ≡ l + 1 → l ≤ n → cond (nat_lt m k) (Some m) None ≡ option_or (cond (nat_lt n l) (Some n) None) (cond b (Some l) None)
stands n l m k true e g past =
    let same : m ≡ l = omega arith in
    ap (λ c. cond c (Some m) None) (is_less m k (omega arith)) ∙ ap Some same
    ∙ sym (ap (λ c. option_or (cond c (Some n) None) (Some l)) (no_less n l past))
stands n l m k false e g past =
    let up : m ≡ l + 1 = omega arith in
    ap (λ c. cond c (Some m) None) (no_less m k (omega arith))
    ∙ sym (ap (λ c. option_or (cond c (Some n) None) None) (no_less n l past))

by_numbers : (n l m k : ℕ) (b : Bool) → m ≡ cond (n == l) (l + cond b 0 1) n → k ≡ l + 1 → n ≤ l → cond (nat_lt m k) (Some m) None ≡ option_or (cond (nat_lt n l) (Some n) None) (cond b (Some l) None)
by_numbers n l m k b e g h = elim (cases_lt n l) [
  | inl less ↦ stood n l m k (cond b (Some l) None) (e ∙ ap (λ c. cond c (l + cond b 0 1) n) (ne_eqb n l (λ same. absurd (omega arith)))) g less
  | inr past ↦ stands n l m k b (e ∙ ap (λ c. cond c (l + cond b 0 1) n) (eq-eqb n l (omega arith))) g past
]

pub position_more : {X : Type 0} (p : X → Bool) (xs : List X) (y : X) → position p (xs ++ y ∷ []) ≡ option_or (position p xs) (cond (p y) (Some (length xs)) None)
position_more p xs y =
    by_numbers (position_or_len p xs) (length xs) (position_or_len p (xs ++ y ∷ [])) (length (xs ++ y ∷ [])) (p y) (position_or_len_push p xs y) (length-append xs (y ∷ [])) (prefix_len-le-length (λ x. not (p x)) xs)

-- ---- a name that is there

or_none : (o : Option ℕ) → option_or o None ≡ o
or_none None = refl
or_none (Some k) = refl

unknown_by : (places : Places) (name : List ℕ) (o : Option ℕ) → length places.firsts.items ≡ length places.names → position (bytes_eq name) places.names ≡ o → option_and_then (slice_get places.firsts.items) o ≡ None → list_any (bytes_eq name) places.names ≡ false
unknown_by places name None size h g = none_any (bytes_eq name) places.names (find-position (bytes_eq name) places.names ∙ ap (option_and_then (slice_get places.names)) h)
unknown_by places name (Some k) size h g =
    let less : k < length places.names = position_within (bytes_eq name) places.names k h in
    let read : slice_get places.firsts.items k ≡ Some (get_or places.firsts.items k 0) = slice_get-get_or places.firsts.items k 0 (omega arith) in
    cc

-- A name without a place is none of the set.
unknown : (places : Places) (names : List (List ℕ)) (name : List ℕ) → HasPlaces places names → position (bytes_eq name) names ≡ None → list_any (bytes_eq name) places.names ≡ false
unknown places names name has h = unknown_by places name (position (bytes_eq name) places.names) has.size refl (has.each name ∙ h)

stays_by : (places : Places) (names : List (List ℕ)) (name : List ℕ) (o r : Option ℕ) → HasPlaces places names → list_any (bytes_eq name) places.names ≡ true → position (bytes_eq name) names ≡ o → option_or o r ≡ o
stays_by places names name (Some k) r has there h = refl
stays_by places names name None r has there h = absurd (both_ways (list_any (bytes_eq name) places.names) (unknown places names name has h) there)

stays : (places : Places) (names : List (List ℕ)) (name text : List ℕ) (b : Bool) → HasPlaces places names → list_any (bytes_eq text) places.names ≡ true → bytes_eq name text ≡ b → option_or (position (bytes_eq name) names) (cond b (Some (length names)) None) ≡ position (bytes_eq name) names
stays places names name text false has there h = or_none (position (bytes_eq name) names)
stays places names name text true has there h =
    stays_by places names name (position (bytes_eq name) names) (Some (length names)) has (ap (λ t. list_any (bytes_eq t) places.names) (same_bytes name text h) ∙ there) refl

-- Its first place stays.
pub place_stays : (before now : Places) (text : List ℕ) → list_any (bytes_eq text) before.names ≡ true → now.names ≡ before.names → now.firsts.items ≡ before.firsts.items → now.count ≡ before.count + 1 → (names : List (List ℕ)) → HasPlaces before names → HasPlaces now (names ++ text ∷ [])
place_stays before now text there set firsts count names has = record {
  each = λ name. ap₂ (λ fs ns. option_and_then (slice_get fs) (position (bytes_eq name) ns)) firsts set ∙ has.each name
      ∙ sym (position_more (bytes_eq name) names text ∙ stays before names name text (bytes_eq name text) has there refl);
  count = let size : length (names ++ text ∷ []) ≡ length names + 1 = length-append names (text ∷ []) in let was = has.count in omega arith;
  size = ap length firsts ∙ has.size ∙ sym (ap length set);
}

-- ---- a new name

pub last_got : (fs : List ℕ) (c : ℕ) → slice_get (fs ++ c ∷ []) (length fs) ≡ Some c
last_got [] c = refl
last_got (f ∷ fs) c = last_got fs c

added_by : (fs : List ℕ) (c size len : ℕ) (o w : Option ℕ) (b : Bool) → size ≡ length fs → c ≡ len → ((k : ℕ) → o ≡ Some k → k < length fs) → option_and_then (slice_get fs) o ≡ w → option_and_then (slice_get (fs ++ c ∷ [])) (option_or o (cond b (Some size) None)) ≡ option_or w (cond b (Some len) None)
added_by fs c size len (Some k) w b s e within h =
    let read : slice_get fs k ≡ Some (get_or fs k 0) = slice_get-get_or fs k 0 (within k refl) in
    slice_get_left fs (c ∷ []) k (get_or fs k 0) read ∙ ap (λ r. option_or r (cond b (Some len) None)) (sym read ∙ h)
added_by fs c size len None w true s e within h =
    ap (slice_get (fs ++ c ∷ [])) s ∙ last_got fs c ∙ ap Some e ∙ ap (λ r. option_or r (Some len)) h
added_by fs c size len None w false s e within h = ap (λ r. option_or r None) h

-- It has the next place.
pub place_added : (before now : Places) (text : List ℕ) → list_any (bytes_eq text) before.names ≡ false → now.names ≡ insert_key bytes_eq before.names text → now.firsts.items ≡ before.firsts.items ++ before.count ∷ [] → now.count ≡ before.count + 1 → (names : List (List ℕ)) → HasPlaces before names → HasPlaces now (names ++ text ∷ [])
place_added before now text new set firsts count names has =
    let joined : now.names ≡ before.names ++ text ∷ [] = set ∙ ap (λ b. cond b before.names (before.names ++ text ∷ [])) new in
    let sizes = has.size in
    let was = has.count in record {
      each = λ name. ap₂ (λ fs ns. option_and_then (slice_get fs) (position (bytes_eq name) ns)) firsts joined
          ∙ ap (option_and_then (slice_get (before.firsts.items ++ before.count ∷ []))) (position_more (bytes_eq name) before.names text)
          ∙ added_by before.firsts.items before.count (length before.names) (length names) (position (bytes_eq name) before.names) (position (bytes_eq name) names) (bytes_eq name text) (sym sizes) was
          (λ k h. let less : k < length before.names = position_within (bytes_eq name) before.names k h in omega arith) (has.each name)
          ∙ sym (position_more (bytes_eq name) names text);
      count = let size : length (names ++ text ∷ []) ≡ length names + 1 = length-append names (text ∷ []) in omega arith;
      size = let one : length now.firsts.items ≡ length before.firsts.items + 1 = ap length firsts ∙ length-append before.firsts.items (before.count ∷ []) in let other : length now.names ≡ length before.names + 1 = ap length joined ∙ length-append before.names (text ∷ []) in omega arith;
    }
