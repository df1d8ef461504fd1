-- Objects that are kept at their first places.
use Rattle.std.proofs.Common.{◌≡◌, ◌∙◌, sym, ap, refl, ℕ, ◌+◌, ◌<◌, ◌≤◌, List, [], ◌∷◌, ◌++◌, Bool, true, false, cond, Option, Some, None, bytes_eq, drop, get_or, length, map, slice_get}
use Rattle.std.specs.List.{find, list_any, position}
use Rattle.std.specs.Option.{option_and_then, option_map}
use Rattle.std.proofs.lemmas.List.{map-append}
use Rattle.std.proofs.lemmas.Option.{slice_get-map}
use Rattle.indexmap.specs.IndexSet.{insert_key}
use Rattle.lib_closure.specs.Firsts.{AreFirsts}
use Rattle.lib_closure.specs.Objects.{Occurrence, each_first, has_id, with_object}
use Rattle.lib_closure.specs.Seen.{standing}
use Rattle.lib_closure.specs.declared.firsts.Firsts.{Firsts}
use Rattle.lib_closure.specs.declared.seen.Seen.{Seen}
use Rattle.text_sets.proofs.MappedLemmas.{any-map, find-position, position-map}
use Rattle.lib_closure.proofs.PlaceLemmas.{drop_all, drop_read}

same_any : (firsts : Firsts) → AreFirsts firsts (map standing firsts.seen.items) → (id : List ℕ) → list_any (bytes_eq id) firsts.ids ≡ list_any (has_id id) (map standing firsts.seen.items)
same_any firsts are id = ap (list_any (bytes_eq id)) are.ids ∙ any-map (bytes_eq id) (λ (o : Occurrence). o.obj.id) (map standing firsts.seen.items)

same_with : (os more : List Occurrence) (o : Occurrence) (b : Bool) → list_any (has_id o.obj.id) os ≡ b → cond b os (os ++ o ∷ []) ≡ with_object os o
same_with os more o b h = ap (λ c. cond c os (os ++ o ∷ [])) (sym h)

-- An object that is there is not added.
pub kept : (firsts : Firsts) (o : Occurrence) → AreFirsts firsts (map standing firsts.seen.items) → list_any (bytes_eq o.obj.id) firsts.ids ≡ true → AreFirsts firsts (with_object (map standing firsts.seen.items) o)
kept firsts o are h =
    let os : List Occurrence = map standing firsts.seen.items in
    let e : os ≡ with_object os o = same_with os os o true (sym (same_any firsts are o.obj.id) ∙ h) in
    record { seen = are.seen ∙ e; ids = are.ids ∙ ap (map (λ (x : Occurrence). x.obj.id)) e }

-- Another one is.
pub joined : (before after : Firsts) (seen : Seen) → AreFirsts before (map standing before.seen.items) → list_any (bytes_eq seen.obj.now.id) before.ids ≡ false → after.seen.items ≡ before.seen.items ++ seen ∷ [] → after.ids ≡ insert_key bytes_eq before.ids seen.obj.now.id → AreFirsts after (with_object (map standing before.seen.items) (standing seen))
joined before after seen are h pushed added =
    let os : List Occurrence = map standing before.seen.items in
    let o : Occurrence = standing seen in
    let e : os ++ o ∷ [] ≡ with_object os o = same_with os os o false (sym (same_any before are o.obj.id) ∙ h) in
    let grown : after.ids ≡ before.ids ++ o.obj.id ∷ [] = added ∙ ap (λ b. cond b before.ids (before.ids ++ o.obj.id ∷ [])) h in
    let ids : after.ids ≡ map (λ (x : Occurrence). x.obj.id) (os ++ o ∷ []) = grown ∙ ap (λ xs. xs ++ o.obj.id ∷ []) are.ids ∙ sym (map-append (λ (x : Occurrence). x.obj.id) os (o ∷ [])) in
    let seen_are : map standing after.seen.items ≡ os ++ o ∷ [] = ap (map standing) pushed ∙ map-append standing before.seen.items (seen ∷ []) in
    record { seen = seen_are ∙ e; ids = ids ∙ ap (map (λ (x : Occurrence). x.obj.id)) e }

-- The object at the place of an identity is the one that is found by it.
pub at_place : (firsts : Firsts) (id : List ℕ) (place : Option ℕ) → AreFirsts firsts (map standing firsts.seen.items) → place ≡ position (bytes_eq id) firsts.ids → option_map standing (option_and_then (slice_get firsts.seen.items) place) ≡ find (has_id id) (map standing firsts.seen.items)
at_place firsts id place are h =
    let os : List Occurrence = map standing firsts.seen.items in
    let by_ids : place ≡ position (has_id id) os = h ∙ ap (position (bytes_eq id)) are.ids ∙ position-map (bytes_eq id) (λ (o : Occurrence). o.obj.id) os in
    moved firsts place ∙ ap (option_and_then (slice_get os)) by_ids ∙ sym (find-position (has_id id) os)
  where
    moved : (firsts : Firsts) (place : Option ℕ) → option_map standing (option_and_then (slice_get firsts.seen.items) place) ≡ option_and_then (slice_get (map standing firsts.seen.items)) place
    moved firsts None = refl
    moved firsts (Some k) = sym (slice_get-map standing firsts.seen.items k)

-- The next of some objects.
pub first_step : (os : List Occurrence) (xs : List Seen) (i : ℕ) (x : Seen) (next : List Occurrence) → i < length xs → x ≡ get_or xs i x → next ≡ with_object os (standing x) → each_first next (map standing (drop (i + 1) xs)) ≡ each_first os (map standing (drop i xs))
unfolding each_first
first_step os xs i x next less h e =
    ap (λ k. each_first k (map standing (drop (i + 1) xs))) e
    ∙ sym (ap (λ ys. each_first os (map standing ys)) (drop_read xs i x less h))

pub first_end : (os : List Occurrence) (xs : List Seen) (i : ℕ) → length xs ≤ i → each_first os (map standing (drop i xs)) ≡ os
unfolding each_first
first_end os xs i h = ap (λ ys. each_first os (map standing ys)) (drop_all xs i h)

-- Objects that are kept are those of the code.
pub own : (firsts : Firsts) (os : List Occurrence) → AreFirsts firsts os → AreFirsts firsts (map standing firsts.seen.items)
own firsts os are = record { seen = refl; ids = are.ids ∙ ap (map (λ (x : Occurrence). x.obj.id)) (sym are.seen) }
