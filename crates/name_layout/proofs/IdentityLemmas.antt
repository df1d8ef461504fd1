-- The libraries of a split have distinct identities.
use Rattle.std.proofs.Common.{◌≡◌, ◌∙◌, sym, ap, refl, subst, ℕ, zero, suc, ◌<◌, List, [], ◌∷◌, ◌++◌, Bool, true, false, cond, Option, Some, None, bytes_eq, get_or, length, map, slice_get, arith}
use Rattle.std.specs.Prelude.{AllPairs, Ok}
use Rattle.std.specs.List.{list_any}
use Rattle.std.specs.Option.{option_map}
use Rattle.std.proofs.lemmas.List.Folds.{list_any_at}
use Rattle.std.proofs.lemmas.List.Kept.{AllPairs-filter}
use Rattle.std.proofs.lemmas.List.Quantifiers.{all_pairs_push}
use Rattle.std.proofs.lemmas.Option.{get_or_from_slice_get, slice_get-map, slice_get_within}
use Rattle.answers.specs.First.{first_some, value_unless}
use Rattle.load_model.specs.declared.faces.Face.{Face}
use Rattle.load_model.specs.declared.runs.Run.{Run}
use Rattle.text_sets.proofs.FoundLemmas.{bytes_eq-sym}
use Rattle.lib_closure.specs.Clashes.{kinds_in_order}
use Rattle.lib_closure.specs.Kinds.{is_bundled}
use Rattle.lib_closure.specs.Objects.{Occurrence, all_objects, each_first, first_places, has_id, with_object}
use Rattle.lib_closure.specs.Splits.{bundled_of, member_of, parts_of_build, split_of}
use Rattle.lib_closure.specs.declared.splits.Member.{Member}
use Rattle.lib_closure.specs.declared.splits.Split.{Split}
use Rattle.lib_closure.specs.declared.stops.ClosureStop.{ClosureStop}

-- The two have other identities.
abbrev AreOthers : Occurrence → Occurrence → Type 0
AreOthers a b = bytes_eq a.obj.id b.obj.id ≡ false

-- ---- objects at their first places

missed : (o p : Occurrence) (os : List Occurrence) (k : ℕ) (b : Bool) → k < length os → list_any (has_id o.obj.id) os ≡ false → get_or os k p ≡ p → bytes_eq o.obj.id p.obj.id ≡ b → AreOthers p o
missed o p os k true less none at e =
    let there : list_any (has_id o.obj.id) os ≡ true = list_any_at (has_id o.obj.id) os k p less (ap (has_id o.obj.id) at ∙ e) in cc
missed o p os k false less none at e = bytes_eq-sym p.obj.id o.obj.id ∙ e

-- What is read within a list is the same whatever stands for what is past it.
any_default : (os : List Occurrence) (k : ℕ) (d e : Occurrence) → k < length os → get_or os k d ≡ get_or os k e
any_default [] k d e less = absurd (omega arith)
any_default (o ∷ os) zero d e less = refl
any_default (o ∷ os) (suc k) d e less = any_default os k d e (omega arith)

with_one : (os : List Occurrence) (o : Occurrence) (b : Bool) → AllPairs AreOthers os → list_any (has_id o.obj.id) os ≡ b → AllPairs AreOthers (cond b os (os ++ o ∷ []))
with_one os o true apart e = apart
with_one os o false apart e =
    all_pairs_push AreOthers os o apart
    (λ k d less. missed o (get_or os k d) os k (bytes_eq o.obj.id (get_or os k d).obj.id) less e (any_default os k (get_or os k d) d less) refl)

firsts_apart : (os more : List Occurrence) → AllPairs AreOthers os → AllPairs AreOthers (each_first os more)
unfolding each_first
firsts_apart os [] apart = apart
firsts_apart os (o ∷ more) apart = firsts_apart (with_object os o) more (with_one os o (list_any (has_id o.obj.id) os) apart refl)

-- ---- libraries

bundled_apart : (faces : List Face) (runs : List Run) (names : List (List ℕ)) → AllPairs AreOthers (bundled_of faces runs names)
bundled_apart faces runs names =
    AllPairs-filter AreOthers (is_bundled faces runs names) (first_places faces runs)
    (firsts_apart [] (all_objects faces runs) (λ i j d lt within. absurd (omega arith)))

mapped_at : (os : List Occurrence) (i : ℕ) (a : Member) (found : Option Occurrence) → slice_get os i ≡ found → slice_get (map member_of os) i ≡ Some a → (o : Occurrence) × (slice_get os i ≡ Some o) × (member_of o ≡ a)
mapped_at os i a None at got =
    absurd (let none : slice_get (map member_of os) i ≡ None = slice_get-map member_of os i ∙ ap (option_map member_of) at in let clash : Some a ≡ None = sym got ∙ none in cc)
mapped_at os i a (Some o) at got =
    (o, at, let both : Some (member_of o) ≡ Some a = sym (slice_get-map member_of os i ∙ ap (option_map member_of) at) ∙ got in cc)

pair_apart : (os : List Occurrence) (i j : ℕ) (o p : Occurrence) → AllPairs AreOthers os → i < j → slice_get os i ≡ Some o → slice_get os j ≡ Some p → AreOthers o p
pair_apart os i j o p apart less at_i at_j =
    let others = apart i j o less (slice_get_within os j p at_j) in
    let first : get_or os i o ≡ o = get_or_from_slice_get os i o o at_i in
    let second : get_or os j o ≡ p = get_or_from_slice_get os j p o at_j in
    subst (λ q. AreOthers o q) second (subst (λ q. AreOthers q (get_or os j o)) first others)

members_apart : (os : List Occurrence) → AllPairs AreOthers os → (i j : ℕ) (a b : Member) → i < j → slice_get (map member_of os) i ≡ Some a → slice_get (map member_of os) j ≡ Some b → bytes_eq a.id b.id ≡ false
members_apart os apart i j a b less at_i at_j =
    let one = mapped_at os i a (slice_get os i) refl at_i in
    let other = mapped_at os j b (slice_get os j) refl at_j in
    sym (ap (λ (m : Member). bytes_eq m.id b.id) one.2) ∙ sym (ap (λ (m : Member). bytes_eq one.0.obj.id m.id) other.2) ∙ pair_apart os i j one.0 other.0 apart less one.1 other.1

parts_are : (fault : Option ClosureStop) (parts split : Split) → value_unless fault parts ≡ Ok split → parts ≡ split
parts_are None parts split h = cc
parts_are (Some fault) parts split h = cc

libs_are : (faces : List Face) (runs : List Run) (names : List (List ℕ)) (split : Split) → split_of faces runs names ≡ Ok split → split.libs ≡ map member_of (bundled_of faces runs names)
unfolding split_of parts_of_build
libs_are faces runs names split h =
    sym (ap (λ (s : Split). s.libs) (parts_are (first_some (kinds_in_order faces runs names)) (parts_of_build faces runs names) split h))

-- Two bundled libraries of a split have two identities.
pub libs_apart : (faces : List Face) (runs : List Run) (names : List (List ℕ)) (split : Split) → split_of faces runs names ≡ Ok split → (i j : ℕ) (a b : Member) → i < j → slice_get split.libs i ≡ Some a → slice_get split.libs j ≡ Some b → bytes_eq a.id b.id ≡ false
libs_apart faces runs names split h i j a b less at_i at_j =
    let e = libs_are faces runs names split h in
    members_apart (bundled_of faces runs names) (bundled_apart faces runs names) i j a b less
    (sym (ap (λ ls. slice_get ls i) e) ∙ at_i) (sym (ap (λ ls. slice_get ls j) e) ∙ at_j)
