-- Names that are given one after the other.
use Rattle.std.proofs.Common.{◌≡◌, ◌∙◌, sym, ap, ap₂, refl, subst, ℕ, ◌+◌, ◌<◌, List, [], ◌∷◌, ◌++◌, true, false, ◌&&◌, not, Option, Some, None, inl, inr, length, slice_get, take, arith}
use Rattle.std.proofs.lemmas.Bool.{cases_lt}
use Rattle.std.proofs.lemmas.List.{length-append, take-append-le}
use Rattle.std.proofs.lemmas.Option.{slice_get-get_or, slice_get_within}
use Rattle.std.proofs.Math.Seq.{take-append_seam}
use Rattle.load_model.proofs.Counts.{slice_get_left}
use Rattle.load_model.specs.declared.faces.Face.{Face}
use Rattle.load_model.specs.declared.runs.Run.{Run}
use Rattle.listed_runs.specs.Fitting.{is_on_list}
use Rattle.lib_closure.specs.declared.splits.Member.{Member}
use Rattle.lib_closure.specs.declared.splits.Split.{Split}
use Rattle.name_layout.specs.Layouts.{AreNames, HasName, IsFirstFree, candidate_name, given_names, is_free, member_key, opened_name}
use Rattle.name_layout.specs.Sets.{HasNames}
use Rattle.name_layout.proofs.SetsLemmas.{any-sym}

-- The first libraries have their names.
pub record AreNamesBefore (faces : List Face) (runs : List Run) (split : Split) (names : List (List ℕ)) (i : ℕ) (layout : List (List ℕ)) : Type 0 where
  pub count : length layout ≡ i
  pub each : (k : ℕ) (lib : Member) (name : List ℕ) → slice_get split.libs k ≡ Some lib → slice_get layout k ≡ Some name → HasName faces runs split names (given_names runs split ++ take k layout) lib name (opened_name runs lib)

pub no_names : (faces : List Face) (runs : List Run) (split : Split) (names : List (List ℕ)) → AreNamesBefore faces runs split names 0 []
no_names faces runs split names = record { count = refl; each = λ k lib name l n. cc }

pub all_names : (faces : List Face) (runs : List Run) (split : Split) (names : List (List ℕ)) (i : ℕ) (layout : List (List ℕ)) → AreNamesBefore faces runs split names i layout → i ≡ length split.libs → AreNames faces runs split names layout
all_names faces runs split names i layout are h = record { count = are.count ∙ h; each = are.each }

last_name : (xs : List (List ℕ)) (x : List ℕ) → slice_get (xs ++ x ∷ []) (length xs) ≡ Some x
last_name [] x = refl
last_name (y ∷ ys) x = last_name ys x

pub next_name : (faces : List Face) (runs : List Run) (split : Split) (names : List (List ℕ)) (i : ℕ) (layout : List (List ℕ)) (lib : Member) (name : List ℕ) → AreNamesBefore faces runs split names i layout → slice_get split.libs i ≡ Some lib → HasName faces runs split names (given_names runs split ++ layout) lib name (opened_name runs lib) → AreNamesBefore faces runs split names (i + 1) (layout ++ name ∷ [])
next_name faces runs split names i layout lib name are here has = record {
  count = let size : length (layout ++ name ∷ []) ≡ length layout + 1 = length-append layout (name ∷ []) in let was = are.count in omega arith;
  each = λ k l n at_k got. elim (cases_lt k (length layout)) [
    | inl less ↦
        let read = slice_get-get_or layout k [] less in
        let same = sym (slice_get_left layout (name ∷ []) k _ read) ∙ got in
        subst (λ t. HasName faces runs split names (given_names runs split ++ t) l n (opened_name runs l)) (sym (take-append-le k layout (name ∷ []) (omega arith)))
        (are.each k l n at_k (read ∙ same))
    | inr past ↦
        let within : k < length (layout ++ name ∷ []) = slice_get_within (layout ++ name ∷ []) k n got in
        let size : length (layout ++ name ∷ []) ≡ length layout + 1 = length-append layout (name ∷ []) in
        let was = are.count in
        let last : k ≡ length layout = omega arith in
        let place : k ≡ i = omega arith in
        let one : Some lib ≡ Some l = sym here ∙ ap (slice_get split.libs) (sym place) ∙ at_k in
        let other : Some name ≡ Some n = sym (last_name layout name) ∙ ap (slice_get (layout ++ name ∷ [])) (sym last) ∙ got in
        let lib_is : lib ≡ l = cc in
        let name_is : name ≡ n = cc in
        let front : layout ≡ take k (layout ++ name ∷ []) = sym (ap (λ j. take j (layout ++ name ∷ [])) last ∙ take-append_seam layout (name ∷ [])) in
        subst (λ t. HasName faces runs split names (given_names runs split ++ t) l n (opened_name runs l)) front
        (subst (λ m. HasName faces runs split names (given_names runs split ++ layout) l m (opened_name runs l)) name_is
        (subst (λ m. HasName faces runs split names (given_names runs split ++ layout) m name (opened_name runs m)) lib_is has))
  ];
}

-- ---- sets in place of lists

alike : (set names : List (List ℕ)) → HasNames set names → (name : List ℕ) → is_on_list set name ≡ is_on_list names name
alike set names has name = sym (any-sym name set) ∙ has name

free_alike : (listed names taken texts : List (List ℕ)) → HasNames listed names → HasNames taken texts → (name : List ℕ) → is_free listed taken name ≡ is_free names texts name
free_alike listed names taken texts on has name = ap₂ (λ a b. not a && not b) (alike taken texts has name) (alike listed names on name)

first_alike : (listed names taken texts : List (List ℕ)) (key name : List ℕ) → HasNames listed names → HasNames taken texts → IsFirstFree listed taken key name → IsFirstFree names texts key name
first_alike listed names taken texts key name on has first = record {
  number = first.number;
  spelled = first.spelled;
  free = sym (free_alike listed names taken texts on has name) ∙ first.free;
  before = λ k less. sym (free_alike listed names taken texts on has (candidate_name key k)) ∙ first.before k less;
}

pub name_alike : (faces : List Face) (runs : List Run) (split : Split) (listed names taken texts : List (List ℕ)) (lib : Member) (name : List ℕ) (opened : Option (List ℕ)) → HasNames listed names → HasNames taken texts → HasName faces runs split listed taken lib name opened → HasName faces runs split names texts lib name opened
name_alike faces runs split listed names taken texts lib name None on has h = first_alike listed names taken texts (member_key faces lib) name on has h
name_alike faces runs split listed names taken texts lib name (Some opened) on has h = h

-- ---- candidates in order

-- One more candidate that is not free.
pub tried_more : (listed taken : List (List ℕ)) (key : List ℕ) (number : ℕ) → ((k : ℕ) → k < number → is_free listed taken (candidate_name key k) ≡ false) → is_free listed taken (candidate_name key number) ≡ false → (k : ℕ) → k < number + 1 → is_free listed taken (candidate_name key k) ≡ false
tried_more listed taken key number before here k less = elim (cases_lt k number) [
  | inl a ↦ before k a
  | inr a ↦ let same : number ≡ k = omega arith in ap (λ n. is_free listed taken (candidate_name key n)) (sym same) ∙ here
]

-- The first candidate that is free.
pub first_found : (listed taken : List (List ℕ)) (key name : List ℕ) (number : ℕ) → ((k : ℕ) → k < number → is_free listed taken (candidate_name key k) ≡ false) → name ≡ candidate_name key number → is_free listed taken name ≡ true → IsFirstFree listed taken key name
first_found listed taken key name number before e h = record { number = number; spelled = e; free = h; before = before }
