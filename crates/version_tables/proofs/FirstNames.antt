-- Where names are noted one after another, each index has its first.
use Rattle.std.proofs.Common.{◌≡◌, ◌≢◌, ℕ, ◌<◌, ◌==◌, Bool, true, false, cond, List, [], ◌∷◌, ◌++◌, Option, Some, None, length, get_or, set, map, refl, sym, ◌∙◌, arith, append_assoc, get_or-set_other, get_or-set_same, length-set}
use Rattle.std.specs.Prelude.{is_some}
use Rattle.std.specs.List.{find, range_with_len}
use Rattle.std.specs.Option.{option_map}
use Rattle.std.proofs.lemmas.Bool.Decides.{nat_tests}
use Rattle.std.proofs.lemmas.List.{append-nil, get_or_default}
use Rattle.std.proofs.lemmas.List.FromFn.{get_or-map-range_with_len, length-map-range_with_len}
use Rattle.std.proofs.lemmas.List.Sums.{fold-append}
use Rattle.load_model.specs.VersionTables.{place_by}
use Rattle.version_tables.specs.Indexes.{AreFirst, all_noted, noted, place_in}

-- of names in a row, the first that has the index
pub place_by_more : (index i n : ℕ) (names : List (ℕ × ℕ)) → place_by index (names ++ (i, n) ∷ []) ≡ cond (is_some (place_by index names)) (place_by index names) (cond (i == index) (Some n) None)
place_by_more index i n [] = go (i == index)
  where
    go : (b : Bool) → option_map (λ (x : ℕ × ℕ). x.1) (cond b (Some (i, n)) None) ≡ cond b (Some n) None
    go true = refl
    go false = refl
place_by_more index i n (x ∷ names) = go (x.0 == index) (place_by_more index i n names)
  where
    go : (b : Bool) → place_by index (names ++ (i, n) ∷ []) ≡ cond (is_some (place_by index names)) (place_by index names) (cond (i == index) (Some n) None) →
        option_map (λ (x : ℕ × ℕ). x.1) (cond b (Some x) (find (λ (x : ℕ × ℕ). x.0 == index) (names ++ (i, n) ∷ []))) ≡
        cond (is_some (option_map (λ (x : ℕ × ℕ). x.1) (cond b (Some x) (find (λ (x : ℕ × ℕ). x.0 == index) names)))) (option_map (λ (x : ℕ × ℕ). x.1) (cond b (Some x) (find (λ (x : ℕ × ℕ). x.0 == index) names))) (cond (i == index) (Some n) None)
    go true e = refl
    go false e = e

length_noted : (places : List (Option ℕ)) (name : ℕ × ℕ) → length (noted places name) ≡ length places
unfolding noted
length_noted places name = go (is_some (get_or places name.0 (Some 0)))
  where
    go : (b : Bool) → length (cond b places (set places name.0 (Some name.1))) ≡ length places
    go true = refl
    go false = length-set places name.0 (Some name.1)

or_none : (p : Option ℕ) → p ≡ cond (is_some p) p None
or_none None = refl
or_none (Some x) = refl

-- a name is noted where its index has none
noted_place : (places : List (Option ℕ)) (i n index : ℕ) (p : Option ℕ) → index < length places → get_or places index None ≡ p → get_or (noted places (i, n)) index None ≡ cond (is_some p) p (cond (i == index) (Some n) None)
unfolding noted
noted_place places i n index p h e = go (get_or places i (Some 0)) refl (i == index) refl
  where
    same : (i == index) ≡ true → i ≡ index
    same t = grind (arith, nat_tests)

    other : (i == index) ≡ false → index ≢ i
    other t = grind (arith, nat_tests)

    here : (o : Option ℕ) → get_or places i (Some 0) ≡ o → i ≡ index → o ≡ p
    here o k s =
        let at : get_or places index (Some 0) ≡ o = rw s at k in
        let default : get_or places index (Some 0) ≡ get_or places index None = get_or_default places index (Some 0) None h in
        sym at ∙ (default ∙ e)

    there : p ≡ None → get_or (set places index (Some n)) index None ≡ cond (is_some p) p (Some n)
    there none = get_or-set_same places index (Some n) None h ∙ rw none refl

    go : (o : Option ℕ) → get_or places i (Some 0) ≡ o → (b : Bool) → (i == index) ≡ b → get_or (cond (is_some o) places (set places i (Some n))) index None ≡ cond (is_some p) p (cond b (Some n) None)
    go (Some x) k true t =
        let some : Some x ≡ p = here (Some x) k (same t) in
        e ∙ rw (← some) refl
    go (Some x) k false t = e ∙ or_none p
    go None k true t =
        let none : p ≡ None = sym (here None k (same t)) in
        rw (same t) (there none)
    go None k false t = get_or-set_other places i index (Some n) None (other t) ∙ (e ∙ or_none p)

-- all names, behind those before
all_first : (size : ℕ) (names before : List (ℕ × ℕ)) (places : List (Option ℕ)) → length places ≡ size → AreFirst size places before → AreFirst size (all_noted places names) (before ++ names)
unfolding place_in
all_first size [] before places len f = rw append-nil f
all_first size ((i, n) ∷ names) before places len f =
    let more : AreFirst size (noted places (i, n)) (before ++ (i, n) ∷ []) = record {
      each = λ index h.
          noted_place places i n index (place_by index before) (omega (arith, len)) (f.each index h) ∙ sym (place_by_more index i n before);
    } in
    let rest : AreFirst size (all_noted (noted places (i, n)) names) ((before ++ (i, n) ∷ []) ++ names) = all_first size names (before ++ (i, n) ∷ []) (noted places (i, n)) (length_noted places (i, n) ∙ len) more in
    rw append_assoc at rest

no_names : (size : ℕ) → AreFirst size (map (λ (i : ℕ). None) (range_with_len 0 size)) []
unfolding place_in
no_names size = record { each = λ index h. get_or-map-range_with_len (λ (i : ℕ). None) 0 size index index None h (omega arith) }

pub first_names : (size : ℕ) (none middle places : List (Option ℕ)) (first later : List (ℕ × ℕ)) → none ≡ map (λ (i : ℕ). None) (range_with_len 0 size) → middle ≡ all_noted none first → places ≡ all_noted middle later → AreFirst size places (first ++ later)
first_names size none middle places first later n m e =
    let start : List (Option ℕ) = map (λ (i : ℕ). None) (range_with_len 0 size) in
    let joined : all_noted start (first ++ later) ≡ places = rw (e, m, n) (fold-append noted start first later) in
    let all : AreFirst size (all_noted start (first ++ later)) (first ++ later) = all_first size (first ++ later) [] start (length-map-range_with_len (λ (i : ℕ). None) 0 size) (no_names size) in
    rw joined at all
