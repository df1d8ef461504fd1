-- From which candidate on keys are tried.
use Rattle.std.proofs.Common.{◌≡◌, ◌∙◌, sym, ap, refl, ℕ, zero, suc, ◌+◌, ◌<◌, List, [], ◌∷◌, ◌++◌, Bool, true, false, cond, not, ◌&&◌, ◌||◌, Option, Some, None, inl, inr, bytes_eq, get_or, length, slice_get, arith}
use Rattle.std.proofs.Math.ListN.{length-set, set}
use Rattle.std.specs.List.{list_any, position}
use Rattle.std.specs.Option.{option_and_then, option_or}
use Rattle.std.proofs.lemmas.Bool.{cases_lt}
use Rattle.std.proofs.lemmas.List.{length-append}
use Rattle.std.proofs.lemmas.List.Folds.{list_any-append}
use Rattle.std.proofs.lemmas.List.Quantifiers.{position-Some}
use Rattle.std.proofs.lemmas.Option.{slice_get-get_or, slice_get_read}
use Rattle.indexmap.specs.IndexSet.{insert_key}
use Rattle.load_model.proofs.Counts.{slice_get_left}
use Rattle.load_model.proofs.TwoWorlds.{same_bytes}
use Rattle.listed_runs.specs.Fitting.{is_on_list}
use Rattle.text_sets.proofs.FoundLemmas.{none_any, position_within}
use Rattle.text_sets.proofs.MappedLemmas.{find-position}
use Rattle.name_layout.specs.Layouts.{candidate_name, is_free}
use Rattle.name_layout.specs.Taken.{AreTried}
use Rattle.name_layout.specs.declared.taken.Taken.{Taken}
use Rattle.name_layout.proofs.PlacesLemmas.{last_got, position_more}
use Rattle.name_layout.proofs.SetsLemmas.{any-sym, names_more}

-- ---- a name is taken

not_more : (a b d : Bool) → (not a && not d) ≡ false → (not (a || b) && not d) ≡ false
not_more true b d h = refl
not_more false true d h = refl
not_more false false d h = h

still_taken : (listed names now : List (List ℕ)) (x name : List ℕ) → now ≡ insert_key bytes_eq names x → is_free listed names name ≡ false → is_free listed now name ≡ false
still_taken listed names now x name e h =
    let grown : is_on_list now name ≡ (is_on_list names name || is_on_list (x ∷ []) name) =
    sym (any-sym name now) ∙ names_more names names now x (λ n. any-sym n names) e name ∙ list_any-append (λ n. bytes_eq n name) names (x ∷ []) in
    ap (λ b. not b && not (is_on_list listed name)) grown
    ∙ not_more (is_on_list names name) (is_on_list (x ∷ []) name) (is_on_list listed name) h

pub tried_after : (listed : List (List ℕ)) (before now : Taken) (x : List ℕ) → AreTried listed before → now.keys ≡ before.keys → now.starts.items ≡ before.starts.items → now.names ≡ insert_key bytes_eq before.names x → AreTried listed now
tried_after listed before now x t keys starts names = record {
  size = ap length starts ∙ t.size ∙ sym (ap length keys);
  tried = λ key place start at got k less. still_taken listed before.names now.names x (candidate_name key k) names
      (t.tried key place start (ap (position (bytes_eq key)) (sym keys) ∙ at) (ap (λ s. slice_get s place) (sym starts) ∙ got) k less);
}

-- ---- a key is tried for the first time

new_by : (listed : List (List ℕ)) (before : Taken) (key other : List ℕ) (number place start k : ℕ) (o : Option ℕ) (b : Bool) → AreTried listed before → ((k : ℕ) → k < number → is_free listed before.names (candidate_name key k) ≡ false) → position (bytes_eq other) before.keys ≡ o → bytes_eq other key ≡ b → option_or o (cond b (Some (length before.keys)) None) ≡ Some place → slice_get (before.starts.items ++ number ∷ []) place ≡ Some start → k < start → is_free listed before.names (candidate_name other k) ≡ false
new_by listed before key other number place start k (Some p) b t fresh at same e got less =
    let is : p ≡ place = cc in
    let within : p < length before.keys = position_within (bytes_eq other) before.keys p at in
    let size = t.size in
    let read : slice_get before.starts.items p ≡ Some (get_or before.starts.items p 0) = slice_get-get_or before.starts.items p 0 (omega arith) in
    let left : slice_get (before.starts.items ++ number ∷ []) p ≡ Some (get_or before.starts.items p 0) = slice_get_left before.starts.items (number ∷ []) p (get_or before.starts.items p 0) read in
    t.tried other p start at (read ∙ sym left ∙ ap (slice_get (before.starts.items ++ number ∷ [])) is ∙ got) k less
new_by listed before key other number place start k None true t fresh at same e got less =
    let is : length before.keys ≡ place = cc in
    let last : slice_get (before.starts.items ++ number ∷ []) place ≡ Some number = ap (slice_get (before.starts.items ++ number ∷ [])) (sym is ∙ sym t.size) ∙ last_got before.starts.items number in
    let one : Some number ≡ Some start = sym last ∙ got in
    let same_start : number ≡ start = cc in
    ap (λ text. is_free listed before.names (candidate_name text k)) (same_bytes other key same) ∙ fresh k (omega arith)
new_by listed before key other number place start k None false t fresh at same e got less = cc

pub tried_new : (listed : List (List ℕ)) (before now : Taken) (key : List ℕ) (number : ℕ) → AreTried listed before → position (bytes_eq key) before.keys ≡ None → now.keys ≡ insert_key bytes_eq before.keys key → now.starts.items ≡ before.starts.items ++ number ∷ [] → now.names ≡ before.names → ((k : ℕ) → k < number → is_free listed before.names (candidate_name key k) ≡ false) → AreTried listed now
tried_new listed before now key number t none keys starts names fresh =
    let new : list_any (bytes_eq key) before.keys ≡ false = none_any (bytes_eq key) before.keys (find-position (bytes_eq key) before.keys ∙ ap (option_and_then (slice_get before.keys)) none) in
    let joined : now.keys ≡ before.keys ++ key ∷ [] = keys ∙ ap (λ b. cond b before.keys (before.keys ++ key ∷ [])) new in
    let was = t.size in record {
      size = let one : length now.starts.items ≡ length before.starts.items + 1 = ap length starts ∙ length-append before.starts.items (number ∷ []) in let other : length now.keys ≡ length before.keys + 1 = ap length joined ∙ length-append before.keys (key ∷ []) in omega arith;
      tried = λ other place start at got k less.
          ap (λ ns. is_free listed ns (candidate_name other k)) names
          ∙ new_by listed before key other number place start k (position (bytes_eq other) before.keys) (bytes_eq other key) t fresh refl refl
          (sym (position_more (bytes_eq other) before.keys key) ∙ ap (position (bytes_eq other)) (sym joined) ∙ at)
          (ap (λ s. slice_get s place) (sym starts) ∙ got) less;
    }

-- ---- a key is tried again

set_here : (xs : List ℕ) (i v : ℕ) → i < length xs → slice_get (set xs i v) i ≡ Some v
set_here [] i v h = absurd (omega arith)
set_here (x ∷ xs) zero v h = refl
set_here (x ∷ xs) (suc i) v h = set_here xs i v (omega arith)

set_other : (xs : List ℕ) (i j v : ℕ) → (i ≡ j → ⊥) → slice_get (set xs i v) j ≡ slice_get xs j
set_other [] i j v n = refl
set_other (x ∷ xs) zero zero v n = absurd (n refl)
set_other (x ∷ xs) zero (suc j) v n = refl
set_other (x ∷ xs) (suc i) zero v n = refl
set_other (x ∷ xs) (suc i) (suc j) v n = set_other xs i j v (λ e. n (ap suc e))

-- The candidates before its start are not free.
pub start_read : (listed : List (List ℕ)) (taken : Taken) (key : List ℕ) (place start : ℕ) → AreTried listed taken → position (bytes_eq key) taken.keys ≡ Some place → start ≡ get_or taken.starts.items place start → (k : ℕ) → k < start → is_free listed taken.names (candidate_name key k) ≡ false
start_read listed taken key place start t h r =
    let within : place < length taken.keys = position_within (bytes_eq key) taken.keys place h in
    let size = t.size in
    t.tried key place start h (slice_get_read taken.starts.items (length taken.starts.items) place start refl (omega arith) r)

-- Two keys of one place are one.
one_key : (keys : List (List ℕ)) (key other : List ℕ) (place : ℕ) → position (bytes_eq key) keys ≡ Some place → position (bytes_eq other) keys ≡ Some place → other ≡ key
one_key keys key other place h g =
    same_bytes other (get_or keys place []) (position-Some (bytes_eq other) keys place [] g).1
    ∙ sym (same_bytes key (get_or keys place []) (position-Some (bytes_eq key) keys place [] h).1)

again_here : (listed : List (List ℕ)) (before : Taken) (key other : List ℕ) (number place p start k : ℕ) → AreTried listed before → ((k : ℕ) → k < number → is_free listed before.names (candidate_name key k) ≡ false) → position (bytes_eq key) before.keys ≡ Some place → p ≡ place → position (bytes_eq other) before.keys ≡ Some p → slice_get (set before.starts.items place number) p ≡ Some start → k < start → is_free listed before.names (candidate_name other k) ≡ false
again_here listed before key other number place p start k t fresh h same at got less =
    let within : place < length before.keys = position_within (bytes_eq key) before.keys place h in
    let size = t.size in
    let one : Some number ≡ Some start = sym (set_here before.starts.items place number (omega arith)) ∙ ap (slice_get (set before.starts.items place number)) (sym same) ∙ got in
    let same_start : number ≡ start = cc in
    ap (λ text. is_free listed before.names (candidate_name text k)) (one_key before.keys key other place h (at ∙ ap Some same)) ∙ fresh k (omega arith)

again_there : (listed : List (List ℕ)) (before : Taken) (other : List ℕ) (number place p start k : ℕ) → AreTried listed before → (place ≡ p → ⊥) → position (bytes_eq other) before.keys ≡ Some p → slice_get (set before.starts.items place number) p ≡ Some start → k < start → is_free listed before.names (candidate_name other k) ≡ false
again_there listed before other number place p start k t apart at got less =
    t.tried other p start at (sym (set_other before.starts.items place p number apart) ∙ got) k less

pub tried_again : (listed : List (List ℕ)) (before now : Taken) (key : List ℕ) (number place : ℕ) → AreTried listed before → position (bytes_eq key) before.keys ≡ Some place → now.keys ≡ before.keys → now.starts.items ≡ set before.starts.items place number → now.names ≡ before.names → ((k : ℕ) → k < number → is_free listed before.names (candidate_name key k) ≡ false) → AreTried listed now
tried_again listed before now key number place t h keys starts names fresh = record {
  size = ap length starts ∙ length-set before.starts.items place number ∙ t.size ∙ sym (ap length keys);
  tried = λ other p start at got k less.
      let at_before : position (bytes_eq other) before.keys ≡ Some p = ap (position (bytes_eq other)) (sym keys) ∙ at in
      let got_set : slice_get (set before.starts.items place number) p ≡ Some start = ap (λ s. slice_get s p) (sym starts) ∙ got in
      ap (λ ns. is_free listed ns (candidate_name other k)) names
      ∙ elim (cases_lt p place) [
        | inl low ↦ again_there listed before other number place p start k t (λ e. omega arith) at_before got_set less
        | inr high ↦ elim (cases_lt place p) [
          | inl up ↦ again_there listed before other number place p start k t (λ e. omega arith) at_before got_set less
          | inr down ↦ again_here listed before key other number place p start k t fresh h (omega arith) at_before got_set less
        ]
      ];
}
