-- One entry more
use Rattle.std.proofs.Common.{◌≡◌, ℕ, zero, suc, ◌+◌, ◌-◌, ◌≤◌, ◌<◌, List, [], ◌∷◌, ◌++◌, length, drop, arith, refl, sym, ap, ◌∙◌, append_assoc, append-nil, length-append}
use Rattle.std.specs.Prelude.{replicate}
use Rattle.std.proofs.lemmas.List.{drop-drop}
use Rattle.byte_view.specs.declared.constants.TheConstants.{DT_NULL}
use Rattle.byte_view.specs.declared.dynamic.Entry.{Entry}
use Rattle.byte_view.specs.Dynamic.{tagged}
use Rattle.elf_rewrite.specs.Rewriting.{padded_entries}

one_less : (n m : ℕ) (e : Entry) → n ≡ suc m → replicate n e ≡ e ∷ replicate m e
one_less n m e h = rw h refl

pub padded_more : (capacity : ℕ) (xs : List Entry) → length xs < capacity → padded_entries capacity (xs ++ tagged DT_NULL 0 ∷ []) ≡ padded_entries capacity xs
padded_more capacity xs h =
    let long : length (xs ++ tagged DT_NULL 0 ∷ []) ≡ length xs + 1 = length-append xs (tagged DT_NULL 0 ∷ []) in
    let less : capacity - length xs ≡ suc (capacity - (length xs + 1)) = omega arith in
    rw (long, append_assoc) (ap (λ l. xs ++ l) (sym (one_less (capacity - length xs) (capacity - (length xs + 1)) (tagged DT_NULL 0) less)))

pub padded_full : (capacity : ℕ) (xs : List Entry) → capacity ≤ length xs → padded_entries capacity xs ≡ xs
padded_full capacity xs h =
    let none : capacity - length xs ≡ 0 = omega arith in
    rw none (append-nil xs)

pub next_need : (turn place : ℕ) (needs : List ℕ) → drop (turn + 1) needs ≡ drop 1 (drop turn needs)
next_need turn place needs = ap (λ n. drop n needs) (omega arith) ∙ sym (drop-drop 1 turn needs)

all_dropped : (needs : List ℕ) (turn : ℕ) → length needs ≤ turn → drop turn needs ≡ []
all_dropped [] zero h = refl
all_dropped [] (suc turn) h = refl
all_dropped (x ∷ xs) zero h = absurd (omega arith)
all_dropped (x ∷ xs) (suc turn) h = all_dropped xs turn (omega arith)

pub no_need : (turn : ℕ) (needs : List ℕ) → length needs ≤ turn → drop turn needs ≡ drop 1 (drop turn needs)
no_need turn needs h = let none = all_dropped needs turn h in rw none refl
