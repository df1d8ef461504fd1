-- Steps along a chain, and what a chain has in it
use Rattle.std.proofs.Common.{◌≡◌, ◌≢◌, ℕ, zero, suc, ◌+◌, ◌-◌, ◌/◌, ◌%◌, ◌<◌, ◌≤◌, ◌==◌, ◌||◌, ◌&&◌, not, Bool, true, false, cond, List, [], ◌∷◌, length, drop, take, refl, sym, ◌∙◌, arith}
use Rattle.std.specs.Prelude.{nat_lt, nat_le, slice_index}
use Rattle.std.specs.List.{list_any}
use Rattle.std.proofs.lemmas.Bool.Decides.{nat_tests}
use Rattle.std.proofs.lemmas.List.{drop_more, drop_all, get_or-drop, length-drop}
use Rattle.hash_lookup.specs.Chains.{first_of, gnu_chain, gnu_matches, chain_along, chain_at, sysv_chain, with_hash}
use Rattle.hash_lookup.specs.Finding.{found_in, is_among, nothing, with_symbol, Wish}
use Rattle.hash_lookup.specs.declared.finding.Found.{Found}
use Rattle.load_model.specs.GnuTable.{GnuTable, gnu_lists, is_in_run, is_last, passes_bloom}
use Rattle.load_model.specs.SysvTable.{SysvTable, chain, is_in_chain, sysv_lists}
use Rattle.load_model.specs.declared.symbols.Sym.{Sym}

-- what is left, from what was found and counted so far, comes to the same as the whole
pub record IsOnTheWay {X : Type 0} (find : Found → List ℕ → Found) (found : Found) (steps : ℕ) (left : List ℕ) (left_chain : List X) (start : Found) (first : ℕ) (whole : List ℕ) (chain : List X) : Type 0 where
  pub same : find found left ≡ find start whole
  pub counted : steps + length left_chain ≡ first + length chain

-- no symbol
abbrev none_of : List ℕ
none_of = []

-- one word on
one_run : (a k : ℕ) (words : List ℕ) → k < length words → chain_along (a + k) (drop k words) ≡ (a + k, slice_index words k) ∷ cond (is_last (slice_index words k)) [] (chain_along (a + (k + 1)) (drop (k + 1) words))
unfolding chain_along
one_run a k words h =
    let place : a + k + 1 ≡ a + (k + 1) = omega arith in
    rw (drop_more words k 0 h, place) refl

-- a symbol is noted, or it is not
noted : (w : Wish) (syms : List Sym) (f : Found) (i : ℕ) (rest : List ℕ) (b : Bool) → found_in w syms f (cond b (i ∷ rest) rest) ≡ found_in w syms (cond b (with_symbol w syms f i) f) rest
unfolding found_in
noted w syms f i rest true = refl
noted w syms f i rest false = refl

pub none_left : (w : Wish) (syms : List Sym) (f : Found) → found_in w syms f [] ≡ f
unfolding found_in
none_left w syms f = refl

-- along a chain of the GNU tools
pub gnu_step : (w : Wish) (syms : List Sym) (f g start : Found) (s t first hash a k : ℕ) (words whole : List ℕ) (met : List (ℕ × ℕ)) → k < length words → is_last (slice_index words k) ≡ false → g ≡ cond (slice_index words k / 2 == hash / 2) (with_symbol w syms f (a + k)) f → t ≡ s + 1 → IsOnTheWay (found_in w syms) f s (with_hash hash (chain_along (a + k) (drop k words))) (chain_along (a + k) (drop k words)) start first whole met → IsOnTheWay (found_in w syms) g t (with_hash hash (chain_along (a + (k + 1)) (drop (k + 1) words))) (chain_along (a + (k + 1)) (drop (k + 1) words)) start first whole met
unfolding with_hash
gnu_step w syms f g start s t first hash a k words whole met h more e n on =
    let rest = chain_along (a + (k + 1)) (drop (k + 1) words) in
    let one : List (ℕ × ℕ) = (a + k, slice_index words k) ∷ rest in
    let run_is : chain_along (a + k) (drop k words) ≡ one = one_run a k words h ∙ rw more refl in
    let same : found_in w syms f (with_hash hash one) ≡ found_in w syms start whole = rw run_is at on.same in
    let counted : s + length one ≡ first + length met = rw run_is at on.counted in
    record {
      same = rw e (sym (noted w syms f (a + k) (with_hash hash rest) (slice_index words k / 2 == hash / 2)) ∙ same);
      counted = omega (arith, counted);
    }

pub gnu_last : (w : Wish) (syms : List Sym) (f g start : Found) (s t first hash a k : ℕ) (words whole : List ℕ) (met : List (ℕ × ℕ)) → k < length words → is_last (slice_index words k) ≡ true → g ≡ cond (slice_index words k / 2 == hash / 2) (with_symbol w syms f (a + k)) f → t ≡ s + 1 → IsOnTheWay (found_in w syms) f s (with_hash hash (chain_along (a + k) (drop k words))) (chain_along (a + k) (drop k words)) start first whole met → (g ≡ found_in w syms start whole) × (t ≡ first + length met)
unfolding with_hash
gnu_last w syms f g start s t first hash a k words whole met h end e n on =
    let one : List (ℕ × ℕ) = (a + k, slice_index words k) ∷ [] in
    let run_is : chain_along (a + k) (drop k words) ≡ one = one_run a k words h ∙ rw end refl in
    let same : found_in w syms f (with_hash hash one) ≡ found_in w syms start whole = rw run_is at on.same in
    let counted : s + length one ≡ first + length met = rw run_is at on.counted in
    (e ∙ (sym (none_left w syms (cond (slice_index words k / 2 == hash / 2) (with_symbol w syms f (a + k)) f)) ∙ (sym (noted w syms f (a + k) [] (slice_index words k / 2 == hash / 2)) ∙ same)), omega (arith, counted))

pub gnu_done : (w : Wish) (syms : List Sym) (f start : Found) (s first hash a k : ℕ) (words whole : List ℕ) (met : List (ℕ × ℕ)) → length words ≤ k → IsOnTheWay (found_in w syms) f s (with_hash hash (chain_along (a + k) (drop k words))) (chain_along (a + k) (drop k words)) start first whole met → (f ≡ found_in w syms start whole) × (s ≡ first + length met)
unfolding chain_along with_hash
gnu_done w syms f start s first hash a k words whole met h on =
    let end : drop k words ≡ [] = drop_all k words h in
    let same : found_in w syms f (with_hash hash (chain_along (a + k) [])) ≡ found_in w syms start whole = rw end at on.same in
    let counted : s + length (chain_along (a + k) []) ≡ first + length met = rw end at on.counted in
    (sym (none_left w syms f) ∙ same, omega (arith, counted))

-- along a chain of the System V gABI
one_chain : (n at : ℕ) (chains : List ℕ) → 0 < n → at ≢ 0 → chain n chains at ≡ at ∷ chain (n - 1) chains (slice_index chains at)
unfolding chain
one_chain zero at chains h e = absurd (omega arith)
one_chain (suc n) at chains h e =
    let no : (at == 0) ≡ false = grind (arith, nat_tests) in
    let less : suc n - 1 ≡ n = omega arith in
    rw (no, less) refl

no_chain : (n : ℕ) (chains : List ℕ) → chain n chains 0 ≡ []
unfolding chain
no_chain zero chains = refl
no_chain (suc n) chains = refl

pub sysv_step : (w : Wish) (syms : List Sym) (f g start : Found) (s t first n at next : ℕ) (chains whole : List ℕ) → 0 < n → at ≢ 0 → next ≡ slice_index chains at → g ≡ with_symbol w syms f at → t ≡ s + 1 → IsOnTheWay (found_in w syms) f s (chain n chains at) (chain n chains at) start first whole whole → IsOnTheWay (found_in w syms) g t (chain (n - 1) chains next) (chain (n - 1) chains next) start first whole whole
sysv_step w syms f g start s t first n at next chains whole h z e m c on =
    let one : chain n chains at ≡ at ∷ chain (n - 1) chains (slice_index chains at) = one_chain n at chains h z in
    let same : found_in w syms f (at ∷ chain (n - 1) chains (slice_index chains at)) ≡ found_in w syms start whole = rw one at on.same in
    let counted : s + length (at ∷ chain (n - 1) chains (slice_index chains at)) ≡ first + length whole = rw one at on.counted in
    record {
      same = rw (e, m) (sym (noted w syms f at (chain (n - 1) chains (slice_index chains at)) true) ∙ same);
      counted = rw e (omega (arith, counted));
    }

pub sysv_end : (w : Wish) (syms : List Sym) (f start : Found) (s first n at : ℕ) (chains whole : List ℕ) → at ≡ 0 → IsOnTheWay (found_in w syms) f s (chain n chains at) (chain n chains at) start first whole whole → (f ≡ found_in w syms start whole) × (s ≡ first + length whole)
sysv_end w syms f start s first n at chains whole z on =
    let none : chain n chains at ≡ [] = rw z (no_chain n chains) in
    let same : found_in w syms f [] ≡ found_in w syms start whole = rw none at on.same in
    let counted : s + length none_of ≡ first + length whole = rw none at on.counted in
    (sym (none_left w syms f) ∙ same, omega (arith, counted))

pub sysv_done : (w : Wish) (syms : List Sym) (f start : Found) (s first n at : ℕ) (chains whole : List ℕ) → n ≡ 0 → IsOnTheWay (found_in w syms) f s (chain n chains at) (chain n chains at) start first whole whole → (f ≡ found_in w syms start whole) × (s ≡ first + length whole)
unfolding chain
sysv_done w syms f start s first n at chains whole z on =
    let none : chain n chains at ≡ [] = rw z refl in
    let same : found_in w syms f [] ≡ found_in w syms start whole = rw none at on.same in
    let counted : s + length none_of ≡ first + length whole = rw none at on.counted in
    (sym (none_left w syms f) ∙ same, omega (arith, counted))

-- what was noted where a word has the hash
pub has_hash : (a b : ℕ) (f g x m : Found) → a ≡ b → g ≡ x → x ≡ m → g ≡ cond (a == b) m f
has_hash a b f g x m e n o = let yes : (a == b) ≡ true = grind (arith, nat_tests) in rw yes (n ∙ o)

pub lacks_hash : (a b : ℕ) (f g m : Found) → a ≢ b → g ≡ f → g ≡ cond (a == b) m f
lacks_hash a b f g m e n = let no : (a == b) ≡ false = grind (arith, nat_tests) in rw no n

-- what is found along the chain of a bucket
pub filtered : (w : Wish) (syms : List Sym) (t : GnuTable) (hash : ℕ) → passes_bloom t hash ≡ false → found_in w syms nothing (gnu_matches t hash) ≡ nothing
unfolding gnu_matches
filtered w syms t hash e = rw e (none_left w syms nothing)

pub gnu_found : (w : Wish) (syms : List Sym) (t : GnuTable) (hash first : ℕ) (words : List ℕ) → passes_bloom t hash ≡ true → first ≡ first_of t.buckets hash → chain_along first words ≡ chain_at t first → found_in w syms nothing (with_hash hash (chain_along first words)) ≡ found_in w syms nothing (gnu_matches t hash)
unfolding gnu_matches gnu_chain
gnu_found w syms t hash first words p e r = rw (r, e, p) refl

pub gnu_cost : (t : GnuTable) (hash first : ℕ) (words : List ℕ) → first ≡ first_of t.buckets hash → chain_along first words ≡ chain_at t first → length (chain_along first words) ≡ length (gnu_chain t hash)
unfolding gnu_chain
gnu_cost t hash first words e r = rw (r, e) refl

-- a symbol that a table lists is among those whose names are compared
neither : (a b : Bool) → (a || b) ≡ false → (a ≡ false) × (b ≡ false)
neither true b e = absurd (cc)
neither false b e = (refl, e)

both : (a b : Bool) → (a && b) ≡ true → (a ≡ true) × (b ≡ true)
both true b e = (refl, e)
both false b e = absurd (cc)

negated : (b : Bool) → not b ≡ true → b ≡ false
negated true e = absurd (cc)
negated false e = refl

or_later : (a b : Bool) → b ≡ true → (a || b) ≡ true
or_later true b e = refl
or_later false b e = e

run_has : (hash a d : ℕ) (words : List ℕ) → d < length words → list_any is_last (take d words) ≡ false → (slice_index words d / 2 == hash / 2) ≡ true → is_among (a + d) (with_hash hash (chain_along a words)) ≡ true
unfolding chain_along with_hash
run_has hash a d [] h no_end same = absurd (omega arith)
run_has hash a zero (w ∷ words) h no_end same =
    let here : (a == a + 0) ≡ true = grind (arith, nat_tests) in
    rw (same, here) refl
run_has hash a (suc d) (w ∷ words) h no_end same =
    let parts = neither (is_last w) (list_any is_last (take d words)) no_end in
    let place : a + 1 + d ≡ a + suc d = omega arith in
    let later : is_among (a + suc d) (with_hash hash (chain_along (a + 1) words)) ≡ true = rw place at (run_has hash (a + 1) d words (omega arith) parts.1 same) in
    rw parts.0 (go (w / 2 == hash / 2) later)
  where
    go : (b : Bool) → is_among (a + suc d) (with_hash hash (chain_along (a + 1) words)) ≡ true → is_among (a + suc d) (cond b (a ∷ with_hash hash (chain_along (a + 1) words)) (with_hash hash (chain_along (a + 1) words))) ≡ true
    go true e = or_later (a == a + suc d) (is_among (a + suc d) (with_hash hash (chain_along (a + 1) words))) e
    go false e = e

pub gnu_among : (t : GnuTable) (hash i : ℕ) → gnu_lists t hash i ≡ true → is_among i (gnu_matches t hash) ≡ true
unfolding gnu_lists gnu_matches gnu_chain chain_at is_in_run first_of
gnu_among t hash i e =
    let first = slice_index t.buckets (hash % length t.buckets) in
    let passed = both (passes_bloom t hash) (is_in_run t.offset t.words first i && (slice_index t.words (i - t.offset) / 2 == hash / 2)) e in
    let inside = both (is_in_run t.offset t.words first i) (slice_index t.words (i - t.offset) / 2 == hash / 2) passed.1 in
    let some = both (not (first == 0)) (nat_le t.offset first && (nat_le first i && (nat_lt i (t.offset + length t.words) && not (list_any is_last (take (i - first) (drop (first - t.offset) t.words)))))) inside.0 in
    let low = both (nat_le t.offset first) (nat_le first i && (nat_lt i (t.offset + length t.words) && not (list_any is_last (take (i - first) (drop (first - t.offset) t.words))))) some.1 in
    let behind = both (nat_le first i) (nat_lt i (t.offset + length t.words) && not (list_any is_last (take (i - first) (drop (first - t.offset) t.words)))) low.1 in
    let ends = both (nat_lt i (t.offset + length t.words)) (not (list_any is_last (take (i - first) (drop (first - t.offset) t.words)))) behind.1 in
    let zero_not : (first == 0) ≡ false = negated (first == 0) some.0 in
    let offset_le : t.offset ≤ first = grind (arith, nat_tests) in
    let first_le : first ≤ i = grind (arith, nat_tests) in
    let end_lt : i < t.offset + length t.words = grind (arith, nat_tests) in
    let not_below : nat_lt first t.offset ≡ false = grind (arith, nat_tests) in
    let long : i - first < length (drop (first - t.offset) t.words) = omega (arith, length-drop (first - t.offset) t.words) in
    let place : first - t.offset + (i - first) ≡ i - t.offset = omega arith in
    let word : slice_index (drop (first - t.offset) t.words) (i - first) ≡ slice_index t.words (i - t.offset) = get_or-drop (first - t.offset) t.words (i - first) 0 ∙ rw place refl in
    let index : first + (i - first) ≡ i = omega arith in
    let found : is_among (first + (i - first)) (with_hash hash (chain_along first (drop (first - t.offset) t.words))) ≡ true = run_has hash first (i - first) (drop (first - t.offset) t.words) long (negated (list_any is_last (take (i - first) (drop (first - t.offset) t.words))) ends.1) (rw word inside.1) in
    rw (passed.0, zero_not, not_below) (rw index at found)

run_above : (hash a : ℕ) (words : List ℕ) → a ≢ 0 → is_among 0 (with_hash hash (chain_along a words)) ≡ false
unfolding chain_along with_hash
run_above hash a [] z = refl
run_above hash a (w ∷ words) z =
    let here : (a == 0) ≡ false = grind (arith, nat_tests) in
    let later : is_among 0 (with_hash hash (chain_along (a + 1) words)) ≡ false = run_above hash (a + 1) words (λ e. omega arith) in
    go here later (is_last w) (w / 2 == hash / 2)
  where
    go : (a == 0) ≡ false → is_among 0 (with_hash hash (chain_along (a + 1) words)) ≡ false → (l b : Bool) → is_among 0 (cond b (a ∷ with_hash hash (cond l [] (chain_along (a + 1) words))) (with_hash hash (cond l [] (chain_along (a + 1) words)))) ≡ false
    go here later true true = rw here refl
    go here later true false = refl
    go here later false true = rw here later
    go here later false false = later

pub gnu_no_zero : (t : GnuTable) (hash : ℕ) → is_among 0 (gnu_matches t hash) ≡ false
unfolding gnu_matches gnu_chain chain_at with_hash
gnu_no_zero t hash = go (passes_bloom t hash) (first_of t.buckets hash == 0) refl (nat_lt (first_of t.buckets hash) t.offset)
  where
    go : (p z : Bool) → (first_of t.buckets hash == 0) ≡ z → (l : Bool) → is_among 0 (cond p (with_hash hash (cond (z || l) [] (chain_along (first_of t.buckets hash) (drop (first_of t.buckets hash - t.offset) t.words)))) []) ≡ false
    go false z e l = refl
    go true true e l = refl
    go true false e true = refl
    go true false e false = run_above hash (first_of t.buckets hash) (drop (first_of t.buckets hash - t.offset) t.words) (grind (arith, nat_tests))

pub sysv_among : (t : SysvTable) (hash i : ℕ) → sysv_lists t hash i ≡ true → is_among i (sysv_chain t hash) ≡ true
unfolding sysv_lists is_in_chain sysv_chain first_of
sysv_among t hash i e = e

chain_no_zero : (n : ℕ) (chains : List ℕ) (at : ℕ) → is_among 0 (chain n chains at) ≡ false
unfolding chain
chain_no_zero zero chains at = refl
chain_no_zero (suc n) chains at = go (at == 0) refl (chain_no_zero n chains (slice_index chains at))
  where
    go : (b : Bool) → (at == 0) ≡ b → is_among 0 (chain n chains (slice_index chains at)) ≡ false → is_among 0 (cond b [] (at ∷ chain n chains (slice_index chains at))) ≡ false
    go true e later = refl
    go false e later = rw e later

pub sysv_no_zero : (t : SysvTable) (hash : ℕ) → is_among 0 (sysv_chain t hash) ≡ false
unfolding sysv_chain
sysv_no_zero t hash = chain_no_zero (length t.chains) t.chains (first_of t.buckets hash)
