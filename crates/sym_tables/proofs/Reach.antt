-- How far the chain words of a GNU hash table reach.
use Rattle.std.proofs.Common.{◌≡◌, ℕ, zero, suc, ◌+◌, ◌-◌, ◌*◌, ◌<◌, ◌≤◌, Bool, true, false, cond, List, [], ◌∷◌, Option, Some, None, is_some, length, max, ◌≢◌, ◌==◌, ◌||◌, ◌&&◌, sym, ap, ◌∙◌, refl, arith}
use Rattle.std.specs.Prelude.{nat_le}
use Rattle.std.specs.List.{fold, find, list_all, range_with_len}
use Rattle.std.specs.Option.{option_map}
use Rattle.std.proofs.lemmas.Bool.Decides.{nat_tests}
use Rattle.byte_view.specs.Memory.{range_in}
use Rattle.byte_view.specs.Numbers.{number_at}
use Rattle.byte_view.specs.Sound.{IsReadFrom}
use Rattle.byte_view.specs.declared.segments.Segment.{Segment}
use Rattle.byte_view.proofs.Ranges.{IsRead}
use Rattle.load_model.specs.GnuTable.{chain_word, chains_from, gnu_buckets, gnu_place, gnu_reach, greatest, has_end, is_last, last_from, symoffset}
use Rattle.load_model.specs.TableWords.{word_in}
use Rattle.sym_tables.specs.Places.{HasNoReach, IsFrontOf, IsReachOf}
use Rattle.sym_tables.specs.declared.gnu_front.Front.{Front}
use Rattle.sym_tables.proofs.Backing.{none_longer, range_there, word_there}

-- more than the file has is not backed
pub too_long : (segments : List Segment) (file : List ℕ) (addr len : ℕ) → IsReadFrom segments file → length file < len → is_some (range_in segments addr len) ≡ false
too_long segments file addr len r h = go (range_in segments addr len) refl
  where
    go : (o : Option (ℕ × ℕ)) → range_in segments addr len ≡ o → is_some o ≡ false
    go None e = refl
    go (Some range) e =
        let read : IsRead file segments addr len range = range_there segments file addr len range r e in
        absurd (omega (arith, read.ends, read.within))

no_range : (o : Option (ℕ × ℕ)) → is_some o ≡ false → o ≡ None
no_range None e = refl
no_range (Some range) e = absurd (cc)

either : (b : Bool) → (b || true) ≡ true
either true = refl
either false = refl

nothing : (a b : Bool) → b ≡ false → (a && b) ≡ false
nothing true b e = e
nothing false b e = refl

shorter : (segments : List Segment) (addr len more : ℕ) → 0 < len → len ≤ more → is_some (range_in segments addr more) ≡ true → is_some (range_in segments addr len) ≡ true
shorter segments addr len more p h e = go (range_in segments addr len) refl
  where
    go : (o : Option (ℕ × ℕ)) → range_in segments addr len ≡ o → is_some o ≡ true
    go (Some range) f = refl
    go None f = absurd (let none : range_in segments addr more ≡ None = none_longer segments addr len more p h f in let no : is_some (range_in segments addr more) ≡ false = rw none refl in cc)

-- the first of some numbers that passes, moved up
find_low : (p : ℕ → Bool) (a m i : ℕ) → find p (range_with_len a m) ≡ Some i → a ≤ i
find_low p a zero i e = absurd (cc)
find_low p a (suc m) i e = go (p a) (find_low p (a + 1) m i) e
  where
    go : (b : Bool) → (find p (range_with_len (a + 1) m) ≡ Some i → a + 1 ≤ i) → cond b (Some a) (find p (range_with_len (a + 1) m)) ≡ Some i → a ≤ i
    go true later e = let same : a ≡ i = cc in omega arith
    go false later e = omega (arith, later e)

abbrev AreAlike : (ℕ → Bool) → (ℕ → Bool) → ℕ → ℕ → ℕ → Type 0
AreAlike p q offset b n = (i : ℕ) → b ≤ i → i < b + n → p (offset + i) ≡ q i

rest_alike : (p q : ℕ → Bool) (offset b n : ℕ) → AreAlike p q offset b (suc n) → AreAlike p q offset (b + 1) n
rest_alike p q offset b n alike = λ i l h. alike i (omega arith) (omega arith)

find_moved : (p q : ℕ → Bool) (offset a b n m k : ℕ) → a ≡ offset + b → n ≤ m → AreAlike p q offset b n → find q (range_with_len b n) ≡ Some k → find p (range_with_len a m) ≡ Some (offset + k)
find_moved p q offset a b zero m k e l alike f = absurd (cc)
find_moved p q offset a b (suc n) zero k e l alike f = absurd (omega arith)
find_moved p q offset a b (suc n) (suc m) k e l alike f =
    go (q b) (let same : p (offset + b) ≡ q b = alike b (omega arith) (omega arith) in rw (← e) at same) (find_moved p q offset (a + 1) (b + 1) n m k (omega arith) (omega arith) (rest_alike p q offset b n alike)) f
  where
    go : (c : Bool) → p a ≡ c → (find q (range_with_len (b + 1) n) ≡ Some k → find p (range_with_len (a + 1) m) ≡ Some (offset + k)) → cond c (Some b) (find q (range_with_len (b + 1) n)) ≡ Some k → cond (p a) (Some a) (find p (range_with_len (a + 1) m)) ≡ Some (offset + k)
    go true t later f = let same : b ≡ k = cc in rw (t, e, same) refl
    go false t later f = rw t (later f)

find_past : (p q : ℕ → Bool) (offset a b n m i : ℕ) → a ≡ offset + b → AreAlike p q offset b n → find q (range_with_len b n) ≡ None → find p (range_with_len a m) ≡ Some i → offset + b + n ≤ i
find_past p q offset a b zero m i e alike none f = omega (arith, find_low p a m i f)
find_past p q offset a b (suc n) zero i e alike none f = absurd (cc)
find_past p q offset a b (suc n) (suc m) i e alike none f =
    go (q b) (let same : p (offset + b) ≡ q b = alike b (omega arith) (omega arith) in rw (← e) at same) (find_past p q offset (a + 1) (b + 1) n m i (omega arith) (rest_alike p q offset b n alike)) none f
  where
    go : (c : Bool) → p a ≡ c → (find q (range_with_len (b + 1) n) ≡ None → find p (range_with_len (a + 1) m) ≡ Some i → offset + (b + 1) + n ≤ i) → cond c (Some b) (find q (range_with_len (b + 1) n)) ≡ None → cond (p a) (Some a) (find p (range_with_len (a + 1) m)) ≡ Some i → offset + b + suc n ≤ i
    go true t later none f = absurd (cc)
    go false t later none f = omega (arith, later none (rw t at f))

-- the chain words in memory are those of the file
words_alike : (file : List ℕ) (segments : List Segment) (addr first most : ℕ) (range : ℕ × ℕ) → IsRead file segments addr (chains_from file segments addr + 4 * most) range → AreAlike (λ i. is_last (chain_word file segments addr i)) (λ k. is_last (number_at 4 file (range.0 + chains_from file segments addr + 4 * k))) (symoffset file segments addr) first (most - first)
words_alike file segments addr first most range r = λ k l h.
    let size : ℕ = chains_from file segments addr in
    let offset : ℕ = symoffset file segments addr in
    let word : word_in 4 file segments (addr + (size + 4 * k)) ≡ number_at 4 file (range.0 + (size + 4 * k)) = word_there 4 file segments addr (size + 4 * most) (size + 4 * k) range r (omega arith) in
    let there : addr + (size + 4 * k) ≡ addr + size + 4 * (offset + k - offset) = omega arith in
    let place : range.0 + (size + 4 * k) ≡ range.0 + size + 4 * k = omega arith in
    rw (rw (there, place) at word) refl

-- the greatest bucket begins a chain
greatest_above : (offset a : ℕ) (buckets : List ℕ) → ((a == 0) || nat_le offset a) ≡ true → list_all (λ b. (b == 0) || nat_le offset b) buckets ≡ true → ((fold max a buckets == 0) || nat_le offset (fold max a buckets)) ≡ true
greatest_above offset a [] h e = h
greatest_above offset a (b ∷ rest) h e =
    let here : ((b == 0) || nat_le offset b) ≡ true = grind (arith, nat_tests) in
    let later : list_all (λ b. (b == 0) || nat_le offset b) rest ≡ true = grind (arith, nat_tests) in
    greatest_above offset (max a b) rest (higher offset a b h here) later
  where
    higher : (offset a b : ℕ) → ((a == 0) || nat_le offset a) ≡ true → ((b == 0) || nat_le offset b) ≡ true → ((max a b == 0) || nat_le offset (max a b)) ≡ true
    higher offset a b h e = grind (arith, nat_tests)

pub top_above : (offset top : ℕ) (buckets : List ℕ) → top ≡ greatest buckets → list_all (λ b. (b == 0) || nat_le offset b) buckets ≡ true → top ≢ 0 → offset ≤ top
top_above offset top buckets same e h =
    let above : ((greatest buckets == 0) || nat_le offset (greatest buckets)) ≡ true = greatest_above offset 0 buckets refl e in
    grind (arith, nat_tests)

-- what the words of the file say of the reach
abbrev pub found_last : List ℕ → ℕ → ℕ → ℕ → Option ℕ
found_last file at first most = find (λ k. is_last (number_at 4 file (at + 4 * k))) (range_with_len first (most - first))

reach_of : (file : List ℕ) (segments : List Segment) (addr top : ℕ) → greatest (gnu_buckets file segments addr) ≡ top → top ≢ 0 → gnu_reach file segments addr ≡ option_map (λ i. i + 1) (last_from file segments addr top)
unfolding gnu_reach
reach_of file segments addr top e h =
    let no : (top == 0) ≡ false = grind (arith, nat_tests) in
    rw (e, no) refl

pub reach_found : (file : List ℕ) (segments : List Segment) (addr top most from to last : ℕ) (f : Front) → IsReadFrom segments file → IsFrontOf f file segments addr → greatest f.buckets.items ≡ top → top ≢ 0 → f.offset ≤ top → range_in segments addr (f.size + 4 * most) ≡ Some (from, to) → found_last file (from + f.size) (top - f.offset) most ≡ Some last → last < most → IsReachOf (record { reach = Some (f.offset + last + 1); words = last + 1 }) file segments addr
unfolding gnu_place last_from
reach_found file segments addr top most from to last f r front e h above there found low =
    let size : ℕ = chains_from file segments addr in
    let offset : ℕ = symoffset file segments addr in
    let there' : range_in segments addr (size + 4 * most) ≡ Some (from, to) = rw front.size at there in
    let read : IsRead file segments addr (size + 4 * most) (from, to) = range_there segments file addr (size + 4 * most) (from, to) r there' in
    let found' : found_last file (from + size) (top - offset) most ≡ Some last = rw (front.size, front.offset) at found in
    let above' : offset ≤ top = omega (arith, front.offset) in
    let few : most - (top - offset) ≤ length file = omega (arith, read.ends, read.within) in
    let end : last_from file segments addr top ≡ Some (offset + last) = find_moved (λ i. is_last (chain_word file segments addr i)) (λ k. is_last (number_at 4 file (from + size + 4 * k))) offset top (top - offset) (most - (top - offset)) (length file) last (omega arith) few (words_alike file segments addr (top - offset) most (from, to) read) found' in
    let buckets : greatest (gnu_buckets file segments addr) ≡ top = rw (← front.buckets) e in
    let reach : gnu_reach file segments addr ≡ Some (offset + last + 1) = reach_of file segments addr top buckets h ∙ ap (option_map (λ i. i + 1)) end in
    let words : offset + last + 1 - offset ≡ last + 1 = omega arith in
    let len : size + 4 * (last + 1) ≤ size + 4 * most = omega arith in
    record {
      reach = rw (front.offset, reach) refl;
      words = rw reach (sym words);
      ended = rw reach (either (greatest (gnu_buckets file segments addr) == 0));
      backed = rw (reach, words) (shorter segments addr (size + 4 * (last + 1)) (size + 4 * most) (omega arith) len (rw there' refl));
      limit = omega (arith, read.ends, read.within);
    }

-- words behind the last that memory has from the file
pub reach_lost : (file : List ℕ) (segments : List Segment) (addr top most from to : ℕ) (f : Front) → IsReadFrom segments file → IsFrontOf f file segments addr → greatest f.buckets.items ≡ top → top ≢ 0 → f.offset ≤ top → range_in segments addr (f.size + 4 * most) ≡ Some (from, to) → is_some (range_in segments addr (f.size + 4 * (most + 1))) ≡ false → found_last file (from + f.size) (top - f.offset) most ≡ None → HasNoReach file segments addr
unfolding gnu_place last_from
reach_lost file segments addr top most from to f r front e h above there beyond lost =
    let size : ℕ = chains_from file segments addr in
    let offset : ℕ = symoffset file segments addr in
    let there' : range_in segments addr (size + 4 * most) ≡ Some (from, to) = rw front.size at there in
    let read : IsRead file segments addr (size + 4 * most) (from, to) = range_there segments file addr (size + 4 * most) (from, to) r there' in
    let lost' : found_last file (from + size) (top - offset) most ≡ None = rw (front.size, front.offset) at lost in
    let beyond' : is_some (range_in segments addr (size + 4 * (most + 1))) ≡ false = rw front.size at beyond in
    let buckets : greatest (gnu_buckets file segments addr) ≡ top = rw (← front.buckets) e in
    let reach : gnu_reach file segments addr ≡ option_map (λ i. i + 1) (last_from file segments addr top) = reach_of file segments addr top buckets h in
    let above' : offset ≤ top = omega (arith, front.offset) in
    go (last_from file segments addr top) refl reach above' beyond' (words_alike file segments addr (top - offset) most (from, to) read) lost' buckets
  where
    go : (o : Option ℕ) → last_from file segments addr top ≡ o → gnu_reach file segments addr ≡ option_map (λ i. i + 1) o → symoffset file segments addr ≤ top → is_some (range_in segments addr (chains_from file segments addr + 4 * (most + 1))) ≡ false → AreAlike (λ i. is_last (chain_word file segments addr i)) (λ k. is_last (number_at 4 file (from + chains_from file segments addr + 4 * k))) (symoffset file segments addr) (top - symoffset file segments addr) (most - (top - symoffset file segments addr)) → found_last file (from + chains_from file segments addr) (top - symoffset file segments addr) most ≡ None → greatest (gnu_buckets file segments addr) ≡ top → HasNoReach file segments addr
    go None l reach above beyond alike lost buckets =
        let no : (top == 0) ≡ false = grind (arith, nat_tests) in
        let ended : has_end (gnu_buckets file segments addr) (gnu_reach file segments addr) ≡ false = rw (reach, buckets, no) refl in
        nothing (is_some (gnu_place file segments addr)) (has_end (gnu_buckets file segments addr) (gnu_reach file segments addr)) ended
    go (Some i) l reach above beyond alike lost buckets =
        let past : symoffset file segments addr + (top - symoffset file segments addr) + (most - (top - symoffset file segments addr)) ≤ i = find_past (λ i. is_last (chain_word file segments addr i)) (λ k. is_last (number_at 4 file (from + chains_from file segments addr + 4 * k))) (symoffset file segments addr) top (top - symoffset file segments addr) (most - (top - symoffset file segments addr)) (length file) i (omega arith) alike lost l in
        let len : chains_from file segments addr + 4 * (most + 1) ≤ chains_from file segments addr + 4 * (i + 1 - symoffset file segments addr) = omega arith in
        let none : range_in segments addr (chains_from file segments addr + 4 * (i + 1 - symoffset file segments addr)) ≡ None = none_longer segments addr (chains_from file segments addr + 4 * (most + 1)) (chains_from file segments addr + 4 * (i + 1 - symoffset file segments addr)) (omega arith) len (no_range (range_in segments addr (chains_from file segments addr + 4 * (most + 1))) beyond) in
        rw (reach, none) refl

-- where all buckets are 0
pub no_reach : (file : List ℕ) (segments : List Segment) (addr : ℕ) (f : Front) → IsFrontOf f file segments addr → greatest f.buckets.items ≡ 0 → IsReachOf (record { reach = None; words = 0 }) file segments addr
unfolding gnu_place gnu_reach
no_reach file segments addr f front e =
    let buckets : greatest (gnu_buckets file segments addr) ≡ 0 = rw (← front.buckets) e in
    let none : chains_from file segments addr + 4 * 0 ≡ chains_from file segments addr = omega arith in
    record {
      reach = rw buckets refl;
      words = rw buckets refl;
      ended = rw buckets refl;
      backed = rw (buckets, none) (rw front.size at front.backed);
      limit = omega arith;
    }
