-- A GNU hash table in the same bytes is the same, also in a longer file.
use Rattle.std.proofs.Common.{◌≡◌, ◌≢◌, ℕ, zero, suc, ◌+◌, ◌-◌, ◌*◌, ◌≤◌, ◌==◌, ◌&&◌, ◌||◌, Bool, true, false, cond, List, [], ◌∷◌, Option, Some, None, is_some, length, max, refl, ap, arith}
use Rattle.std.specs.Prelude.{nat_le, nat_lt}
use Rattle.std.specs.Int.{is_power_of_two}
use Rattle.std.specs.List.{fold, find, list_all, range_with_len}
use Rattle.std.proofs.lemmas.Bool.Decides.{nat_tests}
use Rattle.byte_view.specs.Memory.{range_in}
use Rattle.byte_view.specs.declared.segments.Segment.{Segment}
use Rattle.load_model.specs.GnuTable.{bloom_shift, bloom_size, bloom_words, chain_word, chains_from, gnu_buckets, gnu_place, gnu_reach, gnu_size, gnu_table, greatest, has_end, is_gnu_sound, is_last, last_from, nbuckets, reach_above, symoffset, words_below}
use Rattle.load_model.specs.SymbolFlaws.{is_gnu_whole}
use Rattle.load_model.specs.TableWords.{word_in, words_in}
use Rattle.two_files.specs.Alike.{KeepsRanges, SameBytes}
use Rattle.two_files.proofs.Words.{first_same, word_same, words_same}
use Rattle.two_files.proofs.Sysv.{both}

-- what is found among some numbers is found among more of them
find_low : (p : ℕ → Bool) (a m i : ℕ) → find p (range_with_len a m) ≡ Some i → a ≤ i
find_low p a zero i e = absurd (cc)
find_low p a (suc m) i e = go (p a) (find_low p (a + 1) m i) e
  where
    go : (b : Bool) → (find p (range_with_len (a + 1) m) ≡ Some i → a + 1 ≤ i) → cond b (Some a) (find p (range_with_len (a + 1) m)) ≡ Some i → a ≤ i
    go true later e = let same : a ≡ i = cc in omega arith
    go false later e = omega (arith, later e)

pub find_longer : (p q : ℕ → Bool) (a n m i : ℕ) → n ≤ m → ((j : ℕ) → a ≤ j → j ≤ i → q j ≡ p j) → find p (range_with_len a n) ≡ Some i → find q (range_with_len a m) ≡ Some i
find_longer p q a zero m i l alike f = absurd (cc)
find_longer p q a (suc n) zero i l alike f = absurd (omega arith)
find_longer p q a (suc n) (suc m) i l alike f =
    let low : a ≤ i = find_low p a (suc n) i f in
    go (p a) (alike a (omega arith) low) (find_longer p q (a + 1) n m i (omega arith) (λ j k h. alike j (omega arith) h)) f
  where
    go : (b : Bool) → q a ≡ b → (find p (range_with_len (a + 1) n) ≡ Some i → find q (range_with_len (a + 1) m) ≡ Some i) → cond b (Some a) (find p (range_with_len (a + 1) n)) ≡ Some i → cond (q a) (Some a) (find q (range_with_len (a + 1) m)) ≡ Some i
    go true t later f = rw t f
    go false t later f = rw t (later f)

-- the greatest bucket begins a chain
greatest_above : (offset a : ℕ) (buckets : List ℕ) → ((a == 0) || nat_le offset a) ≡ true → list_all (λ b. (b == 0) || nat_le offset b) buckets ≡ true → ((fold max a buckets == 0) || nat_le offset (fold max a buckets)) ≡ true
greatest_above offset a [] h e = h
greatest_above offset a (b ∷ rest) h e =
    let here : ((b == 0) || nat_le offset b) ≡ true = grind (arith, nat_tests) in
    let later : list_all (λ b. (b == 0) || nat_le offset b) rest ≡ true = grind (arith, nat_tests) in
    greatest_above offset (max a b) rest (higher offset a b h here) later
  where
    higher : (offset a b : ℕ) → ((a == 0) || nat_le offset a) ≡ true → ((b == 0) || nat_le offset b) ≡ true → ((max a b == 0) || nat_le offset (max a b)) ≡ true
    higher offset a b h e = grind (arith, nat_tests)

top_above : (offset : ℕ) (buckets : List ℕ) → list_all (λ b. (b == 0) || nat_le offset b) buckets ≡ true → greatest buckets ≢ 0 → offset ≤ greatest buckets
top_above offset buckets e h =
    let above : ((greatest buckets == 0) || nat_le offset (greatest buckets)) ≡ true = greatest_above offset 0 buckets refl e in
    grind (arith, nat_tests)

buckets_above : (b : List ℕ) (bs : List Segment) (addr : ℕ) → is_gnu_sound (gnu_table b bs addr) ≡ true → list_all (λ k. (k == 0) || nat_le (symoffset b bs addr) k) (gnu_buckets b bs addr) ≡ true
unfolding is_gnu_sound gnu_table
buckets_above b bs addr e =
    last_of_four (nat_le 1 (length (gnu_buckets b bs addr))) (is_power_of_two (length (bloom_words b bs addr))) (nat_lt (bloom_shift b bs addr) 32) (list_all (λ k. (k == 0) || nat_le (symoffset b bs addr) k) (gnu_buckets b bs addr)) e
  where
    last_of_four : (p q r s : Bool) → (p && (q && (r && s))) ≡ true → s ≡ true
    last_of_four true true true s e = e
    last_of_four true true false s e = absurd (cc)
    last_of_four true false r s e = absurd (cc)
    last_of_four false q r s e = absurd (cc)

-- what stands before the chain words
pub record SameFront (b c : List ℕ) (bs cs : List Segment) (addr : ℕ) : Type 0 where
  pub count : nbuckets c cs addr ≡ nbuckets b bs addr
  pub offset : symoffset c cs addr ≡ symoffset b bs addr
  pub filter : bloom_size c cs addr ≡ bloom_size b bs addr
  pub shift : bloom_shift c cs addr ≡ bloom_shift b bs addr
  pub words : bloom_words c cs addr ≡ bloom_words b bs addr
  pub buckets : gnu_buckets c cs addr ≡ gnu_buckets b bs addr
  pub size : chains_from c cs addr ≡ chains_from b bs addr

pub same_front : (b c : List ℕ) (bs cs : List Segment) (addr len : ℕ) → SameBytes b c bs cs addr len → chains_from b bs addr ≤ len → SameFront b c bs cs addr
same_front b c bs cs addr len s h =
    let m : ℕ = bloom_size b bs addr in
    let n : ℕ = nbuckets b bs addr in
    let first : nbuckets c cs addr ≡ nbuckets b bs addr = first_same b c bs cs addr len 4 s (omega arith) in
    let second : symoffset c cs addr ≡ symoffset b bs addr = word_same b c bs cs addr len 4 4 s (omega arith) in
    let third : bloom_size c cs addr ≡ bloom_size b bs addr = word_same b c bs cs addr len 4 8 s (omega arith) in
    let fourth : bloom_shift c cs addr ≡ bloom_shift b bs addr = word_same b c bs cs addr len 4 12 s (omega arith) in
    let filter : words_in 8 c cs (addr + 16) m ≡ words_in 8 b bs (addr + 16) m = words_same b c bs cs addr len 8 16 m s (omega arith) in
    let place : addr + (16 + 8 * m) ≡ addr + 16 + 8 * m = omega arith in
    let there : words_in 4 c cs (addr + (16 + 8 * m)) n ≡ words_in 4 b bs (addr + (16 + 8 * m)) n = words_same b c bs cs addr len 4 (16 + 8 * m) n s (omega arith) in
    let begins : words_in 4 c cs (addr + 16 + 8 * m) n ≡ words_in 4 b bs (addr + 16 + 8 * m) n = rw place at there in
    record {
      count = first;
      offset = second;
      filter = third;
      shift = fourth;
      words = rw third filter;
      buckets = rw (third, first) begins;
      size = rw (third, first) refl;
    }

-- the chain word of a symbol below the reach
chain_same : (b c : List ℕ) (bs cs : List Segment) (addr len i : ℕ) → SameBytes b c bs cs addr len → SameFront b c bs cs addr → chains_from b bs addr + 4 * (i - symoffset b bs addr) + 4 ≤ len → chain_word c cs addr i ≡ chain_word b bs addr i
chain_same b c bs cs addr len i s f h =
    let k : ℕ = chains_from b bs addr + 4 * (i - symoffset b bs addr) in
    let there : word_in 4 c cs (addr + k) ≡ word_in 4 b bs (addr + k) = word_same b c bs cs addr len 4 k s (omega arith) in
    let place : addr + k ≡ addr + chains_from b bs addr + 4 * (i - symoffset b bs addr) = omega arith in
    let here : word_in 4 c cs (addr + chains_from b bs addr + 4 * (i - symoffset b bs addr)) ≡ word_in 4 b bs (addr + chains_from b bs addr + 4 * (i - symoffset b bs addr)) = rw place at there in
    rw (f.filter, f.count, f.offset) here

last_same : (b c : List ℕ) (bs cs : List Segment) (addr top last len : ℕ) → length b ≤ length c → SameBytes b c bs cs addr len → SameFront b c bs cs addr → symoffset b bs addr ≤ top → chains_from b bs addr + 4 * (last + 1 - symoffset b bs addr) ≤ len → last_from b bs addr top ≡ Some last → last_from c cs addr top ≡ Some last
unfolding last_from
last_same b c bs cs addr top last len longer s f low fits e =
    find_longer (λ i. is_last (chain_word b bs addr i)) (λ i. is_last (chain_word c cs addr i)) top (length b) (length c) last longer
    (λ j l h. ap is_last (chain_same b c bs cs addr len j s f (omega arith))) e

-- the reach of a table whose last chain has an end
pub same_reach : (b c : List ℕ) (bs cs : List Segment) (addr : ℕ) → length b ≤ length c → SameBytes b c bs cs addr (gnu_size b bs addr) → is_gnu_sound (gnu_table b bs addr) ≡ true → has_end (gnu_buckets b bs addr) (gnu_reach b bs addr) ≡ true → gnu_reach c cs addr ≡ gnu_reach b bs addr
unfolding gnu_reach
same_reach b c bs cs addr longer s sound ended =
    let f : SameFront b c bs cs addr = same_front b c bs cs addr (gnu_size b bs addr) s (omega arith) in
    rw f.buckets (go (greatest (gnu_buckets b bs addr)) refl (last_from b bs addr (greatest (gnu_buckets b bs addr))) refl f)
  where
    go : (top : ℕ) → greatest (gnu_buckets b bs addr) ≡ top → (found : Option ℕ) → last_from b bs addr (greatest (gnu_buckets b bs addr)) ≡ found → SameFront b c bs cs addr → reach_above c cs addr top ≡ reach_above b bs addr top
    go zero t found e f = refl
    go (suc top) t None e f =
        let some : (suc top == 0) ≡ false = grind (arith, nat_tests) in
        let no : ((greatest (gnu_buckets b bs addr) == 0) || is_some (reach_above b bs addr (greatest (gnu_buckets b bs addr)))) ≡ false = rw (e, t, some) refl in
        absurd (cc)
    go (suc top) t (Some last) e f =
        let some : greatest (gnu_buckets b bs addr) ≢ 0 = λ z. omega arith in
        let no : (suc top == 0) ≡ false = grind (arith, nat_tests) in
        let low : symoffset b bs addr ≤ greatest (gnu_buckets b bs addr) = top_above (symoffset b bs addr) (gnu_buckets b bs addr) (buckets_above b bs addr sound) some in
        let reach : gnu_reach b bs addr ≡ Some (last + 1) = rw (t, no, rw t at e) refl in
        let size : gnu_size b bs addr ≡ chains_from b bs addr + 4 * (last + 1 - symoffset b bs addr) = rw reach refl in
        let there : last_from c cs addr (suc top) ≡ Some last = last_same b c bs cs addr (suc top) last (gnu_size b bs addr) longer s f (omega arith) (omega arith) (rw t at e) in
        rw (no, there, rw t at e) refl

pub record SameGnu (b c : List ℕ) (bs cs : List Segment) (addr : ℕ) : Type 0 where
  pub front : SameFront b c bs cs addr
  pub reach : gnu_reach c cs addr ≡ gnu_reach b bs addr
  pub table : gnu_table c cs addr ≡ gnu_table b bs addr
  pub size : gnu_size c cs addr ≡ gnu_size b bs addr

pub same_gnu : (b c : List ℕ) (bs cs : List Segment) (addr : ℕ) → length b ≤ length c → SameBytes b c bs cs addr (gnu_size b bs addr) → is_gnu_sound (gnu_table b bs addr) ≡ true → has_end (gnu_buckets b bs addr) (gnu_reach b bs addr) ≡ true → SameGnu b c bs cs addr
unfolding gnu_table
same_gnu b c bs cs addr longer s sound ended =
    let f : SameFront b c bs cs addr = same_front b c bs cs addr (gnu_size b bs addr) s (omega arith) in
    let r : gnu_reach c cs addr ≡ gnu_reach b bs addr = same_reach b c bs cs addr longer s sound ended in
    let n : ℕ = words_below (symoffset b bs addr) (gnu_reach b bs addr) in
    let there : words_in 4 c cs (addr + chains_from b bs addr) n ≡ words_in 4 b bs (addr + chains_from b bs addr) n = words_same b c bs cs addr (gnu_size b bs addr) 4 (chains_from b bs addr) n s (omega arith) in
    record {
      front = f;
      reach = r;
      table = rw (r, f.offset, f.shift, f.words, f.buckets, f.size, there) refl;
      size = rw (r, f.offset, f.size) refl;
    }

pub whole_gnu : (b c : List ℕ) (bs cs : List Segment) (addr : ℕ) → length b ≤ length c → KeepsRanges bs cs → SameBytes b c bs cs addr (gnu_size b bs addr) → is_gnu_whole b bs addr ≡ true → (is_gnu_whole c cs addr ≡ true) × SameGnu b c bs cs addr
unfolding gnu_place
whole_gnu b c bs cs addr longer keeps s e =
    let placed = both (is_some (gnu_place b bs addr)) (has_end (gnu_buckets b bs addr) (gnu_reach b bs addr) && is_gnu_sound (gnu_table b bs addr)) e in
    let rest = both (has_end (gnu_buckets b bs addr) (gnu_reach b bs addr)) (is_gnu_sound (gnu_table b bs addr)) placed.1 in
    let t : SameGnu b c bs cs addr = same_gnu b c bs cs addr longer s rest.1 rest.0 in
    let place : range_in cs addr (gnu_size b bs addr) ≡ range_in bs addr (gnu_size b bs addr) = keeps.keeps addr (gnu_size b bs addr) placed.0 in
    (rw (t.table, t.size, t.reach, t.front.buckets, place) e, t)
