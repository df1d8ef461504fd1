-- Words of a file of bytes fit their bytes, and so do those of new headers and entries
use Rattle.std.proofs.Common.{◌≡◌, ℕ, zero, suc, ◌+◌, ◌*◌, ◌/◌, ◌<◌, ◌≤◌, ◌^◌, ◌==◌, Bool, true, false, cond, List, [], ◌∷◌, ◌++◌, Option, Some, None, drop, map, slice_index, refl, sym, arith}
use Rattle.std.specs.List.{All, find, list_any, range_with_len}
use Rattle.std.proofs.Math.Nat.{pow-suc}
use Rattle.std.proofs.lemmas.List.{get_or-drop}
use Rattle.std.proofs.lemmas.List.Elements.{All-append, All-cons, All-drop, All-head, All-map, All-nil, All-same, All-tail, All-take, All-weaker}
use Rattle.byteorder.specs.Endian.{little_from}
use Rattle.byte_view.specs.Dynamic.{dynamic_entries, dynamic_table, tagged}
use Rattle.byte_view.specs.DynamicFlaws.{has_tag, segment_flaw_by}
use Rattle.byte_view.specs.HeaderFlaws.{header_flaw}
use Rattle.byte_view.specs.Headers.{e_phnum, e_phoff, header_at, headers, is_dynamic, is_load}
use Rattle.byte_view.specs.Numbers.{number_at}
use Rattle.byte_view.specs.declared.constants.TheConstants.{DT_NEEDED, DT_RPATH, DT_RUNPATH, DT_SONAME, DT_STRSZ, DT_STRTAB}
use Rattle.byte_view.specs.declared.dynamic.Entry.{Entry}
use Rattle.byte_view.specs.declared.segments.Segment.{Segment}
use Rattle.dyn_table.specs.Table.{entry_in, table_in}
use Rattle.dyn_table.proofs.Placed.{table_found}
use Rattle.load_model.specs.Escaping.{AreBytes}
use Rattle.two_files.specs.Entries.{Places, added_path, new_entries, new_value, rewritten, where_some}
use Rattle.two_files.specs.NewHeaders.{add_load}
use Rattle.elf_rewrite.specs.Words.{IsWide}
use Rattle.elf_rewrite.proofs.Fields.{IsShort}

byte_small : (xs : List ℕ) → AreBytes xs → (i : ℕ) → slice_index xs i ≤ 255
byte_small [] all i = omega arith
byte_small (x ∷ xs) all zero = All-head (λ c. c ≤ 255) x xs all
byte_small (x ∷ xs) all (suc i) = byte_small xs (All-tail (λ c. c ≤ 255) x xs all) i

little_small : (i n : ℕ) (xs : List ℕ) → ((j : ℕ) → slice_index xs j ≤ 255) → little_from i n xs < 256 ^ n
little_small i zero xs each = omega arith
little_small i (suc n) xs each =
    let here : slice_index xs i ≤ 255 = each i in
    let rest : little_from (suc i) n xs < 256 ^ n = little_small (suc i) n xs each in
    let power : 256 ^ suc n ≡ 256 ^ n * 256 = pow-suc 256 n in
    omega arith

pub number_small : (n at : ℕ) (b : List ℕ) → AreBytes b → number_at n b at < 256 ^ n
unfolding number_at
number_small n at b all = little_small 0 n (drop at b) (λ j. one j)
  where
    one : (j : ℕ) → slice_index (drop at b) j ≤ 255
    one j = rw (get_or-drop at b j 0) (byte_small b all (at + j))

header_wide : (b : List ℕ) (at : ℕ) → AreBytes b → IsWide (header_at b at)
unfolding header_at
header_wide b at all = record {
  kind = number_small 4 at b all;
  flags = number_small 4 (at + 4) b all;
  offset = number_small 8 (at + 8) b all;
  vaddr = number_small 8 (at + 16) b all;
  paddr = number_small 8 (at + 24) b all;
  filesz = number_small 8 (at + 32) b all;
  memsz = number_small 8 (at + 40) b all;
  align = number_small 8 (at + 48) b all;
}

all_made : {X : Type 0} (P : X → Type 0) (f : ℕ → X) (a n : ℕ) → ((i : ℕ) → P (f i)) → All P (map f (range_with_len a n))
all_made P f a zero each = All-nil P
all_made P f a (suc n) each = All-cons P (f a) (map f (range_with_len (a + 1) n)) (each a) (all_made P f (a + 1) n each)

pub headers_wide : (b : List ℕ) → AreBytes b → All (λ s. IsWide s) (headers b)
unfolding headers
headers_wide b all = all_made (λ s. IsWide s) (λ i. header_at b (e_phoff b + 56 * i)) 0 (e_phnum b) (λ i. header_wide b (e_phoff b + 56 * i) all)

entry_short : (b : List ℕ) (at : ℕ) → AreBytes b → IsShort (entry_in b at)
unfolding entry_in
entry_short b at all = record { tag = number_small 8 at b all; value = number_small 8 (at + 8) b all }

table_short : (b : List ℕ) (s : Segment) → AreBytes b → All (λ e. IsShort e) (table_in b s)
unfolding table_in
table_short b s all = all_made (λ e. IsShort e) (λ i. entry_in b (s.offset + 16 * i)) 0 (s.filesz / 16) (λ i. entry_short b (s.offset + 16 * i) all)

pub entries_short : (b : List ℕ) (s : Segment) → AreBytes b → header_flaw b ≡ None → find is_dynamic (headers b) ≡ Some s → segment_flaw_by (headers b) (find is_dynamic (headers b)) ≡ None → All (λ e. IsShort e) (dynamic_entries b)
unfolding dynamic_entries
entries_short b s all fine found placed =
    let same : table_in b s ≡ dynamic_table b = table_found (headers b) b s (record { same = refl; unflawed = fine }) found placed in
    All-take (λ e. IsShort e) _ (dynamic_table b) (All-same (λ e. IsShort e) (dynamic_table b) (table_in b s) (sym same) (table_short b s all))

-- new headers
add_all : (P : Segment → Type 0) (last : Segment) (xs : List Segment) → P last → All P xs → All P (add_load last xs)
add_all P last [] l all = All-nil P
add_all P last (s ∷ more) l all =
    go (list_any is_load more) (is_load s) (All-head P s more all) (All-tail P s more all) (add_all P last more l (All-tail P s more all))
  where
    go : (a b : Bool) → P s → All P more → All P (add_load last more) → All P (cond a (s ∷ add_load last more) (cond b (s ∷ (last ∷ more)) (s ∷ add_load last more)))
    go true b h rest on = All-cons P s (add_load last more) h on
    go false true h rest on = All-cons P s (last ∷ more) h (All-cons P last more l rest)
    go false false h rest on = All-cons P s (add_load last more) h on

pub new_wide : (move : Segment → Segment) (last : Segment) (xs : List Segment) → IsWide last → ((s : Segment) → IsWide s → IsWide (move s)) → All (λ s. IsWide s) xs → All (λ s. IsWide s) (add_load last (map move xs))
new_wide move last xs l each all =
    add_all (λ s. IsWide s) last (map move xs) l (All-map (λ s. IsWide s) move xs (All-weaker (λ s. IsWide s) (λ s. IsWide (move s)) each xs all))

-- new entries
pub record ArePlacesShort (w : Places) : Type 0 where
  pub needs : All (λ n. n < 256 ^ 8) w.needs
  pub soname : (v : ℕ) → w.soname ≡ Some v → v < 256 ^ 8
  pub runpath : (v : ℕ) → w.runpath ≡ Some v → v < 256 ^ 8
  pub strings_at : w.strings_at < 256 ^ 8
  pub strings_size : w.strings_size < 256 ^ 8

some_same : (v w : ℕ) → Some v ≡ Some w → v ≡ w
some_same v w e = cc

value_short : (w : Places) (e : Entry) (v : ℕ) → ArePlacesShort w → IsShort e → new_value w e ≡ Some v → v < 256 ^ 8
value_short w e v p s h = go (e.tag == DT_SONAME) (e.tag == DT_RPATH) (e.tag == DT_RUNPATH) (e.tag == DT_STRTAB) (e.tag == DT_STRSZ) h
  where
    go : (a b c d f : Bool) → cond a w.soname (cond b None (cond c w.runpath (cond d (Some w.strings_at) (cond f (Some w.strings_size) (Some e.value))))) ≡ Some v → v < 256 ^ 8
    go true b c d f h = p.soname v h
    go false true c d f h = absurd (cc)
    go false false true d f h = p.runpath v h
    go false false false true f h = let low = p.strings_at in let same = some_same w.strings_at v h in omega arith
    go false false false false true h = let low = p.strings_size in let same = some_same w.strings_size v h in omega arith
    go false false false false false h = let low = s.value in let same = some_same e.value v h in omega arith

first_short : (needs : List ℕ) → All (λ n. n < 256 ^ 8) needs → slice_index needs 0 < 256 ^ 8
first_short [] all = omega arith
first_short (n ∷ needs) all = All-head (λ n. n < 256 ^ 8) n needs all

rewritten_short : (w : Places) (needs : List ℕ) (xs : List Entry) → ArePlacesShort w → All (λ n. n < 256 ^ 8) needs → All (λ e. IsShort e) xs → All (λ e. IsShort e) (rewritten w needs xs)
unfolding rewritten
rewritten_short w needs [] p ns all = All-nil (λ e. IsShort e)
rewritten_short w needs (e ∷ more) p ns all =
    let P : Entry → Type 0 = λ e. IsShort e in
    go (e.tag == DT_NEEDED) (new_value w e) refl (All-head P e more all)
    (rewritten_short w (drop 1 needs) more p (All-drop (λ n. n < 256 ^ 8) 1 needs ns) (All-tail P e more all))
    (rewritten_short w needs more p ns (All-tail P e more all))
  where
    go : (b : Bool) (o : Option ℕ) → new_value w e ≡ o → IsShort e → All (λ e. IsShort e) (rewritten w (drop 1 needs) more) → All (λ e. IsShort e) (rewritten w needs more) → All (λ e. IsShort e) (cond b (tagged e.tag (slice_index needs 0) ∷ rewritten w (drop 1 needs) more) (where_some e.tag o ++ rewritten w needs more))
    go true o h s a d = All-cons (λ e. IsShort e) (tagged e.tag (slice_index needs 0)) (rewritten w (drop 1 needs) more) (record { tag = s.tag; value = first_short needs ns }) a
    go false None h s a d = d
    go false (Some v) h s a d = All-cons (λ e. IsShort e) (tagged e.tag v) (rewritten w needs more) (record { tag = s.tag; value = value_short w e v p s h }) d

pub new_short : (w : Places) (xs : List Entry) → ArePlacesShort w → All (λ e. IsShort e) xs → All (λ e. IsShort e) (new_entries w xs)
unfolding new_entries
new_short w xs p all =
    All-append (λ e. IsShort e) (rewritten w w.needs xs) (added_path w xs) (rewritten_short w w.needs xs p p.needs all) (go (has_tag DT_RUNPATH xs) w.runpath refl)
  where
    go : (b : Bool) (o : Option ℕ) → w.runpath ≡ o → All (λ e. IsShort e) (cond b [] (where_some DT_RUNPATH o))
    go true o h = All-nil (λ e. IsShort e)
    go false None h = All-nil (λ e. IsShort e)
    go false (Some v) h = All-cons (λ e. IsShort e) (tagged DT_RUNPATH v) [] (record { tag = omega arith; value = p.runpath v h }) (All-nil (λ e. IsShort e))
