-- Words that were written read back, and so do program headers.
use Rattle.std.proofs.Common.{◌≡◌, ℕ, ◌+◌, ◌*◌, ◌<◌, ◌^◌, List, [], ◌∷◌, ◌++◌, length, map, drop, arith, refl, sym, ap, ◌∙◌, append_assoc, length-append}
use Rattle.std.specs.List.{All, range_with_len}
use Rattle.std.proofs.lemmas.List.Elements.{All-head, All-tail}
use Rattle.std.proofs.lemmas.List.{drop_at, drop-drop}
use Rattle.byteorder.specs.Numbers.{little_number-reads_back, length-bytes_low_first}
use Rattle.byte_view.specs.declared.segments.Segment.{Segment}
use Rattle.byte_view.specs.Numbers.{number_at, word_bytes}
use Rattle.byte_view.specs.Headers.{header_at, headers, e_phoff, e_phnum}
use Rattle.byte_view.specs.declared.dynamic.Entry.{Entry}
use Rattle.byte_view.specs.Dynamic.{entry_bytes, entries_bytes}
use Rattle.elf_rewrite.specs.Words.{header_bytes, IsWide, table_bytes}

pub word_long : (n x : ℕ) → length (word_bytes n x) ≡ n
unfolding word_bytes
word_long n x = length-bytes_low_first 0 n x

-- a word reads back where it stands
pub word_reads : (n x at : ℕ) (file rest : List ℕ) → x < 256 ^ n → drop at file ≡ word_bytes n x ++ rest → number_at n file at ≡ x
unfolding number_at word_bytes
word_reads n x at file rest small e = rw e (little_number-reads_back n x rest small)

next : (n x at to : ℕ) (file rest : List ℕ) → to ≡ at + n → drop at file ≡ word_bytes n x ++ rest → drop to file ≡ rest
next n x at to file rest e h =
    ap (λ k. drop k file) e ∙ sym (drop-drop n at file) ∙ ap (λ l. drop n l) h ∙ drop_at (word_bytes n x) rest n (word_long n x)

-- a header reads back where it stands
pub header_reads : (file rest : List ℕ) (at : ℕ) (s : Segment) → IsWide s → drop at file ≡ header_bytes s ++ rest → header_at file at ≡ s
unfolding header_at header_bytes
header_reads file rest at s w e =
    let e0 : drop at file ≡ word_bytes 4 s.kind ++ (word_bytes 4 s.flags ++ (word_bytes 8 s.offset ++ (word_bytes 8 s.vaddr ++ (word_bytes 8 s.paddr ++ (word_bytes 8 s.filesz ++ (word_bytes 8 s.memsz ++ (word_bytes 8 s.align ++ rest))))))) = e ∙ simp append_assoc in
    let e1 = next 4 s.kind at (at + 4) file _ refl e0 in
    let e2 = next 4 s.flags (at + 4) (at + 8) file _ (omega arith) e1 in
    let e3 = next 8 s.offset (at + 8) (at + 16) file _ (omega arith) e2 in
    let e4 = next 8 s.vaddr (at + 16) (at + 24) file _ (omega arith) e3 in
    let e5 = next 8 s.paddr (at + 24) (at + 32) file _ (omega arith) e4 in
    let e6 = next 8 s.filesz (at + 32) (at + 40) file _ (omega arith) e5 in
    let e7 = next 8 s.memsz (at + 40) (at + 48) file _ (omega arith) e6 in
    rw (word_reads 4 s.kind at file _ w.kind e0, word_reads 4 s.flags (at + 4) file _ w.flags e1, word_reads 8 s.offset (at + 8) file _ w.offset e2, word_reads 8 s.vaddr (at + 16) file _ w.vaddr e3, word_reads 8 s.paddr (at + 24) file _ w.paddr e4, word_reads 8 s.filesz (at + 32) file _ w.filesz e5, word_reads 8 s.memsz (at + 40) file _ w.memsz e6, word_reads 8 s.align (at + 48) file rest w.align e7) refl

pub header_long : (s : Segment) → length (header_bytes s) ≡ 56
unfolding header_bytes
header_long s = simp (length-append, word_long) refl

-- a table of headers reads back where it stands
pub table_reads : (file rest : List ℕ) (at k : ℕ) (xs : List Segment) → All (λ s. IsWide s) xs → drop (at + 56 * k) file ≡ table_bytes xs ++ rest → map (λ i. header_at file (at + 56 * i)) (range_with_len k (length xs)) ≡ xs
table_reads file rest at k [] w e = refl
table_reads file rest at k (s ∷ more) w e =
    let here : drop (at + 56 * k) file ≡ header_bytes s ++ (table_bytes more ++ rest) = e ∙ append_assoc (header_bytes s) (table_bytes more) rest in
    let after : drop (at + 56 * (k + 1)) file ≡ table_bytes more ++ rest =
    ap (λ n. drop n file) (omega arith) ∙ sym (drop-drop 56 (at + 56 * k) file) ∙ ap (λ l. drop 56 l) here ∙ drop_at (header_bytes s) (table_bytes more ++ rest) 56 (header_long s) in
    rw (
      header_reads file (table_bytes more ++ rest) (at + 56 * k) s (All-head (λ t. IsWide t) s more w) here,
      table_reads file rest at (k + 1) more (All-tail (λ t. IsWide t) s more w) after,
    ) refl

pub headers_read : (file rest : List ℕ) (xs : List Segment) → All (λ s. IsWide s) xs → e_phnum file ≡ length xs → drop (e_phoff file) file ≡ table_bytes xs ++ rest → headers file ≡ xs
unfolding headers
headers_read file rest xs w count e =
    let start : e_phoff file + 56 * 0 ≡ e_phoff file = omega arith in
    ap (λ n. map (λ i. header_at file (e_phoff file + 56 * i)) (range_with_len 0 n)) count
    ∙ table_reads file rest (e_phoff file) 0 xs w (ap (λ n. drop n file) start ∙ e)

-- an entry reads back where it stands
pub entry_long : (e : Entry) → length (entry_bytes e) ≡ 16
unfolding entry_bytes
entry_long e = simp (length-append, word_long) refl

pub record IsShort (e : Entry) : Type 0 where
  pub tag : e.tag < 256 ^ 8
  pub value : e.value < 256 ^ 8

pub entry_reads : (file rest : List ℕ) (at : ℕ) (e : Entry) → IsShort e → drop at file ≡ entry_bytes e ++ rest → record { tag = number_at 8 file at; value = number_at 8 file (at + 8) } ≡ e
unfolding entry_bytes
entry_reads file rest at e w d =
    let d0 : drop at file ≡ word_bytes 8 e.tag ++ (word_bytes 8 e.value ++ rest) = d ∙ append_assoc (word_bytes 8 e.tag) (word_bytes 8 e.value) rest in
    let d1 = next 8 e.tag at (at + 8) file _ refl d0 in
    rw (word_reads 8 e.tag at file _ w.tag d0, word_reads 8 e.value (at + 8) file rest w.value d1) refl

pub entries_read : (file rest : List ℕ) (at k : ℕ) (xs : List Entry) → All (λ e. IsShort e) xs → drop (at + 16 * k) file ≡ entries_bytes xs ++ rest → map (λ i. record { tag = number_at 8 file (at + 16 * i); value = number_at 8 file (at + 16 * i + 8) }) (range_with_len k (length xs)) ≡ xs
entries_read file rest at k [] w e = refl
entries_read file rest at k (s ∷ more) w e =
    let here : drop (at + 16 * k) file ≡ entry_bytes s ++ (entries_bytes more ++ rest) = e ∙ append_assoc (entry_bytes s) (entries_bytes more) rest in
    let after : drop (at + 16 * (k + 1)) file ≡ entries_bytes more ++ rest =
    ap (λ n. drop n file) (omega arith) ∙ sym (drop-drop 16 (at + 16 * k) file) ∙ ap (λ l. drop 16 l) here ∙ drop_at (entry_bytes s) (entries_bytes more ++ rest) 16 (entry_long s) in
    rw (
      entry_reads file (entries_bytes more ++ rest) (at + 16 * k) s (All-head (λ t. IsShort t) s more w) here,
      entries_read file rest at (k + 1) more (All-tail (λ t. IsShort t) s more w) after,
    ) refl
