-- The words of the ELF header that stay, and what the section headers say
use Rattle.std.proofs.Common.{◌≡◌, ℕ, zero, suc, ◌+◌, ◌*◌, ◌/◌, ◌<◌, ◌≤◌, ◌==◌, ◌&&◌, Bool, true, false, cond, List, Option, Some, None, length, map, refl, ap, sym, ◌∙◌, arith}
use Rattle.std.specs.Prelude.{nat_le, slice_get, slice_index}
use Rattle.std.specs.List.{find, list_all, range_with_len}
use Rattle.std.specs.Option.{option_map}
use Rattle.std.proofs.Math.Nat.{mul-le-mul_left, mul-suc}
use Rattle.std.proofs.lemmas.Bool.Decides.{nat_tests}
use Rattle.byte_view.specs.Dynamic.{dynamic_entries}
use Rattle.byte_view.specs.Headers.{e_shentsize, e_shnum, e_shoff}
use Rattle.byte_view.specs.Numbers.{number_at}
use Rattle.byte_view.specs.declared.constants.TheConstants.{SHDR_SIZE, DT_SYMTAB}
use Rattle.load_model.specs.SymbolCount.{has_sections, is_section_of, section_count, section_places, sh_size}
use Rattle.load_model.specs.SymbolTable.{symbols_at}
use Rattle.sym_tables.proofs.Backing.{number_of_part}
use Rattle.two_files.specs.Alike.{KeepsTags}
use Rattle.two_files.specs.Kept.{misses}
use Rattle.two_files.proofs.HeadersFine.{SameWords}
use Rattle.two_files.proofs.Left.{misses_left, part_left, word_left}
use Rattle.elf_rewrite.specs.Ranges.{ranges_of, single_range}
use Rattle.elf_rewrite.specs.declared.change.Change.{Change}
use Rattle.elf_rewrite.proofs.ApartLemmas.{sections_apart}
use Rattle.elf_rewrite.proofs.SpareLemmas.{IsOver, SamePart, header_pass, table_same}
use Rattle.elf_rewrite.proofs.UnflawedLemmas.{unflawed_parts}
use Rattle.elf_rewrite.proofs.Wholeness.{whole}
use Rattle.elf_rewrite.proofs.WrittenLemmas.{written_pass, written_ranges}

header_misses : (b : List ℕ) (change : Change) (c : List ℕ) (at n : ℕ) → IsOver b change c → at + n ≤ 64 → misses at n (32, 40) ≡ true → misses at n (56, 58) ≡ true → list_all (λ r. misses at n r) (written_ranges b change) ≡ true
header_misses b change c at n o high place number =
    written_pass (λ r. misses at n r) b change o.room (header_pass b at n o.unflawed o.apart high place number)

-- a word of the ELF header that is not written
pub word_same : (b : List ℕ) (change : Change) (c : List ℕ) (at n : ℕ) → IsOver b change c → at + n ≤ 64 → misses at n (32, 40) ≡ true → misses at n (56, 58) ≡ true → number_at n c at ≡ number_at n b at
word_same b change c at n o high place number =
    let long = (whole b (unflawed_parts b o.unflawed).headers).0 in
    word_left n at b c (written_ranges b change) o.keeps (omega arith) (header_misses b change c at n o high place number)

byte_same : (b : List ℕ) (change : Change) (c : List ℕ) (at : ℕ) → IsOver b change c → at + 1 ≤ 32 → slice_index c at ≡ slice_index b at
byte_same b change c at o high =
    let long = (whole b (unflawed_parts b o.unflawed).headers).0 in
    let place : misses at 1 (32, 40) ≡ true = grind (arith, nat_tests) in
    let number : misses at 1 (56, 58) ≡ true = grind (arith, nat_tests) in
    let left = misses_left at 1 0 (written_ranges b change) (omega arith) (header_misses b change c at 1 o (omega arith) place number) in
    let here : at + 0 ≡ at = omega arith in
    o.keeps.bytes at (omega arith) (rw here at left)

pub same_header : (b : List ℕ) (change : Change) (c : List ℕ) → IsOver b change c → SameWords b c
same_header b change c o =
    let long = (whole b (unflawed_parts b o.unflawed).headers).0 in
    record {
      magic = part_left 4 0 b c (written_ranges b change) o.keeps (omega arith) (header_misses b change c 0 4 o (omega arith) refl refl);
      class = byte_same b change c 4 o (omega arith);
      order = byte_same b change c 5 o (omega arith);
      ident = byte_same b change c 6 o (omega arith);
      version = word_same b change c 20 4 o (omega arith) refl refl;
      machine = word_same b change c 18 2 o (omega arith) refl refl;
      kind = word_same b change c 16 2 o (omega arith) refl refl;
      size = word_same b change c 52 2 o (omega arith) refl refl;
      entry = word_same b change c 54 2 o (omega arith) refl refl;
    }

-- sections that do not all lie in the file do not lie in the new one
pub record KeepsOutside (b c : List ℕ) : Type 0 where
  pub outside : (e_shentsize b == SHDR_SIZE) ≡ true → (e_shnum b == 0) ≡ false → length b < e_shoff b + 64 * e_shnum b → length c < e_shoff b + 64 * e_shnum b

section_listed : (b : List ℕ) → has_sections b ≡ true → (e_shnum b == 0) ≡ false → slice_get (ranges_of b 12) 0 ≡ Some (e_shoff b, e_shoff b + 64 * e_shnum b)
unfolding ranges_of single_range
section_listed b has some = rw (has, some) refl

-- a word in a part that is the same
pub number_in : (b c : List ℕ) (at size k n : ℕ) → SamePart b c at size → k + n ≤ size → number_at n c (at + k) ≡ number_at n b (at + k)
number_in b c at size k n s fits =
    sym (number_of_part n n (at + k) c (omega arith)) ∙ (ap (λ l. number_at n l 0) (s.parts k n fits) ∙ number_of_part n n (at + k) b (omega arith))

-- tests and values that are the same at each place
found_same : (f g : ℕ → Bool) (h m : ℕ → ℕ) (a n : ℕ) (at : ℕ → ℕ) → ((i : ℕ) → i < a + n → (f (at i) ≡ g (at i)) × (h (at i) ≡ m (at i))) → option_map h (find f (map at (range_with_len a n))) ≡ option_map m (find g (map at (range_with_len a n)))
found_same f g h m a zero at each = refl
found_same f g h m a (suc n) at each =
    let here = each a (omega arith) in
    rw (here.0) (go (g (at a)) here.1 (found_same f g h m (a + 1) n at (λ i low. each i (omega arith))))
  where
    go : (t : Bool) → h (at a) ≡ m (at a) → option_map h (find f (map at (range_with_len (a + 1) n))) ≡ option_map m (find g (map at (range_with_len (a + 1) n))) → option_map h (cond t (Some (at a)) (find f (map at (range_with_len (a + 1) n)))) ≡ option_map m (cond t (Some (at a)) (find g (map at (range_with_len (a + 1) n))))
    go true e later = ap Some e
    go false e later = later

section_same : (b c : List ℕ) (addr : ℕ) → SamePart b c (e_shoff b) (64 * e_shnum b) → option_map (λ at. sh_size c at / 24) (find (λ at. is_section_of c addr at) (section_places b)) ≡ option_map (λ at. sh_size b at / 24) (find (λ at. is_section_of b addr at) (section_places b))
section_same b c addr s =
    found_same (λ at. is_section_of c addr at) (λ at. is_section_of b addr at) (λ at. sh_size c at / 24) (λ at. sh_size b at / 24) 0 (e_shnum b) (λ i. e_shoff b + 64 * i) (λ i low. one i (omega arith))
  where
    word : (i k n : ℕ) → i < e_shnum b → k + n ≤ 64 → number_at n c (e_shoff b + 64 * i + k) ≡ number_at n b (e_shoff b + 64 * i + k)
    word i k n low fits =
        let most : 64 * suc i ≤ 64 * e_shnum b = mul-le-mul_left 64 (omega arith) in
        let place : e_shoff b + (64 * i + k) ≡ e_shoff b + 64 * i + k = omega arith in
        rw place at (number_in b c (e_shoff b) (64 * e_shnum b) (64 * i + k) n s (omega (arith, mul-suc 64 i)))

    one : (i : ℕ) → i < e_shnum b → (is_section_of c addr (e_shoff b + 64 * i) ≡ is_section_of b addr (e_shoff b + 64 * i)) × (sh_size c (e_shoff b + 64 * i) / 24 ≡ sh_size b (e_shoff b + 64 * i) / 24)
    one i low =
        let kind = word i 4 4 low (omega arith) in
        let place = word i 16 8 low (omega arith) in
        let size = word i 32 8 low (omega arith) in
        (rw (kind, place) refl, rw size refl)

no_sections : {A : Type 0} (x : Bool) → cond {A = Option A} x None None ≡ None
no_sections true = refl
no_sections false = refl

pub sections_same : (b : List ℕ) (change : Change) (c : List ℕ) → IsOver b change c → KeepsTags (dynamic_entries b) (dynamic_entries c) → KeepsOutside b c → section_count c (dynamic_entries c) ≡ section_count b (dynamic_entries b)
unfolding section_count
sections_same b change c o tags outside =
    let fine = (unflawed_parts b o.unflawed).headers in
    let size : e_shentsize c ≡ e_shentsize b = word_same b change c 58 2 o (omega arith) refl refl in
    let count : e_shnum c ≡ e_shnum b = word_same b change c 60 2 o (omega arith) refl refl in
    let place : e_shoff c ≡ e_shoff b = word_same b change c 40 8 o (omega arith) refl refl in
    let symbols : symbols_at (dynamic_entries c) ≡ symbols_at (dynamic_entries b) = rw (tags.tags DT_SYMTAB refl) refl in
    rw (size, count, place, symbols) (go (e_shnum b == 0) refl (e_shentsize b == SHDR_SIZE) refl (nat_le (e_shoff b + 64 * e_shnum b) (length b)) refl)
  where
    addr : ℕ
    addr = symbols_at (dynamic_entries b)

    go : (z : Bool) → (e_shnum b == 0) ≡ z → (w : Bool) → (e_shentsize b == SHDR_SIZE) ≡ w → (i : Bool) → nat_le (e_shoff b + 64 * e_shnum b) (length b) ≡ i
        → cond (w && nat_le (e_shoff b + 64 * e_shnum b) (length c)) (option_map (λ at. sh_size c at / 24) (find (λ at. is_section_of c (symbols_at (dynamic_entries b)) at) (section_places b))) None
        ≡ cond (w && i) (option_map (λ at. sh_size b at / 24) (find (λ at. is_section_of b (symbols_at (dynamic_entries b)) at) (section_places b))) None
    go true z w s i t =
        let none : e_shnum b ≡ 0 = grind (arith, nat_tests) in
        rw none (no_sections (w && nat_le (e_shoff b + 64 * 0) (length c)) ∙ sym (no_sections (w && i)))
    go false z false s i t = refl
    go false z true s false t =
        let far : length c < e_shoff b + 64 * e_shnum b = outside.outside s z (grind (arith, nat_tests)) in
        let no : nat_le (e_shoff b + 64 * e_shnum b) (length c) ≡ false = grind (arith, nat_tests) in
        rw no refl
    go false z true s true t =
        let longer : length b ≤ length c = o.keeps.longer in
        let within : e_shoff b + 64 * e_shnum b ≤ length b = grind (arith, nat_tests) in
        let yes : nat_le (e_shoff b + 64 * e_shnum b) (length c) ≡ true = grind (arith, nat_tests) in
        let has : has_sections b ≡ true = rw (s, t) refl in
        let part : SamePart b c (e_shoff b) (64 * e_shnum b) = table_same b change c (ranges_of b 12) 0 (e_shoff b) (64 * e_shnum b) o (sections_apart b o.apart) (section_listed b has z) within in
        rw yes (section_same b c (symbols_at (dynamic_entries b)) part)
