-- The headers of the new file have no flaw.
use Rattle.std.proofs.Common.{◌≡◌, ℕ, ◌<◌, ◌≤◌, ◌==◌, ◌||◌, Bool, true, false, not, List, [], ◌∷◌, ◌++◌, Option, Some, None, length, take, map, refl, sym, ◌∙◌, arith}
use Rattle.std.specs.Prelude.{nat_lt}
use Rattle.std.specs.List.{All, filter, list_any, position_from}
use Rattle.std.proofs.lemmas.Bool.Decides.{nat_tests}
use Rattle.answers.specs.First.{some_where}
use Rattle.byte_view.specs.declared.flaws.TheConstants.{NO_LOAD, SHORT}
use Rattle.byte_view.specs.Checks.{flaw, flaw_at}
use Rattle.byte_view.specs.HeaderFlaws.{bad_range, falling, first_below, has_bad_range, header_flaw, headers_end, ident_flaw, no_load, not_elf, overlapping, segment_flaw, short_header, short_headers, too_big, word_flaw, wrong_class, wrong_entry_size, wrong_header_size, wrong_ident_version, wrong_kind, wrong_machine, wrong_number, wrong_order, wrong_version}
use Rattle.byte_view.specs.Headers.{e_ehsize, e_machine, e_phentsize, e_phnum, e_type, e_version, ei_class, ei_data, ei_version, headers, is_load, memory_end}
use Rattle.byte_view.specs.declared.constants.TheConstants.{LONGEST_FILE, PN_XNUM}
use Rattle.byte_view.specs.declared.flaws.Flaw.{Flaw}
use Rattle.byte_view.specs.declared.segments.Segment.{Segment}
use Rattle.byte_view.proofs.Loads.{none_first}
use Rattle.two_files.specs.NewHeaders.{AddsLoad, LeavesLoads, add_load}
use Rattle.two_files.proofs.NewHeaders.{adds_load, good_ranges, order_kept}

-- the words of the ELF header that are looked at, but for where the program headers are
pub record SameWords (b c : List ℕ) : Type 0 where
  pub magic : take 4 c ≡ take 4 b
  pub class : ei_class c ≡ ei_class b
  pub order : ei_data c ≡ ei_data b
  pub ident : ei_version c ≡ ei_version b
  pub version : e_version c ≡ e_version b
  pub machine : e_machine c ≡ e_machine b
  pub kind : e_type c ≡ e_type b
  pub size : e_ehsize c ≡ e_ehsize b
  pub entry : e_phentsize c ≡ e_phentsize b

test_off : (t : Bool) (f : Flaw) → some_where t f ≡ None → t ≡ false
test_off true f e = absurd (cc)
test_off false f e = refl

ident_fine : (b c : List ℕ) → SameWords b c → length b ≤ length c → length c ≤ LONGEST_FILE → ident_flaw b ≡ None → ident_flaw c ≡ None
unfolding ident_flaw
ident_fine b c w longer most e =
    let first = none_first (too_big b) (not_elf b ∷ short_header b ∷ wrong_class b ∷ wrong_order b ∷ wrong_ident_version b ∷ wrong_version b ∷ []) e in
    let second = none_first (not_elf b) (short_header b ∷ wrong_class b ∷ wrong_order b ∷ wrong_ident_version b ∷ wrong_version b ∷ []) first.1 in
    let third = none_first (short_header b) (wrong_class b ∷ wrong_order b ∷ wrong_ident_version b ∷ wrong_version b ∷ []) second.1 in
    let fourth = none_first (wrong_class b) (wrong_order b ∷ wrong_ident_version b ∷ wrong_version b ∷ []) third.1 in
    let fifth = none_first (wrong_order b) (wrong_ident_version b ∷ wrong_version b ∷ []) fourth.1 in
    let sixth = none_first (wrong_ident_version b) (wrong_version b ∷ []) fifth.1 in
    let seventh : wrong_version b ≡ None = (none_first (wrong_version b) [] sixth.1).0 in
    let small : nat_lt LONGEST_FILE (length c) ≡ false = grind (arith, nat_tests) in
    let whole : nat_lt (length b) 64 ≡ false = test_off (nat_lt (length b) 64) (flaw SHORT 64 (length b)) third.0 in
    let long : nat_lt (length c) 64 ≡ false = grind (arith, nat_tests) in
    let elf : not_elf c ≡ None = rw w.magic second.0 in
    let class : wrong_class c ≡ None = rw w.class fourth.0 in
    let order : wrong_order c ≡ None = rw w.order fifth.0 in
    let ident : wrong_ident_version c ≡ None = rw w.ident sixth.0 in
    let version : wrong_version c ≡ None = rw w.version seventh in
    rw (small, elf, long, class, order, ident, version) refl

word_fine : (b c : List ℕ) → SameWords b c → 0 < e_phnum c → e_phnum c < PN_XNUM → headers_end c ≤ length c → word_flaw b ≡ None → word_flaw c ≡ None
unfolding word_flaw
word_fine b c w some few inside e =
    let first = none_first (wrong_machine b) (wrong_kind b ∷ wrong_header_size b ∷ wrong_entry_size b ∷ wrong_number b ∷ short_headers b ∷ []) e in
    let second = none_first (wrong_kind b) (wrong_header_size b ∷ wrong_entry_size b ∷ wrong_number b ∷ short_headers b ∷ []) first.1 in
    let third = none_first (wrong_header_size b) (wrong_entry_size b ∷ wrong_number b ∷ short_headers b ∷ []) second.1 in
    let fourth = none_first (wrong_entry_size b) (wrong_number b ∷ short_headers b ∷ []) third.1 in
    let machine : wrong_machine c ≡ None = rw w.machine first.0 in
    let kind : wrong_kind c ≡ None = rw w.kind second.0 in
    let size : wrong_header_size c ≡ None = rw w.size third.0 in
    let entry : wrong_entry_size c ≡ None = rw w.entry fourth.0 in
    let none : ((e_phnum c == 0) || (e_phnum c == PN_XNUM)) ≡ false = grind (arith, nat_tests) in
    let short : nat_lt (length c) (headers_end c) ≡ false = grind (arith, nat_tests) in
    rw (machine, kind, size, entry, none, short) refl

place_none : (code : ℕ) (o : Option ℕ) → flaw_at code o ≡ None → o ≡ None
place_none code None e = refl
place_none code (Some i) e = absurd (cc)

any_true : (t : Bool) (f : Flaw) → some_where (not t) f ≡ None → t ≡ true
any_true true f e = refl
any_true false f e = absurd (cc)

loaded_still : (xs : List Segment) (s : Segment) (more : List Segment) → filter is_load xs ≡ more ++ s ∷ [] → list_any is_load xs ≡ true
loaded_still xs s more e = go (list_any is_load xs) refl
  where
    none : (ys : List Segment) → list_any is_load ys ≡ false → filter is_load ys ≡ []
    none [] h = refl
    none (y ∷ ys) h = grind (arith, nat_tests, none ys)

    not_empty : (more : List Segment) → [] ≡ more ++ s ∷ [] → ⊥
    not_empty [] e = cc
    not_empty (y ∷ ys) e = cc

    go : (b : Bool) → list_any is_load xs ≡ b → list_any is_load xs ≡ true
    go true h = h
    go false h = absurd (not_empty more (sym (none xs h) ∙ e))

pub segments_fine : (len more : ℕ) (move : Segment → Segment) (last : Segment) (xs : List Segment) → LeavesLoads move → is_load last ≡ true
    → ((s : Segment) → has_bad_range len s ≡ false → has_bad_range more (move s) ≡ false) → has_bad_range more last ≡ false
    → All (λ s. memory_end s ≤ last.vaddr) (filter is_load xs) → All (λ s. s.vaddr ≤ last.vaddr) (filter is_load xs)
    → segment_flaw len xs ≡ None → segment_flaw more (add_load last (map move xs)) ≡ None
unfolding segment_flaw
segments_fine len more move last xs leaves load each good ends begins e =
    let first = none_first (bad_range len xs) (no_load xs ∷ falling xs ∷ overlapping xs ∷ []) e in
    let second = none_first (no_load xs) (falling xs ∷ overlapping xs ∷ []) first.1 in
    let third = none_first (falling xs) (overlapping xs ∷ []) second.1 in
    let fourth : overlapping xs ≡ None = (none_first (overlapping xs) [] third.1).0 in
    let some : list_any is_load xs ≡ true = any_true (list_any is_load xs) (flaw NO_LOAD 0 0) second.0 in
    let adds : AddsLoad xs (add_load last (map move xs)) last = adds_load move last xs leaves load some in
    let range : position_from (has_bad_range more) 0 (add_load last (map move xs)) ≡ None = good_ranges len more move last xs each good (place_none 10 (position_from (has_bad_range len) 0 xs) first.0) in
    let there : list_any is_load (add_load last (map move xs)) ≡ true = loaded_still (add_load last (map move xs)) last (filter is_load xs) adds.loads in
    let rising : first_below (λ s. s.vaddr) 0 0 (add_load last (map move xs)) ≡ None = order_kept (λ s. s.vaddr) xs (add_load last (map move xs)) last adds begins (place_none 11 (first_below (λ s. s.vaddr) 0 0 xs) third.0) in
    let apart : first_below memory_end 0 0 (add_load last (map move xs)) ≡ None = order_kept memory_end xs (add_load last (map move xs)) last adds ends (place_none 12 (first_below memory_end 0 0 xs) fourth) in
    rw (range, there, rising, apart) refl

pub headers_fine : (b c : List ℕ) → SameWords b c → length b ≤ length c → length c ≤ LONGEST_FILE → 0 < e_phnum c → e_phnum c < PN_XNUM → headers_end c ≤ length c → (segment_flaw (length b) (headers b) ≡ None → segment_flaw (length c) (headers c) ≡ None) → header_flaw b ≡ None → header_flaw c ≡ None
unfolding header_flaw
headers_fine b c w longer most some few inside segments e =
    let first = none_first (ident_flaw b) (word_flaw b ∷ segment_flaw (length b) (headers b) ∷ []) e in
    let second = none_first (word_flaw b) (segment_flaw (length b) (headers b) ∷ []) first.1 in
    let third : segment_flaw (length b) (headers b) ≡ None = (none_first (segment_flaw (length b) (headers b)) [] second.1).0 in
    rw (ident_fine b c w longer most first.0, word_fine b c w some few inside second.0, segments third) refl
