-- Symbols and versions are where they were, with the words that they had
use Rattle.std.proofs.Common.{◌≡◌, ℕ, zero, suc, ◌+◌, ◌*◌, ◌<◌, ◌≤◌, ◌&&◌, ◌||◌, Bool, true, false, not, List, [], ◌∷◌, Option, Some, None, is_some, length, map, take, drop, refl, ap, sym, subst, ◌∙◌, arith}
use Rattle.std.specs.Prelude.{slice_get}
use Rattle.std.specs.List.{flat_map, range_with_len}
use Rattle.std.specs.Option.{unwrap_or}
use Rattle.byte_view.specs.Dynamic.{dynamic_entries, strings_size, value_of}
use Rattle.byte_view.specs.HeaderFlaws.{header_flaw}
use Rattle.byte_view.specs.Headers.{headers}
use Rattle.byte_view.specs.Memory.{range_in}
use Rattle.byte_view.specs.declared.constants.TheConstants.{DT_GNU_HASH, DT_HASH}
use Rattle.byte_view.proofs.Loads.{none_first}
use Rattle.load_model.specs.GnuTable.{gnu_place, gnu_size}
use Rattle.load_model.specs.SymbolCount.{section_count}
use Rattle.load_model.specs.SymbolFlaws.{bad_gnu, bad_sysv, count_by, count_flaw, gnu_range, hash_flaw, is_gnu_whole, is_sysv_whole, list_flaw, symbol_count, symbol_flaw, symbol_flaw_by, symbols_by, sysv_range, unbacked_symbols, wrong_symbol_size}
use Rattle.load_model.specs.SymbolTable.{symbols_at}
use Rattle.load_model.specs.SysvTable.{sysv_place, sysv_size}
use Rattle.load_model.specs.VersionFlaws.{bad_next, bad_text, bad_verdaux, bad_verdef, bad_vernaux, bad_verneed, bad_versym, is_unbacked, symbols_version_flaw, verdef_flaw, verdefs_flaw, vernaux_flaw, vernauxs_flaw, verneed_flaw, verneeds_flaw, version_flaw}
use Rattle.load_model.specs.VersionTables.{aux_places_of, def_places_of, file_place, is_versioned, vd_next, vda_name, verdaux_of, verdef_count, verdef_place, verdefs, vernaux_place, vernauxs, vernauxs_of, verneed_count, verneed_place, versym, vn_cnt, vn_file, vn_next, vna_name, vna_next}
use Rattle.load_model.proofs.Counts.{slice_get_left}
use Rattle.load_model.proofs.History.{at_second}
use Rattle.load_model.proofs.ListedLemmas.{at_mapped}
use Rattle.two_files.specs.Alike.{KeepsRanges, KeepsSymbols, KeepsTags, KeepsTexts, KeepsVersions, SameBytes, SameIn}
use Rattle.two_files.specs.Kept.{Range}
use Rattle.two_files.proofs.Records.{none_each}
use Rattle.two_files.proofs.SameMemory.{same_part, same_range}
use Rattle.two_files.proofs.Versions.{found_none}
use Rattle.elf_rewrite.specs.Ranges.{asked_ranges, from_place, ranges_of, single_range}
use Rattle.elf_rewrite.specs.declared.change.Change.{Change}
use Rattle.elf_rewrite.proofs.ApartLemmas.{StandsApart, asked_apart, gnu_apart, symbols_apart, sysv_apart, verdef_apart, versym_apart}
use Rattle.elf_rewrite.proofs.Soundness.{range_within}
use Rattle.elf_rewrite.proofs.SpareLemmas.{IsOver, SamePart, need_head, need_tail, table_same}
use Rattle.elf_rewrite.proofs.UnflawedLemmas.{unflawed_parts}
use Rattle.elf_rewrite.proofs.WrittenLemmas.{counted_from, need_place}

-- headers that keep what the old ones back
pub record HasHeaders (b c : List ℕ) : Type 0 where
  pub fine : header_flaw c ≡ None
  pub ranges : KeepsRanges (headers b) (headers c)

pub some_there : {X : Type 0} (o : Option X) → is_some o ≡ true → (x : X) × (o ≡ Some x)
some_there None e = absurd (cc)
some_there (Some x) e = (x, refl)

pub both_on : (a b : Bool) → (a && b) ≡ true → (a ≡ true) × (b ≡ true)
both_on true b e = (refl, e)
both_on false b e = absurd (cc)

either_off : (a b : Bool) → (a || b) ≡ false → (a ≡ false) × (b ≡ false)
either_off true b e = absurd (cc)
either_off false b e = (refl, e)

flip_off : (a : Bool) → not a ≡ false → a ≡ true
flip_off true e = refl
flip_off false e = absurd (cc)

-- a table that memory has from the file
same_in : (b c : List ℕ) (addr len : ℕ) (r : Range) → header_flaw b ≡ None → HasHeaders b c → range_in (headers b) addr len ≡ Some r → SamePart b c r.0 len → SameIn b c addr len
same_in b c addr len r fine h e s = same_range b c addr len r fine h.fine h.ranges e s.parts

pub range_same : (b : List ℕ) (change : Change) (c : List ℕ) (ss : List Range) (j addr len : ℕ) (r : Range) → IsOver b change c → StandsApart b ss → range_in (headers b) addr len ≡ Some r → slice_get ss j ≡ Some r → SamePart b c r.0 len
range_same b change c ss j addr len r o a e h =
    let w = range_within b addr len r (unflawed_parts b o.unflawed).headers e in
    table_same b change c ss j r.0 len o a (h ∙ ap (λ (n : ℕ). Some (r.0, n)) (sym w.0)) (omega (arith, w.0, w.1))

table_in_memory : (b : List ℕ) (change : Change) (c : List ℕ) (ss : List Range) (j addr len : ℕ) (r : Range) → IsOver b change c → HasHeaders b c → StandsApart b ss → range_in (headers b) addr len ≡ Some r → slice_get ss j ≡ Some r → SameIn b c addr len
table_in_memory b change c ss j addr len r o h a e s =
    same_in b c addr len r (unflawed_parts b o.unflawed).headers h e (range_same b change c ss j addr len r o a e s)

-- symbols and hash tables
pub record HasSymbols (b : List ℕ) : Type 0 where
  pub hashes : hash_flaw b (headers b) (dynamic_entries b) ≡ None
  pub backed : is_some (range_in (headers b) (symbols_at (dynamic_entries b)) (24 * symbol_count b)) ≡ true

has_symbols : (b : List ℕ) → symbol_flaw b ≡ None → HasSymbols b
unfolding symbol_flaw symbol_flaw_by symbol_count
has_symbols b e =
    let bs = headers b in
    let be = dynamic_entries b in
    let last = unbacked_symbols bs (symbols_at be) (count_by b bs be) ∷ list_flaw b bs be (symbols_by b bs be) ∷ [] in
    let first = none_first (wrong_symbol_size be) (hash_flaw b bs be ∷ count_flaw b bs be ∷ last) e in
    let second = none_first (hash_flaw b bs be) (count_flaw b bs be ∷ last) first.1 in
    let third = none_first (count_flaw b bs be) last second.1 in
    let fourth = none_first (unbacked_symbols bs (symbols_at be) (count_by b bs be)) (list_flaw b bs be (symbols_by b bs be) ∷ []) third.1 in
    record { hashes = second.0; backed = flip_off _ (found_none (not (is_some (range_in bs (symbols_at be) (24 * count_by b bs be)))) _ fourth.0) }

hash_parts : (b : List ℕ) → hash_flaw b (headers b) (dynamic_entries b) ≡ None → (bad_sysv b (headers b) (value_of DT_HASH (dynamic_entries b)) ≡ None) × (bad_gnu b (headers b) (value_of DT_GNU_HASH (dynamic_entries b)) ≡ None)
unfolding hash_flaw
hash_parts b e =
    let first = none_first (bad_sysv b (headers b) (value_of DT_HASH (dynamic_entries b))) (bad_gnu b (headers b) (value_of DT_GNU_HASH (dynamic_entries b)) ∷ []) e in
    let second = none_first (bad_gnu b (headers b) (value_of DT_GNU_HASH (dynamic_entries b))) [] first.1 in
    (first.0, second.0)

sysv_listed : (b : List ℕ) (addr : ℕ) (r : Range) → value_of DT_HASH (dynamic_entries b) ≡ Some addr → range_in (headers b) addr (sysv_size b (headers b) addr) ≡ Some r → slice_get (ranges_of b 10) 0 ≡ Some r
unfolding ranges_of single_range sysv_range sysv_place
sysv_listed b addr r v e = rw (v, e) refl

gnu_listed : (b : List ℕ) (addr : ℕ) (r : Range) → value_of DT_GNU_HASH (dynamic_entries b) ≡ Some addr → range_in (headers b) addr (gnu_size b (headers b) addr) ≡ Some r → slice_get (ranges_of b 11) 0 ≡ Some r
unfolding ranges_of single_range gnu_range gnu_place
gnu_listed b addr r v e = rw (v, e) refl

symbols_listed : (b : List ℕ) (r : Range) → range_in (headers b) (symbols_at (dynamic_entries b)) (24 * symbol_count b) ≡ Some r → slice_get (ranges_of b 6) 0 ≡ Some r
unfolding ranges_of single_range
symbols_listed b r e = rw e refl

versym_listed : (b : List ℕ) (r : Range) → is_versioned b ≡ true → range_in (headers b) (versym b) (2 * symbol_count b) ≡ Some r → slice_get (ranges_of b 7) 0 ≡ Some r
unfolding ranges_of single_range
versym_listed b r is e = rw (is, e) refl

sysv_kept : (b : List ℕ) (change : Change) (c : List ℕ) (addr : ℕ) → IsOver b change c → HasHeaders b c → HasSymbols b → value_of DT_HASH (dynamic_entries b) ≡ Some addr → SameIn b c addr (sysv_size b (headers b) addr)
unfolding sysv_place
sysv_kept b change c addr o h s v =
    let bad : bad_sysv b (headers b) (Some addr) ≡ None = rw v at ((hash_parts b s.hashes).0) in
    let whole : is_sysv_whole b (headers b) addr ≡ true = flip_off _ (found_none (not (is_sysv_whole b (headers b) addr)) _ bad) in
    let there = some_there (range_in (headers b) addr (sysv_size b (headers b) addr)) (both_on _ _ whole).0 in
    table_in_memory b change c (ranges_of b 10) 0 addr (sysv_size b (headers b) addr) there.0 o h (sysv_apart b o.apart) there.1 (sysv_listed b addr there.0 v there.1)

gnu_kept : (b : List ℕ) (change : Change) (c : List ℕ) (addr : ℕ) → IsOver b change c → HasHeaders b c → HasSymbols b → value_of DT_GNU_HASH (dynamic_entries b) ≡ Some addr → SameIn b c addr (gnu_size b (headers b) addr)
unfolding gnu_place
gnu_kept b change c addr o h s v =
    let bad : bad_gnu b (headers b) (Some addr) ≡ None = rw v at ((hash_parts b s.hashes).1) in
    let whole : is_gnu_whole b (headers b) addr ≡ true = flip_off _ (found_none (not (is_gnu_whole b (headers b) addr)) _ bad) in
    let there = some_there (range_in (headers b) addr (gnu_size b (headers b) addr)) (both_on _ _ whole).0 in
    table_in_memory b change c (ranges_of b 11) 0 addr (gnu_size b (headers b) addr) there.0 o h (gnu_apart b o.apart) there.1 (gnu_listed b addr there.0 v there.1)

symbols_kept_in : (b : List ℕ) (change : Change) (c : List ℕ) → IsOver b change c → HasHeaders b c → HasSymbols b → SameIn b c (symbols_at (dynamic_entries b)) (24 * symbol_count b)
symbols_kept_in b change c o h s =
    let there = some_there (range_in (headers b) (symbols_at (dynamic_entries b)) (24 * symbol_count b)) s.backed in
    table_in_memory b change c (ranges_of b 6) 0 (symbols_at (dynamic_entries b)) (24 * symbol_count b) there.0 o h (symbols_apart b o.apart) there.1 (symbols_listed b there.0 there.1)

counted_there : (b c : List ℕ) → SameIn b c (symbols_at (dynamic_entries b)) (24 * symbol_count b) → SameBytes b c (headers b) (headers c) (symbols_at (dynamic_entries b)) (24 * count_by b (headers b) (dynamic_entries b))
unfolding symbol_count
counted_there b c s = s

pub keeps_symbols : (b : List ℕ) (change : Change) (c : List ℕ) → IsOver b change c → HasHeaders b c → KeepsTags (dynamic_entries b) (dynamic_entries c) → KeepsTexts b c (headers b) (headers c) (dynamic_entries b) (dynamic_entries c) → section_count c (dynamic_entries c) ≡ section_count b (dynamic_entries b) → KeepsSymbols b c (headers b) (headers c) (dynamic_entries b) (dynamic_entries c)
keeps_symbols b change c o h tags texts sections =
    let s = has_symbols b (unflawed_parts b o.unflawed).symbols in
    record {
      longer = o.keeps.longer;
      ranges = h.ranges;
      tags = tags;
      texts = texts;
      sections = sections;
      sysv = λ addr v. sysv_kept b change c addr o h s v;
      gnu = λ addr v. gnu_kept b change c addr o h s v;
      symbols = counted_there b c (symbols_kept_in b change c o h s);
    }

-- versions
backed_at : (b : List ℕ) (at size : ℕ) → is_unbacked b at size ≡ false → (r : Range) × (range_in (headers b) at size ≡ Some r)
backed_at b at size e = some_there (range_in (headers b) at size) (flip_off _ e)

placed_at : (b : List ℕ) (at size : ℕ) (r : Range) → range_in (headers b) at size ≡ Some r → file_place b at size ≡ r.0
unfolding file_place
placed_at b at size r e = ap (λ (o : Option Range). (unwrap_or o (0, 0)).0) e

pub record HasVersions (b : List ℕ) : Type 0 where
  pub indexes : bad_versym (symbol_count b) b ≡ None
  pub definitions : verdefs_flaw b ≡ None
  pub needs : verneeds_flaw b ≡ None

pub has_versions : (b : List ℕ) → version_flaw (symbol_count b) b ≡ None → HasVersions b
unfolding version_flaw
has_versions b e =
    let first = none_first (bad_versym (symbol_count b) b) (verdefs_flaw b ∷ verneeds_flaw b ∷ symbols_version_flaw (symbol_count b) b ∷ []) e in
    let second = none_first (verdefs_flaw b) (verneeds_flaw b ∷ symbols_version_flaw (symbol_count b) b ∷ []) first.1 in
    let third = none_first (verneeds_flaw b) (symbols_version_flaw (symbol_count b) b ∷ []) second.1 in
    record { indexes = first.0; definitions = second.0; needs = third.0 }

indexes_kept : (b : List ℕ) (change : Change) (c : List ℕ) → IsOver b change c → HasHeaders b c → HasVersions b → is_versioned b ≡ true → SameIn b c (versym b) (2 * symbol_count b)
indexes_kept b change c o h v is =
    let off = found_none (is_versioned b && is_unbacked b (versym b) (2 * symbol_count b)) _ v.indexes in
    let there = backed_at b (versym b) (2 * symbol_count b) (rw is at off) in
    table_in_memory b change c (ranges_of b 7) 0 (versym b) (2 * symbol_count b) there.0 o h (versym_apart b o.apart) there.1 (versym_listed b there.0 is there.1)

-- a definition and its first name
definitions_at : (xs : List (ℕ × ℕ)) (k : ℕ) (p : ℕ × ℕ) → slice_get xs k ≡ Some p → (i : ℕ) × (slice_get (flat_map (λ q. from_place 20 q.0 ∷ from_place 8 q.1 ∷ []) xs) i ≡ Some (from_place 20 p.0)) × (slice_get (flat_map (λ q. from_place 20 q.0 ∷ from_place 8 q.1 ∷ []) xs) (suc i) ≡ Some (from_place 8 p.1))
definitions_at [] k p e = absurd (cc)
definitions_at (x ∷ xs) zero p e = let same : x ≡ p = cc in (0, rw same refl, rw same refl)
definitions_at (x ∷ xs) (suc k) p e = let later = definitions_at xs k p e in (suc (suc later.0), later.1, later.2)

definition_listed : (b : List ℕ) (k : ℕ) → k < verdef_count b → (i : ℕ) × (slice_get (ranges_of b 9) i ≡ Some (from_place 20 (file_place b (verdef_place b k) 20))) × (slice_get (ranges_of b 9) (suc i) ≡ Some (from_place 8 (file_place b (verdaux_of b (verdef_place b k)) 8)))
unfolding ranges_of def_places_of
definition_listed b k h =
    let there = at_mapped (λ verdef. (file_place b verdef 20, file_place b (verdaux_of b verdef) 8)) (verdefs b) k (verdef_place b k) (at_mapped (verdef_place b) (range_with_len 0 (verdef_count b)) k k (counted_from (verdef_count b) k h)) in
    definitions_at (map (λ verdef. (file_place b verdef 20, file_place b (verdaux_of b verdef) 8)) (verdefs b)) k _ there

record HasDefinition (b : List ℕ) (at : ℕ) : Type 0 where
  pub record_backed : is_unbacked b at 20 ≡ false
  pub name_backed : is_unbacked b (verdaux_of b at) 8 ≡ false

definition_there : (b : List ℕ) (k : ℕ) → HasVersions b → k < verdef_count b → HasDefinition b (verdef_place b k)
unfolding verdefs_flaw verdef_flaw
definition_there b k v low =
    let at = verdef_place b k in
    let e : verdef_flaw b k ≡ None = none_each (verdef_flaw b) 0 (verdef_count b) v.definitions k (omega arith) (omega arith) in
    let last = bad_text b (vda_name b (verdaux_of b at)) ∷ bad_next (verdef_count b) k (vd_next b at) ∷ [] in
    let first = none_first (bad_verdef b at) (bad_verdaux b (verdaux_of b at) ∷ last) e in
    let second = none_first (bad_verdaux b (verdaux_of b at)) last first.1 in
    record { record_backed = (either_off _ _ (found_none _ _ first.0)).0; name_backed = found_none _ _ second.0 }

listed_range : (b : List ℕ) (at size : ℕ) (r : Range) (o : Option Range) → header_flaw b ≡ None → range_in (headers b) at size ≡ Some r → o ≡ Some (from_place size (file_place b at size)) → o ≡ Some r
listed_range b at size r o fine e h =
    let w = range_within b at size r fine e in
    h ∙ ap (λ (n : ℕ). Some (from_place size n)) (placed_at b at size r e) ∙ ap (λ (n : ℕ). Some (r.0, n)) w.0

definition_kept : (b : List ℕ) (change : Change) (c : List ℕ) (k : ℕ) → IsOver b change c → HasHeaders b c → HasVersions b → k < verdef_count b → SameIn b c (verdef_place b k) 20
definition_kept b change c k o h v low =
    let d = definition_there b k v low in
    let l = definition_listed b k low in
    let there = backed_at b (verdef_place b k) 20 d.record_backed in
    table_in_memory b change c (ranges_of b 9) l.0 (verdef_place b k) 20 there.0 o h (verdef_apart b o.apart) there.1 (listed_range b (verdef_place b k) 20 there.0 _ (unflawed_parts b o.unflawed).headers there.1 l.1)

name_kept : (b : List ℕ) (change : Change) (c : List ℕ) (k : ℕ) → IsOver b change c → HasHeaders b c → HasVersions b → k < verdef_count b → SameIn b c (verdaux_of b (verdef_place b k)) 8
name_kept b change c k o h v low =
    let d = definition_there b k v low in
    let l = definition_listed b k low in
    let there = backed_at b (verdaux_of b (verdef_place b k)) 8 d.name_backed in
    table_in_memory b change c (ranges_of b 9) (suc l.0) (verdaux_of b (verdef_place b k)) 8 there.0 o h (verdef_apart b o.apart) there.1 (listed_range b (verdaux_of b (verdef_place b k)) 8 there.0 _ (unflawed_parts b o.unflawed).headers there.1 l.2)

-- a need, and what is asked of its file
pub record HasNeed (b : List ℕ) (at : ℕ) : Type 0 where
  pub backed : is_unbacked b at 16 ≡ false
  pub named : bad_text b (vn_file b at) ≡ None
  pub asked : vernauxs_flaw b at ≡ None

pub need_of : (b : List ℕ) (k : ℕ) → HasVersions b → k < verneed_count b → HasNeed b (verneed_place b k)
unfolding verneeds_flaw verneed_flaw
need_of b k v low =
    let at = verneed_place b k in
    let e : verneed_flaw b k ≡ None = none_each (verneed_flaw b) 0 (verneed_count b) v.needs k (omega arith) (omega arith) in
    let last = bad_next (verneed_count b) k (vn_next b at) ∷ [] in
    let first = none_first (bad_verneed b at) (bad_text b (vn_file b at) ∷ vernauxs_flaw b at ∷ last) e in
    let second = none_first (bad_text b (vn_file b at)) (vernauxs_flaw b at ∷ last) first.1 in
    let third = none_first (vernauxs_flaw b at) last second.1 in
    record { backed = (either_off _ _ (found_none _ _ first.0)).0; named = second.0; asked = third.0 }

-- where the file has it
pub record HasPlace (b : List ℕ) (k : ℕ) : Type 0 where
  pub range : Range
  pub there : range_in (headers b) (verneed_place b k) 16 ≡ Some range
  pub from : need_place b k ≡ range.0
  pub within : need_place b k + 16 ≤ length b

pub placed_need : (b : List ℕ) (k : ℕ) → header_flaw b ≡ None → HasVersions b → k < verneed_count b → HasPlace b k
placed_need b k fine v low =
    let there = backed_at b (verneed_place b k) 16 (need_of b k v low).backed in
    let w = range_within b (verneed_place b k) 16 there.0 fine there.1 in
    let from = placed_at b (verneed_place b k) 16 there.0 there.1 in
    record { range = there.0; there = there.1; from = from; within = omega (arith, w.0, w.1) }

need_kept : (b : List ℕ) (change : Change) (c : List ℕ) (k : ℕ) → IsOver b change c → HasHeaders b c → HasVersions b → k < verneed_count b → SameIn b c (verneed_place b k) 4
need_kept b change c k o h v low =
    let fine = (unflawed_parts b o.unflawed).headers in
    let p = placed_need b k fine v low in
    let s = need_head b change c k o low p.within in
    let start : verneed_place b k + 0 ≡ verneed_place b k = omega arith in
    subst (λ n. SameIn b c n 4) start (same_part b c (verneed_place b k) 16 0 4 p.range fine h.fine h.ranges p.there (omega arith) (λ i n fits. moved b c k s p i n fits))
  where
    moved : (b c : List ℕ) (k : ℕ) → SamePart b c (need_place b k) 4 → (p : HasPlace b k) → (i n : ℕ) → i + n ≤ 4 → take n (drop (p.range.0 + 0 + i) c) ≡ take n (drop (p.range.0 + 0 + i) b)
    moved b c k s p i n fits =
        let at : need_place b k + i ≡ p.range.0 + 0 + i = omega (arith, p.from) in
        rw at at (s.parts i n fits)

link_kept : (b : List ℕ) (change : Change) (c : List ℕ) (k : ℕ) → IsOver b change c → HasHeaders b c → HasVersions b → k < verneed_count b → SameIn b c (verneed_place b k + 8) 8
link_kept b change c k o h v low =
    let fine = (unflawed_parts b o.unflawed).headers in
    let p = placed_need b k fine v low in
    let s = need_tail b change c k o low p.within in
    same_part b c (verneed_place b k) 16 8 8 p.range fine h.fine h.ranges p.there (omega arith) (λ i n fits. moved b c k s p i n fits)
  where
    moved : (b c : List ℕ) (k : ℕ) → SamePart b c (need_place b k + 8) 8 → (p : HasPlace b k) → (i n : ℕ) → i + n ≤ 8 → take n (drop (p.range.0 + 8 + i) c) ≡ take n (drop (p.range.0 + 8 + i) b)
    moved b c k s p i n fits =
        let at : need_place b k + 8 + i ≡ p.range.0 + 8 + i = omega (arith, p.from) in
        rw at at (s.parts i n fits)

in_flat : {X Y : Type 0} (f : X → List Y) (xs : List X) (k j : ℕ) (x : X) (y : Y) → slice_get xs k ≡ Some x → slice_get (f x) j ≡ Some y → (i : ℕ) × (slice_get (flat_map f xs) i ≡ Some y)
in_flat f [] k j x y e h = absurd (cc)
in_flat f (z ∷ xs) zero j x y e h =
    let same : z ≡ x = cc in
    (j, slice_get_left (f z) (flat_map f xs) j y (rw same h))
in_flat f (z ∷ xs) (suc k) j x y e h =
    let later = in_flat f xs k j x y e h in
    let there = at_second (f z) (flat_map f xs) later.0 y later.1 in
    (there.0, there.1)

asked_listed : (b : List ℕ) (k j : ℕ) → k < verneed_count b → j < vn_cnt b (verneed_place b k) → (i : ℕ) × (slice_get (asked_ranges b) i ≡ Some (from_place 16 (file_place b (vernaux_place b (verneed_place b k) j) 16)))
unfolding aux_places_of vernauxs
asked_listed b k j hk hj =
    let need = verneed_place b k in
    let one : slice_get (map (λ vernaux. (k, vernaux)) (vernauxs_of b need)) j ≡ Some (k, vernaux_place b need j) =
    at_mapped (λ vernaux. (k, vernaux)) (vernauxs_of b need) j (vernaux_place b need j) (at_mapped (vernaux_place b need) (range_with_len 0 (vn_cnt b need)) j j (counted_from (vn_cnt b need) j hj)) in
    let all = in_flat (λ k. map (λ vernaux. (k, vernaux)) (vernauxs_of b (verneed_place b k))) (range_with_len 0 (verneed_count b)) k j k (k, vernaux_place b need j) (counted_from (verneed_count b) k hk) one in
    (all.0, at_mapped (λ at. from_place 16 at) (aux_places_of b) all.0 (file_place b (vernaux_place b need j) 16) (at_mapped (λ a. file_place b a.1 16) (vernauxs b) all.0 (k, vernaux_place b need j) all.1))

asked_backed : (b : List ℕ) (at j : ℕ) → vernauxs_flaw b at ≡ None → j < vn_cnt b at → is_unbacked b (vernaux_place b at j) 16 ≡ false
unfolding vernauxs_flaw vernaux_flaw
asked_backed b at j v low =
    let e : vernaux_flaw b at j ≡ None = none_each (vernaux_flaw b at) 0 (vn_cnt b at) v j (omega arith) (omega arith) in
    let aux = vernaux_place b at j in
    let first = none_first (bad_vernaux b aux) (bad_text b (vna_name b aux) ∷ bad_next (vn_cnt b at) j (vna_next b aux) ∷ []) e in
    found_none _ _ first.0

asked_kept : (b : List ℕ) (change : Change) (c : List ℕ) (k j : ℕ) → IsOver b change c → HasHeaders b c → HasVersions b → k < verneed_count b → j < vn_cnt b (verneed_place b k) → SameIn b c (vernaux_place b (verneed_place b k) j) 16
asked_kept b change c k j o h v hk hj =
    let l = asked_listed b k j hk hj in
    let at = vernaux_place b (verneed_place b k) j in
    let there = backed_at b at 16 (asked_backed b (verneed_place b k) j (need_of b k v hk).asked hj) in
    table_in_memory b change c (asked_ranges b) l.0 at 16 there.0 o h (asked_apart b o.apart) there.1 (listed_range b at 16 there.0 _ (unflawed_parts b o.unflawed).headers there.1 l.1)

pub keeps_versions : (b : List ℕ) (change : Change) (c : List ℕ) → IsOver b change c → HasHeaders b c → KeepsTags (dynamic_entries b) (dynamic_entries c) → KeepsTexts b c (headers b) (headers c) (dynamic_entries b) (dynamic_entries c) → ((k : ℕ) → k < verneed_count b → vn_file c (verneed_place b k) < strings_size (dynamic_entries c)) → KeepsVersions (symbol_count b) b c
keeps_versions b change c o h tags texts files =
    let v = has_versions b (unflawed_parts b o.unflawed).versions in
    record {
      ranges = h.ranges;
      tags = tags;
      texts = texts;
      indexes = λ is. indexes_kept b change c o h v is;
      definitions = λ k low. definition_kept b change c k o h v low;
      names = λ k low. name_kept b change c k o h v low;
      needs = λ k low. need_kept b change c k o h v low;
      links = λ k low. link_kept b change c k o h v low;
      asked = λ k j hk hj. asked_kept b change c k j o h v hk hj;
      files = files;
    }
