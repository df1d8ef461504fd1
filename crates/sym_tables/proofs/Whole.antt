-- The parts of what was read are those of the file.
use Rattle.std.proofs.Common.{◌≡◌, ℕ, ◌+◌, ◌*◌, ◌≤◌, Bool, true, false, ◌&&◌, List, Option, Some, None, length, refl, sym, ap, ◌∙◌, arith}
use Rattle.std.specs.Prelude.{nat_le, Result, Ok, Err, IfOk}
use Rattle.answers.specs.Answers.{TellsBy}
use Rattle.byte_view.specs.Memory.{memory_bytes}
use Rattle.load_model.specs.SymbolTable.{symbol_of, symbols_at, symbols_in}
use Rattle.sym_tables.specs.Faults.{symbol_fault_flaw}
use Rattle.sym_tables.specs.declared.faults.SymFault.{SymFault}
use Rattle.std.specs.List.{list_all}
use Rattle.std.specs.Option.{option_and_then, option_map}
use Rattle.std.proofs.lemmas.Bool.Decides.{nat_tests}
use Rattle.std.proofs.lemmas.List.FromFn.{length-map-range_with_len}
use Rattle.byte_view.specs.Dynamic.{strings_of, strings_size, value_of}
use Rattle.byte_view.specs.Sound.{IsReadFrom}
use Rattle.byte_view.specs.declared.constants.TheConstants.{DT_HASH, DT_GNU_HASH}
use Rattle.byte_view.specs.declared.dynamic.Entry.{Entry}
use Rattle.byte_view.specs.declared.segments.Segment.{Segment}
use Rattle.dyn_table.specs.Table.{IsTableOf, Table}
use Rattle.load_model.specs.GnuTable.{gnu_place, gnu_reach, gnu_table}
use Rattle.load_model.specs.SymbolCount.{count_in, first_count, section_count}
use Rattle.load_model.specs.SymbolFlaws.{count_by, count_flaw, gnu_range, list_flaw, symbol_count, symbol_flaw, symbol_flaw_by, symbols_of, sysv_range}
use Rattle.load_model.specs.SysvTable.{SysvTable, is_link, ends_in, is_sysv_sound, nbucket, nchain, sysv_place, sysv_table}
use Rattle.load_model.specs.TableWords.{word_in, words_in}
use Rattle.load_model.specs.declared.symbols.RawSym.{RawSym}
use Rattle.sym_tables.specs.Counts.{counts_flaw}
use Rattle.sym_tables.specs.FoundTables.{HasBucket, IsGnuAt, IsSysvAt}
use Rattle.sym_tables.specs.Listing.{file_strings, gnu_of, lists_flaw, sysv_of}
use Rattle.sym_tables.specs.ReadSymbols.{AreStringsAt, AreSymsBy, AreHashTablesOf, IsSymsOf, Symbols}
use Rattle.sym_tables.specs.declared.gnu.FoundGnu.{FoundGnu}
use Rattle.sym_tables.specs.declared.sysv.FoundSysv.{FoundSysv}
use Rattle.sym_tables.specs.declared.tables.Tables.{Tables}

-- so many words are so many
chains_many : (file : List ℕ) (segments : List Segment) (addr : ℕ) → length (sysv_table file segments addr).chains ≡ nchain file segments addr
unfolding sysv_table words_in
chains_many file segments addr = length-map-range_with_len (λ i. word_in 4 file segments (addr + 8 + 4 * nbucket file segments addr + 4 * i)) 0 (nchain file segments addr)

hash_counts : (file : List ℕ) (segments : List Segment) (found : Option FoundSysv) (at : Option ℕ) → IsSysvAt found file segments at → option_map (λ f. length f.table.chains) found ≡ option_map (λ addr. nchain file segments addr) at
hash_counts file segments None at e = rw e refl
hash_counts file segments (Some f) None e = absurd e
hash_counts file segments (Some f) (Some addr) e = ap Some (ap (λ (t : SysvTable). length t.chains) e.table ∙ chains_many file segments addr)

reaches : (file : List ℕ) (segments : List Segment) (found : Option FoundGnu) (at : Option ℕ) → IsGnuAt found file segments at → option_and_then (λ f. f.reach) found ≡ option_and_then (λ addr. gnu_reach file segments addr) at
reaches file segments None at e = rw e refl
reaches file segments (Some f) None e = absurd e
reaches file segments (Some f) (Some addr) e = e.reach

sysv_ranges : (file : List ℕ) (segments : List Segment) (found : Option FoundSysv) (at : Option ℕ) → IsSysvAt found file segments at → option_map (λ f. f.range) found ≡ option_and_then (λ addr. sysv_place file segments addr) at
sysv_ranges file segments None at e = rw e refl
sysv_ranges file segments (Some f) None e = absurd e
sysv_ranges file segments (Some f) (Some addr) e = sym e.range

gnu_ranges : (file : List ℕ) (segments : List Segment) (found : Option FoundGnu) (at : Option ℕ) → IsGnuAt found file segments at → option_map (λ f. f.range) found ≡ option_and_then (λ addr. gnu_place file segments addr) at
gnu_ranges file segments None at e = rw e refl
gnu_ranges file segments (Some f) None e = absurd e
gnu_ranges file segments (Some f) (Some addr) e = sym e.range

sysv_tables : (file : List ℕ) (segments : List Segment) (found : Option FoundSysv) (at : Option ℕ) → IsSysvAt found file segments at → sysv_of found ≡ option_map (λ addr. sysv_table file segments addr) at
sysv_tables file segments None at e = rw e refl
sysv_tables file segments (Some f) None e = absurd e
sysv_tables file segments (Some f) (Some addr) e = ap Some e.table

gnu_tables : (file : List ℕ) (segments : List Segment) (found : Option FoundGnu) (at : Option ℕ) → IsGnuAt found file segments at → gnu_of found ≡ option_map (λ addr. gnu_table file segments addr) at
gnu_tables file segments None at e = rw e refl
gnu_tables file segments (Some f) None e = absurd e
gnu_tables file segments (Some f) (Some addr) e = ap Some e.table

-- the counts that the tables give
pub counts_are : (file : List ℕ) (segments : List Segment) (entries : List Entry) (t : Tables) → AreHashTablesOf t file segments entries → counts_flaw (section_count file entries) (option_map (λ f. length f.table.chains) t.sysv) (option_and_then (λ f. f.reach) t.gnu) ≡ count_flaw file segments entries
unfolding counts_flaw count_flaw count_in
counts_are file segments entries t are =
    rw (hash_counts file segments t.sysv (value_of DT_HASH entries) are.sysv, reaches file segments t.gnu (value_of DT_GNU_HASH entries) are.gnu) refl

pub count_is : (file : List ℕ) (segments : List Segment) (entries : List Entry) (t : Tables) (count : ℕ) → AreHashTablesOf t file segments entries → first_count (section_count file entries) (option_map (λ f. length f.table.chains) t.sysv) (option_and_then (λ f. f.reach) t.gnu) ≡ Some count → count ≡ count_by file segments entries
unfolding count_in
count_is file segments entries t count are e =
    let same : count_in file segments entries ≡ Some count = rw (hash_counts file segments t.sysv (value_of DT_HASH entries) are.sysv, reaches file segments t.gnu (value_of DT_GNU_HASH entries) are.gnu) at e in
    rw same refl

-- a table that was found has a bucket
has_bucket : (t : SysvTable) → is_sysv_sound t ≡ true → 1 ≤ length t.buckets
unfolding is_sysv_sound
has_bucket t e = go (nat_le 1 (length t.buckets)) refl e
  where
    go : (b : Bool) → nat_le 1 (length t.buckets) ≡ b → (b && (list_all (λ w. is_link (length t.chains) w) t.buckets && (list_all (λ w. is_link (length t.chains) w) t.chains && list_all (λ at. ends_in (length t.chains) t.chains at) t.buckets))) ≡ true → 1 ≤ length t.buckets
    go true h e = grind (arith, nat_tests)
    go false h e = absurd (cc)

pub tables_sound : (file : List ℕ) (segments : List Segment) (entries : List Entry) (t : Tables) → AreHashTablesOf t file segments entries → HasBucket t.sysv
tables_sound file segments entries t are = go t.sysv (value_of DT_HASH entries) are.sysv
  where
    go : (found : Option FoundSysv) (at : Option ℕ) → IsSysvAt found file segments at → HasBucket found
    go None at e = tt
    go (Some f) None e = absurd e
    go (Some f) (Some addr) e = has_bucket f.table e.sound

-- the flaws of the list of symbols
pub list_is : (file : List ℕ) (segments : List Segment) (table : Table) (t : Tables) (symbols : List RawSym) → IsReadFrom segments file → IsTableOf table file → AreHashTablesOf t file segments table.entries → lists_flaw (strings_size table.entries) (sysv_of t.sysv) (gnu_of t.gnu) (file_strings file) symbols ≡ list_flaw file segments table.entries symbols
unfolding lists_flaw list_flaw
list_is file segments table t symbols r is are =
    let strings : file_strings file ≡ strings_of file segments table.entries = rw (r.same, is.entries) refl in
    rw (sysv_tables file segments t.sysv (value_of DT_HASH table.entries) are.sysv, gnu_tables file segments t.gnu (value_of DT_GNU_HASH table.entries) are.gnu, strings) refl

-- the whole
pub flaw_is : (file : List ℕ) (segments : List Segment) (table : Table) → IsReadFrom segments file → IsTableOf table file → symbol_flaw_by file segments table.entries ≡ symbol_flaw file
unfolding symbol_flaw
flaw_is file segments table r is = rw (r.same, is.entries) refl

pub syms_are : (file : List ℕ) (segments : List Segment) (table : Table) (s : Symbols) → IsReadFrom segments file → IsTableOf table file → symbol_flaw_by file segments table.entries ≡ None → AreSymsBy s file segments table.entries → IsSymsOf s file
unfolding symbol_flaw symbol_count symbols_of sysv_range gnu_range
syms_are file segments table s r is none are = record {
  unflawed = rw (r.same, is.entries) at none;
  count = rw (r.same, is.entries) at are.count;
  raw = rw (r.same, is.entries) at are.raw;
  hash_range = rw (r.same, is.entries) at are.hash_range;
  gnu_range = rw (r.same, is.entries) at are.gnu_range;
  sysv = rw (r.same, is.entries) at are.sysv;
  gnu = rw (r.same, is.entries) at are.gnu;
  strings = are.strings;
}

symbols_many : (file : List ℕ) (segments : List Segment) (addr count : ℕ) → length (symbols_in file segments addr count) ≡ count
unfolding symbols_in
symbols_many file segments addr count = length-map-range_with_len (λ i. symbol_of (memory_bytes file segments (addr + 24 * i) 24) 0) 0 count

pub syms_made : (file : List ℕ) (segments : List Segment) (entries : List Entry) (t : Tables) (symbols : List RawSym) (addr count : ℕ) (strings : ℕ × ℕ) → AreHashTablesOf t file segments entries → count ≡ count_by file segments entries → addr ≡ symbols_at entries → symbols ≡ symbols_in file segments addr count → AreStringsAt strings file → AreSymsBy (record { count = length symbols; raw = symbols; hash_range = option_map (λ f. f.range) t.sysv; gnu_range = option_map (λ f. f.range) t.gnu; sysv = sysv_of t.sysv; gnu = gnu_of t.gnu; strings = strings }) file segments entries
syms_made file segments entries t symbols addr count strings are c at s here = record {
  count = ap length s ∙ (symbols_many file segments addr count ∙ c);
  raw = rw (at, c) at s;
  hash_range = sysv_ranges file segments t.sysv (value_of DT_HASH entries) are.sysv;
  gnu_range = gnu_ranges file segments t.gnu (value_of DT_GNU_HASH entries) are.gnu;
  sysv = sysv_tables file segments t.sysv (value_of DT_HASH entries) are.sysv;
  gnu = gnu_tables file segments t.gnu (value_of DT_GNU_HASH entries) are.gnu;
  strings = here;
}

pub syms_of_result : (file : List ℕ) (segments : List Segment) (table : Table) (r : Result Symbols SymFault) → IsReadFrom segments file → IsTableOf table file → TellsBy symbol_fault_flaw r (symbol_flaw_by file segments table.entries) → IfOk r (λ s. AreSymsBy s file segments table.entries) → IfOk r (λ s. IsSymsOf s file)
syms_of_result file segments table (Ok s) r is tells are = syms_are file segments table s r is tells are
syms_of_result file segments table (Err e) r is tells are = tt
