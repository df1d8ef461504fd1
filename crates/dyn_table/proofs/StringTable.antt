-- The string table as memory has it is a part of the file.
use Rattle.std.proofs.Common.{◌≡◌, ℕ, ◌+◌, ◌-◌, ◌<◌, ◌≤◌, not, Bool, true, false, cond, List, Some, None, length, take, drop, refl, ap, sym, ◌∙◌, arith}
use Rattle.std.specs.Prelude.{nat_lt, position}
use Rattle.std.specs.List.{before_first, find, position_or_len}
use Rattle.std.proofs.lemmas.Bool.Decides.{nat_tests}
use Rattle.std.proofs.lemmas.List.Sums.{prefix_len-le-length}
use Rattle.byte_view.specs.Dynamic.{dynamic_entries, dynamic_table, is_end, strings_at, strings_of, strings_size}
use Rattle.byte_view.specs.DynamicFlaws.{dynamic_flaw, segment_flaw_by, table_flaw}
use Rattle.byte_view.specs.HeaderFlaws.{has_bad_range}
use Rattle.byte_view.specs.Headers.{headers, is_dynamic, is_load, memory_end}
use Rattle.byte_view.specs.Memory.{backs, memory_bytes, range_in}
use Rattle.byte_view.specs.Sound.{AreSound, IsReadFrom}
use Rattle.byte_view.specs.declared.constants.TheConstants.{HIGHEST_END}
use Rattle.byte_view.specs.declared.dynamic.Entry.{Entry}
use Rattle.byte_view.specs.declared.segments.Segment.{Segment}
use Rattle.dyn_table.specs.Table.{IsTableOf}
use Rattle.byte_view.proofs.Backed.{IsBackedBy, backed_by}
use Rattle.byte_view.proofs.Found.{find_all}
use Rattle.byte_view.proofs.Loads.{sound_file}
use Rattle.byte_view.proofs.Ranges.{IsRangeOf, IsRead, range_found, range_read}
use Rattle.dyn_table.proofs.Placed.{sound_read}

-- a range that is not empty ends where loaded segments end
pub range_limit : (segments : List Segment) (file : List ℕ) (addr len : ℕ) (range : ℕ × ℕ) → IsReadFrom segments file → range_in segments addr len ≡ Some range → 0 < len → addr + len ≤ HIGHEST_END
range_limit segments file addr len range r e h =
    let sound : AreSound (length file) segments = sound_read segments file r in
    let f : IsRangeOf segments addr len range = range_found segments addr len range h e in
    let b : IsBackedBy file segments f.segment addr len = backed_by file segments f.segment addr len sound f.found in
    let good : has_bad_range (length file) f.segment ≡ false = find_all (backs addr len) (has_bad_range (length file)) segments f.segment sound.mappable f.found in
    let load : is_load f.segment ≡ true = b.load in
    let end : memory_end f.segment ≤ HIGHEST_END = grind (arith, nat_tests) in
    omega (arith, b.high, b.sizes)

-- the strings stand in the file where their range is
pub record AreStrings (file : List ℕ) (strings : List ℕ) (range : ℕ × ℕ) : Type 0 where
  pub same : take (range.1 - range.0) (drop range.0 file) ≡ strings
  pub order : range.0 ≤ range.1
  pub within : range.1 ≤ length file

pub strings_there : (segments : List Segment) (file : List ℕ) (entries : List Entry) (range : ℕ × ℕ) → IsReadFrom segments file → range_in segments (strings_at entries) (strings_size entries) ≡ Some range → AreStrings file (strings_of file (headers file) entries) range
unfolding strings_of
strings_there segments file entries range r e =
    let here : range_in (headers file) (strings_at entries) (strings_size entries) ≡ Some range = rw (← r.same) e in
    let read : IsRead file (headers file) (strings_at entries) (strings_size entries) range = range_read file (headers file) (strings_at entries) (strings_size entries) range (sound_file file r.unflawed) here in
    let size : range.1 - range.0 ≡ strings_size entries = omega (arith, read.ends) in
    let from : strings_at entries + 0 ≡ strings_at entries = omega arith in
    let place : range.0 + 0 ≡ range.0 = omega arith in
    let all : memory_bytes file (headers file) (strings_at entries + 0) (strings_size entries) ≡ take (strings_size entries) (drop (range.0 + 0) file) = read.parts 0 (strings_size entries) (omega arith) in
    record {
      same = rw size (sym (rw (from, place) at all));
      order = omega (arith, read.ends);
      within = read.within;
    }

-- a place that was found is where the front that fails ends
pub place_is : {X : Type 0} (p : X → Bool) (xs : List X) (i : ℕ) → position p xs ≡ Some i → position_or_len p xs ≡ i
place_is p xs i e = go (nat_lt (position_or_len p xs) (length xs)) e
  where
    go : (b : Bool) → cond b (Some (position_or_len p xs)) None ≡ Some i → position_or_len p xs ≡ i
    go true e = cc
    go false e = absurd (cc)

pub no_place : {X : Type 0} (p : X → Bool) (xs : List X) → position p xs ≡ None → position_or_len p xs ≡ length xs
no_place p xs e = go (nat_lt (position_or_len p xs) (length xs)) refl e
  where
    go : (b : Bool) → nat_lt (position_or_len p xs) (length xs) ≡ b → cond b (Some (position_or_len p xs)) None ≡ None → position_or_len p xs ≡ length xs
    go true k e = absurd (cc)
    go false k e = let most : position_or_len p xs ≤ length xs = prefix_len-le-length (λ x. not (p x)) xs in grind (arith, nat_tests)

-- the parts of a table that was read are those of the file
pub table_made : (segments : List Segment) (file : List ℕ) (table entries : List Entry) (end capacity from to : ℕ) → IsReadFrom segments file → segment_flaw_by segments (find is_dynamic segments) ≡ None → table_flaw file segments table ≡ None → table ≡ dynamic_table file → entries ≡ take end table → capacity ≡ length table → take end table ≡ before_first is_end table → range_in segments (strings_at (before_first is_end table)) (strings_size (before_first is_end table)) ≡ Some (from, to) → IsTableOf (record { entries = entries; capacity = capacity; from = from; to = to }) file
unfolding dynamic_entries dynamic_flaw
table_made segments file table entries end capacity from to r placed read t e c front range =
    let placed_there : segment_flaw_by (headers file) (find is_dynamic (headers file)) ≡ None = rw (← r.same) placed in
    let read_there : table_flaw file (headers file) (dynamic_table file) ≡ None = rw (← r.same, ← t) read in
    let whole : before_first is_end table ≡ dynamic_entries file = ap (before_first is_end) t in
    let s : AreStrings file (strings_of file (headers file) (before_first is_end table)) (from, to) = strings_there segments file (before_first is_end table) (from, to) r range in
    record {
      unflawed = rw (placed_there, read_there) refl;
      entries = e ∙ (front ∙ whole);
      capacity = c ∙ ap length t;
      strings = s.same ∙ ap (strings_of file (headers file)) whole;
      order = s.order;
      within = s.within;
    }
