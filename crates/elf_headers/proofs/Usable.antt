-- What the segment that an address leads to is like.
use Rattle.std.proofs.Common.{◌≡◌, ℕ, ◌+◌, ◌≤◌, true, false, List, Some, None, arith}
use Rattle.std.specs.List.{filter, find}
use Rattle.std.proofs.lemmas.Bool.Decides.{nat_tests}
use Rattle.byte_view.specs.HeaderFlaws.{has_bad_range, segment_flaw}
use Rattle.byte_view.specs.Headers.{file_end, is_load}
use Rattle.byte_view.specs.Memory.{backs, holds, the_only}
use Rattle.byte_view.specs.declared.constants.TheConstants.{LONGEST_FILE}
use Rattle.byte_view.specs.declared.segments.Segment.{Segment}
use Rattle.byte_view.proofs.Backed.{load_sizes}
use Rattle.byte_view.proofs.Found.{find_all, find_passes, only_is_find}
use Rattle.byte_view.proofs.Loads.{sound_segments}
use Rattle.elf_headers.specs.Usable.{AreUsable}

pub usable_segments : (len : ℕ) (segments : List Segment) → len ≤ LONGEST_FILE → segment_flaw len segments ≡ None → AreUsable segments
usable_segments len segments limit e = record { len = len; limit = limit; sound = sound_segments len segments e }

pub holder_is_only : (segments : List Segment) (addr : ℕ) → AreUsable segments → the_only (filter (holds addr) segments) ≡ find (holds addr) segments
holder_is_only segments addr u = only_is_find (holds addr) segments (u.sound.one.one addr)

pub holder_limits : (segments : List Segment) (addr : ℕ) (s : Segment) → AreUsable segments → find (holds addr) segments ≡ Some s → (s.vaddr ≤ addr) × (file_end s ≤ LONGEST_FILE)
holder_limits segments addr s u e =
    let passes : holds addr s ≡ true = find_passes (holds addr) segments s e in
    let load : is_load s ≡ true = grind (arith, nat_tests) in
    let good : has_bad_range u.len s ≡ false = find_all (holds addr) (has_bad_range u.len) segments s u.sound.mappable e in
    (grind (arith, nat_tests), omega (arith, u.limit, (load_sizes u.len s load good).1))

pub backer_limits : (segments : List Segment) (addr len : ℕ) (s : Segment) → AreUsable segments → find (backs addr len) segments ≡ Some s → (s.vaddr ≤ addr) × (file_end s ≤ LONGEST_FILE) × (addr + len ≤ s.vaddr + s.filesz)
backer_limits segments addr len s u e =
    let passes : backs addr len s ≡ true = find_passes (backs addr len) segments s e in
    let load : is_load s ≡ true = grind (arith, nat_tests) in
    let good : has_bad_range u.len s ≡ false = find_all (backs addr len) (has_bad_range u.len) segments s u.sound.mappable e in
    (grind (arith, nat_tests), omega (arith, u.limit, (load_sizes u.len s load good).1), grind (arith, nat_tests))
