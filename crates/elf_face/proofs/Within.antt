-- What a file has in it whose headers have no flaw.
use Rattle.std.proofs.Common.{◌≡◌, ℕ, ◌≤◌, Bool, true, false, List, [], ◌∷◌, Some, None, length, refl, arith}
use Rattle.std.specs.Prelude.{nat_lt}
use Rattle.std.specs.List.{find}
use Rattle.std.proofs.lemmas.Bool.Decides.{nat_tests}
use Rattle.answers.specs.First.{some_where}
use Rattle.byte_view.specs.Checks.{flaw}
use Rattle.byte_view.specs.HeaderFlaws.{has_bad_range, header_flaw, ident_flaw, not_elf, segment_flaw, short_header, too_big, word_flaw, wrong_class, wrong_ident_version, wrong_order, wrong_version}
use Rattle.byte_view.specs.Headers.{file_end, headers, is_interp}
use Rattle.byte_view.specs.Sound.{IsReadFrom}
use Rattle.byte_view.specs.declared.segments.Segment.{Segment}
use Rattle.byte_view.proofs.Found.{find_all, find_passes}
use Rattle.byte_view.proofs.Loads.{none_first}
use Rattle.dyn_table.proofs.Placed.{sound_read}
use Rattle.byte_view.specs.declared.flaws.TheConstants.{SHORT}

-- the bytes of the first INTERP
pub interp_within : (segments : List Segment) (file : List ℕ) (s : Segment) → IsReadFrom segments file → find is_interp segments ≡ Some s → file_end s ≤ length file
interp_within segments file s r found =
    let passes : is_interp s ≡ true = find_passes is_interp segments s found in
    let good : has_bad_range (length file) s ≡ false = find_all is_interp (has_bad_range (length file)) segments s (sound_read segments file r).mappable found in
    grind (arith, nat_tests)

-- such a file has a whole ELF header
pub header_whole : (file : List ℕ) → header_flaw file ≡ None → 64 ≤ length file
unfolding header_flaw ident_flaw
header_whole file e =
    let ident = none_first (ident_flaw file) (word_flaw file ∷ segment_flaw (length file) (headers file) ∷ []) e in
    let big = none_first (too_big file) (not_elf file ∷ short_header file ∷ wrong_class file ∷ wrong_order file ∷ wrong_ident_version file ∷ wrong_version file ∷ []) ident.0 in
    let elf = none_first (not_elf file) (short_header file ∷ wrong_class file ∷ wrong_order file ∷ wrong_ident_version file ∷ wrong_version file ∷ []) big.1 in
    let short : short_header file ≡ None = (none_first (short_header file) (wrong_class file ∷ wrong_order file ∷ wrong_ident_version file ∷ wrong_version file ∷ []) elf.1).0 in
    go (nat_lt (length file) 64) refl short
  where
    go : (b : Bool) → nat_lt (length file) 64 ≡ b → some_where b (flaw SHORT 64 (length file)) ≡ None → 64 ≤ length file
    go true t e = absurd (cc)
    go false t e = grind (arith, nat_tests)
