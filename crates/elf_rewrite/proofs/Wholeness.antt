-- A file whose headers have no flaw has them whole
use Rattle.std.proofs.Common.{◌≡◌, ℕ, ◌≤◌, List, [], ◌∷◌, None, length, arith}
use Rattle.std.proofs.lemmas.Bool.Decides.{nat_tests}
use Rattle.byte_view.specs.HeaderFlaws.{header_flaw, ident_flaw, not_elf, segment_flaw, short_header, too_big, word_flaw, wrong_class, wrong_ident_version, wrong_order, wrong_version}
use Rattle.byte_view.specs.Headers.{headers}
use Rattle.byte_view.specs.Sound.{IsReadFrom}
use Rattle.byte_view.specs.declared.constants.TheConstants.{LONGEST_FILE}
use Rattle.byte_view.specs.declared.segments.Segment.{Segment}
use Rattle.byte_view.proofs.Loads.{none_first}

-- such a file has a whole ELF header, and is not too long
pub whole : (file : List ℕ) → header_flaw file ≡ None → (64 ≤ length file) × (length file ≤ LONGEST_FILE)
unfolding header_flaw ident_flaw
whole file e =
    let ident = none_first (ident_flaw file) (word_flaw file ∷ segment_flaw (length file) (headers file) ∷ []) e in
    let big = none_first (too_big file) (not_elf file ∷ short_header file ∷ wrong_class file ∷ wrong_order file ∷ wrong_ident_version file ∷ wrong_version file ∷ []) ident.0 in
    let elf = none_first (not_elf file) (short_header file ∷ wrong_class file ∷ wrong_order file ∷ wrong_ident_version file ∷ wrong_version file ∷ []) big.1 in
    let short = none_first (short_header file) (wrong_class file ∷ wrong_order file ∷ wrong_ident_version file ∷ wrong_version file ∷ []) elf.1 in
    let a : short_header file ≡ None = short.0 in
    let b : too_big file ≡ None = big.0 in
    (grind (arith, nat_tests), grind (arith, nat_tests))

pub header_whole : (segments : List Segment) (file : List ℕ) → IsReadFrom segments file → 64 ≤ length file
header_whole segments file r = (whole file r.unflawed).0

pub not_too_long : (segments : List Segment) (file : List ℕ) → IsReadFrom segments file → length file ≤ LONGEST_FILE
not_too_long segments file r = (whole file r.unflawed).1
