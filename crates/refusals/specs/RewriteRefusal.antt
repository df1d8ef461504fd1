-- Why a file is not rewritten: the number of each refusal, and what it says with its evidence.
use Rattle.std.specs.Prelude.{ℕ, List, [], ◌++◌, codes}
use Rattle.std.specs.Fmt.{decimal}
use Rattle.refusals.specs.Fields.{with_field}
use Rattle.refusals.specs.Tables.{table_text}
use Rattle.refusals.specs.declared.numbers.TheConstants.{NO_ROOM, TABLE_OVERLAP, TOO_MANY_HEADERS, TOO_LARGE, STRINGS_TOO_LONG}
use Rattle.refusals.specs.declared.rewrite_refusal.RewriteRefusal.{RewriteRefusal}
use Rattle.refusals.specs.declared.rewrite_refusal.RewriteRefusal.TheVariants.{NoRoom, TableOverlap, TooManyHeaders, TooLarge, StringsTooLong}

abbrev pub rewrite_number : RewriteRefusal → ℕ
rewrite_number (NoRoom path) = NO_ROOM
rewrite_number (TableOverlap one other path) = TABLE_OVERLAP
rewrite_number (TooManyHeaders path) = TOO_MANY_HEADERS
rewrite_number (TooLarge path size) = TOO_LARGE
rewrite_number (StringsTooLong path) = STRINGS_TOO_LONG

abbrev pub rewrite_evidence : RewriteRefusal → List ℕ
rewrite_evidence (NoRoom path) = with_field (codes "no room for a segment in ") path []
rewrite_evidence (TableOverlap one other path) =
    with_field
    (codes "overlap of "
    ++ (table_text one ++ (codes " and " ++ (table_text other ++ codes " in "))))
    path []
rewrite_evidence (TooManyHeaders path) = with_field (codes "too many program headers in ") path []
rewrite_evidence (TooLarge path size) =
    with_field [] path (codes " would have " ++ (decimal size ++ codes " bytes"))
rewrite_evidence (StringsTooLong path) =
    with_field (codes "strings of ") path (codes " are too long")
