-- The names of the tables of a file, by the numbers under which an overlap names them.
use Rattle.std.specs.Prelude.{ℕ, List, [], ◌∷◌, ◌==◌, Option, None, Some, codes}
use Rattle.std.specs.Fmt.{decimal}
use Rattle.std.specs.List.{find}
use Rattle.std.specs.Option.{option_map}
use Rattle.elf_rewrite.specs.declared.numbering.TheConstants.{HEADER, SEGMENTS, INTERP, DYNAMIC, STRINGS, SYMBOLS, VERSYM, VERNEED, VERDEF, HASH, GNU_HASH, SECTIONS}

-- A table's number and its name.
abbrev pub NamedTable : Type 0
NamedTable = ℕ × List ℕ

abbrev pub named_tables : List NamedTable
named_tables =
    (HEADER, codes "header")
    ∷ (SEGMENTS, codes "segments")
    ∷ (INTERP, codes "interp")
    ∷ (DYNAMIC, codes "dynamic")
    ∷ (STRINGS, codes "strings")
    ∷ (SYMBOLS, codes "symbols")
    ∷ (VERSYM, codes "versym")
    ∷ (VERNEED, codes "verneed")
    ∷ (VERDEF, codes "verdef")
    ∷ (HASH, codes "hash")
    ∷ (GNU_HASH, codes "gnuhash")
    ∷ (SECTIONS, codes "sections")
    ∷ []

abbrev pub table_name : ℕ → Option (List ℕ)
table_name number = option_map (λ t. t.1) (find (λ t. t.0 == number) named_tables)

-- The name, or the number where there is none.
abbrev pub named_or_number : ℕ → Option (List ℕ) → List ℕ
named_or_number number None = decimal number
named_or_number number (Some name) = name

unfoldable pub table_text : ℕ → List ℕ
table_text number = named_or_number number (table_name number)
