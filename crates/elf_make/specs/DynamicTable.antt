-- The dynamic table of a made file (System V gABI, Dynamic Section)
use Rattle.std.specs.Prelude.{ℕ, ◌+◌, ◌*◌, Bool, cond, List, [], ◌∷◌, ◌++◌, Option, Some, None, map, length, replicate}
use Rattle.byte_view.specs.Dynamic.{tagged}
use Rattle.byte_view.specs.declared.constants.TheConstants.{DT_NULL, DT_NEEDED, DT_HASH, DT_STRTAB, DT_SYMTAB, DT_STRSZ, DT_SYMENT, DT_SONAME, DT_RPATH, DT_SYMBOLIC, DT_RUNPATH, DT_GNU_HASH, DT_VERSYM, DT_VERDEF, DT_VERDEFNUM, DT_VERNEED, DT_VERNEEDNUM, SYM_SIZE}
use Rattle.byte_view.specs.declared.dynamic.Entry.{Entry}
use Rattle.elf_shape.specs.Texts.{string_place}
use Rattle.elf_shape.specs.Versions.{is_none_of, has_version_indexes, files_of}
use Rattle.elf_shape.specs.declared.shape.Shape.{Shape}
use Rattle.elf_shape.specs.declared.versions.Versions.{Versions}
use Rattle.elf_make.specs.declared.parts.Parts.{Parts}
use Rattle.elf_make.specs.declared.parts.Places.{Places}

-- an entry that is there where it is wanted
abbrev pub where_wanted : Bool → ℕ → ℕ → List Entry
where_wanted b tag value = cond b (tagged tag value ∷ []) []

-- the entry that names a text, where there is one
abbrev pub naming : List (List ℕ) → ℕ → Option (List ℕ) → List Entry
naming texts tag None = []
naming texts tag (Some text) = tagged tag (string_place texts text) ∷ []

-- what the file needs, what it is called, and how it is searched
unfoldable pub name_entries : Shape → List (List ℕ) → List Entry
name_entries shape texts =
    map (λ need. tagged DT_NEEDED (string_place texts need)) shape.needs
    ++ (naming texts DT_SONAME shape.soname ++ (naming texts DT_RPATH shape.rpath
    ++ (naming texts DT_RUNPATH shape.runpath ++ where_wanted shape.symbolic DT_SYMBOLIC 0)))

-- where its strings and symbols are
unfoldable pub table_entries : Shape → Parts → Places → List Entry
table_entries shape parts places =
    where_wanted shape.sysv DT_HASH places.sysv ++ (where_wanted shape.gnu DT_GNU_HASH places.gnu
    ++ (tagged DT_STRTAB places.strings ∷ tagged DT_SYMTAB places.symbols
    ∷ tagged DT_STRSZ (length parts.strings) ∷ tagged DT_SYMENT SYM_SIZE ∷ []))

-- where its versions are
unfoldable pub version_entries : Versions → Places → List Entry
version_entries versions places =
    where_wanted (has_version_indexes versions) DT_VERSYM places.versym
    ++ (cond (is_none_of versions.definitions) []
    (tagged DT_VERDEF places.verdef ∷ tagged DT_VERDEFNUM (1 + length versions.definitions) ∷ [])
    ++ cond (is_none_of versions.needed) []
    (tagged DT_VERNEED places.verneed ∷ tagged DT_VERNEEDNUM (length (files_of versions.needed))
    ∷ []))

-- the end, and as many entries more as are spare
unfoldable pub end_entries : ℕ → List Entry
end_entries spare = tagged DT_NULL 0 ∷ replicate spare (tagged DT_NULL 0)

unfoldable pub entries_of : Shape → Versions → List (List ℕ) → Parts → Places → List Entry
entries_of shape versions texts parts places =
    name_entries shape texts ++ (table_entries shape parts places ++ (version_entries versions
    places ++ end_entries shape.spare))

-- an entry has 16 bytes
abbrev pub dynamic_size : List Entry → ℕ
dynamic_size entries = 16 * length entries
