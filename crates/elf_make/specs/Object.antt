-- A made file: its parts one behind the other
use Rattle.std.specs.Prelude.{ℕ, ◌+◌, List, ◌++◌}
use Rattle.byte_view.specs.declared.dynamic.Entry.{Entry}
use Rattle.elf_shape.specs.Versions.{made_versions}
use Rattle.elf_shape.specs.Texts.{shape_texts}
use Rattle.elf_shape.specs.Symbols.{made_symbols}
use Rattle.elf_make.specs.Parts.{made_parts, parts_begin, places_of, part_bytes}
use Rattle.byte_view.specs.Dynamic.{entries_bytes}
use Rattle.elf_make.specs.DynamicTable.{entries_of, dynamic_size}
use Rattle.elf_make.specs.Headers.{file_header, segments_of, segment_bytes, sections_of}
use Rattle.elf_shape.specs.declared.shape.Shape.{Shape}
use Rattle.elf_shape.specs.declared.versions.Versions.{Versions}
use Rattle.elf_make.specs.declared.parts.Parts.{Parts}
use Rattle.elf_make.specs.declared.parts.Places.{Places}

-- the header, the program headers, the parts, the dynamic table and the section headers
unfoldable pub made_file : Shape → Parts → Places → List Entry → List ℕ
made_file shape parts places entries =
    file_header shape (places.dynamic + dynamic_size entries)
    ++ (segment_bytes (segments_of shape parts places (dynamic_size entries))
    ++ (part_bytes parts ++ (entries_bytes entries ++ sections_of shape parts places)))

-- the bytes of the file with these parts, one behind the other
unfoldable pub file_by : Shape → Versions → List (List ℕ) → Parts → List ℕ
file_by shape versions texts parts =
    let places : Places = places_of (parts_begin shape) parts in
    made_file shape parts places (entries_of shape versions texts parts places)

-- the bytes of the file with this shape, by its versions and the texts of its string table
unfoldable pub object_by : Shape → Versions → List (List ℕ) → List ℕ
object_by shape versions texts =
    file_by shape versions texts
    (made_parts shape versions texts (made_symbols shape texts versions))

-- the bytes of the file with this shape
unfoldable pub made_object : Shape → List ℕ
made_object shape =
    let versions = made_versions shape in
    object_by shape versions (shape_texts shape versions)
