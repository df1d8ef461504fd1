-- The list of the files of an AppDir, as a text.
use Rattle.std.specs.Prelude.{ℕ, List, [], ◌∷◌, ◌++◌, Bool, true, false, codes, length}
use Rattle.std.specs.Fmt.{decimal}
use Rattle.std.specs.List.{flat_map}
use Rattle.load_model.specs.Escaping.{escaped}
use Rattle.appdir_files.specs.declared.items.Body.{Body}
use Rattle.appdir_files.specs.declared.items.Body.TheVariants.{Bytes, Copy}
use Rattle.appdir_files.specs.declared.items.Item.{Item}

-- `x` for a file that may be run, `-` for one that may not.
abbrev pub mark_of : Bool → List ℕ
mark_of true = codes "x"
mark_of false = codes "-"

-- How many bytes a file has.
abbrev pub length_of : Body → ℕ
length_of (Bytes bytes) = length bytes
length_of (Copy from size) = size

-- The line of a file: its mark, how many bytes it has, and where it lies.
abbrev pub item_line : Item → List ℕ
item_line item =
    mark_of item.executable
    ++ (codes " " ++ (decimal (length_of item.body)
    ++ (codes " " ++ (escaped item.path ++ 10 ∷ []))))

-- The list of these files, in their order.
abbrev pub manifest_of : List Item → List ℕ
manifest_of items =
    codes "appdir-files 1" ++ (10 ∷ (flat_map item_line items ++ (codes "end" ++ 10 ∷ [])))
