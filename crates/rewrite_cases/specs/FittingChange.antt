-- What is tried of a change before it is made
use Rattle.std.specs.Prelude.{ℕ, ◌==◌, ◌&&◌, ◌||◌, Bool, not, is_some, List, [], length, slice_index_or}
use Rattle.std.specs.List.{list_all}
use Rattle.std.specs.Str.{bytes_eq}
use Rattle.load_model.specs.declared.faces.Face.{Face}
use Rattle.elf_rewrite.specs.NewFile.{is_name_or_none, is_name_text}
use Rattle.elf_rewrite.specs.declared.change.Change.{Change}

-- Texts that are all one.
abbrev pub is_one_text : List (List ℕ) → Bool
is_one_text texts = list_all (λ t. bytes_eq t (slice_index_or texts 0 [])) texts

-- The change has texts for this face, and all asks get one file.
abbrev pub is_fitting : Change → Face → Bool
is_fitting change face =
    (length change.needs == length face.needs)
    && ((length change.files == length face.asks)
    && (is_one_text change.files
    && ((not (is_some change.soname) || is_some face.soname)
    && (list_all is_name_text change.needs
    && (list_all is_name_text change.files
    && (is_name_or_none change.soname && is_name_or_none change.runpath))))))
