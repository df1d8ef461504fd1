-- Whether a change leaves a file as it is.
use Rattle.std.specs.Prelude.{ℕ, List, Bool, ◌&&◌, is_none, map}
use Rattle.std.specs.Cmp.Lexicographic.{pointwise}
use Rattle.std.specs.Option.{option_eq}
use Rattle.std.specs.Str.{bytes_eq}
use Rattle.elf_rewrite.specs.FittingFace.{files_in}
use Rattle.elf_rewrite.specs.declared.change.Change.{Change}
use Rattle.load_model.specs.declared.faces.Face.{Face}

-- Its needs, its version files, its soname and its run path are the wanted ones, and it has no
-- RPATH.
abbrev pub is_unchanged : Face → Change → Bool
is_unchanged face change =
    pointwise bytes_eq face.needs change.needs
    && (option_eq bytes_eq face.soname change.soname
    && (option_eq bytes_eq face.runpath change.runpath
    && (pointwise bytes_eq (files_in face.asks) change.files && is_none face.rpath)))
