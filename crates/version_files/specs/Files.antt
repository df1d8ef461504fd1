-- The objects that the files of all asks of a load list name.
use Rattle.std.specs.Prelude.{ℕ, List, Option, length, map}
use Rattle.load_model.specs.LoadList.{up_to}
use Rattle.load_model.specs.Runs.{face_at}
use Rattle.load_model.specs.VersionCheck.{asks_in, version_file_of}
use Rattle.load_model.specs.declared.faces.Face.{Face}
use Rattle.load_model.specs.declared.runs.Run.{Run}

-- Of the object of this number, one for each ask.
abbrev pub files_at : List Face → Run → ℕ → List (Option ℕ)
files_at faces run j =
    map (λ ask. version_file_of faces run j ask.file) (asks_in (face_at faces run j))

unfoldable pub files_of_run : List Face → Run → List (List (Option ℕ))
files_of_run faces run = map (files_at faces run) (up_to (length run.objs))
