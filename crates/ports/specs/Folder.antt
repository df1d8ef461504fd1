-- A folder that is written, and what its calls do to it.
use Rattle.std.specs.Prelude.{ℕ, Bool, List, [], ◌∷◌, ◌++◌, ◌≡◌, Option, Some, None, IsNone, option_map}
use Rattle.ports.specs.declared.folders.MemFile.{MemFile}
use Rattle.ports.specs.declared.folders.RootState.{RootState}
use Rattle.ports.specs.declared.folders.RootState.TheVariants.{Empty, NotEmpty}
use Rattle.answers.specs.Told.{WhereTold}
use Rattle.ports.specs.View.{View}

-- the finished files in order, the open file, and the paths of all roots that were opened
pub record Folder : Type 0 where
  pub finished : List MemFile
  pub pending : Option MemFile
  pub roots : List (List ℕ)

-- a folder is empty where it holds no finished file
abbrev pub root_state : List MemFile → RootState
root_state [] = Empty
root_state (_ ∷ _) = NotEmpty

-- no file is open
abbrev pub IsClosed : View Folder → Type 0
IsClosed view = WhereTold view.told (λ folder. IsNone folder.pending)

-- no root was opened, and no file begun
abbrev pub empty_folder : Folder
empty_folder = record { finished = []; pending = None; roots = [] }

-- after a root was opened, which gives up the open file
abbrev pub with_root : List ℕ → Folder → Folder
with_root path folder =
    record { finished = folder.finished; pending = None; roots = folder.roots ++ path ∷ [] }

abbrev pub empty_file : List ℕ → Bool → MemFile
empty_file path executable = record { path = path; executable = executable; bytes = [] }

-- after a file with this path and mark was begun
abbrev pub begun : List ℕ → Bool → Folder → Folder
begun path executable folder =
    record {
      finished = folder.finished;
      pending = Some (empty_file path executable);
      roots = folder.roots;
    }

-- the file with a piece at its end
abbrev pub grown_file : List ℕ → MemFile → MemFile
grown_file piece file =
    record { path = file.path; executable = file.executable; bytes = file.bytes ++ piece }

-- after a piece was added to the open file
abbrev pub grown : List ℕ → Folder → Folder
grown piece folder =
    record {
      finished = folder.finished;
      pending = option_map (grown_file piece) folder.pending;
      roots = folder.roots;
    }

abbrev pub file_list : Option MemFile → List MemFile
file_list (Some file) = file ∷ []
file_list None = []

-- after the open file was finished
abbrev pub closed : Folder → Folder
closed folder =
    record {
      finished = folder.finished
          ++ file_list folder.pending;
      pending = None;
      roots = folder.roots;
    }

-- after these files were written whole
abbrev pub with_files : List MemFile → Folder → Folder
with_files files folder =
    record { finished = folder.finished ++ files; pending = None; roots = folder.roots }

-- these files were added at the end, and no root was opened
pub record Added (files : List MemFile) (old now : Folder) : Type 0 where
  pub finished : now.finished ≡ old.finished ++ files
  pub roots : now.roots ≡ old.roots
