-- `AppRun` is the last file of a directory, so that one whose writing was cut off has none.
use Rattle.std.specs.Prelude.{List, [], ◌∷◌, ◌++◌, ◌≡◌, ◌≢◌, true, All, codes}
use Rattle.ports.specs.declared.folders.MemFile.{MemFile}

-- No file has this path.
abbrev pub HasNoAppRun : List MemFile → Type 0
HasNoAppRun files = All (λ file. file.path ≢ codes "AppRun") files

-- The last file is `AppRun`, which may be run, and no other has this path.
pub record EndsWithAppRun (files : List MemFile) : Type 0 where
  pub front : List MemFile
  pub last : MemFile
  pub files_are : files ≡ front ++ last ∷ []
  pub named : last.path ≡ codes "AppRun"
  pub executable : last.executable ≡ true
  pub no_other : HasNoAppRun front
