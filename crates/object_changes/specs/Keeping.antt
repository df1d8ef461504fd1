-- What a table of version files keeps.
use Rattle.std.specs.Prelude.{ℕ, List}
use Rattle.std.specs.Borrow.{Bor}
use Rattle.object_changes.specs.NamedFiles.{NamedFile}
use Rattle.object_changes.specs.declared.file_tables.AskedFile.{AskedFile}

abbrev pub kept_file : (AskedFile × Bor (List ℕ)) → NamedFile
kept_file kept =
    record { asker = kept.0.asker.now; file = kept.0.file.now; name = kept.1.now }
