-- A folder in memory: its open file as a file.
use Rattle.ports.specs.declared.folders.MemFile.{MemFile}
use Rattle.ports.specs.declared.mem_out.OpenFile.{OpenFile}

abbrev pub open_file : OpenFile → MemFile
open_file file = record { path = file.path; executable = file.executable; bytes = file.bytes.items }
