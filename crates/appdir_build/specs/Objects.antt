-- The programs and bundled libraries as they are written: each file with the texts of its change.
use Rattle.std.specs.Prelude.{ℕ, List, [], ◌++◌, Option, Some, None, Result, Ok, Err, map, zip}
use Rattle.answers.specs.First.{first_some}
use Rattle.elf_rewrite.specs.declared.change.Change.{Change}
use Rattle.elf_rewrite.specs.declared.change.RewriteStop.{RewriteStop}
use Rattle.lib_closure.specs.declared.splits.Member.{Member}
use Rattle.load_model.specs.World.{World}
use Rattle.object_changes.specs.Changing.{changes_of}
use Rattle.object_changes.specs.declared.changes.Changes.{Changes}
use Rattle.object_rewriting.specs.Rewritten.{rewritten}
use Rattle.ports.specs.Reading.{bytes_at}
use Rattle.build_plan.specs.Building.{Building}
use Rattle.appdir_build.specs.Refusals.{stop_of_rewrite}
use Rattle.build_plan.specs.declared.stops.BuildStop.{BuildStop}

-- The objects that are written, each with its change: the programs, and the bundled libraries.
abbrev pub changes_in : Building → Changes
changes_in b = changes_of b.faces b.runs b.split b.layout

unfoldable pub program_objects : Building → List (Member × Change)
program_objects b = zip b.split.programs (changes_in b).programs

unfoldable pub lib_objects : Building → List (Member × Change)
lib_objects b = zip b.split.libs (changes_in b).libs

-- The bytes of a new file, or why there is none.
abbrev pub bytes_in : Result (List ℕ) RewriteStop → List ℕ
bytes_in (Ok bytes) = bytes
bytes_in (Err stop) = []

abbrev pub stop_in : List ℕ → Result (List ℕ) RewriteStop → Option BuildStop
stop_in path (Ok bytes) = None
stop_in path (Err stop) = Some (stop_of_rewrite path stop)

module _ (world : World) where
  abbrev pub new_file_of : (Member × Change) → Result (List ℕ) RewriteStop
  new_file_of object = rewritten (bytes_at world object.0.path) object.1

  abbrev pub new_bytes_of : (Member × Change) → List ℕ
  new_bytes_of object = bytes_in (new_file_of object)

  abbrev pub stop_at : (Member × Change) → Option BuildStop
  stop_at object = stop_in object.0.path (new_file_of object)

  -- The first object that is not rewritten: programs, then bundled libraries.
  unfoldable pub first_unwritten : Building → Option BuildStop
  first_unwritten b = first_some (map stop_at (program_objects b ++ lib_objects b))
