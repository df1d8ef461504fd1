-- What the code gathers of a build.
use Rattle.std.specs.Prelude.{List, map}
use Rattle.load_model.specs.declared.faces.Face.{Face}
use Rattle.load_model.specs.declared.runs.Run.{Run}
use Rattle.lib_closure.specs.declared.seen.LoadList.{LoadList}

-- The load list, over its faces.
abbrev pub list_of : LoadList → List Face × Run
list_of list = (list.faces.now, list.run.now)

-- Those of all runs, over these faces.
abbrev pub lists_over : List Face → List Run → List (List Face × Run)
lists_over faces runs = map (λ run. (faces, run)) runs
