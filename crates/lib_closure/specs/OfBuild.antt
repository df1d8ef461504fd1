-- Definitions over the faces, the runs and the host list of a build.
use Rattle.std.specs.Prelude.{ℕ, List}
use Rattle.load_model.specs.declared.faces.Face.{Face}
use Rattle.load_model.specs.declared.runs.Run.{Run}
use Rattle.lib_closure.specs.declared.build.Build.{Build}

abbrev pub of_build : {X : Type 0} → (List Face → List Run → List (List ℕ) → X) → Build → X
of_build f build = f build.faces.now build.runs.now build.names.now
