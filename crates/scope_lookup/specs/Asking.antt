-- The names that objects ask for, and the answer of the version check.
use Rattle.std.specs.Prelude.{ℕ, zero, suc, List, [], ◌++◌, Option, Some, length, map}
use Rattle.load_model.specs.LoadList.{up_to}
use Rattle.load_model.specs.Runs.{face_at}
use Rattle.load_model.specs.VersionCheck.{FileUnloaded, UnmetAsk, VersionLacking, needs_in}
use Rattle.load_model.specs.declared.faces.Face.{Face}
use Rattle.load_model.specs.declared.runs.Run.{Run}
use Rattle.scope_lookup.specs.declared.stops.VersionStop.{VersionStop}
use Rattle.scope_lookup.specs.declared.stops.VersionStop.TheVariants.{VersionFileUnloaded, UnsatisfiedVersion}

-- The names that an object opens: the program alone does.
abbrev pub names_opened_by : Run → ℕ → List (List ℕ)
names_opened_by run zero = run.opens
names_opened_by run (suc j) = []

-- The names that each object asks for: its needs, and then those that it opens.
unfoldable pub asked_names : List Face → Run → List (List (List ℕ))
asked_names faces run =
    map (λ j. needs_in (face_at faces run j) ++ names_opened_by run j) (up_to (length run.objs))

-- The ask that a stop names.
abbrev pub unmet_ask : VersionStop → Option UnmetAsk
unmet_ask (VersionFileUnloaded j k) = Some (record { obj = j; ask = k; why = FileUnloaded })
unmet_ask (UnsatisfiedVersion j k) = Some (record { obj = j; ask = k; why = VersionLacking })
