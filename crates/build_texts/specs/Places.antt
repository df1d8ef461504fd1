-- Where the objects of a build are written.
use Rattle.std.specs.Prelude.{ℕ, List, [], ◌∷◌, ◌++◌, Option, Some, None, codes, map, zip}
use Rattle.app_config.specs.declared.config.Config.{Config}
use Rattle.app_config.specs.declared.config.Program.{Program}
use Rattle.lib_closure.specs.declared.splits.Split.{Split}
use Rattle.load_model.specs.declared.runs.Obj.{Obj}
use Rattle.load_model.specs.declared.runs.Run.{Run}
use Rattle.name_layout.specs.declared.layouts.Layout.{Layout}
use Rattle.object_changes.specs.Names.{file_name_of}
use Rattle.build_plan.specs.Building.{Building}

-- A bundled library lies in `usr/lib` under its name, and a tool in `usr/bin`.
abbrev pub lib_place : List ℕ → List ℕ
lib_place name = codes "usr/lib/" ++ name

abbrev pub tool_place : Program → List ℕ
tool_place tool = codes "usr/bin/" ++ tool.name

-- The main program is `AppRun`.
unfoldable pub program_places : Config → List (List ℕ)
program_places config = codes "AppRun" ∷ map tool_place config.tools

-- A library that is not bundled lies on the host.
abbrev pub place_named : Option (List ℕ) → List ℕ
place_named None = codes "host"
place_named (Some name) = lib_place name

-- The place of the library of this identity.
abbrev pub library_place : Split → Layout → List ℕ → List ℕ
library_place split layout id = place_named (file_name_of split layout id)

-- The places of the objects of a load list, whose program is written at a place.
unfoldable pub object_places : Split → Layout → List ℕ → List Obj → List (List ℕ)
object_places split layout place [] = []
object_places split layout place (program ∷ objs) =
    place ∷ map (λ (o : Obj). library_place split layout o.id) objs

-- Those of a load list, with the place of its program.
abbrev pub placed_by : Split → Layout → (Run × List ℕ) → List (List ℕ)
placed_by split layout placed = object_places split layout placed.1 placed.0.objs

-- Those of all load lists.
unfoldable pub all_places : Config → Building → List (List (List ℕ))
all_places config b = map (placed_by b.split b.layout) (zip b.runs (program_places config))
