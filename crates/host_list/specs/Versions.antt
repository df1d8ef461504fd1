-- Asks beside the objects that their files name.
use Rattle.std.specs.Prelude.{ℕ, List, Option, zip}
use Rattle.std.specs.List.{filter_map}
use Rattle.load_model.specs.declared.asks.Ask.{Ask}
use Rattle.host_record.specs.declared.records.RecVersion.{RecVersion}
use Rattle.host_list.specs.Recording.{version_asked}

-- What asks record that stand beside the objects which their files name.
unfoldable pub versions_beside : List (Option ℕ) → List Ask → List (Option ℕ) → List RecVersion
versions_beside numbers asks files =
    filter_map (λ asked. version_asked numbers asked.0 asked.1) (zip asks files)
