-- What is kept of the records that follow one another
use Rattle.std.specs.Prelude.{ℕ, ◌+◌, ◌-◌, List, map}
use Rattle.std.specs.List.{flat_map, range_with_len}
use Rattle.load_model.specs.VersionTables.{file_place, verdef_place, vernaux_place, verneed_place, vn_cnt}
use Rattle.version_tables.specs.Records.{asked_at, definition_at}
use Rattle.version_tables.specs.declared.asked.Asked.{Asked}
use Rattle.version_tables.specs.declared.definitions.Definition.{Definition}

-- what a function gives for each number from k on, below n
unfoldable pub from_on : {X : Type 0} → (ℕ → X) → ℕ → ℕ → List X
from_on f k n = map f (range_with_len k (n - k))

-- what is kept of definition k
unfoldable pub definition_of : List ℕ → ℕ → Definition
definition_of file k = definition_at file (verdef_place file k)

-- the same where it gives lists
unfoldable pub lists_from : {X : Type 0} → (ℕ → List X) → ℕ → ℕ → List X
lists_from f k n = flat_map f (range_with_len k (n - k))

-- what is kept of Vernaux j of a Verneed of this number
unfoldable pub asked_of : List ℕ → ℕ → ℕ → ℕ → Asked
asked_of file number verneed j = asked_at file number verneed (vernaux_place file verneed j)

-- of all Vernaux of the need at an address, and of need k
unfoldable pub asked_of_record : List ℕ → ℕ → ℕ → List Asked
asked_of_record file number verneed = from_on (asked_of file number verneed) 0 (vn_cnt file verneed)

unfoldable pub asked_of_need : List ℕ → ℕ → List Asked
asked_of_need file k = asked_of_record file k (verneed_place file k)

-- the file place of the vn_file word of need k
unfoldable pub file_word_of : List ℕ → ℕ → ℕ
file_word_of file k = file_place file (verneed_place file k) 16 + 4
