-- What lines say, one after the other, and which line may stand where.
use Rattle.std.specs.Prelude.{◌≡◌, ℕ, List, [], ◌∷◌, ◌++◌, Bool, bytes_eq, not, codes, Option, Some, None, Result, Ok, Err}
use Rattle.std.specs.List.{list_any}
use Rattle.indexmap.specs.IndexSet.{insert_key}
use Rattle.answers.specs.First.{some_where, value_unless}
use Rattle.desk_entry.specs.Lines.{IsLineOf, Line, quiet, group, entry}
use Rattle.desk_entry.specs.declared.entries.Pair.{Pair}
use Rattle.desk_entry.specs.declared.reading.DeskFault.{DeskFault}
use Rattle.desk_entry.specs.declared.reading.DeskFault.TheVariants.{NotUtf8, Line as AtLine, NoGroup, TwoGroups, TwoKeys, NoMemory}
use Rattle.desk_entry.specs.declared.states.Place.{Place}
use Rattle.desk_entry.specs.declared.states.Place.TheVariants.{Outside, First, Later}
use Rattle.desk_entry.specs.declared.states.State.{State}

abbrev pub nothing_said : State
nothing_said = record { place = Outside; groups = []; keys = []; pairs = [] }

-- ---- what a line says

abbrev pub stood_before : List (List ℕ) → List ℕ → Bool
stood_before names name = list_any (λ n. bytes_eq name n) names

abbrev pub with_name : List (List ℕ) → List ℕ → List (List ℕ)
with_name names name = insert_key bytes_eq names name

abbrev pub next_place : Place → Place
next_place Outside = First
next_place First = Later
next_place Later = Later

-- Entries count in the first group alone.
abbrev pub with_pair : Place → List Pair → Pair → List Pair
with_pair Outside pairs pair = pairs
with_pair First pairs pair = pairs ++ pair ∷ []
with_pair Later pairs pair = pairs

abbrev pub with_entry : State → List ℕ → List ℕ → State
with_entry s key value = record s {
  keys = with_name s.keys key;
  pairs = with_pair s.place s.pairs (record { key = key; value = value });
}

-- What a line adds to what those before it said.
abbrev pub said : State → Line → State
said s quiet = s
said s (group name) = record s {
  place = next_place s.place;
  groups = with_name s.groups name;
  keys = [];
}
said s (entry key value) = with_entry s key value

-- ---- which line may stand where

-- The first group is `Desktop Entry`, and no other has the name of one before it.
abbrev pub group_fault : Place → List (List ℕ) → ℕ → List ℕ → Option DeskFault
group_fault Outside groups n name = some_where (not (bytes_eq name (codes "Desktop Entry"))) (AtLine n)
group_fault First groups n name = some_where (stood_before groups name) (TwoGroups n)
group_fault Later groups n name = some_where (stood_before groups name) (TwoGroups n)

-- An entry stands in a group, and no other in it has its key.
abbrev pub entry_fault : Place → List (List ℕ) → ℕ → List ℕ → Option DeskFault
entry_fault Outside keys n key = Some (AtLine n)
entry_fault First keys n key = some_where (stood_before keys key) (TwoKeys n)
entry_fault Later keys n key = some_where (stood_before keys key) (TwoKeys n)

-- Why the n-th line may not stand here.
abbrev pub line_fault : State → ℕ → Line → Option DeskFault
line_fault s n quiet = None
line_fault s n (group name) = group_fault s.place s.groups n name
line_fault s n (entry key value) = entry_fault s.place s.keys n key

-- What is said with the n-th line, or its fault. A text of no kind is one.
abbrev pub said_or_fault : State → ℕ → Option Line → Result State DeskFault
said_or_fault s n None = Err (AtLine n)
said_or_fault s n (Some line) = value_unless (line_fault s n line) (said s line)

-- ---- what the code does with a line

abbrev pub Goes : {U : Type 0} → State → ℕ → Option Line → Result U DeskFault → State → Type 0
Goes old n line (Ok u) new = said_or_fault old n line ≡ Ok new
Goes old n line (Err NotUtf8) new = ⊥
Goes old n line (Err (AtLine m)) new = said_or_fault old n line ≡ Err (AtLine m)
Goes old n line (Err NoGroup) new = ⊥
Goes old n line (Err (TwoGroups m)) new = said_or_fault old n line ≡ Err (TwoGroups m)
Goes old n line (Err (TwoKeys m)) new = said_or_fault old n line ≡ Err (TwoKeys m)
Goes old n line (Err NoMemory) new = Unit {0}

abbrev pub TakesText : {U : Type 0}
    → State → ℕ → List ℕ → Result U DeskFault → State → Type 0
TakesText old n text result new =
    (line : Option Line) × IsLineOf text line × Goes old n line result new
