-- What reading a desktop entry file comes to.
use Rattle.std.specs.Prelude.{◌≡◌, ◌+◌, ℕ, List, [], ◌∷◌, Bool, true, false, ◌==◌, Option, Result, Ok, Err}
use Rattle.std.specs.List.{slice_split}
use Rattle.std.specs.Str.{is_utf8}
use Rattle.desk_entry.specs.Lines.{IsLineOf, Line}
use Rattle.desk_entry.specs.States.{nothing_said, said_or_fault}
use Rattle.desk_entry.specs.declared.entries.Entries.{Entries}
use Rattle.desk_entry.specs.declared.reading.DeskFault.{DeskFault}
use Rattle.desk_entry.specs.declared.reading.DeskFault.TheVariants.{NotUtf8, Line as AtLine, NoGroup, TwoGroups, TwoKeys, NoMemory}
use Rattle.desk_entry.specs.declared.entries.Pair.{Pair}
use Rattle.desk_entry.specs.declared.states.Place.{Place}
use Rattle.desk_entry.specs.declared.states.Place.TheVariants.{Outside, First, Later}
use Rattle.desk_entry.specs.declared.states.State.{State}

-- The lines of a text. Behind a last line feed there is a blank one more, which says nothing.
abbrev pub lines_of : List ℕ → List (List ℕ)
lines_of text = slice_split (λ c. c == 10) text

-- The fault, or what comes next from the value.
abbrev pub AndThen : {S T E : Type 0} → Result S E → Result T E → (S → Type 0) → Type 0
AndThen (Ok s) result next = next s
AndThen (Err fault) result next = result ≡ Err fault

-- What texts of lines come to, from what was said before the n-th on: what all of them say, or the
-- fault of the first that has one.
abbrev pub ComeTo : State → ℕ → List (List ℕ) → Result State DeskFault → Type 0
ComeTo s n [] result = result ≡ Ok s
ComeTo s n (text ∷ texts) result =
    (line : Option Line) × IsLineOf text line
    × AndThen (said_or_fault s n line) result (λ t. ComeTo t (n + 1) texts result)

-- The entries of the first group, where there is one.
abbrev pub first_group : Place → List Pair → Result Entries DeskFault
first_group Outside pairs = Err NoGroup
first_group First pairs = Ok (record { pairs = pairs })
first_group Later pairs = Ok (record { pairs = pairs })

abbrev pub entries_of : Result State DeskFault → Result Entries DeskFault
entries_of (Ok s) = first_group s.place s.pairs
entries_of (Err fault) = Err fault

-- What a text is read as: bytes that are no UTF-8 are refused first, then line by line.
abbrev pub ReadsText : Bool → List ℕ → Result Entries DeskFault → Type 0
ReadsText false text result = result ≡ Err NotUtf8
ReadsText true text result = (said : Result State DeskFault)
    × ComeTo nothing_said 1 (lines_of text) said × (result ≡ entries_of said)

abbrev pub Reads : List ℕ → Result Entries DeskFault → Type 0
Reads text result = ReadsText (is_utf8 text) text result

-- The answer is what the text is read as, or memory was refused.
abbrev pub IsReadingOf : List ℕ → Result Entries DeskFault → Type 0
IsReadingOf text (Ok entries) = Reads text (Ok entries)
IsReadingOf text (Err NotUtf8) = Reads text (Err NotUtf8)
IsReadingOf text (Err (AtLine n)) = Reads text (Err (AtLine n))
IsReadingOf text (Err NoGroup) = Reads text (Err NoGroup)
IsReadingOf text (Err (TwoGroups n)) = Reads text (Err (TwoGroups n))
IsReadingOf text (Err (TwoKeys n)) = Reads text (Err (TwoKeys n))
IsReadingOf text (Err NoMemory) = Unit {0}

abbrev pub AreLinesRead : List ℕ → Result State DeskFault → Type 0
AreLinesRead text (Err NoMemory) = Unit {0}
AreLinesRead text result = ComeTo nothing_said 1 (lines_of text) result
