-- What the entries of a group say.
use Rattle.std.specs.Prelude.{ℕ, List, ◌==◌, ◌&&◌, not, cond, codes, bytes_eq, Option, option_map, drop}
use Rattle.std.specs.List.{before_first, find, list_any}
use Rattle.desk_entry.specs.Lines.{begins_with}
use Rattle.desk_entry.specs.declared.entries.Pair.{Pair}

-- The value of the first entry with this key.
abbrev pub value_of : List Pair → List ℕ → Option (List ℕ)
value_of pairs key = option_map (λ p. p.value) (find (λ p. bytes_eq p.key key) pairs)

-- The text up to the next quote, where there is one and nothing is escaped before it; else the whole
-- value.
abbrev pub quoted_word : List ℕ → List ℕ → List ℕ
quoted_word value behind =
    let word = before_first (λ c. c == 34) behind in
    cond (list_any (λ c. c == 34) behind && not (list_any (λ c. c == 92) word)) word value

-- The text up to the first space, or what stands in quotes at the beginning.
abbrev pub first_word : List ℕ → List ℕ
first_word value =
    cond (begins_with 34 value) (quoted_word value (drop 1 value))
    (before_first (λ c. c == 32) value)

-- The program that `Exec` names.
abbrev pub exec_word : List Pair → Option (List ℕ)
exec_word pairs = option_map first_word (value_of pairs (codes "Exec"))
