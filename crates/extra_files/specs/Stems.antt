-- The stem of a file: its name without what comes from the last `.` on.
use Rattle.std.specs.Prelude.{ℕ, List, [], ◌∷◌, Bool, ◌==◌, cond}
use Rattle.std.specs.List.{list_any}
use Rattle.path_text.specs.Path.{base_of}

-- Whether a `.` (46) stands in the text.
abbrev pub has_dot : List ℕ → Bool
has_dot text = list_any (λ c. c == 46) text

-- The text before its last `.`, and all of it where there is none.
abbrev pub before_last_dot : List ℕ → List ℕ
before_last_dot [] = []
before_last_dot (c ∷ text) =
    cond (has_dot text) (c ∷ before_last_dot text) (cond (c == 46) [] (c ∷ text))

-- That of the last part of a path.
unfoldable pub stem_of : List ℕ → List ℕ
stem_of path = before_last_dot (base_of path)
