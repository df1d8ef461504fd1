-- A directory joined with a file name.
use Rattle.std.specs.Prelude.{ℕ, List, [], ◌∷◌, ◌++◌, cond}
use Rattle.std.specs.Str.{bytes_eq}

-- The root ends with the slash that stands behind each other directory.
abbrev pub joined : List ℕ → List ℕ → List ℕ
joined dir name = cond (bytes_eq dir (47 ∷ [])) (47 ∷ name) (dir ++ 47 ∷ name)
