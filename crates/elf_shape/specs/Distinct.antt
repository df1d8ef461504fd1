-- Lists of texts without repeats
use Rattle.std.specs.Prelude.{ℕ, Bool, cond, List, [], ◌∷◌, ◌++◌, fold, bytes_eq}
use Rattle.std.specs.List.{list_any}

abbrev pub has : List (List ℕ) → List ℕ → Bool
has texts text = list_any (λ t. bytes_eq text t) texts

-- the texts and one more, unless it is there
abbrev pub with_text : List (List ℕ) → List ℕ → List (List ℕ)
with_text texts text = cond (has texts text) texts (texts ++ text ∷ [])

-- each text once, in the order of their first uses
unfoldable pub each_once : List (List ℕ) → List (List ℕ)
each_once texts = fold with_text [] texts
