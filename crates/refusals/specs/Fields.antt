-- Texts with escaped fields in them.
use Rattle.std.specs.Prelude.{ℕ, List, ◌++◌}
use Rattle.std.specs.Fmt.{decimal}
use Rattle.load_model.specs.Escaping.{escaped}

-- A text with one escaped field, and with two.
abbrev pub with_field : List ℕ → List ℕ → List ℕ → List ℕ
with_field before field after = before ++ (escaped field ++ after)

abbrev pub with_fields : List ℕ → List ℕ → List ℕ → List ℕ → List ℕ → List ℕ
with_fields before field between other after =
    before ++ (escaped field ++ (between ++ (escaped other ++ after)))

-- A text that ends with a number.
abbrev pub with_number : List ℕ → ℕ → List ℕ
with_number before number = before ++ decimal number
