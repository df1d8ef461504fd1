-- Words that follow one another in a file
use Rattle.std.specs.Prelude.{ℕ, ◌+◌, ◌*◌, List, map}
use Rattle.std.specs.List.{range_with_len}
use Rattle.byte_view.specs.Numbers.{number_at}

unfoldable pub words_at : ℕ → List ℕ → ℕ → ℕ → List ℕ
words_at size file at n = map (λ i. number_at size file (at + size * i)) (range_with_len 0 n)
