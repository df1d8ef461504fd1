-- Numbers at places of a file, and the needs by the places of the words that name their files
use Rattle.std.specs.Prelude.{ℕ, ◌+◌, ◌-◌, Bool, not, ◌==◌, ◌&&◌, cond, nat_le, List, length}
use Rattle.byte_view.specs.Numbers.{number_at}
use Rattle.load_model.specs.Faces.{is_no_text}

-- the number of n bytes at a place, and 0 where the file ends before it does
unfoldable pub number_or_0 : ℕ → List ℕ → ℕ → ℕ
number_or_0 n file place = cond (nat_le (place + n) (length file)) (number_at n file place) 0

-- vn_file stands two bytes behind vn_cnt
abbrev pub is_asked : List ℕ → ℕ → Bool
is_asked file file_word = not (number_or_0 2 file (file_word - 2) == 0)

abbrev pub names_no_text_at : List ℕ → ℕ → Bool
names_no_text_at file file_word =
    is_asked file file_word && is_no_text file (number_or_0 4 file file_word)
