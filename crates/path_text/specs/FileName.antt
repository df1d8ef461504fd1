-- Names that a file can be given.
use Rattle.std.specs.Prelude.{ℕ, List, [], Bool, ◌≢◌, ◌==◌, ◌≤◌, ◌||◌, ◌&&◌, nat_le, not, codes, All}
use Rattle.std.specs.List.{list_all}
use Rattle.path_text.specs.Path.{is_idle, is_parent}

-- Neither `/` (47) nor `$` (36), nor a control byte.
abbrev pub IsNameByte : ℕ → Type 0
IsNameByte c = (c ≢ 47) × (c ≢ 36) × (32 ≤ c) × (c ≢ 127)

-- A name: not empty, `.` or `..`, and each byte may stand in a name.
pub record IsFileName (text : List ℕ) : Type 0 where
  pub not_empty : text ≢ []
  pub not_here : text ≢ codes "."
  pub not_parent : text ≢ codes ".."
  pub bytes : All IsNameByte text

-- The same, as tests that compute.

abbrev pub is_name_byte : ℕ → Bool
is_name_byte c = not (c == 47) && not (c == 36) && nat_le 32 c && not (c == 127)

abbrev pub is_file_name_text : List ℕ → Bool
is_file_name_text text = not (is_idle text || is_parent text) && list_all is_name_byte text
