-- A file as patches over another, and pieces behind it
use Rattle.std.specs.Prelude.{ℕ, ◌+◌, ◌≤◌, Bool, true, nat_le, ◌≡◌, ◌<◌, ◌^◌, List, [], ◌∷◌, ◌++◌, length, take, drop, replicate}
use Rattle.std.specs.List.{flat_map, All}
use Rattle.elf_rewrite.specs.Patched.{end_of, patched}
use Rattle.elf_rewrite.specs.declared.patch.Patch.{Patch}
use Rattle.elf_rewrite.specs.declared.patch.Piece.{Piece}
use Rattle.elf_rewrite.specs.declared.patch.Piece.TheVariants.{Old, New, Zeros}

-- The bytes of a piece over these.
abbrev pub piece_bytes : List ℕ → Piece → List ℕ
piece_bytes b (Old at len) = take len (drop at b)
piece_bytes b (New bytes) = bytes
piece_bytes b (Zeros n) = replicate n 0

-- Pieces put together over these bytes.
abbrev pub put_together : List ℕ → List Piece → List ℕ
put_together b pieces = flat_map (λ p. piece_bytes b p) pieces

abbrev pub piece_size : Piece → ℕ
piece_size (Old at len) = len
piece_size (New bytes) = length bytes
piece_size (Zeros n) = n

-- What a piece takes from the old bytes lies within their number.
abbrev pub is_within : ℕ → Piece → Bool
is_within n (Old at len) = nat_le (at + len) n
is_within n (New bytes) = true
is_within n (Zeros count) = true

abbrev pub total_size : List Piece → ℕ
total_size [] = 0
total_size (p ∷ more) = piece_size p + total_size more

-- A new file over old bytes of this number: what is written over them, and what follows.
pub record Overlay : Type 0 where
  pub old_len : ℕ
  pub patches : List Patch
  pub added : List Piece

abbrev pub length_of : Overlay → ℕ
length_of o = o.old_len + total_size o.added

-- The new file.
unfoldable pub laid : List ℕ → Overlay → List ℕ
laid b o = patched b o.patches ++ put_together b o.added

-- Nothing is written past the old bytes, nor taken from there.
pub record StaysWithin (o : Overlay) : Type 0 where
  pub fits : All (λ p. end_of p ≤ o.old_len) o.patches
  pub within : All (λ p. is_within o.old_len p ≡ true) o.added
  pub small : length_of o < 2 ^ 64
