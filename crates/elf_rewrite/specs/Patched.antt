-- Bytes with others written over them at places
use Rattle.std.specs.Prelude.{ℕ, ◌+◌, List, [], ◌∷◌, ◌++◌, length, take, drop}
use Rattle.two_files.specs.Kept.{Range}
use Rattle.elf_rewrite.specs.declared.patch.Patch.{Patch}

abbrev pub end_of : Patch → ℕ
end_of p = p.at + length p.bytes

-- The places that a patch writes.
abbrev pub range_of : Patch → Range
range_of p = (p.at, end_of p)

-- The bytes with those of a patch in their place.
abbrev pub written : List ℕ → Patch → List ℕ
written b p = take p.at b ++ (p.bytes ++ drop (p.at + length p.bytes) b)

-- The bytes with each patch written by turns.
abbrev pub patched : List ℕ → List Patch → List ℕ
patched b [] = b
patched b (p ∷ more) = patched (written b p) more
