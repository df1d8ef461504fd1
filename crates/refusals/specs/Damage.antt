-- How a flaw of a file is said (docs/ELF.md says what each means).
use Rattle.std.specs.Prelude.{ℕ, List, [], ◌++◌, Option, Some, None, codes}
use Rattle.std.specs.Fmt.{decimal}
use Rattle.byte_view.specs.FlawNames.{flaw_name, numbers_told}
use Rattle.byte_view.specs.declared.flaw_names.Told.{Told}
use Rattle.byte_view.specs.declared.flaw_names.Told.TheVariants.{Nothing, One, Two}
use Rattle.byte_view.specs.declared.flaws.Flaw.{Flaw}

-- So many numbers, each after a space.
abbrev pub numbers_by : Flaw → Told → List ℕ
numbers_by f Nothing = []
numbers_by f One = codes " " ++ decimal f.a
numbers_by f Two = codes " " ++ (decimal f.a ++ (codes " " ++ decimal f.b))

-- The numbers that a flaw tells.
abbrev pub numbers_text : Flaw → List ℕ
numbers_text f = numbers_by f (numbers_told f.code)

-- The name and the numbers, or the flaw's own number where it has no name.
abbrev pub said_by : Flaw → Option (List ℕ) → List ℕ
said_by f None = decimal f.code
said_by f (Some name) = name ++ numbers_text f

unfoldable pub flaw_text : Flaw → List ℕ
flaw_text f = said_by f (flaw_name f.code)
