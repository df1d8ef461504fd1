-- The flaw of the names of a file in which all else has none.
use Rattle.std.proofs.Common.{◌≡◌, ℕ, List, [], ◌∷◌, Option, Some, None, refl}
use Rattle.answers.specs.First.{first_some}
use Rattle.byte_view.specs.DynamicFlaws.{dynamic_flaw}
use Rattle.byte_view.specs.HeaderFlaws.{header_flaw}
use Rattle.byte_view.specs.declared.flaws.Flaw.{Flaw}
use Rattle.load_model.specs.Faces.{first_flaw, name_flaw}
use Rattle.load_model.specs.SymbolFlaws.{symbol_count, symbol_flaw}
use Rattle.load_model.specs.VersionFlaws.{version_flaw}

only_one : (x : Option Flaw) → first_some (x ∷ []) ≡ x
only_one None = refl
only_one (Some flaw) = refl

pub first_is_name : (file : List ℕ) → header_flaw file ≡ None → dynamic_flaw file ≡ None → symbol_flaw file ≡ None → version_flaw (symbol_count file) file ≡ None → first_flaw file ≡ name_flaw file
unfolding first_flaw
first_is_name file h d s v = rw (h, d, s, v) (only_one (name_flaw file))
