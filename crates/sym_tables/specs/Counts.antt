-- The flaws of the counts, by what each source says
use Rattle.std.specs.Prelude.{ℕ, Option, [], ◌∷◌}
use Rattle.std.specs.Option.{unwrap_or}
use Rattle.answers.specs.First.{first_some}
use Rattle.byte_view.specs.declared.flaws.Flaw.{Flaw}
use Rattle.load_model.specs.SymbolCount.{first_count}
use Rattle.load_model.specs.SymbolFlaws.{differing_counts, no_count, reach_past}

unfoldable pub counts_flaw : Option ℕ → Option ℕ → Option ℕ → Option Flaw
counts_flaw section hash reach =
    first_some (no_count (first_count section hash reach) ∷ differing_counts section hash ∷
    reach_past (unwrap_or (first_count section hash reach) 0) reach ∷ [])
