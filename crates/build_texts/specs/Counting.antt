-- Counts of references that are reported.
use Rattle.std.specs.Prelude.{List, ◌+◌, ◌≡◌, filter, is_some, length}
use Rattle.load_model.specs.declared.runs.Bind.{Bind}
use Rattle.build_texts.specs.declared.counts.Counts.{Counts}

abbrev pub no_counts : Counts
no_counts = record { references = 0; bound = 0 }

-- These were counted besides: all, and those that are to something.
pub record HasCounted (before after : Counts) (binds : List Bind) : Type 0 where
  pub references : after.references ≡ before.references + length binds
  pub bound : after.bound ≡ before.bound + length (filter (λ bind. is_some bind.to) binds)
