use Rattle.std.proofs.Common.{◌≡◌, map}
use Rattle.toml.specs.View.{table_view}
use Rattle.config_text.specs.Tables.{least_unknown}
use Rattle.config_text.proofs.UnknownLemmas.{first_in}
use Rattle.config_text.proofs.tables.first_unknown.Given as goal

abbrev pub invariant-look : goal.invariant-look
invariant-look l = least_unknown (map (λ k. k.now) l.known) (table_view l.table) ≡ first_in (map (λ k. k.now) l.known) l.name-iterator
