use Rattle.std.proofs.Common.{map}
use Rattle.toml.specs.View.{table_view}
use Rattle.config_text.specs.Faults.{said_of_config}
use Rattle.config_text.proofs.UnknownLemmas.{a_fault, no_fault}
use Rattle.config_text.proofs.tables.check_keys.Goals as goal

pub returns-in-Some : goal.returns-in-Some
returns-in-Some c = a_fault (said_of_config c.unknown_in.result) (map (λ k. k.now) c.args.known.now) c.args.prefix.now (table_view c.args.table.now) c.in-Some.name.now (rw c.in-Some.is at c.first_unknown.ensures) c.unknown_in.ensures

pub returns-in-None : goal.returns-in-None
returns-in-None c = no_fault (map (λ k. k.now) c.args.known.now) c.args.prefix.now (table_view c.args.table.now) (rw c.in-None.is at c.first_unknown.ensures)
