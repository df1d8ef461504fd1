-- A text has one reading, and what was written has it.
use Rattle.std.proofs.Common.{sym, subst, ℕ, List}
use Rattle.host_record.specs.Grammar.{Says}
use Rattle.host_record.proofs.ReadingLemmas.{is_read, is_refused}
use Rattle.host_record.proofs.WrittenLemmas.{written}
use Rattle.host_record.proofs.reading.read_record.Goals as goal

pub returns-clause-exact : goal.returns-clause-exact
returns-clause-exact c r h = is_read c.args.text.now r c.read_lines.result c.read_lines.ensures h

pub returns-clause-exact_line : goal.returns-clause-exact_line
returns-clause-exact_line c n h = is_refused c.args.text.now n c.read_lines.result c.read_lines.ensures h

pub returns-clause-again : goal.returns-clause-again
returns-clause-again c r b k e = is_read c.args.text.now r c.read_lines.result c.read_lines.ensures (subst (λ (t : List ℕ). Says t r) (sym e) (written r b k))
