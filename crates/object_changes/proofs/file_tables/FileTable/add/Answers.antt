use Rattle.std.proofs.Common.{◌∙◌, sym}
use Rattle.object_changes.proofs.FileLemmas.{known_after, known_there}
use Rattle.object_changes.proofs.file_tables.FileTable.add.Goals as goal

pub returns-then-is_some : goal.returns-then-is_some
returns-then-is_some c =
    known_there c.args.self.now (record { asker = c.args.asked.asker.now; file = c.args.asked.file.now; name = c.args.name.now }) c.first.result c.first.ensures (sym c.is_some.ensures ∙ c.if-is_some.true)

pub returns : goal.returns
returns c =
    known_after c.self.inside.names c.insert.new.self.entries c.args.asked c.args.name c.args.self.now c.first.result c.self.view_is c.first.ensures (sym c.is_some.ensures ∙ c.if-is_some.false) c.in-Ok.ensures.entries
