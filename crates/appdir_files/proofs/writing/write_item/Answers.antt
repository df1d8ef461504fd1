use Rattle.std.proofs.Common.{sym, ◌∙◌}
use Rattle.ports.specs.Folder.{begun}
use Rattle.ports.specs.View.{Became}
use Rattle.appdir_files.proofs.WritingLemmas.{item_written, not_err}
use Rattle.appdir_files.proofs.writing.write_item.Goals as goal

pub returns-in-Ok-clause-written : goal.returns-in-Ok-clause-written
returns-in-Ok-clause-written g c =
    item_written (g.T.Tree.seen c.args.tree.now).told c.args.item.now (g.O.OutDir.seen c.args.out.now) (g.O.OutDir.seen c.begin.new.self) (g.O.OutDir.seen c.append_body.new.out) (g.O.OutDir.seen c.finish.new.self)
    (not_err c.begin.result (Became (begun c.args.item.now.path c.args.item.now.executable) (g.O.OutDir.seen c.args.out.now) (g.O.OutDir.seen c.begin.new.self)) (sym c.is_err.ensures.value ∙ c.if-is_err.false) c.begin.ensures.begun)
    c.in_default.ensures.added c.in-Ok.ensures.closed
