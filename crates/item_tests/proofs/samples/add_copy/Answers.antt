use Rattle.std.proofs.Common.{sym, subst, All}
use Rattle.appdir_files.specs.Writing.{IsProbed}
use Rattle.item_tests.proofs.samples.add_copy.Goals as goal

pub returns : goal.returns
returns g c h =
    subst (λ told. All (IsProbed told) c.add.new.items) (sym c.copy_of.ensures.only_reads.stays)
    (c.in_ok-add.ensures (g.T.Tree.seen c.args.tree.now).told c.in_ok-body.ensures.probed h)
