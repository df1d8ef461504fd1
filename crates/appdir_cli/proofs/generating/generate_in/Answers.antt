use Rattle.std.proofs.Common.{All, Option, subst, sym}
use Rattle.appdir_files.specs.Writing.{IsProbed}
use Rattle.load_model.specs.World.{World}
use Rattle.appdir_cli.proofs.GeneratingLemmas.{gen_entry, gen_opens, generates, generating_stops}
use Rattle.appdir_cli.proofs.generating.generate_in.Goals as goal

pub build-requires-clause-entry : goal.build-requires-clause-entry
build-requires-clause-entry g c = gen_entry c.in-Ok.config c.in-Ok.ensures

pub build-requires-clause-opens : goal.build-requires-clause-opens
build-requires-clause-opens g c = gen_opens c.in-Ok.config c.in-Ok.ensures

pub written_line-requires : goal.written_line-requires
written_line-requires g c =
    subst (λ (told : Option World). All (IsProbed told) c.in-Ok-build.built.items) (sym c.in-Ok-build.ensures.only_reads.stays) c.in-Ok-build.ensures.probed

pub returns-in-Ok-written_line-clause-answer : goal.returns-in-Ok-written_line-clause-answer
returns-in-Ok-written_line-clause-answer g c =
    generates (g.T.Tree.seen c.args.tree.now) (g.T.Tree.seen c.build.new.tree) c.args.count c.in-Ok.config c.in-Ok-build.built c.in-Ok-written_line.line c.in-Ok.ensures c.in-Ok-build.ensures.answer c.in-Ok-written_line.ensures

pub returns-clause-answer : goal.returns-clause-answer
returns-clause-answer g c =
    generating_stops (g.T.Tree.seen c.args.tree.now) (g.T.Tree.seen c.build.new.tree) c.args.count c.in-Ok.config c.in-Err-build.stop c.in-Ok.ensures c.in-Err-build.ensures.answer
