use Rattle.std.proofs.Common.{◌∙◌}
use Rattle.build_files.proofs.GrownLemmas.{runs_over}
use Rattle.build_files.proofs.loading.runs_of.Goals as goal

pub loop-program-preserved : goal.loop-program-preserved
loop-program-preserved g c = record {
  over = runs_over (g.P.Opener.seen c.loop-program.opener) (g.P.Opener.seen c.run_of.new.opener) c.run_of.ensures.grew c.loop-program.runs.items c.push.new.self.items c.in_ok-run.run' c.loop-program.invariant.over c.in_ok-run.ensures.run c.in-Ok.ensures.items;
  machine = c.run_of.ensures.grew.machine ∙ c.loop-program.invariant.machine;
}
