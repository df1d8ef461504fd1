use Rattle.std.proofs.Common.{◌≡◌, All}
use Rattle.load_model.specs.Runs.{IsRunOver}
use Rattle.build_files.proofs.loading.runs_of.Given as goal

abbrev pub invariant-loop-program : goal.invariant-loop-program
invariant-loop-program g l = record {
  over : All (IsRunOver (g.P.Opener.seen l.opener).faces) l.runs.items;
  machine : (g.P.Opener.seen l.opener).machine ≡ l.setting.machine;
}
