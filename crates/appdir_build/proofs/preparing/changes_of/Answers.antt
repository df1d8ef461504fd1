use Rattle.std.proofs.Common.{All, sym, subst}
use Rattle.load_model.specs.Runs.{IsRunOver}
use Rattle.appdir_build.proofs.PreparedLemmas.{prepared, runs_over}
use Rattle.appdir_build.proofs.preparing.changes_of.Goals as goal

pub change_all-requires-clause-runs : goal.change_all-requires-clause-runs
change_all-requires-clause-runs c =
    subst (λ faces. All (IsRunOver faces) c.as_slice.result.now) (sym c.faces.ensures.faces)
    (subst (λ runs. All (IsRunOver c.args.plan.now.loads.table.faces) runs) (sym c.as_slice.ensures) (runs_over c.args.config.now c.args.plan.now c.requires))

pub returns : goal.returns
returns c = prepared c.args.config.now c.args.plan.now c.requires c.faces.result.now c.as_slice.result.now c.change_all.result c.faces.ensures.faces c.as_slice.ensures c.change_all.ensures.changes c.change_all.ensures.fits
