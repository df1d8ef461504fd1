use Rattle.appdir_build.proofs.AppRunLemmas.{ends_with_app_run}
use Rattle.appdir_build.proofs.laws.app_run_is_last.Goals as goal

pub returns : goal.returns
returns c = ends_with_app_run
