use Rattle.build_runs.proofs.FileLemmas.{file_of_object}
use Rattle.build_runs.proofs.laws.objects_are_files.Goals as goal

pub returns : goal.returns
returns c setting world programs faces runs k j run x are g h = file_of_object setting world programs faces runs k j run x are g h
