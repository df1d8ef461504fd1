use Rattle.load_model.proofs.LoadLists.{ends_found, forget, run_found}
use Rattle.load_model.proofs.laws.list_is_found_by_recursion.Goals as goal

pub returns : goal.returns
returns c read setting world path opens loaded ends p = (
  p.program,
  p.starts,
  run_found read setting world path p.program opens loaded (forget read setting world path p.program opens loaded ends p.run),
  ends_found read setting world path p.program opens loaded ends p.run,
)
