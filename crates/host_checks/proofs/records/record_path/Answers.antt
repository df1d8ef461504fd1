use Rattle.host_checks.proofs.PlaceLemmas.{path_is}
use Rattle.host_checks.proofs.records.record_path.Goals as goal

pub returns-in-Ok : goal.returns-in-Ok
returns-in-Ok c = path_is c.args.place.now c.in-Ok.path c.as_str-text.ensures.normal c.in-Ok.ensures.answer
