use Rattle.std.proofs.Common.{◌∙◌, ap, sym}
use Rattle.load_requests.specs.declared.stops.LoadStop.TheVariants.{MissingLibrary as Misses}
use Rattle.load_requests.proofs.AskingSteps.{path_is}
use Rattle.load_requests.proofs.requests.missing.Goals as goal

pub returns : goal.returns
returns c = λ faces objects are.
    ap (λ n. Misses n c.in_ok-by.by) c.in_ok-name.ensures
    ∙ ap (λ p. Misses c.args.request.name.now p) (sym (path_is faces c.args.loading.now.objs objects (record { by = c.args.request.by; name = c.args.request.name.now }) c.in_ok-by.by c.requires are c.in_ok-by.ensures))
