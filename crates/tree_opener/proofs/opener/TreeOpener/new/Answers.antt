use Rattle.std.proofs.Common.{◌<◌, vec_len, arith}
use Rattle.tree_opener.proofs.FacesLemmas.{no_faces}
use Rattle.tree_opener.proofs.opener.TreeOpener.new.Goals as goal

pub invariant_of-result : goal.invariant_of-result
invariant_of-result c =
    let room : 0 < vec_len c.in-Ok.window = omega (arith, c.in-Ok.ensures.len) in
    (rw (c.new.ensures.items, c.new-in-Ok.ensures.items) (no_faces c.args.machine), room)
