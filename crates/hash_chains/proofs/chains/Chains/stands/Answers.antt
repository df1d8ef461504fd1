-- the symbol of this depth is the one, or it stands in no such chain
use Rattle.std.proofs.Common.{◌≡◌, ◌∙◌, ap}
use Rattle.std.specs.Prelude.{slice_index}
use Rattle.hash_chains.proofs.Depths.{stands_where}
use Rattle.hash_chains.proofs.chains.Chains.stands.Goals as goal

pub returns : goal.returns
returns c =
    let kept = c.args.self.now in
    let depth : c.depth_of-depth.result ≡ slice_index kept.depths.items c.args.symbol = c.depth_of-depth.ensures ∙ ap (λ xs. slice_index xs c.args.symbol) c.deref.ensures.value in
    stands_where kept.next.items kept.depths.items kept.jumps.items c.args.first c.args.symbol c.at_depth.result c.depth_of-depth.result
    c.requires.depths c.requires.known depth c.if-depth-eq0.false c.at_depth.ensures.known c.at_depth.ensures.reached c.at_depth.ensures.low c.at_depth.ensures.enough
