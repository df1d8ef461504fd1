-- the way is one symbol longer
use Rattle.std.proofs.Common.{◌≡◌, ◌≢◌, ◌<◌, ◌++◌, [], ◌∷◌, ◌∙◌, ap, arith, length, length-append, rules}
use Rattle.std.specs.Prelude.{slice_index}
use Rattle.hash_chains.specs.Depths.{IsWay}
use Rattle.hash_chains.proofs.Depths.{link_next, link_within, way_push}
use Rattle.hash_chains.proofs.chains.Chains.way.Goals as goal

pub walk-preserved : goal.walk-preserved
walk-preserved c =
    let chains = c.args.self.now.next.items in
    let some : c.walk.end ≢ 0 = search rules in
    let within : c.walk.end < length chains = link_within (length chains) c.walk.end c.walk.invariant.link some in
    let longer : IsWay chains c.args.first (c.walk.symbols.items ++ c.walk.end ∷ []) (slice_index chains c.walk.end) = way_push chains c.args.first c.walk.symbols.items c.walk.end some within c.walk.invariant.way in
    let next : c.word_of-end.result ≡ slice_index chains c.walk.end = c.word_of-end.ensures ∙ ap (λ xs. slice_index xs c.walk.end) c.deref.ensures.value in
    record {
      way = rw (c.in_ok-push.ensures.items, next) longer;
      link = rw next (link_next (length chains) chains c.walk.end c.requires.links);
      few = omega (arith, length-append c.walk.symbols.items (c.walk.end ∷ []), ap length c.in_ok-push.ensures.items, c.len.ensures, c.len-in-walk.ensures);
    }
