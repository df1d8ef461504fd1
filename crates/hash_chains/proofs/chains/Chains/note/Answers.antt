-- one symbol more is noted
use Rattle.std.proofs.Common.{◌≡◌, ◌+◌, ◌∙◌, ap, arith, get_or-set_same, refl, set, sym, subst}
use Rattle.std.specs.Prelude.{slice_index}
use Rattle.hash_chains.specs.Depths.{IsKnown}
use Rattle.hash_chains.proofs.Depths.{IsNotedMore, note_more}
use Rattle.hash_chains.proofs.chains.Chains.note.Goals as goal

pub returns : goal.returns
returns c =
    let chains = c.args.self.now.next.items in
    let depths = c.args.self.now.depths.items in
    let next : c.word_of-next.result ≡ slice_index chains c.args.at = c.word_of-next.ensures ∙ ap (λ xs. slice_index xs c.args.at) c.deref.ensures.value in
    let depth : c.depth_of-depth.result ≡ slice_index depths c.word_of-next.result = c.depth_of-depth.ensures ∙ ap (λ xs. slice_index xs c.word_of-next.result) c.deref-2.ensures.value in
    let same : slice_index depths c.word_of-next.result ≡ slice_index depths (slice_index chains c.args.at) = ap (λ x. slice_index depths x) next in
    let known : IsKnown chains depths c.word_of-next.result = subst (λ x. IsKnown chains depths x) (sym next) c.requires.ready.next in
    let noted : IsNotedMore chains depths (set depths c.args.at (c.depth_of-depth.result + 1)) (set c.args.self.now.jumps.items c.args.at c.jump_from-jump.result) c.args.at = note_more chains depths c.args.self.now.jumps.items c.args.at c.word_of-next.result c.jump_from-jump.result (c.depth_of-depth.result + 1)
    c.requires.depths c.requires.ready.some c.requires.ready.within next (ap (λ x. x + 1) depth) (omega (arith, same, c.requires.ready.few)) known c.jump_from-jump.ensures.known c.jump_from-jump.ensures.reached in
    record {
      depths = noted.measured;
      words = refl;
      known = noted.known;
      kept = noted.kept;
      depth = get_or-set_same depths c.args.at (c.depth_of-depth.result + 1) 0 (omega (arith, c.requires.ready.within, c.requires.depths.same)) ∙ ap (λ x. x + 1) (depth ∙ same);
    }
