-- the next symbol, or the one that is jumped to
use Rattle.std.proofs.Common.{◌≡◌, ◌<◌, ◌∙◌, ap, arith, subst, sym}
use Rattle.std.specs.Prelude.{slice_index}
use Rattle.hash_chains.specs.Depths.{IsKnown, IsNoted, Reaches}
use Rattle.hash_chains.proofs.Depths.{IsJump, jump_is, jump_less, next_less, next_reached}
use Rattle.hash_chains.proofs.chains.Chains.nearer.Goals as goal

pub returns-then-depth_of-depth : goal.returns-then-depth_of-depth
returns-then-depth_of-depth c =
    let chains = c.args.self.now.next.items in
    let depths = c.args.self.now.depths.items in
    let jumps = c.args.self.now.jumps.items in
    let deep : 0 < slice_index depths c.args.at = omega (arith, c.requires.deeper) in
    let noted : IsNoted chains depths jumps c.args.at = c.requires.depths.each c.args.at (omega (arith, deep)) in
    let after : c.word_of.result ≡ slice_index chains c.args.at = c.word_of.ensures ∙ ap (λ xs. slice_index xs c.args.at) c.deref-then-depth_of-depth.ensures.value in
    let same : slice_index depths c.word_of.result ≡ slice_index depths (slice_index chains c.args.at) = ap (λ x. slice_index depths x) after in
    record {
      known = subst (λ x. IsKnown chains depths x) (sym after) noted.next;
      reached = subst (λ x. Reaches chains c.args.at x) (sym after) (next_reached chains depths jumps c.args.at c.requires.depths deep);
      less = omega (arith, same, next_less chains depths jumps c.args.at c.requires.depths deep);
      enough = omega (arith, same, next_less chains depths jumps c.args.at c.requires.depths deep, c.requires.deeper);
    }

pub returns-else-depth_of-depth : goal.returns-else-depth_of-depth
returns-else-depth_of-depth c =
    let chains = c.args.self.now.next.items in
    let depths = c.args.self.now.depths.items in
    let jumps = c.args.self.now.jumps.items in
    let deep : 0 < slice_index depths c.args.at = omega (arith, c.requires.deeper) in
    let to : c.word_of-jump.result ≡ slice_index jumps c.args.at = c.word_of-jump.ensures ∙ ap (λ xs. slice_index xs c.args.at) c.deref.ensures.value in
    let jump : IsJump chains depths c.args.at c.word_of-jump.result = jump_is chains depths jumps c.args.at c.word_of-jump.result c.requires.depths c.requires.known to in
    let there : c.depth_of.result ≡ slice_index depths c.word_of-jump.result = c.depth_of.ensures ∙ ap (λ xs. slice_index xs c.word_of-jump.result) c.deref-2.ensures.value in
    let same : slice_index depths c.word_of-jump.result ≡ slice_index depths (slice_index jumps c.args.at) = ap (λ x. slice_index depths x) to in
    record {
      known = jump.known;
      reached = jump.reached;
      less = omega (arith, same, jump_less chains depths jumps c.args.at c.requires.depths deep);
      enough = omega (arith, there, c.if-depth_of-depth.false);
    }
