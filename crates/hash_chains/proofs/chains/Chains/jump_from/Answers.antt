-- a jump leads to a symbol that is known and no deeper
use Rattle.std.proofs.Common.{◌≡◌, ◌∙◌, ap, arith}
use Rattle.std.specs.Prelude.{slice_index}
use Rattle.hash_chains.proofs.Depths.{IsJump, jump_is, reach_here, reach_on}
use Rattle.hash_chains.proofs.chains.Chains.jump_from.Goals as goal

pub returns-then-near-far : goal.returns-then-near-far
returns-then-near-far c =
    let chains = c.args.self.now.next.items in
    let depths = c.args.self.now.depths.items in
    let jumps = c.args.self.now.jumps.items in
    let jump : IsJump chains depths c.args.next c.word_of-jump.result = jump_is chains depths jumps c.args.next c.word_of-jump.result c.requires.depths c.requires.known (c.word_of-jump.ensures ∙ ap (λ xs. slice_index xs c.args.next) c.deref.ensures.value) in
    let farther : IsJump chains depths c.word_of-jump.result c.word_of-farther.result = jump_is chains depths jumps c.word_of-jump.result c.word_of-farther.result c.requires.depths jump.known (c.word_of-farther.ensures ∙ ap (λ xs. slice_index xs c.word_of-jump.result) c.deref-2.ensures.value) in
    record { known = farther.known; reached = reach_on chains c.args.next c.word_of-jump.result c.word_of-farther.result jump.reached farther.reached }

pub returns-else-near-far : goal.returns-else-near-far
returns-else-near-far c = record { known = c.requires.known; reached = reach_here c.args.self.now.next.items c.args.next }

pub overflow_sub-near : goal.overflow_sub-near
overflow_sub-near c =
    let depths = c.args.self.now.depths.items in
    let jump : IsJump c.args.self.now.next.items depths c.args.next c.word_of-jump.result = jump_is c.args.self.now.next.items depths c.args.self.now.jumps.items c.args.next c.word_of-jump.result c.requires.depths c.requires.known (c.word_of-jump.ensures ∙ ap (λ xs. slice_index xs c.args.next) c.deref.ensures.value) in
    let here : c.depth_of.result ≡ slice_index depths c.args.next = c.depth_of.ensures ∙ ap (λ xs. slice_index xs c.args.next) c.deref-3.ensures.value in
    let there : c.depth_of-2.result ≡ slice_index depths c.word_of-jump.result = c.depth_of-2.ensures ∙ ap (λ xs. slice_index xs c.word_of-jump.result) c.deref-4.ensures.value in
    omega (arith, here, there, jump.shallow)

pub overflow_sub-far : goal.overflow_sub-far
overflow_sub-far c =
    let depths = c.args.self.now.depths.items in
    let jump : IsJump c.args.self.now.next.items depths c.args.next c.word_of-jump.result = jump_is c.args.self.now.next.items depths c.args.self.now.jumps.items c.args.next c.word_of-jump.result c.requires.depths c.requires.known (c.word_of-jump.ensures ∙ ap (λ xs. slice_index xs c.args.next) c.deref.ensures.value) in
    let farther : IsJump c.args.self.now.next.items depths c.word_of-jump.result c.word_of-farther.result = jump_is c.args.self.now.next.items depths c.args.self.now.jumps.items c.word_of-jump.result c.word_of-farther.result c.requires.depths jump.known (c.word_of-farther.ensures ∙ ap (λ xs. slice_index xs c.word_of-jump.result) c.deref-2.ensures.value) in
    let here : c.depth_of-3.result ≡ slice_index depths c.word_of-jump.result = c.depth_of-3.ensures ∙ ap (λ xs. slice_index xs c.word_of-jump.result) c.deref-5.ensures.value in
    let there : c.depth_of-4.result ≡ slice_index depths c.word_of-farther.result = c.depth_of-4.ensures ∙ ap (λ xs. slice_index xs c.word_of-farther.result) c.deref-6.ensures.value in
    omega (arith, here, there, farther.shallow)
