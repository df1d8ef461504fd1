-- one chain more ends, and its first symbol is known
use Rattle.std.proofs.Common.{◌≡◌, ℕ, ◌<◌, true, ◌∙◌, ap, arith, length, refl, sym, Ok}
use Rattle.std.specs.Prelude.{slice_index}
use Rattle.load_model.specs.SysvTable.{ends_in}
use Rattle.hash_chains.specs.Depths.{Knows}
use Rattle.hash_chains.proofs.Depths.{all_done, all_step}
use borrow.Author.Count.{below_more}
use Rattle.hash_chains.proofs.chains.Chains.measure_all.Goals as goal

pub loop-first-init : goal.loop-first-init
loop-first-init c = record { depths = c.requires.depths; words = refl; ends = refl; known = λ b h. absurd (omega arith) }

pub loop-first-preserved : goal.loop-first-preserved
loop-first-preserved c =
    let chains = c.args.self.now.next.items in
    let first = slice_index c.args.firsts.now c.loop-first.first-index in
    let words : c.loop-first.self.next ≡ c.args.self.now.next = c.loop-first.invariant.words in
    let ends : ends_in (length chains) chains first ≡ true = sym (ap (λ v. ends_in (length v.items) v.items first) words) ∙ (sym c.in_ok-measure.ensures.ends ∙ c.if-not-branch.false) in
    record {
      depths = c.measure.ensures.depths;
      words = c.measure.ensures.words ∙ words;
      ends = sym (all_step (λ at. ends_in (length chains) chains at) c.args.firsts.now c.loop-first.first-index c.loop-first-test.true ends) ∙ c.loop-first.invariant.ends;
      known = below_more (λ b. Knows c.measure.new.self (slice_index c.args.firsts.now b)) c.loop-first.first-index
          (λ b h. c.measure.ensures.kept (slice_index c.args.firsts.now b) (c.loop-first.invariant.known b h)) (c.in_ok-measure.ensures.known (ap Ok c.if-not-branch.false));
    }

pub returns : goal.returns
returns c =
    let chains = c.args.self.now.next.items in
    record {
      words = c.loop-first.invariant.words;
      ends = sym (all_done (λ at. ends_in (length chains) chains at) c.args.firsts.now c.loop-first.first-index c.loop-first-test.false) ∙ c.loop-first.invariant.ends;
      known = λ e. record { measured = c.loop-first.invariant.depths; each = λ b h. c.loop-first.invariant.known b (omega arith) };
    }
