-- one symbol of the way is noted, and fewer are left
use Rattle.std.proofs.Common.{◌≡◌, ◌+◌, ◌∙◌, ap, arith, length, subst}
use Rattle.std.specs.Prelude.{slice_index}
use Rattle.hash_chains.specs.Depths.{IsKnown}
use Rattle.hash_chains.proofs.Depths.{IsPopped, left_none, left_pop}
use Rattle.hash_chains.proofs.chains.Chains.note_all.Goals as goal

pub note-requires-clause-ready : goal.note-requires-clause-ready
note-requires-clause-ready c =
    let chains = c.args.self.now.next.items in
    let words : c.note.self.next.items ≡ chains = ap (λ v. v.items) c.note.invariant.words in
    let popped : IsPopped chains c.note.self.depths.items c.args.way.symbols.items c.args.way.end c.pop.new.self.items c.in-Some.symbol = left_pop chains c.note.self.depths.items c.args.way.symbols.items c.args.way.end c.note.symbols.items c.pop.new.self.items c.in-Some.symbol c.requires.way c.note.invariant.left c.in-Some.ensures.items in
    record {
      some = popped.some;
      within = rw words popped.within;
      next = rw words popped.next;
      few = rw words (omega (arith, popped.few));
    }

pub note-preserved : goal.note-preserved
note-preserved c =
    let chains = c.args.self.now.next.items in
    let words : c.note.self.next.items ≡ chains = ap (λ v. v.items) c.note.invariant.words in
    let after : c.note-in-Some.new.self.next.items ≡ chains = ap (λ v. v.items) (c.note-in-Some.ensures.words ∙ c.note.invariant.words) in
    let popped : IsPopped chains c.note.self.depths.items c.args.way.symbols.items c.args.way.end c.pop.new.self.items c.in-Some.symbol = left_pop chains c.note.self.depths.items c.args.way.symbols.items c.args.way.end c.note.symbols.items c.pop.new.self.items c.in-Some.symbol c.requires.way c.note.invariant.left c.in-Some.ensures.items in
    let known : IsKnown chains c.note-in-Some.new.self.depths.items c.in-Some.symbol = subst (λ xs. IsKnown xs c.note-in-Some.new.self.depths.items c.in-Some.symbol) after c.note-in-Some.ensures.known in
    let depth : slice_index c.note-in-Some.new.self.depths.items c.in-Some.symbol ≡ slice_index c.note.self.depths.items (slice_index chains c.in-Some.symbol) + 1 = c.note-in-Some.ensures.depth ∙ ap (λ xs. slice_index c.note.self.depths.items (slice_index xs c.in-Some.symbol) + 1) words in
    record {
      depths = c.note-in-Some.ensures.depths;
      words = c.note-in-Some.ensures.words ∙ c.note.invariant.words;
      kept = λ v k. c.note-in-Some.ensures.kept v (c.note.invariant.kept v k);
      left = record {
        last = c.in-Some.symbol;
        way = popped.way;
        known = known;
        few = omega (arith, popped.few, depth);
      };
    }

pub returns-clause-known : goal.returns-clause-known
returns-clause-known c = λ first w.
    let chains = c.args.self.now.next.items in
    let words : c.note.self.next.items ≡ chains = ap (λ v. v.items) c.note.invariant.words in
    let none : length c.note.symbols.items ≡ 0 = omega (arith, c.note.symbols.ok.0, c.in_default.ensures.cases.0) in
    rw words (left_none chains c.note.self.depths.items c.args.way.symbols.items c.args.way.end first c.note.symbols.items none c.note.invariant.left w)
