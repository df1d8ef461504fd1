-- the symbols that are left are the way to one that is known
use Rattle.std.proofs.Common.{◌≡◌, length}
use Rattle.hash_chains.specs.Depths.{AreMeasured, KeepsKnown}
use Rattle.hash_chains.proofs.Depths.{IsLeft}
use Rattle.hash_chains.proofs.chains.Chains.note_all.Given as goal

abbrev pub invariant-note : goal.invariant-note
invariant-note l = record {
  depths : AreMeasured l.self;
  words : l.self.next ≡ l.initial.self.next;
  kept : KeepsKnown l.initial.self l.self;
  left : IsLeft l.initial.self.next.items l.self.depths.items l.fn.way.symbols.items l.fn.way.end l.symbols.items;
}

abbrev pub decreases-note : goal.decreases-note
decreases-note l = length l.symbols.items
