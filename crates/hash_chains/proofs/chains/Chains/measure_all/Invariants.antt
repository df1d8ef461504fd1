-- the chains so far end, and their first symbols are known
use Rattle.std.proofs.Common.{ℕ, ◌≡◌, ◌<◌, drop, length}
use Rattle.std.specs.Prelude.{slice_index}
use Rattle.std.specs.List.{list_all}
use Rattle.load_model.specs.SysvTable.{ends_in}
use Rattle.hash_chains.specs.Depths.{AreMeasured, Knows}
use Rattle.hash_chains.proofs.chains.Chains.measure_all.Given as goal

abbrev pub invariant-loop-first : goal.invariant-loop-first
invariant-loop-first l = record {
  depths : AreMeasured l.self;
  words : l.self.next ≡ l.initial.self.next;
  ends : list_all (λ at. ends_in (length l.initial.self.next.items) l.initial.self.next.items at) (drop l.first-index l.firsts) ≡ list_all (λ at. ends_in (length l.initial.self.next.items) l.initial.self.next.items at) l.firsts;
  known : (b : ℕ) → b < l.first-index → Knows l.self (slice_index l.firsts b);
}
