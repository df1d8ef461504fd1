-- the way leads to a symbol that is known, and fits
use Rattle.std.proofs.Common.{◌≡◌, ◌-◌, ◌≤◌, ◌∙◌, ap, arith, length, sym}
use Rattle.std.specs.Prelude.{slice_index}
use Rattle.hash_chains.specs.Depths.{IsWay, Knows}
use Rattle.hash_chains.proofs.Depths.{way_fits}
use Rattle.hash_chains.proofs.chains.Chains.measure.Goals as goal

pub returns : goal.returns
returns c =
    let chains = c.args.self.now.next.items in
    let depths = c.args.self.now.depths.items in
    let symbols = c.in-Some.way.symbols.items in
    let end = c.in-Some.way.end in
    let way : IsWay chains c.args.first symbols end × Knows c.args.self.now end × (length symbols ≤ length chains) = rw c.in-Some.is at c.in_ok-way.ensures in
    let depth : c.depth_of.result ≡ slice_index depths end = c.depth_of.ensures ∙ ap (λ xs. slice_index xs end) c.deref.ensures.value in
    let fits : slice_index depths end ≤ length chains - length symbols = omega (arith, depth, c.len.ensures, c.len-2.ensures, c.if-room-depth_of.false) in
    record {
      depths = c.note_all.ensures.depths;
      words = c.note_all.ensures.words;
      ends = sym (way_fits chains depths c.args.first symbols end way.0 way.1 way.2 fits);
      known = λ e. c.note_all.ensures.known c.args.first way.0;
      kept = c.note_all.ensures.kept;
    }
