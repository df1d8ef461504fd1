-- what is left of the chain answers as the whole does
use Rattle.std.proofs.Common.{◌≡◌, ◌+◌, ◌/◌, ◌==◌, true, false, cond, ◌∙◌, sym, arith}
use Rattle.std.specs.Prelude.{slice_index}
use Rattle.hash_lookup.specs.Finding.{nothing, wish_of, with_symbol}
use Rattle.hash_lookup.specs.Chains.{chain_along, with_hash}
use Rattle.load_model.specs.GnuTable.{is_last}
use Rattle.hash_lookup.proofs.ChainLemmas.{gnu_done, gnu_last, gnu_step, has_hash, lacks_hash}
use Rattle.hash_lookup.proofs.gnu_chains.along.Goals as goal
use Rattle.hash_lookup.proofs.gnu_chains.along.Goals.{else-word-hash, then-word-hash}

pub loop-k-preserved : goal.loop-k-preserved
loop-k-preserved g c =
    let more : is_last (slice_index c.args.words.now c.loop-k.k) ≡ false = sym c.is_last.ensures ∙ c.if-is_last.false in
    let noted : c.if-word-hash.found ≡ cond (slice_index c.args.words.now c.loop-k.k / 2 == c.args.hash / 2) (with_symbol (wish_of c.args.lookup.now) c.args.lookup.now.syms.now c.loop-k.found (c.args.first + c.loop-k.k)) c.loop-k.found =
    elim c.if-word-hash.branch [
      | then-word-hash w ↦ has_hash (slice_index c.args.words.now c.loop-k.k / 2) (c.args.hash / 2) c.loop-k.found c.if-word-hash.found w.note.new.self (with_symbol (wish_of c.args.lookup.now) c.args.lookup.now.syms.now c.loop-k.found (c.args.first + c.loop-k.k)) w.if-word-hash.true w.found-is w.note.ensures
      | else-word-hash w ↦ lacks_hash (slice_index c.args.words.now c.loop-k.k / 2) (c.args.hash / 2) c.loop-k.found c.if-word-hash.found (with_symbol (wish_of c.args.lookup.now) c.args.lookup.now.syms.now c.loop-k.found (c.args.first + c.loop-k.k)) w.if-word-hash.false w.found-is
    ] in
    gnu_step (wish_of c.args.lookup.now) c.args.lookup.now.syms.now c.loop-k.found c.if-word-hash.found nothing c.loop-k.steps c.tick.new.self c.args.steps.now c.args.hash c.args.first c.loop-k.k c.args.words.now (with_hash c.args.hash (chain_along c.args.first c.args.words.now)) (chain_along c.args.first c.args.words.now) (omega arith) more noted c.tick.ensures c.loop-k.invariant

pub returns-then-is_last-clause-found : goal.returns-then-is_last-clause-found
returns-then-is_last-clause-found g c =
    let end : is_last (slice_index c.args.words.now c.loop-k.k) ≡ true = sym c.is_last.ensures ∙ c.if-is_last.true in
    let noted : c.if-word-hash.found ≡ cond (slice_index c.args.words.now c.loop-k.k / 2 == c.args.hash / 2) (with_symbol (wish_of c.args.lookup.now) c.args.lookup.now.syms.now c.loop-k.found (c.args.first + c.loop-k.k)) c.loop-k.found =
    elim c.if-word-hash.branch [
      | then-word-hash w ↦ has_hash (slice_index c.args.words.now c.loop-k.k / 2) (c.args.hash / 2) c.loop-k.found c.if-word-hash.found w.note.new.self (with_symbol (wish_of c.args.lookup.now) c.args.lookup.now.syms.now c.loop-k.found (c.args.first + c.loop-k.k)) w.if-word-hash.true w.found-is w.note.ensures
      | else-word-hash w ↦ lacks_hash (slice_index c.args.words.now c.loop-k.k / 2) (c.args.hash / 2) c.loop-k.found c.if-word-hash.found (with_symbol (wish_of c.args.lookup.now) c.args.lookup.now.syms.now c.loop-k.found (c.args.first + c.loop-k.k)) w.if-word-hash.false w.found-is
    ] in
    (gnu_last (wish_of c.args.lookup.now) c.args.lookup.now.syms.now c.loop-k.found c.if-word-hash.found nothing c.loop-k.steps c.tick.new.self c.args.steps.now c.args.hash c.args.first c.loop-k.k c.args.words.now (with_hash c.args.hash (chain_along c.args.first c.args.words.now)) (chain_along c.args.first c.args.words.now) (omega arith) end noted c.tick.ensures c.loop-k.invariant).0

pub returns-then-is_last-clause-cost : goal.returns-then-is_last-clause-cost
returns-then-is_last-clause-cost g c =
    let end : is_last (slice_index c.args.words.now c.loop-k.k) ≡ true = sym c.is_last.ensures ∙ c.if-is_last.true in
    let noted : c.if-word-hash.found ≡ cond (slice_index c.args.words.now c.loop-k.k / 2 == c.args.hash / 2) (with_symbol (wish_of c.args.lookup.now) c.args.lookup.now.syms.now c.loop-k.found (c.args.first + c.loop-k.k)) c.loop-k.found =
    elim c.if-word-hash.branch [
      | then-word-hash w ↦ has_hash (slice_index c.args.words.now c.loop-k.k / 2) (c.args.hash / 2) c.loop-k.found c.if-word-hash.found w.note.new.self (with_symbol (wish_of c.args.lookup.now) c.args.lookup.now.syms.now c.loop-k.found (c.args.first + c.loop-k.k)) w.if-word-hash.true w.found-is w.note.ensures
      | else-word-hash w ↦ lacks_hash (slice_index c.args.words.now c.loop-k.k / 2) (c.args.hash / 2) c.loop-k.found c.if-word-hash.found (with_symbol (wish_of c.args.lookup.now) c.args.lookup.now.syms.now c.loop-k.found (c.args.first + c.loop-k.k)) w.if-word-hash.false w.found-is
    ] in
    (gnu_last (wish_of c.args.lookup.now) c.args.lookup.now.syms.now c.loop-k.found c.if-word-hash.found nothing c.loop-k.steps c.tick.new.self c.args.steps.now c.args.hash c.args.first c.loop-k.k c.args.words.now (with_hash c.args.hash (chain_along c.args.first c.args.words.now)) (chain_along c.args.first c.args.words.now) (omega arith) end noted c.tick.ensures c.loop-k.invariant).1

pub returns-clause-found : goal.returns-clause-found
returns-clause-found g c =
    (gnu_done (wish_of c.args.lookup.now) c.args.lookup.now.syms.now c.loop-k.found nothing c.loop-k.steps c.args.steps.now c.args.hash c.args.first c.loop-k.k c.args.words.now (with_hash c.args.hash (chain_along c.args.first c.args.words.now)) (chain_along c.args.first c.args.words.now) (omega arith) c.loop-k.invariant).0

pub returns-clause-cost : goal.returns-clause-cost
returns-clause-cost g c =
    (gnu_done (wish_of c.args.lookup.now) c.args.lookup.now.syms.now c.loop-k.found nothing c.loop-k.steps c.args.steps.now c.args.hash c.args.first c.loop-k.k c.args.words.now (with_hash c.args.hash (chain_along c.args.first c.args.words.now)) (chain_along c.args.first c.args.words.now) (omega arith) c.loop-k.invariant).1
