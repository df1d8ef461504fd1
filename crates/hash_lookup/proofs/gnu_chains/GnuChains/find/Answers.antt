-- what is found along the chain of the bucket is what is found in the table
use Rattle.std.proofs.Common.{◌≡◌, ◌∙◌, sym, true, false, length, arith}
use Rattle.hash_lookup.specs.Chains.{first_of, gnu_chain, chain_along}
use Rattle.hash_lookup.specs.Finding.{wish_of}
use Rattle.load_model.specs.GnuTable.{passes_bloom}
use Rattle.hash_lookup.proofs.ChainLemmas.{filtered, gnu_cost, gnu_found}
use Rattle.hash_lookup.proofs.gnu_chains.GnuChains.find.Goals as goal

pub returns-then-not-passes_bloom-clause-found : goal.returns-then-not-passes_bloom-clause-found
returns-then-not-passes_bloom-clause-found g c =
    let not_passed : passes_bloom c.args.self.now c.gnu_hash-hash.result ≡ false = cc in
    rw (← c.gnu_hash-hash.ensures) (c.nothing.ensures ∙ sym (filtered (wish_of c.args.lookup.now) c.args.lookup.now.syms.now c.args.self.now c.gnu_hash-hash.result not_passed))

pub returns-clause-found : goal.returns-clause-found
returns-clause-found g c =
    let passed : passes_bloom c.args.self.now c.gnu_hash-hash.result ≡ true = cc in
    let first : c.first_of-first.result ≡ first_of c.args.self.now.buckets c.gnu_hash-hash.result = cc in
    rw (← c.gnu_hash-hash.ensures) (c.along.ensures.found ∙ gnu_found (wish_of c.args.lookup.now) c.args.lookup.now.syms.now c.args.self.now c.gnu_hash-hash.result c.first_of-first.result c.words_from.result.now passed first c.words_from.ensures)

pub returns-clause-cost : goal.returns-clause-cost
returns-clause-cost g c =
    let first : c.first_of-first.result ≡ first_of c.args.self.now.buckets c.gnu_hash-hash.result = cc in
    let same : length (chain_along c.first_of-first.result c.words_from.result.now) ≡ length (gnu_chain c.args.self.now c.gnu_hash-hash.result) = gnu_cost c.args.self.now c.gnu_hash-hash.result c.first_of-first.result c.words_from.result.now first c.words_from.ensures in
    rw (← c.gnu_hash-hash.ensures) (omega (arith, same, c.along.ensures.cost))
