-- what was seen is the symbols, the versions and the marks, side by side
use Rattle.std.proofs.Common.{◌≡◌, ◌≤◌, ◌∙◌, arith, length}
use Rattle.std.proofs.lemmas.Iterator.{YieldsList-from_slice, YieldsList-from_zip}
use Rattle.std.proofs.lemmas.Iterator.Consumers.{YieldsList-at, YieldsList-end}
use Rattle.hash_lookup.specs.Listed.{syms_with}
use Rattle.hash_lookup.proofs.SymbolLemmas.{all_symbols, few_made}
use Rattle.hash_lookup.proofs.copies.syms_with.Goals as goal

all_seen : (c : goal.In-None) → c.symbols.list ≡ syms_with c.args.bytes.now c.raw.result.now c.args.versions.now c.args.hidden.now
all_seen c =
    let versions = YieldsList-from_slice c.args.versions.now c.zip.ensures.second.0 in
    let hidden = YieldsList-from_slice c.args.hidden.now c.zip-s-items.ensures.second.0 in
    let symbols = YieldsList-from_slice c.raw.result.now c.iter.ensures.rest in
    let pairs = YieldsList-from_zip (YieldsList-at c.zip.ensures.first symbols) versions in
    let all = YieldsList-at c.into_iter-s-iterator.ensures.into_iter_gives (YieldsList-from_zip (YieldsList-at c.zip-s-items.ensures.first pairs) hidden) in
    let seen = YieldsList-end all c.symbols.yielded c.symbols.s-iterator c.symbols.yielded_by c.next.result c.next.new.self c.in-None.is c.next.ensures.steps in
    c.symbols.invariant ∙ all_symbols c.args.bytes.now (λ p. ((p.0.0.now, p.0.1.now), p.1.now)) c.symbols.yielded c.raw.result.now c.args.versions.now c.args.hidden.now seen.0

pub returns-clause-symbols : goal.returns-clause-symbols
returns-clause-symbols c = rw (← c.raw.ensures.symbols) (all_seen c)

pub returns-clause-few : goal.returns-clause-few
returns-clause-few c =
    let few : length (syms_with c.args.bytes.now c.raw.result.now c.args.versions.now c.args.hidden.now) ≤ length c.raw.result.now = few_made c.args.bytes.now c.raw.result.now c.args.versions.now c.args.hidden.now in
    rw (all_seen c) (omega (arith, few, c.raw.ensures.few))
