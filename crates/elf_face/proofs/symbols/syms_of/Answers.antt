-- what was seen is the symbols, the versions and the marks, side by side
use Rattle.std.proofs.Common.{◌≡◌, ◌∙◌, rules, length}
use Rattle.std.specs.Vec.{vec_len}
use Rattle.std.proofs.lemmas.Iterator.{YieldsList-from_slice, YieldsList-from_zip}
use Rattle.std.proofs.lemmas.Iterator.Adapters.{YieldsList-from_vec}
use Rattle.std.proofs.lemmas.Iterator.Consumers.{YieldsList-at, YieldsList-end}
use Rattle.elf_face.proofs.Numbered.{all_symbols}
use Rattle.elf_face.proofs.symbols.syms_of.Goals as goal

pub returns : goal.returns
returns c =
    let versions_len : vec_len c.args.versions ≡ length c.args.versions.items = search rules in
    let hidden_len : vec_len c.args.hidden ≡ length c.args.hidden.items = search rules in
    let versions = YieldsList-from_vec c.args.versions.items c.zip.ensures.second.0 (c.zip.ensures.second.1 ∙ versions_len) in
    let hidden = YieldsList-from_vec c.args.hidden.items c.zip-s-items.ensures.second.0 (c.zip-s-items.ensures.second.1 ∙ hidden_len) in
    let symbols = YieldsList-from_slice c.args.symbols.now c.iter.ensures.rest in
    let pairs = YieldsList-from_zip (YieldsList-at c.zip.ensures.first symbols) versions in
    let all = YieldsList-at c.into_iter-s-iterator.ensures.into_iter_gives (YieldsList-from_zip (YieldsList-at c.zip-s-items.ensures.first pairs) hidden) in
    let seen = YieldsList-end all c.symbols.yielded c.symbols.s-iterator c.symbols.yielded_by c.next.result c.next.new.self c.in-None.is c.next.ensures.steps in
    c.symbols.invariant ∙ all_symbols c.args.bytes.now (λ p. ((p.0.0.now, p.0.1), p.1)) c.symbols.yielded c.args.symbols.now c.args.versions.items c.args.hidden.items seen.0 c.requires.symbols c.requires.versions c.requires.hidden
