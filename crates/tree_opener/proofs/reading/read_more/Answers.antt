use Rattle.std.proofs.Common.{arith, take, length, vec_len, ◌≡◌, ◌≤◌, ◌++◌, drop, ap, subst, sym, ◌∙◌, List, ℕ}
use Rattle.ports.specs.Reading.{bytes_at}
use Rattle.tree_opener.proofs.Lists.{front_grows}
use Rattle.tree_opener.proofs.reading.read_more.Goals as goal

pub returns-clause-front : goal.returns-clause-front
returns-clause-front g c world told =
    let all : List ℕ = bytes_at world c.args.file.now.path.now in
    let items : c.extend_from_slice.new.self.items ≡ c.args.bytes.now.items ++ take c.min-wanted.result c.read_at.new.buf = c.in_ok-extend_from_slice.ensures.items in
    let before : vec_len c.args.bytes.now ≡ length c.args.bytes.now.items = c.args.bytes.now.ok.0 in
    let at : c.len-at.result ≡ length c.args.bytes.now.items = c.len-at.ensures ∙ before in
    let len : vec_len c.extend_from_slice.new.self ≡ length c.extend_from_slice.new.self.items = c.extend_from_slice.new.self.ok.0 in
    let front : c.args.bytes.now.items ≡ take (length c.args.bytes.now.items) all = c.requires.front world told ∙ ap (λ k. take k all) before in
    let next : take c.in-Ok.count c.read_at.new.buf ≡ take c.in-Ok.count (drop (length c.args.bytes.now.items) all) = c.in-Ok.ensures.read world told ∙ ap (λ k. take c.in-Ok.count (drop k all)) at in
    let small : c.min-wanted.result ≤ c.in-Ok.count = omega arith in
    let fits : c.in-Ok.count ≤ length c.read_at.new.buf = omega (arith, c.read_at.auto.buf, c.in-Ok.ensures.fits) in
    let P : List ℕ → Type 0 = λ l. l ≡ take (length l) all in
    let whole : c.extend_from_slice.new.self.items ≡ take (length c.extend_from_slice.new.self.items) all = subst P (sym items) (front_grows c.args.bytes.now.items c.read_at.new.buf all c.in-Ok.count c.min-wanted.result front next small fits) in
    whole ∙ ap (λ k. take k all) (sym len)
