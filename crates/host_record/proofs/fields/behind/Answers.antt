-- What begins with the words is the words and what is behind them.
use Rattle.std.proofs.Common.{sym, ◌∙◌, ◌++◌, arith, ap, length, drop, take_all, length-drop, ◌-◌}
use Rattle.std.proofs.lemmas.Bool.Decides.{Decides-eqb}
use Rattle.std.proofs.lemmas.Slice.Eq.{starts_is}
use Rattle.host_record.proofs.fields.behind.Goals as goal

pub returns-then-starts_with : goal.returns-then-starts_with
returns-then-starts_with c =
    let w = starts_is Decides-eqb c.args.text.now c.args.words.now c.starts_with.result c.starts_with.ensures.value in
    let long = length-drop (length c.args.words.now) c.args.text.now in
    w.0 c.if-starts_with.true ∙ ap (λ t. c.args.words.now ++ t) (sym (take_all (length c.args.text.now - length c.args.words.now) (drop (length c.args.words.now) c.args.text.now) (omega arith)))

pub returns-else-starts_with : goal.returns-else-starts_with
returns-else-starts_with c rest e =
    let w = starts_is Decides-eqb c.args.text.now c.args.words.now c.starts_with.result c.starts_with.ensures.value in
    let yes = w.1 rest e in
    let nope = c.if-starts_with.false in
    cc
