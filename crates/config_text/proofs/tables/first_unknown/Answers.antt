use Rattle.std.proofs.Common.{◌≡◌, ◌∙◌, ap, sym, map, String, Global, true, false}
use Rattle.std.specs.Prelude.{Some}
use Rattle.std.specs.Map.Iter.{deref}
use Rattle.std.proofs.lemmas.Map.Iter.{rest_all, rest_more}
use Rattle.config_text.specs.Tables.{is_known}
use Rattle.config_text.proofs.UnknownLemmas.{first_in, found, known_of, least_is_first, none_left, passed_over}
use Rattle.config_text.proofs.tables.first_unknown.Goals as goal

pub look-init : goal.look-init
look-init c =
    least_is_first (map (λ k. k.now) c.args.known.now) c.args.table.now.entries c.keys-name-items.ensures.ordered
    ∙ ap (first_in (map (λ k. k.now) c.args.known.now)) (sym (c.into_iter-name-iterator.ensures.into_iter_gives ∙ c.keys-name-items.ensures.rest))

pub returns-then-not-is_known : goal.returns-then-not-is_known
returns-then-not-is_known c =
    let known = map (λ k. k.now) c.args.known.now in
    let lacks = ap (is_known known) (sym c.as_str.ensures.value) ∙ (sym (known_of c.args.known.now c.as_str.result.now) ∙ (sym c.is_known.ensures ∙ c.if-not-is_known.true)) in
    sym (c.look.invariant
    ∙ (ap (first_in known) (rest_more (deref {X = String Global}) c.look.name-iterator c.next.new.self c.next.result c.in-Some.name c.in-Some.is c.next.ensures.steps)
    ∙ (found known c.in-Some.name.now c.next.new.self lacks ∙ ap Some (sym c.as_str-then-not-is_known.ensures.value))))

pub look-preserved : goal.look-preserved
look-preserved c =
    let known = map (λ k. k.now) c.args.known.now in
    let has = ap (is_known known) (sym c.as_str.ensures.value) ∙ (sym (known_of c.args.known.now c.as_str.result.now) ∙ (sym c.is_known.ensures ∙ c.if-not-is_known.false)) in
    c.look.invariant
    ∙ (ap (first_in known) (rest_more (deref {X = String Global}) c.look.name-iterator c.next.new.self c.next.result c.in-Some.name c.in-Some.is c.next.ensures.steps)
    ∙ passed_over known c.in-Some.name.now c.next.new.self has)

pub returns : goal.returns
returns c =
    let known = map (λ k. k.now) c.args.known.now in
    sym (c.look.invariant ∙ none_left known c.look.name-iterator (rest_all (deref {X = String Global}) c.look.name-iterator c.next.new.self c.next.result c.in-None.is c.next.ensures.steps))
