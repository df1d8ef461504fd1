use Rattle.std.proofs.Common.{◌≡◌, ◌∙◌, sym, ap, ◌==◌, ◌&&◌, false, arith, map}
use Rattle.std.specs.Option.{option_map}
use Rattle.std.proofs.lemmas.Bool.{and_left, and_right, ne_eqb}
use Rattle.load_model.specs.Bindings.{is_copy}
use Rattle.scope_lookup.proofs.ScopeLemmas.{copy_skips, def_at, few_there, offer_found, offered_there}
use Rattle.scope_lookup.proofs.lookup.offer_at.Goals.{else-number-eq0-via-then-number-eq0+else-is_copy, else-number-eq0-via-else-number-eq0}
use Rattle.scope_lookup.proofs.lookup.offer_at.Goals as goal

pub returns-then-is_copy : goal.returns-then-is_copy
returns-then-is_copy g c =
    copy_skips (map g.F.Offers.offered c.args.index.now) c.args.run.now c.args.wanted c.args.number c.if-number-eq0.true (sym c.is_copy.ensures ∙ c.if-is_copy.true)

pub offer-requires : goal.offer-requires
offer-requires g c =
    record { few = few_there g.F.Offers.offered c.args.index.now c.args.run.now c.as_slice.result.now c.as_slice.ensures c.requires.searchable c.args.number c.requires.number c.index-as_slice-number.result c.index-as_slice-number.is c.index-index-as_slice.result c.index-index-as_slice.is }

pub returns-in-Some : goal.returns-in-Some
returns-in-Some g c =
    let skip : ((c.args.number == 0) && is_copy c.args.wanted.class) ≡ false = elim c.else-number-eq0.branch [
      | else-number-eq0-via-then-number-eq0+else-is_copy w ↦ and_right (c.args.number == 0) (is_copy c.args.wanted.class) (sym w.is_copy.ensures ∙ w.if-is_copy.false)
      | else-number-eq0-via-else-number-eq0 w ↦ and_left (c.args.number == 0) (is_copy c.args.wanted.class) (ne_eqb c.args.number 0 (λ e. absurd (omega arith)))
    ] in
    sym (ap (option_map (def_at c.args.number)) c.in-Some.is)
    ∙ offer_found (map g.F.Offers.offered c.args.index.now) c.args.run.now c.args.wanted c.args.number _ c.offer.result skip
    (offered_there g.F.Offers.offered c.args.index.now c.args.run.now c.as_slice.result.now c.as_slice.ensures c.requires.searchable c.args.number c.requires.number c.index-as_slice-number.result c.index-as_slice-number.is c.index-index-as_slice.result c.index-index-as_slice.is)
    c.offer.ensures

pub returns-in-None : goal.returns-in-None
returns-in-None g c =
    let skip : ((c.args.number == 0) && is_copy c.args.wanted.class) ≡ false = elim c.else-number-eq0.branch [
      | else-number-eq0-via-then-number-eq0+else-is_copy w ↦ and_right (c.args.number == 0) (is_copy c.args.wanted.class) (sym w.is_copy.ensures ∙ w.if-is_copy.false)
      | else-number-eq0-via-else-number-eq0 w ↦ and_left (c.args.number == 0) (is_copy c.args.wanted.class) (ne_eqb c.args.number 0 (λ e. absurd (omega arith)))
    ] in
    sym (ap (option_map (def_at c.args.number)) c.in-None.is)
    ∙ offer_found (map g.F.Offers.offered c.args.index.now) c.args.run.now c.args.wanted c.args.number _ c.offer.result skip
    (offered_there g.F.Offers.offered c.args.index.now c.args.run.now c.as_slice.result.now c.as_slice.ensures c.requires.searchable c.args.number c.requires.number c.index-as_slice-number.result c.index-as_slice-number.is c.index-index-as_slice.result c.index-index-as_slice.is)
    c.offer.ensures
