use Rattle.std.proofs.Common.{Ok, Err, ◌+◌}
use Rattle.load_model.specs.Candidates.{candidate_in}
use Rattle.search_paths.specs.HeldItems.{item_held}
use Rattle.search_paths.specs.declared.hits.Hit.TheVariants.{Found, Missing}
use Rattle.search_paths.proofs.DecisionLemmas.{grew_not, grew_on, item_more, item_over, items_none, nothing_seen}
use Rattle.search_paths.proofs.searching.look_in_items.Goals as goal

pub loop-item-init : goal.loop-item-init
loop-item-init g c = record { none = nothing_seen (g.P.Opener.seen c.args.opener.now); grew = grew_not (g.P.Opener.seen c.args.opener.now) }

pub returns-in-Ok-Found-clause-answer : goal.returns-in-Ok-Found-clause-answer
returns-in-Ok-Found-clause-answer g c =
    item_over (λ x. candidate_in c.args.name.now (item_held c.args.setting.now x)) c.args.items.now (g.P.Opener.seen c.args.opener.now) (g.P.Opener.seen c.look_in_item.new.opener) (c.loop-item.item-index + 1) (Ok (Found c.in-Ok-Found.path c.in-Ok-Found.id c.in-Ok-Found.face)) tt
    (item_more (λ x. candidate_in c.args.name.now (item_held c.args.setting.now x)) c.args.items.now (g.P.Opener.seen c.args.opener.now) (g.P.Opener.seen c.loop-item.opener) (g.P.Opener.seen c.look_in_item.new.opener) c.loop-item.item-index c.item-item.result (Ok (Found c.in-Ok-Found.path c.in-Ok-Found.id c.in-Ok-Found.face)) c.loop-item-test.true c.item-item.is c.loop-item.invariant.none c.loop-item.invariant.grew (rw c.in-Ok-Found.field-0-is at c.in-Ok-Found.ensures.answer))

pub returns-in-Ok-Found-clause-grew : goal.returns-in-Ok-Found-clause-grew
returns-in-Ok-Found-clause-grew g c = grew_on _ _ _ c.loop-item.invariant.grew c.look_in_item.ensures.grew

pub returns-in-Err-clause-answer : goal.returns-in-Err-clause-answer
returns-in-Err-clause-answer g c =
    item_over (λ x. candidate_in c.args.name.now (item_held c.args.setting.now x)) c.args.items.now (g.P.Opener.seen c.args.opener.now) (g.P.Opener.seen c.look_in_item.new.opener) (c.loop-item.item-index + 1) (Err c.in-Err.stop) tt
    (item_more (λ x. candidate_in c.args.name.now (item_held c.args.setting.now x)) c.args.items.now (g.P.Opener.seen c.args.opener.now) (g.P.Opener.seen c.loop-item.opener) (g.P.Opener.seen c.look_in_item.new.opener) c.loop-item.item-index c.item-item.result (Err c.in-Err.stop) c.loop-item-test.true c.item-item.is c.loop-item.invariant.none c.loop-item.invariant.grew c.in-Err.ensures.answer)

pub returns-in-Err-clause-grew : goal.returns-in-Err-clause-grew
returns-in-Err-clause-grew g c = grew_on _ _ _ c.loop-item.invariant.grew c.look_in_item.ensures.grew

pub loop-item-preserved : goal.loop-item-preserved
loop-item-preserved g c = record {
  none = item_more (λ x. candidate_in c.args.name.now (item_held c.args.setting.now x)) c.args.items.now (g.P.Opener.seen c.args.opener.now) (g.P.Opener.seen c.loop-item.opener) (g.P.Opener.seen c.look_in_item.new.opener) c.loop-item.item-index c.item-item.result (Ok Missing) c.loop-item-test.true c.item-item.is c.loop-item.invariant.none c.loop-item.invariant.grew (rw c.in-Ok-Missing.field-0-is at c.in-Ok-Missing.ensures.answer);
  grew = grew_on _ _ _ c.loop-item.invariant.grew c.look_in_item.ensures.grew;
}

pub returns-clause-answer : goal.returns-clause-answer
returns-clause-answer g c = items_none (λ x. candidate_in c.args.name.now (item_held c.args.setting.now x)) c.args.items.now (g.P.Opener.seen c.args.opener.now) (g.P.Opener.seen c.loop-item.opener) c.loop-item.item-index c.loop-item-test.false c.loop-item.invariant.none
