use Rattle.std.proofs.Common.{Ok, Err, ◌+◌}
use Rattle.load_model.specs.Candidates.{candidate_in}
use Rattle.load_model.specs.RunPaths.{Folder}
use Rattle.search_paths.specs.declared.hits.Hit.TheVariants.{Found, Missing}
use Rattle.search_paths.proofs.DecisionLemmas.{grew_not, grew_on, item_more, item_over, items_none, nothing_seen}
use Rattle.search_paths.proofs.searching.look_in_folders.Goals as goal

pub loop-dir-init : goal.loop-dir-init
loop-dir-init g c = record { none = nothing_seen (g.P.Opener.seen c.args.opener.now); grew = grew_not (g.P.Opener.seen c.args.opener.now) }

pub returns-in-Ok-Found-clause-answer : goal.returns-in-Ok-Found-clause-answer
returns-in-Ok-Found-clause-answer g c =
    item_over (λ x. candidate_in c.args.name.now (Folder x)) c.args.dirs.now (g.P.Opener.seen c.args.opener.now) (g.P.Opener.seen c.look_in_dir.new.opener) (c.loop-dir.dir-index + 1) (Ok (Found c.in-Ok-Found.path c.in-Ok-Found.id c.in-Ok-Found.face)) tt
    (item_more (λ x. candidate_in c.args.name.now (Folder x)) c.args.dirs.now (g.P.Opener.seen c.args.opener.now) (g.P.Opener.seen c.loop-dir.opener) (g.P.Opener.seen c.look_in_dir.new.opener) c.loop-dir.dir-index c.dir-item.result (Ok (Found c.in-Ok-Found.path c.in-Ok-Found.id c.in-Ok-Found.face)) c.loop-dir-test.true c.dir-item.is c.loop-dir.invariant.none c.loop-dir.invariant.grew (rw c.in-Ok-Found.field-0-is at c.in-Ok-Found.ensures.answer))

pub returns-in-Ok-Found-clause-grew : goal.returns-in-Ok-Found-clause-grew
returns-in-Ok-Found-clause-grew g c = grew_on _ _ _ c.loop-dir.invariant.grew c.look_in_dir.ensures.grew

pub returns-in-Err-clause-answer : goal.returns-in-Err-clause-answer
returns-in-Err-clause-answer g c =
    item_over (λ x. candidate_in c.args.name.now (Folder x)) c.args.dirs.now (g.P.Opener.seen c.args.opener.now) (g.P.Opener.seen c.look_in_dir.new.opener) (c.loop-dir.dir-index + 1) (Err c.in-Err.stop) tt
    (item_more (λ x. candidate_in c.args.name.now (Folder x)) c.args.dirs.now (g.P.Opener.seen c.args.opener.now) (g.P.Opener.seen c.loop-dir.opener) (g.P.Opener.seen c.look_in_dir.new.opener) c.loop-dir.dir-index c.dir-item.result (Err c.in-Err.stop) c.loop-dir-test.true c.dir-item.is c.loop-dir.invariant.none c.loop-dir.invariant.grew c.in-Err.ensures.answer)

pub returns-in-Err-clause-grew : goal.returns-in-Err-clause-grew
returns-in-Err-clause-grew g c = grew_on _ _ _ c.loop-dir.invariant.grew c.look_in_dir.ensures.grew

pub loop-dir-preserved : goal.loop-dir-preserved
loop-dir-preserved g c = record {
  none = item_more (λ x. candidate_in c.args.name.now (Folder x)) c.args.dirs.now (g.P.Opener.seen c.args.opener.now) (g.P.Opener.seen c.loop-dir.opener) (g.P.Opener.seen c.look_in_dir.new.opener) c.loop-dir.dir-index c.dir-item.result (Ok Missing) c.loop-dir-test.true c.dir-item.is c.loop-dir.invariant.none c.loop-dir.invariant.grew (rw c.in-Ok-Missing.field-0-is at c.in-Ok-Missing.ensures.answer);
  grew = grew_on _ _ _ c.loop-dir.invariant.grew c.look_in_dir.ensures.grew;
}

pub returns-clause-answer : goal.returns-clause-answer
returns-clause-answer g c = items_none (λ x. candidate_in c.args.name.now (Folder x)) c.args.dirs.now (g.P.Opener.seen c.args.opener.now) (g.P.Opener.seen c.loop-dir.opener) c.loop-dir.dir-index c.loop-dir-test.false c.loop-dir.invariant.none
