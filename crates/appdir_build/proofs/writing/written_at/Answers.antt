use Rattle.std.proofs.Common.{◌∙◌, subst, arith}
use Rattle.appdir_build.proofs.StepLemmas.{reads_on, stop_later}
use Rattle.appdir_build.proofs.WrittenLemmas.{IsMade, all_pushed, more_written, stops_all, written_all}
use Rattle.appdir_build.specs.Writing.{AreFacedIn, AreItemsFor, files_in, pairs_in}
use Rattle.appdir_files.specs.Writing.{IsProbed}
use Rattle.appdir_build.proofs.writing.written_at.Goals as goal

pub returns-in-Err-clause-answer : goal.returns-in-Err-clause-answer
returns-in-Err-clause-answer g c =
    let before = g.T.Tree.seen c.args.tree.now in
    let objects = c.args.objects.now in
    stop_later before (g.T.Tree.seen c.loop-number.tree) (g.T.Tree.seen c.written_one.new.tree)
    (λ world outcome. AreFacedIn world objects → IsMade world objects c.requires c.loop-number.number outcome)
    (λ world outcome. AreFacedIn world objects → AreItemsFor world (pairs_in objects) (files_in world objects) outcome)
    c.in-Err.stop c.loop-number.invariant.reads
    (λ world refusal told h faced. stops_all world objects c.requires c.loop-number.number c.loop-number.items refusal c.loop-number-test.true (c.loop-number.invariant.right world told faced) (h faced))
    c.in-Err.ensures.answer

pub returns-clause-answer : goal.returns-clause-answer
returns-clause-answer g c world told faced =
    written_all world c.args.objects.now c.requires c.loop-number.number c.loop-number.items (let most = c.loop-number.auto.number-end in let least = c.loop-number-test.false in omega (arith, most, least)) (c.loop-number.invariant.right world told faced)

pub loop-number-preserved : goal.loop-number-preserved
loop-number-preserved g c =
    let before = g.T.Tree.seen c.args.tree.now in
    let reads = c.loop-number.invariant.reads in
    record {
      reads = reads_on before (g.T.Tree.seen c.loop-number.tree) (g.T.Tree.seen c.written_one.new.tree) reads c.in-Ok.ensures.only_reads;
      probed = all_pushed (IsProbed before.told) c.loop-number.items c.push.new.self c.in-Ok.item c.in_ok-push-in-Ok.ensures.ok c.loop-number.invariant.probed (subst (λ told. IsProbed told c.in-Ok.item) reads.stays c.in-Ok.ensures.probed);
      right = λ world told faced. more_written world c.args.objects.now c.requires c.loop-number.number c.loop-number.items c.push.new.self c.in-Ok.item c.loop-number-test.true c.in_ok-push-in-Ok.ensures.ok (c.loop-number.invariant.right world told faced) (c.in-Ok.ensures.answer world (reads.stays ∙ told) faced);
    }
