use Rattle.std.proofs.Common.{◌∙◌, refl, subst}
use Rattle.std.proofs.lemmas.Option.{slice_get_read}
use Rattle.appdir_files.specs.Writing.{IsProbed}
use Rattle.extra_files.proofs.CopyLemmas.{all_pushed}
use Rattle.extra_files.proofs.LauncherLemmas.{data_more, data_stops}
use Rattle.extra_files.proofs.StepLemmas.{reads_on, stop_later}
use Rattle.extra_files.specs.Copying.{AreDataItems, IsDataItem}
use Rattle.extra_files.proofs.copying.data_items.Goals as goal

pub returns-in-Err-clause-answer : goal.returns-in-Err-clause-answer
returns-in-Err-clause-answer g c =
    let files = c.args.files.now in
    let stands = slice_get_read files _ c.files.file-index c.file-item.result refl c.files-test.true c.file-item.is in
    stop_later (g.T.Tree.seen c.args.tree.now) (g.T.Tree.seen c.files.tree) (g.T.Tree.seen c.data_item.new.tree)
    (λ world outcome. IsDataItem world c.file-item.result outcome)
    (λ world outcome. AreDataItems world files outcome)
    c.in-Err.stop c.files.invariant.reads
    (λ world refusal told h. data_stops world files c.files.file-index c.file-item.result c.files.items refusal stands (c.files.invariant.right world told) h)
    c.in-Err.ensures.answer

pub files-preserved : goal.files-preserved
files-preserved g c =
    let before = g.T.Tree.seen c.args.tree.now in
    let files = c.args.files.now in
    let stands = slice_get_read files _ c.files.file-index c.file-item.result refl c.files-test.true c.file-item.is in
    let reads = c.files.invariant.reads in
    record {
      reads = reads_on before (g.T.Tree.seen c.files.tree) (g.T.Tree.seen c.data_item.new.tree) reads c.in-Ok.ensures.only_reads;
      probed = all_pushed (IsProbed before.told) c.files.items c.push.new.self c.in-Ok.item c.in_ok-push-in-Ok.ensures.ok c.files.invariant.probed (subst (λ told. IsProbed told c.in-Ok.item) reads.stays c.in-Ok.ensures.probed);
      right = λ world told. data_more world files c.files.file-index c.file-item.result c.files.items c.push.new.self c.in-Ok.item stands c.in_ok-push-in-Ok.ensures.ok (c.files.invariant.right world told) (c.in-Ok.ensures.answer world (reads.stays ∙ told));
    }
