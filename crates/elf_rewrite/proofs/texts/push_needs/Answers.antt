use Rattle.std.proofs.Common.{arith, get_or, ◌<◌, length}
use Rattle.load_model.specs.VersionTables.{text_of}
use Rattle.elf_rewrite.proofs.TextSteps.{changed_step, own_default}
use Rattle.elf_rewrite.proofs.texts.push_needs.Goals as goal

pub loop-i-preserved : goal.loop-i-preserved
loop-i-preserved c =
    let low : c.loop-i.i < length c.args.places.now = omega arith in
    changed_step (text_of c.args.bytes.now) c.args.places.now c.args.news.now c.loop-i.i (get_or c.args.places.now c.loop-i.i 0) c.index-news-i.result c.text_of.result.now
    c.loop-i.texts c.push_changed.new.texts _ low c.loop-i-test.true (own_default c.args.places.now c.loop-i.i low) c.index-news-i.is c.text_of.ensures c.loop-i.invariant c.in_ok-push_changed.ensures
