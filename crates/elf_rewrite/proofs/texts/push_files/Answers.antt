use Rattle.std.proofs.Common.{arith, ◌<◌, ◌∙◌, ap, sym, length}
use Rattle.load_model.specs.declared.asks.Ask.{Ask}
use Rattle.elf_rewrite.proofs.TextSteps.{changed_step}
use Rattle.elf_rewrite.proofs.texts.push_files.Goals as goal

pub loop-i-preserved : goal.loop-i-preserved
loop-i-preserved c =
    let low : c.loop-i.i < length c.args.asks.now = omega arith in
    changed_step (λ a. a.file) c.args.asks.now c.args.files.now c.loop-i.i c.index-asks-i.result c.index-files-i.result c.as_bytes.result.now
    c.loop-i.texts c.push_changed.new.texts _ low c.loop-i-test.true c.index-asks-i.is c.index-files-i.is (c.as_bytes.ensures ∙ ap (λ (a : Ask). a.file) (sym c.index-asks-i.is)) c.loop-i.invariant c.in_ok-push_changed.ensures
