use Rattle.load_model.specs.VersionCheck.{version_file_of}
use Rattle.load_model.specs.declared.asks.Ask.{Ask}
use Rattle.version_files.proofs.AddingLemmas.{file_told, map_read}
use Rattle.version_files.proofs.files.files_at.Goals as goal

pub loop-ask-preserved : goal.loop-ask-preserved
loop-ask-preserved c =
    map_read (λ (ask : Ask). version_file_of c.args.faces.now c.args.run.now c.args.number ask.file) c.as_slice-ask-items.result.now c.loop-ask.ask-index c.ask-item.result c.loop-ask.files.items c.push.new.self.items c.at.result c.loop-ask-test.true c.ask-item.is c.loop-ask.invariant c.in-Ok.ensures.items
    (file_told c.args.faces.now c.args.run.now c.args.known.now c.args.number c.phase_at-phase.result c.ask-item.result.file c.at.result c.requires.run c.requires.told c.phase_at-phase.ensures c.at.ensures)
