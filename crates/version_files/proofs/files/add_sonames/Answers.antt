use Rattle.version_files.specs.Known.{sonames_known}
use Rattle.version_files.proofs.AddingLemmas.{adds_no_number, adds_number}
use Rattle.version_files.proofs.files.add_sonames.Goals as goal

pub loop-number-init : goal.loop-number-init
loop-number-init c = (c.requires.named, adds_no_number c.args.known.now (sonames_known c.args.faces.now c.args.run.now))

pub loop-number-preserved : goal.loop-number-preserved
loop-number-preserved c = (
  c.in_ok-add_soname.ensures.named,
  adds_number c.args.known.now c.loop-number.known c.add_soname.new.known (sonames_known c.args.faces.now c.args.run.now) c.loop-number.number c.loop-number.invariant.1 c.in_ok-add_soname.ensures.added,
)
