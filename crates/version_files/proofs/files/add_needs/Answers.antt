use Rattle.version_files.specs.Known.{known_from, needs_known}
use Rattle.std.proofs.Common.{map, zip}
use Rattle.version_files.proofs.AddingLemmas.{adds_as, adds_no_number, adds_number, needs_are}
use Rattle.version_files.proofs.files.add_needs.Goals as goal

pub loop-number-init : goal.loop-number-init
loop-number-init c = (c.requires.named, adds_no_number c.args.known.now (needs_known c.args.faces.now c.args.run.now))

pub loop-number-preserved : goal.loop-number-preserved
loop-number-preserved c = (
  c.in_ok-add_requests.ensures.named,
  adds_number c.args.known.now c.loop-number.known c.add_requests.new.known (needs_known c.args.faces.now c.args.run.now) c.loop-number.number c.loop-number.invariant.1
      (adds_as c.loop-number.known c.add_requests.new.known (map (known_from c.args.run.now c.phase_at-phase.result) (zip c.as_slice-needs.result.now c.targets_of-targets.result.now)) (needs_known c.args.faces.now c.args.run.now c.loop-number.number)
      (needs_are c.args.faces.now c.args.run.now c.loop-number.number c.phase_at-phase.result c.face_of.result.now c.as_slice-needs.result.now c.targets_of-targets.result.now c.face_of.ensures c.as_slice-needs.ensures c.targets_of-targets.ensures c.phase_at-phase.ensures)
      c.in_ok-add_requests.ensures.added),
)
