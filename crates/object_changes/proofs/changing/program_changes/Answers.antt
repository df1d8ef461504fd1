use Rattle.std.proofs.Common.{◌∙◌, [], ◌∷◌, ◌++◌, ap}
use Rattle.lib_closure.specs.Seen.{standing}
use Rattle.object_changes.specs.Changing.{change_of_program, changes_of_programs}
use Rattle.object_changes.specs.OfNames.{of_names}
use Rattle.object_changes.proofs.ChangeLemmas.{program_read}
use Rattle.object_changes.proofs.changing.program_changes.Goals as goal

pub loop-place-init : goal.loop-place-init
unfolding changes_of_programs
loop-place-init c = c.new-changes.ensures

pub loop-place-preserved : goal.loop-place-preserved
loop-place-preserved c =
    program_read c.args.names.now.libs.split.now c.args.names.now.layout.now standing c.args.programs.now c.loop-place.place c.index-programs-place.result c.loop-place.changes c.push.new.self c.loop-place-test.true c.index-programs-place.is c.loop-place.invariant
    (c.in_ok-push.ensures.ok ∙ ap (λ x. c.loop-place.changes ++ x ∷ []) (c.in_ok-change_of_program.ensures ∙ ap (λ p. of_names change_of_program c.args.names.now p (standing c.index-programs-place.result)) c.run_path_at.ensures))
