use Rattle.std.proofs.Common.{◌∙◌, ap, map}
use Rattle.lib_closure.specs.Seen.{standing}
use Rattle.object_changes.specs.Changing.{changes_of_programs}
use Rattle.object_changes.specs.OfNames.{of_names}
use Rattle.object_changes.proofs.ChangeLemmas.{ok_as}
use Rattle.object_changes.proofs.changing.changes_of_programs.Goals as goal

pub returns : goal.returns
returns c =
    ok_as c.program_changes.result _ _ (ap (of_names changes_of_programs c.args.names.now) (ap (map standing) c.as_slice.ensures.value ∙ c.in_ok-programs.ensures)) c.program_changes.ensures
