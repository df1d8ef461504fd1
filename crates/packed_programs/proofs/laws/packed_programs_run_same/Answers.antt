use Rattle.packed_programs.proofs.EverywhereLemmas.{images_kept, program_runs}
use Rattle.packed_programs.proofs.laws.packed_programs_run_same.Goals as goal

pub returns-clause-programs : goal.returns-clause-programs
returns-clause-programs c world config made ready from number start h =
    program_runs world config made ready from (c.record_files_are_read_again.ensures.only world config made ready from) number start h

pub returns-clause-images : goal.returns-clause-images
returns-clause-images c world config made ready from =
    images_kept world config made ready from (c.record_files_are_read_again.ensures.only world config made ready from)
