use Rattle.std.proofs.Common.{◌∙◌}
use Rattle.appdir_build.proofs.StepLemmas.{reads_nothing, stop_later}
use Rattle.appdir_build.proofs.WrittenLemmas.{LibsIn, ProgramsIn, all_written, libs_unwritten, programs_unwritten}
use Rattle.appdir_build.specs.Writing.{AreObjectsIn, IsWritingOf}
use Rattle.appdir_build.proofs.writing.written_objects.Goals as goal

pub returns-in-Err-written_programs-clause-answer : goal.returns-in-Err-written_programs-clause-answer
returns-in-Err-written_programs-clause-answer g c =
    let before = g.T.Tree.seen c.args.tree.now in
    let plan = c.args.plan.now in
    let config = c.args.config.now in
    stop_later before before (g.T.Tree.seen c.written_programs.new.tree)
    (λ world outcome. AreObjectsIn world plan → ProgramsIn world config plan outcome)
    (λ world outcome. AreObjectsIn world plan → IsWritingOf world config plan outcome)
    c.in-Err-written_programs.stop (reads_nothing before)
    (λ world refusal told h objects. programs_unwritten world config plan refusal (h objects))
    c.in-Err-written_programs.ensures.answer

pub returns-in-Ok-written_libs-clause-answer : goal.returns-in-Ok-written_libs-clause-answer
returns-in-Ok-written_libs-clause-answer g c world told objects =
    all_written world c.args.config.now c.args.plan.now c.in-Ok-written_programs.programs c.in-Ok-written_libs.libs (c.in-Ok-written_programs.ensures.answer world told objects) (c.in-Ok-written_libs.ensures.answer world (c.in-Ok-written_programs.ensures.only_reads.stays ∙ told) objects)

pub returns-clause-answer : goal.returns-clause-answer
returns-clause-answer g c =
    let before = g.T.Tree.seen c.args.tree.now in
    let plan = c.args.plan.now in
    let config = c.args.config.now in
    stop_later before (g.T.Tree.seen c.written_programs.new.tree) (g.T.Tree.seen c.written_libs.new.tree)
    (λ world outcome. AreObjectsIn world plan → LibsIn world plan outcome)
    (λ world outcome. AreObjectsIn world plan → IsWritingOf world config plan outcome)
    c.in-Err-written_libs.stop c.in-Ok-written_programs.ensures.only_reads
    (λ world refusal told h objects. libs_unwritten world config plan c.in-Ok-written_programs.programs refusal (c.in-Ok-written_programs.ensures.answer world told objects) (h objects))
    c.in-Err-written_libs.ensures.answer
