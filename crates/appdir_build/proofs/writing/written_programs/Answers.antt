use Rattle.std.proofs.Common.{◌∙◌, refl, [], true}
use Rattle.appdir_build.proofs.PreparedLemmas.{places_counted}
use Rattle.appdir_build.proofs.StepLemmas.{reads_nothing, step_later}
use Rattle.appdir_build.proofs.WrittenLemmas.{ArePrograms, ProgramsIn, programs_faced, programs_made, programs_writable}
use Rattle.appdir_build.specs.Writing.{AreFacedIn, AreItemsFor, AreObjectsIn, files_in, pairs_in}
use Rattle.appdir_build.specs.declared.writing.Objects.{Objects}
use Rattle.appdir_build.proofs.writing.written_programs.Goals as goal

pub written_at-requires : goal.written_at-requires
written_at-requires g c =
    programs_writable [] c.args.plan.now c.args.changes.now c.requires.prepared c.args.config.now _
    (record { faces = c.faces.ensures.faces; members = c.as_slice.ensures; changes_are = c.as_slice-2.ensures; places = c.as_slice-3.ensures ∙ c.in-Ok.ensures; mark = refl; counted = places_counted c.args.config.now c.args.plan.now c.requires.safe })

pub returns-clause-answer : goal.returns-clause-answer
returns-clause-answer g c =
    let before = g.T.Tree.seen c.args.tree.now in
    let plan = c.args.plan.now in
    let config = c.args.config.now in
    let objects : Objects = record { faces = c.faces.result; members = c.as_slice.result; changes = c.as_slice-2.result; places = c.as_slice-3.result; executable = true } in
    let are : ArePrograms plan c.args.changes.now config objects = record { faces = c.faces.ensures.faces; members = c.as_slice.ensures; changes_are = c.as_slice-2.ensures; places = c.as_slice-3.ensures ∙ c.in-Ok.ensures; mark = refl; counted = places_counted config plan c.requires.safe } in
    step_later before before (g.T.Tree.seen c.written_at.new.tree)
    (λ world outcome. AreFacedIn world objects → AreItemsFor world (pairs_in objects) (files_in world objects) outcome)
    (λ world outcome. AreObjectsIn world plan → ProgramsIn world config plan outcome)
    c.written_at.result (reads_nothing before)
    (λ world outcome told h there. programs_made world plan c.args.changes.now c.requires.prepared config objects outcome are (h (programs_faced world plan c.args.changes.now c.requires.prepared config objects are there)))
    c.written_at.ensures.answer
