use Rattle.std.proofs.Common.{◌∙◌, ap, refl, [], false, map}
use Rattle.appdir_build.proofs.StepLemmas.{reads_nothing, step_later}
use Rattle.appdir_build.proofs.WrittenLemmas.{AreLibs, LibsIn, libs_faced, libs_made, libs_writable}
use Rattle.appdir_build.specs.Writing.{AreFacedIn, AreItemsFor, AreObjectsIn, files_in, pairs_in}
use Rattle.appdir_build.specs.declared.writing.Objects.{Objects}
use Rattle.build_texts.specs.Places.{lib_place}
use Rattle.appdir_build.proofs.writing.written_libs.Goals as goal

pub written_at-requires : goal.written_at-requires
written_at-requires g c =
    libs_writable [] c.args.plan.now c.args.changes.now c.requires _
    (record { faces = c.faces.ensures.faces; members = c.as_slice-2.ensures; changes_are = c.as_slice-3.ensures; places = c.as_slice-4.ensures ∙ (c.in-Ok.ensures ∙ ap (map lib_place) c.as_slice.ensures); mark = refl })

pub returns-clause-answer : goal.returns-clause-answer
returns-clause-answer g c =
    let before = g.T.Tree.seen c.args.tree.now in
    let plan = c.args.plan.now in
    let objects : Objects = record { faces = c.faces.result; members = c.as_slice-2.result; changes = c.as_slice-3.result; places = c.as_slice-4.result; executable = false } in
    let are : AreLibs plan c.args.changes.now objects = record { faces = c.faces.ensures.faces; members = c.as_slice-2.ensures; changes_are = c.as_slice-3.ensures; places = c.as_slice-4.ensures ∙ (c.in-Ok.ensures ∙ ap (map lib_place) c.as_slice.ensures); mark = refl } in
    step_later before before (g.T.Tree.seen c.written_at.new.tree)
    (λ world outcome. AreFacedIn world objects → AreItemsFor world (pairs_in objects) (files_in world objects) outcome)
    (λ world outcome. AreObjectsIn world plan → LibsIn world plan outcome)
    c.written_at.result (reads_nothing before)
    (λ world outcome told h there. libs_made world plan c.args.changes.now c.requires objects outcome are (h (libs_faced world plan c.args.changes.now c.requires objects are there)))
    c.written_at.ensures.answer
