use Rattle.std.proofs.Common.{sym}
use Rattle.appdir_build.proofs.BodyLemmas.{copied}
use Rattle.appdir_build.proofs.StepLemmas.{reads_nothing, step_later}
use Rattle.appdir_build.specs.Writing.{IsBodyFor, IsCopyOf, IsFaced}
use Rattle.load_model.specs.declared.faces.Face.{Face}
use Rattle.appdir_build.proofs.bodies.body_of.Goals as goal

pub returns-then-is_unchanged-clause-answer : goal.returns-then-is_unchanged-clause-answer
returns-then-is_unchanged-clause-answer g c =
    let before = g.T.Tree.seen c.args.tree.now in
    step_later before before (g.T.Tree.seen c.copy_of.new.tree)
    (λ world outcome. (face : Face) → IsFaced world c.args.member.now.path face → IsCopyOf world c.args.member.now.path outcome)
    (λ world outcome. IsFaced world c.args.member.now.path c.args.face.now → IsBodyFor world (c.args.member.now, c.args.change.now) outcome)
    c.copy_of.result (reads_nothing before)
    (λ world outcome told h faced. copied world c.args.member.now c.args.face.now c.args.change.now outcome (sym c.if-is_unchanged.ensures) faced (h c.args.face.now faced))
    c.copy_of.ensures.answer
