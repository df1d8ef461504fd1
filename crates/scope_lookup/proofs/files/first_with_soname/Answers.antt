use Rattle.std.proofs.Common.{◌∙◌, sym, ap, arith, below_more, nat_le, length}
use Rattle.std.proofs.lemmas.Bool.{and_left, and_right}
use Rattle.load_model.specs.LoadList.{is_named}
use Rattle.load_model.specs.Runs.{face_at}
use Rattle.load_model.specs.VersionCheck.{phase_at, soname_in}
use Rattle.scope_lookup.proofs.AskingLemmas.{soname_first, soname_nowhere}
use Rattle.scope_lookup.proofs.files.first_with_soname.Goals.{else-is_loaded-via-then-is_loaded+else-has_soname, else-is_loaded-via-else-is_loaded}
use Rattle.scope_lookup.proofs.files.first_with_soname.Goals as goal

pub loop-number-init : goal.loop-number-init
loop-number-init c = λ j less. absurd (omega arith)

pub returns-then-has_soname : goal.returns-then-has_soname
returns-then-has_soname c =
    let size = ap length c.as_slice.ensures in
    soname_first c.args.faces.now c.args.run.now c.requires.run c.args.phase c.args.file.now c.loop-number.number (omega arith) (sym c.is_loaded.ensures ∙ c.if-is_loaded.true)
    (ap (λ o. is_named (soname_in o) c.args.file.now) c.face_of.ensures ∙ sym c.has_soname.ensures ∙ c.if-has_soname.true) c.loop-number.invariant

pub loop-number-preserved : goal.loop-number-preserved
loop-number-preserved c =
    let loaded = nat_le (phase_at c.args.run.now c.loop-number.number) c.args.phase in
    let named = is_named (soname_in (face_at c.args.faces.now c.args.run.now c.loop-number.number)) c.args.file.now in
    below_more _ _ c.loop-number.invariant
    (elim c.else-is_loaded.branch [
      | else-is_loaded-via-then-is_loaded+else-has_soname w ↦ and_right loaded named (ap (λ o. is_named (soname_in o) c.args.file.now) w.face_of.ensures ∙ sym w.has_soname.ensures ∙ w.if-has_soname.false)
      | else-is_loaded-via-else-is_loaded w ↦ and_left loaded named (sym c.is_loaded.ensures ∙ w.if-is_loaded.false)
    ])

pub returns : goal.returns
returns c =
    let size = ap length c.as_slice.ensures in
    soname_nowhere c.args.faces.now c.args.run.now c.requires.run c.args.phase c.args.file.now (λ j less. c.loop-number.invariant j (omega arith))
