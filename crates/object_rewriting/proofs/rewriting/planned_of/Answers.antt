use Rattle.std.proofs.Common.{◌∙◌, sym}
use Rattle.object_rewriting.proofs.NamingLemmas.{fits_file, named_is_other}
use Rattle.object_rewriting.proofs.rewriting.planned_of.Goals as goal

pub edit_of-requires-clause-fits : goal.edit_of-requires-clause-fits
edit_of-requires-clause-fits c =
    fits_file c.args.change.now c.args.face.now c.args.bytes.now c.requires.fits (sym c.in-Ok-true.ensures ∙ c.in-Ok-true.field-0-test)

pub returns-in-Ok-false : goal.returns-in-Ok-false
returns-in-Ok-false c has =
    named_is_other c.args.bytes.now c.args.face.now (sym c.in-Ok-false.ensures ∙ c.in-Ok-false.field-0-test) has
