use Rattle.load_model.proofs.Escaped.{is_field, told}
use Rattle.load_model.proofs.escaping.escape_is_field.Goals as goal

pub returns-clause-field : goal.returns-clause-field
returns-clause-field c = is_field

pub returns-clause-told : goal.returns-clause-told
returns-clause-told c = told
