-- The test decides what a name is.
use Rattle.std.proofs.Common.{◌≡◌, ◌∙◌, sym, rules}
use Rattle.path_text.specs.FileName.{is_file_name_text}
use Rattle.path_text.proofs.NameLemmas.{IsFileName-from_test, test-IsFileName}
use Rattle.path_text.proofs.naming.is_file_name.Goals as goal

pub returns-then-not-is_parent-clause-name : goal.returns-then-not-is_parent-clause-name
returns-then-not-is_parent-clause-name c =
    let value : c.has_name_bytes.result ≡ is_file_name_text c.args.text.now = search rules in
    (λ h. IsFileName-from_test c.args.text.now (sym value ∙ h), λ h. value ∙ test-IsFileName c.args.text.now h)
