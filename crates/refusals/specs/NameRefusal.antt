-- Why a bundled library has no name: the number of each refusal, and what it says with its
-- evidence.
use Rattle.std.specs.Prelude.{ℕ, List, [], codes}
use Rattle.refusals.specs.Fields.{with_field, with_fields}
use Rattle.refusals.specs.declared.name_refusal.NameRefusal.{NameRefusal}
use Rattle.refusals.specs.declared.name_refusal.NameRefusal.TheVariants.{OpenAlias, OpenNameOnHostList, TwoOpenNames, NameClash, BadFileName}
use Rattle.refusals.specs.declared.numbers.TheConstants.{OPEN_ALIAS, OPEN_NAME_ON_HOST_LIST, TWO_OPEN_NAMES, NAME_CLASH, BAD_FILE_NAME}

abbrev pub name_number : NameRefusal → ℕ
name_number (OpenAlias name key) = OPEN_ALIAS
name_number (OpenNameOnHostList name) = OPEN_NAME_ON_HOST_LIST
name_number (TwoOpenNames path one other) = TWO_OPEN_NAMES
name_number (NameClash name one other) = NAME_CLASH
name_number (BadFileName name) = BAD_FILE_NAME

abbrev pub name_evidence : NameRefusal → List ℕ
name_evidence (OpenAlias name key) = with_fields (codes "opened name ") name (codes " is ") key []
name_evidence (OpenNameOnHostList name) =
    with_field (codes "opened name ") name (codes " is listed")
name_evidence (TwoOpenNames path one other) =
    with_field [] path (with_fields (codes " is opened as ") one (codes " and ") other [])
name_evidence (NameClash name one other) =
    with_field (codes "name ") name (with_fields (codes " for ") one (codes " and ") other [])
name_evidence (BadFileName name) = with_field (codes "bad file name ") name []
