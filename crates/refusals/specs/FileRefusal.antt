-- Why the files of an AppDir are none, or cannot lie side by side: the number of each refusal, and
-- what it says with its evidence.
use Rattle.std.specs.Prelude.{ℕ, List, [], codes}
use Rattle.desk_entry.specs.declared.checks.DeskKey.{DeskKey}
use Rattle.desk_entry.specs.declared.checks.DeskKey.TheVariants.{KeyType, KeyName, KeyIcon, KeyExec}
use Rattle.refusals.specs.Fields.{with_field, with_number}
use Rattle.refusals.specs.declared.file_refusal.FileRefusal.{FileRefusal}
use Rattle.refusals.specs.declared.file_refusal.FileRefusal.TheVariants.{FileAbsent, DeskNotUtf8, DeskLine, NoGroup, TwoGroups, TwoKeys, DeskMissingKey, ExecUnknown, IconDiffers, TargetClash, TargetInLib}
use Rattle.refusals.specs.declared.numbers.TheConstants.{FILE_ABSENT, DESK_NOT_UTF8, DESK_LINE, NO_GROUP, TWO_GROUPS, TWO_KEYS, DESK_MISSING_KEY, EXEC_UNKNOWN, ICON_DIFFERS, TARGET_CLASH, TARGET_IN_LIB}

abbrev pub file_number : FileRefusal → ℕ
file_number (FileAbsent path) = FILE_ABSENT
file_number DeskNotUtf8 = DESK_NOT_UTF8
file_number (DeskLine line) = DESK_LINE
file_number NoGroup = NO_GROUP
file_number (TwoGroups line) = TWO_GROUPS
file_number (TwoKeys line) = TWO_KEYS
file_number (DeskMissingKey key) = DESK_MISSING_KEY
file_number (ExecUnknown word) = EXEC_UNKNOWN
file_number (IconDiffers word) = ICON_DIFFERS
file_number (TargetClash path) = TARGET_CLASH
file_number (TargetInLib path) = TARGET_IN_LIB

-- A key of a desktop file as it stands there.
abbrev pub key_word : DeskKey → List ℕ
key_word KeyType = codes "Type"
key_word KeyName = codes "Name"
key_word KeyIcon = codes "Icon"
key_word KeyExec = codes "Exec"

abbrev pub file_evidence : FileRefusal → List ℕ
file_evidence (FileAbsent path) = with_field (codes "no file at ") path []
file_evidence DeskNotUtf8 = codes "desktop file is not UTF-8"
file_evidence (DeskLine line) = with_number (codes "desktop file line ") line
file_evidence NoGroup = codes "desktop file has no group"
file_evidence (TwoGroups line) =
    with_number (codes "desktop file has a second group at line ") line
file_evidence (TwoKeys line) = with_number (codes "desktop file has a second key at line ") line
file_evidence (DeskMissingKey key) = with_field (codes "desktop file lacks ") (key_word key) []
file_evidence (ExecUnknown word) = with_field (codes "Exec names ") word []
file_evidence (IconDiffers word) = with_field (codes "Icon is ") word []
file_evidence (TargetClash path) = with_field (codes "two items at ") path []
file_evidence (TargetInLib path) = with_field (codes "data target ") path []
