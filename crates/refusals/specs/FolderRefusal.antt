-- Why an AppDir is not written, or does not fit a host: the number of each refusal, and what it says
-- with its evidence.
use Rattle.std.specs.Prelude.{ℕ, List, [], codes}
use Rattle.refusals.specs.Differences.{difference_text}
use Rattle.refusals.specs.Fields.{with_field, with_number}
use Rattle.refusals.specs.declared.folder_refusal.FolderRefusal.{FolderRefusal}
use Rattle.refusals.specs.declared.folder_refusal.FolderRefusal.TheVariants.{NotEmpty, RecordAbsent, RecordLine, HostFails, FileChanged}
use Rattle.refusals.specs.declared.numbers.TheConstants.{NOT_EMPTY, RECORD_ABSENT, RECORD_LINE, HOST_FAILS, FILE_CHANGED}

abbrev pub folder_number : FolderRefusal → ℕ
folder_number (NotEmpty path) = NOT_EMPTY
folder_number (RecordAbsent path) = RECORD_ABSENT
folder_number (RecordLine line) = RECORD_LINE
folder_number (HostFails difference) = HOST_FAILS
folder_number (FileChanged path) = FILE_CHANGED

abbrev pub folder_evidence : FolderRefusal → List ℕ
folder_evidence (NotEmpty path) = with_field [] path (codes " is not empty")
folder_evidence (RecordAbsent path) = with_field (codes "no record at ") path []
folder_evidence (RecordLine line) = with_number (codes "record line ") line
folder_evidence (HostFails difference) = difference_text difference
folder_evidence (FileChanged path) = with_field [] path (codes " changed during the call")
