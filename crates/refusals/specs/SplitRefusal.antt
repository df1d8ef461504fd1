-- Why a build has no split: the number of each refusal, and what it says with its evidence.
use Rattle.std.specs.Prelude.{ℕ, List, [], ◌++◌, codes}
use Rattle.refusals.specs.Differences.{difference_text}
use Rattle.refusals.specs.Fields.{with_field, with_fields}
use Rattle.refusals.specs.declared.numbers.TheConstants.{NO_INTERPRETER, INTERPRETER_UNLISTED, PROGRAM_NEEDED, HOST_NAME_CLASH, HOST_RPATH, HOST_NEEDS_UNLISTED, HOST_ALIAS, SPLIT_NEED, SOURCE_NOT_HOST}
use Rattle.refusals.specs.declared.split_refusal.SplitRefusal.{SplitRefusal}
use Rattle.refusals.specs.declared.split_refusal.SplitRefusal.TheVariants.{NoInterpreter, InterpreterUnlisted, ProgramNeeded, HostNameClash, HostRpath, HostNeedsUnlisted, HostAlias, SplitNeed, SourceNotHost}

abbrev pub split_number : SplitRefusal → ℕ
split_number (NoInterpreter path) = NO_INTERPRETER
split_number (InterpreterUnlisted path) = INTERPRETER_UNLISTED
split_number (ProgramNeeded path) = PROGRAM_NEEDED
split_number (HostNameClash name one other) = HOST_NAME_CLASH
split_number (HostRpath path) = HOST_RPATH
split_number (HostNeedsUnlisted path name) = HOST_NEEDS_UNLISTED
split_number (HostAlias path name) = HOST_ALIAS
split_number (SplitNeed path name one other) = SPLIT_NEED
split_number (SourceNotHost difference) = SOURCE_NOT_HOST

abbrev pub split_evidence : SplitRefusal → List ℕ
split_evidence (NoInterpreter path) = with_field [] path (codes " has no interpreter")
split_evidence (InterpreterUnlisted path) =
    with_field (codes "interpreter of ") path (codes " is not listed")
split_evidence (ProgramNeeded path) = with_field (codes "program ") path (codes " is needed")
split_evidence (HostNameClash name one other) =
    with_field (codes "host name ") name (with_fields (codes " for ") one (codes " and ") other [])
split_evidence (HostRpath path) = with_field (codes "host library ") path (codes " has a run path")
split_evidence (HostNeedsUnlisted path name) =
    with_fields (codes "host library ") path (codes " needs ") name []
split_evidence (HostAlias path name) =
    with_fields (codes "host library ") path (codes " needs the alias ") name []
split_evidence (SplitNeed path name one other) =
    with_fields [] path (codes " needs ") name
    (with_fields (codes " as ") one (codes " and ") other [])
split_evidence (SourceNotHost difference) =
    codes "source is no host: " ++ difference_text difference
