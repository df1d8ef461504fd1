-- Why a program is not loaded: the number of each refusal, and what it says with its evidence.
use Rattle.std.specs.Prelude.{ℕ, List, [], ◌++◌, codes}
use Rattle.std.specs.Fmt.{decimal}
use Rattle.load_model.specs.Escaping.{escaped}
use Rattle.load_model.specs.declared.limits.TheConstants.{MOST_OBJECTS}
use Rattle.load_model.specs.declared.refusals.LoadRefusal.{LoadRefusal}
use Rattle.load_model.specs.declared.refusals.LoadRefusal.TheVariants.{NoProgram, Damaged, RelativeNeed, TokenInNeed, RelativeItem, TokenUnset, MissingLibrary, TooManyObjects, VersionFileUnloaded, UnsatisfiedVersion}
use Rattle.refusals.specs.Damage.{flaw_text}
use Rattle.refusals.specs.Fields.{with_field, with_fields}
use Rattle.refusals.specs.declared.numbers.TheConstants.{NO_PROGRAM, DAMAGED, RELATIVE_NEED, TOKEN_IN_NEED, RELATIVE_ITEM, TOKEN_UNSET, MISSING_LIBRARY, TOO_MANY_OBJECTS, VERSION_FILE_UNLOADED, UNSATISFIED_VERSION}

abbrev pub load_number : LoadRefusal → ℕ
load_number (NoProgram path) = NO_PROGRAM
load_number (Damaged path flaw) = DAMAGED
load_number (RelativeNeed name path) = RELATIVE_NEED
load_number (TokenInNeed name path) = TOKEN_IN_NEED
load_number (RelativeItem item) = RELATIVE_ITEM
load_number (TokenUnset item) = TOKEN_UNSET
load_number (MissingLibrary name path) = MISSING_LIBRARY
load_number (TooManyObjects path) = TOO_MANY_OBJECTS
load_number (VersionFileUnloaded path file) = VERSION_FILE_UNLOADED
load_number (UnsatisfiedVersion path file version) = UNSATISFIED_VERSION

abbrev pub load_evidence : LoadRefusal → List ℕ
load_evidence (NoProgram path) = with_field (codes "no program at ") path []
load_evidence (Damaged path flaw) =
    with_field (codes "damaged ") path (codes ": " ++ flaw_text flaw)
load_evidence (RelativeNeed name path) =
    with_fields (codes "relative need ") name (codes " of ") path []
load_evidence (TokenInNeed name path) =
    with_fields (codes "token in need ") name (codes " of ") path []
load_evidence (RelativeItem item) = with_field (codes "relative run path ") item []
load_evidence (TokenUnset item) = with_field (codes "unset token in run path ") item []
load_evidence (MissingLibrary name path) =
    with_fields (codes "missing library ") name (codes " needed by ") path []
load_evidence (TooManyObjects path) =
    with_field (codes "more than " ++ (decimal MOST_OBJECTS ++ codes " objects for ")) path []
load_evidence (VersionFileUnloaded path file) =
    with_fields [] path (codes " asks ") file (codes ", which is not loaded")
load_evidence (UnsatisfiedVersion path file version) =
    with_fields [] path (codes " asks ") file (codes " for " ++ escaped version)
