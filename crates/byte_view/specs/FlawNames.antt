-- The names of flaws, and how many numbers each tells (docs/ELF.md says what each means).
use Rattle.std.specs.Prelude.{ℕ, List, [], ◌∷◌, ◌==◌, Option, None, Some, IsSome, codes}
use Rattle.std.specs.List.{find}
use Rattle.std.specs.Option.{option_map, unwrap_or}
use Rattle.byte_view.specs.declared.flaw_names.Told.{Told}
use Rattle.byte_view.specs.declared.flaw_names.Told.TheVariants.{Nothing, One, Two}
use Rattle.byte_view.specs.declared.flaws.Flaw.{Flaw}
use Rattle.byte_view.specs.declared.flaws.TheConstants.{BAD_NAME, CLASS, COUNT_DIFFERS, DYNAMIC_PLACE, ENTRY_SIZE, HASH_BROKEN, HASH_RANGE, HEADER_SIZE, IDENT_VERSION, KIND, MACHINE, MISSING_TAG, NOT_ELF, NO_DYNAMIC, NO_END, NO_LOAD, NO_SYMBOL_COUNT, ORDER, REPEATED, SEGMENT_ORDER, SEGMENT_OVERLAP, SEGMENT_RANGE, SHORT, STRINGS_END, STRINGS_RANGE, STRING_PLACE, SYMBOL_NAME, SYMBOL_RANGE, TAG_REFUSED, TOO_BIG, TWO_DYNAMIC, UNKNOWN_INDEX, VERSION_COUNT, VERSION_RANGE}

-- A flaw's number, its name, and how many numbers it tells.
abbrev pub Named : Type 0
Named = ℕ × List ℕ × Told

abbrev pub named_flaws : List Named
named_flaws =
    (NOT_ELF, codes "NotElf", Nothing)
    ∷ (SHORT, codes "Short", Two)
    ∷ (CLASS, codes "Class", One)
    ∷ (ORDER, codes "Order", One)
    ∷ (IDENT_VERSION, codes "IdentVersion", One)
    ∷ (MACHINE, codes "Machine", One)
    ∷ (KIND, codes "Kind", One)
    ∷ (HEADER_SIZE, codes "HeaderSize", One)
    ∷ (NO_LOAD, codes "NoLoad", Nothing)
    ∷ (SEGMENT_RANGE, codes "SegmentRange", One)
    ∷ (SEGMENT_ORDER, codes "SegmentOrder", One)
    ∷ (SEGMENT_OVERLAP, codes "SegmentOverlap", One)
    ∷ (NO_DYNAMIC, codes "NoDynamic", Nothing)
    ∷ (TWO_DYNAMIC, codes "TwoDynamic", One)
    ∷ (DYNAMIC_PLACE, codes "DynamicPlace", Nothing)
    ∷ (NO_END, codes "NoEnd", Nothing)
    ∷ (TAG_REFUSED, codes "TagRefused", One)
    ∷ (REPEATED, codes "Repeated", One)
    ∷ (MISSING_TAG, codes "MissingTag", One)
    ∷ (STRINGS_RANGE, codes "StringsRange", Nothing)
    ∷ (STRINGS_END, codes "StringsEnd", Nothing)
    ∷ (STRING_PLACE, codes "StringPlace", One)
    ∷ (ENTRY_SIZE, codes "EntrySize", One)
    ∷ (HASH_RANGE, codes "HashRange", One)
    ∷ (NO_SYMBOL_COUNT, codes "NoSymbolCount", Nothing)
    ∷ (COUNT_DIFFERS, codes "CountDiffers", Two)
    ∷ (SYMBOL_RANGE, codes "SymbolRange", Nothing)
    ∷ (SYMBOL_NAME, codes "SymbolName", One)
    ∷ (HASH_BROKEN, codes "HashBroken", One)
    ∷ (VERSION_RANGE, codes "VersionRange", One)
    ∷ (VERSION_COUNT, codes "VersionCount", Two)
    ∷ (UNKNOWN_INDEX, codes "UnknownIndex", Two)
    ∷ (BAD_NAME, codes "BadName", One)
    ∷ (TOO_BIG, codes "TooBig", One)
    ∷ []

-- What is said of the flaw with this number.
abbrev pub named_flaw : ℕ → Option Named
named_flaw code = find (λ f. f.0 == code) named_flaws

-- Its name.
abbrev pub flaw_name : ℕ → Option (List ℕ)
flaw_name code = option_map (λ f. f.1) (named_flaw code)

-- How many numbers it tells; none where it has no name.
abbrev pub numbers_told : ℕ → Told
numbers_told code = unwrap_or (option_map (λ f. f.2) (named_flaw code)) Nothing

-- A flaw has a name, where there is one.
abbrev pub IsNamedFlaw : Option Flaw → Type 0
IsNamedFlaw None = Unit {0}
IsNamedFlaw (Some f) = IsSome (flaw_name f.code)
