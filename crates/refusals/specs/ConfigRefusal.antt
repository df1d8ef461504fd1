-- Why a configuration is not understood: the number of each refusal, and what it says with its
-- evidence.
use Rattle.std.specs.Prelude.{ℕ, List, [], codes}
use Rattle.refusals.specs.Fields.{with_field, with_fields}
use Rattle.refusals.specs.declared.config_refusal.ConfigRefusal.{ConfigRefusal}
use Rattle.refusals.specs.declared.config_refusal.ConfigRefusal.TheVariants.{ConfigAbsent, NotToml, MissingKey, WrongKind, UnknownKey, BadPath, BadName, TwoTargets}
use Rattle.refusals.specs.declared.numbers.TheConstants.{CONFIG_ABSENT, NOT_TOML, MISSING_KEY, WRONG_KIND, UNKNOWN_KEY, BAD_PATH, BAD_NAME, TWO_TARGETS}

abbrev pub config_number : ConfigRefusal → ℕ
config_number (ConfigAbsent path) = CONFIG_ABSENT
config_number NotToml = NOT_TOML
config_number (MissingKey key) = MISSING_KEY
config_number (WrongKind key) = WRONG_KIND
config_number (UnknownKey key) = UNKNOWN_KEY
config_number (BadPath key) = BAD_PATH
config_number (BadName name key) = BAD_NAME
config_number (TwoTargets path) = TWO_TARGETS

abbrev pub config_evidence : ConfigRefusal → List ℕ
config_evidence (ConfigAbsent path) = with_field (codes "no configuration at ") path []
config_evidence NotToml = codes "configuration is not TOML"
config_evidence (MissingKey key) = with_field (codes "configuration lacks ") key []
config_evidence (WrongKind key) =
    with_field (codes "configuration has the wrong kind at ") key []
config_evidence (UnknownKey key) =
    with_field (codes "configuration has the unknown key ") key []
config_evidence (BadPath key) = with_field (codes "bad path at ") key []
config_evidence (BadName name key) = with_fields (codes "bad name ") name (codes " at ") key []
config_evidence (TwoTargets path) = with_field (codes "two files for ") path []
