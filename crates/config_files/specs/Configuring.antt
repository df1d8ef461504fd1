-- The configuration that lies at a path: it is read, or there is none, or its text is none.
use Rattle.std.specs.Prelude.{ℕ, List, ◌≡◌, ◌⊎◌, Option, None, Some, Result, Ok, Err}
use Rattle.app_config.specs.declared.config.Config.{Config}
use Rattle.config_text.specs.Reading.{config_read}
use Rattle.config_text.specs.declared.faults.ConfigFault.{ConfigFault}
use Rattle.config_text.specs.declared.faults.ConfigFault.TheVariants.{NotToml, UnknownKey, MissingKey, WrongKind, BadPath, BadName, TwoTargets, NoMemory}
use Rattle.load_model.specs.World.{World, file_at}
use Rattle.load_model.specs.declared.world.WorldFile.{WorldFile}
use Rattle.refusals.specs.declared.config_refusal.ConfigRefusal.{ConfigRefusal}
use Rattle.refusals.specs.declared.config_refusal.ConfigRefusal.TheVariants.{ConfigAbsent, NotToml as NoToml, UnknownKey as Unknown, MissingKey as Missing, WrongKind as Kind, BadPath as Path, BadName as Named, TwoTargets as Targets}
use Rattle.refusals.specs.declared.refusal.Refusal.{Refusal}
use Rattle.refusals.specs.declared.refusal.Refusal.TheVariants.{Config as Configuration}

-- The refusal that a fault of the text is.
abbrev pub refusal_of : ConfigFault → Option ConfigRefusal
refusal_of NotToml = Some NoToml
refusal_of (UnknownKey key) = Some (Unknown key)
refusal_of (MissingKey key) = Some (Missing key)
refusal_of (WrongKind key) = Some (Kind key)
refusal_of (BadPath key) = Some (Path key)
refusal_of (BadName key text) = Some (Named text key)
refusal_of (TwoTargets target) = Some (Targets target)
refusal_of NoMemory = None

module _ (world : World) (path : List ℕ) where
  -- The file lies there, and its text is read as this.
  pub record IsConfigured (config : Config) : Type 0 where
    pub file : WorldFile
    pub lies : file_at world path ≡ Some file
    pub reads : config_read file.bytes ≡ Ok config

  -- No file lies there.
  pub record IsAbsent (refusal : Refusal) : Type 0 where
    pub absent : file_at world path ≡ None
    pub refusal_is : refusal ≡ Configuration (ConfigAbsent path)

  -- The file lies there, and its text has this fault.
  pub record IsMisconfigured (refusal : Refusal) : Type 0 where
    pub file : WorldFile
    pub lies : file_at world path ≡ Some file
    pub fault : ConfigFault
    pub faulty : config_read file.bytes ≡ Err fault
    pub told : ConfigRefusal
    pub told_is : refusal_of fault ≡ Some told
    pub refusal_is : refusal ≡ Configuration told

  abbrev pub IsUnconfigured : Refusal → Type 0
  IsUnconfigured refusal = IsAbsent refusal ⊎ IsMisconfigured refusal

  abbrev pub Configures : Result Config Refusal → Type 0
  Configures (Ok config) = IsConfigured config
  Configures (Err refusal) = IsUnconfigured refusal
