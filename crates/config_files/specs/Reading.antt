-- What reading the text of a configuration answers.
use Rattle.std.specs.Prelude.{ℕ, List, ◌≡◌, ◌⊎◌, Option, None, Some, Result, Ok, Err}
use Rattle.app_config.specs.declared.config.Config.{Config}
use Rattle.build_plan.specs.declared.stops.BuildStop.{BuildStop}
use Rattle.build_plan.specs.declared.stops.BuildStop.TheVariants.{Refused, Read, NoMemory}
use Rattle.config_text.specs.Reading.{config_read}
use Rattle.config_text.specs.declared.faults.ConfigFault.{ConfigFault}
use Rattle.refusals.specs.declared.config_refusal.ConfigRefusal.{ConfigRefusal}
use Rattle.refusals.specs.declared.config_refusal.ConfigRefusal.TheVariants.{ConfigAbsent}
use Rattle.refusals.specs.declared.refusal.Refusal.{Refusal}
use Rattle.refusals.specs.declared.refusal.Refusal.TheVariants.{Config as Configuration}
use Rattle.config_files.specs.Configuring.{refusal_of}

-- A text has a fault, and this is its refusal.
pub record IsFaulty (text : List ℕ) (refusal : Refusal) : Type 0 where
  pub fault : ConfigFault
  pub faulty : config_read text ≡ Err fault
  pub told : ConfigRefusal
  pub told_is : refusal_of fault ≡ Some told
  pub refusal_is : refusal ≡ Configuration told

-- A text is read as a configuration, or has a fault.
abbrev pub ReadsText : List ℕ → Result Config Refusal → Type 0
ReadsText text (Ok config) = config_read text ≡ Ok config
ReadsText text (Err refusal) = IsFaulty text refusal

-- The same of a text that is at hand; want of memory is free.
abbrev pub IsTextAnswer : List ℕ → Result Config BuildStop → Type 0
IsTextAnswer text (Ok config) = ReadsText text (Ok config)
IsTextAnswer text (Err (Refused refusal)) = ReadsText text (Err refusal)
IsTextAnswer text (Err Read) = ⊥
IsTextAnswer text (Err NoMemory) = Unit {0}

-- What a fault ends a build with.
abbrev pub stop_by : Option ConfigRefusal → BuildStop
stop_by None = NoMemory
stop_by (Some refusal) = Refused (Configuration refusal)

-- Where no file is, this is told, or memory was refused.
abbrev pub IsAbsentStop : List ℕ → BuildStop → Type 0
IsAbsentStop path stop =
    (stop ≡ Refused (Configuration (ConfigAbsent path))) ⊎ (stop ≡ NoMemory)
