-- Answers that come one after the other.
use Rattle.std.proofs.Common.{◌≡◌, ◌∙◌, ap, sym, refl}
use Rattle.std.specs.Prelude.{Option, None, Some, Result, Ok, Err}
use Rattle.answers.specs.Answers.{Answers, IsFaultOf, Names}
use Rattle.config_text.specs.Faults.{said_of_config, then_read, unless}
use Rattle.config_text.specs.declared.faults.ConfigFault.{ConfigFault}

-- A fault that says something is the one that is wanted.
pub told : {T F : Type 0} (said : Option F) (fault : F) (wanted : Result T F) → wanted ≡ Err fault → Names said (Some fault) → IsFaultOf said wanted
told None fault wanted e h = tt
told (Some f) fault wanted e h = cc

-- A fault of what comes first is that of the whole.
pub stops : {S T : Type 0} (said : Option ConfigFault) (first : Result S ConfigFault) (next : S → Result T ConfigFault) → IsFaultOf said first → IsFaultOf said (then_read first next)
stops None first next h = tt
stops (Some f) first next h = rw h

pub stops_later : {S T : Type 0} (said : Option ConfigFault) (first : Result S ConfigFault) (s : S) (next : S → Result T ConfigFault) → first ≡ Ok s → IsFaultOf said (next s) → IsFaultOf said (then_read first next)
stops_later said first s next e h = rw e h

-- What comes after a value.
pub goes : {S T : Type 0} (result : Result T ConfigFault) (first : Result S ConfigFault) (s : S) (next : S → Result T ConfigFault) → first ≡ Ok s → Answers said_of_config result (next s) → Answers said_of_config result (then_read first next)
goes result first s next e h = rw e h

-- What comes after a test.
pub passes : {T : Type 0} (result : Result T ConfigFault) (fault : Option ConfigFault) (next : Result T ConfigFault) → fault ≡ None → Answers said_of_config result next → Answers said_of_config result (unless fault next)
passes result fault next e h = rw e h

pub fails : {T : Type 0} (said : Option ConfigFault) (fault : Option ConfigFault) (next : Result T ConfigFault) → Names said fault → IsFaultOf said (unless fault next)
fails None fault next h = tt
fails (Some f) fault next h = rw h

-- The same answer, of what is the same.
pub same : {T : Type 0} (result : Result T ConfigFault) (wanted found : Result T ConfigFault) → wanted ≡ found → Answers said_of_config result found → Answers said_of_config result wanted
same result wanted found e h = rw e h
