-- What a step answers that decides something of the tree's world.
use Rattle.std.specs.Prelude.{Result, Ok, Err}
use Rattle.load_model.specs.World.{World}
use Rattle.answers.specs.Faults.{Rose}
use Rattle.answers.specs.Told.{WhereTold}
use Rattle.ports.specs.View.{View}
use Rattle.refusals.specs.declared.refusal.Refusal.{Refusal}
use Rattle.build_plan.specs.declared.stops.BuildStop.{BuildStop}
use Rattle.build_plan.specs.declared.stops.BuildStop.TheVariants.{Refused, Read, NoMemory}

-- A value or a refusal is one that the world allows; a read fails only where the count of faults
-- rose; want of memory is free.
abbrev pub IsStepAnswer : {A : Type 0} → View World → View World
    → (World → Result A Refusal → Type 0) → Result A BuildStop → Type 0
IsStepAnswer before after Allows (Ok value) =
    WhereTold before.told (λ world. Allows world (Ok value))
IsStepAnswer before after Allows (Err (Refused refusal)) =
    WhereTold before.told (λ world. Allows world (Err refusal))
IsStepAnswer before after Allows (Err Read) = Rose before.faults after.faults
IsStepAnswer before after Allows (Err NoMemory) = Unit {0}
