-- Steps over a tree, one after the other.
use Rattle.std.proofs.Common.{◌≡◌, ◌∙◌, refl, ℕ, ◌≤◌, arith, Some, Result, Ok, Err}
use Rattle.answers.specs.Faults.{Rose}
use Rattle.build_plan.specs.Steps.{IsStepAnswer}
use Rattle.build_plan.specs.declared.stops.BuildStop.{BuildStop}
use Rattle.build_plan.specs.declared.stops.BuildStop.TheVariants.{Refused, Read, NoMemory}
use Rattle.load_model.specs.World.{World}
use Rattle.ports.specs.View.{OnlyReads, View}
use Rattle.refusals.specs.declared.refusal.Refusal.{Refusal}

rose_later : (a b c : ℕ) → a ≤ b → Rose b c → Rose a c
rose_later a b c stays rose = omega (arith, stays, rose)

pub reads_on : (before mid after : View World) → OnlyReads before mid → OnlyReads mid after → OnlyReads before after
reads_on before mid after one two =
    let a = one.never_falls in
    let b = two.never_falls in
    record { stays = two.stays ∙ one.stays; never_falls = omega (arith, a, b) }

-- What a step answers after others that only read, and what it says is allowed for more.
pub step_later : {A : Type 0} (before mid after : View World) (P Q : World → Result A Refusal → Type 0) (result : Result A BuildStop) → OnlyReads before mid → ((world : World) (outcome : Result A Refusal) → before.told ≡ Some world → P world outcome → Q world outcome) → IsStepAnswer mid after P result → IsStepAnswer before after Q result
step_later before mid after P Q (Ok value) reads weaker h = λ world told. weaker world (Ok value) told (h world (reads.stays ∙ told))
step_later before mid after P Q (Err (Refused refusal)) reads weaker h = λ world told. weaker world (Err refusal) told (h world (reads.stays ∙ told))
step_later before mid after P Q (Err Read) reads weaker h = rose_later before.faults mid.faults after.faults reads.never_falls h
step_later before mid after P Q (Err NoMemory) reads weaker h = tt

-- A stop stands for a whole of another kind.
pub stop_later : {A B : Type 0} (before mid after : View World) (P : World → Result A Refusal → Type 0) (Q : World → Result B Refusal → Type 0) (stop : BuildStop) → OnlyReads before mid → ((world : World) (refusal : Refusal) → before.told ≡ Some world → P world (Err refusal) → Q world (Err refusal)) → IsStepAnswer mid after P (Err stop) → IsStepAnswer before after Q (Err stop)
stop_later before mid after P Q (Refused refusal) reads weaker h = λ world told. weaker world refusal told (h world (reads.stays ∙ told))
stop_later before mid after P Q Read reads weaker h = rose_later before.faults mid.faults after.faults reads.never_falls h
stop_later before mid after P Q NoMemory reads weaker h = tt

pub reads_nothing : (view : View World) → OnlyReads view view
reads_nothing view = record { stays = refl; never_falls = omega arith }
