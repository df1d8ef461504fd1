-- What a command answers before its answer is given.
use Rattle.std.specs.Prelude.{Result, Ok, Err}
use Rattle.answers.specs.Faults.{Rose}
use Rattle.answers.specs.Told.{WhereTold}
use Rattle.build_plan.specs.declared.stops.BuildStop.{BuildStop}
use Rattle.build_plan.specs.declared.stops.BuildStop.TheVariants.{Refused, Read, NoMemory}
use Rattle.deliveries.specs.declared.answer.Answer.{Answer}
use Rattle.load_model.specs.World.{World}
use Rattle.ports.specs.View.{View}
use Rattle.refusals.specs.declared.refusal.Refusal.{Refusal}
use Rattle.appdir_cli.specs.ComesTo.{ComesTo, ReadsTree, world_read}
use Rattle.command_words.specs.declared.commands.Command.{Command}

-- An answer or a refusal is what the command comes to in the world that it reads; a read fails only
-- where the command reads the tree and the count of faults rose; want of memory is free.
abbrev pub IsAnswerTo : Command → View World → View World → Result Answer BuildStop → Type 0
IsAnswerTo command before after (Ok answer) =
    WhereTold (world_read command before.told) (λ world. ComesTo world command (Ok answer))
IsAnswerTo command before after (Err (Refused refusal)) =
    WhereTold (world_read command before.told) (λ world. ComesTo world command (Err refusal))
IsAnswerTo command before after (Err Read) =
    ReadsTree command × Rose before.faults after.faults
IsAnswerTo command before after (Err NoMemory) = Unit {0}

-- The same of one world, of which nothing fails to be read.
abbrev pub IsAnswerIn : (Result Answer Refusal → Type 0) → Result Answer BuildStop → Type 0
IsAnswerIn Allows (Ok answer) = Allows (Ok answer)
IsAnswerIn Allows (Err (Refused refusal)) = Allows (Err refusal)
IsAnswerIn Allows (Err Read) = ⊥
IsAnswerIn Allows (Err NoMemory) = Unit {0}
