-- What each command answers is what it comes to in the world that it reads.
use Rattle.std.proofs.Common.{◌≡◌, refl, subst, Option, Some, Ok, Err, Result}
use Rattle.build_plan.specs.Steps.{IsStepAnswer}
use Rattle.build_plan.specs.declared.stops.BuildStop.{BuildStop}
use Rattle.build_plan.specs.declared.stops.BuildStop.TheVariants.{Refused, Read, NoMemory}
use Rattle.deliveries.specs.declared.answer.Answer.{Answer}
use Rattle.elf_make.specs.Generator.{made_tree}
use Rattle.load_model.specs.World.{World}
use Rattle.ports.specs.View.{View}
use Rattle.refusals.specs.declared.refusal.Refusal.{Refusal}
use Rattle.appdir_cli.specs.Answering.{IsAnswerIn, IsAnswerTo}
use Rattle.appdir_cli.specs.Generating.{Generates}
use Rattle.appdir_cli.specs.Hosting.{Checks}
use Rattle.appdir_cli.specs.Packing.{PacksAlone, PacksBy}
use Rattle.appdir_cli.specs.Showing.{Shows}
use Rattle.command_words.specs.declared.commands.Command.TheVariants.{Quick as AsksQuick, Build as AsksBuild, Show as AsksShow, Host as AsksHost, Gen as AsksGen}
use Rattle.command_words.specs.declared.commands.Build.{Build}
use Rattle.command_words.specs.declared.commands.Gen.{Gen}
use Rattle.command_words.specs.declared.commands.Host.{Host}
use Rattle.command_words.specs.declared.commands.Quick.{Quick}
use Rattle.command_words.specs.declared.commands.Show.{Show}

pub quick_answers : (command : Quick) (before after : View World) (result : Result Answer BuildStop) → IsStepAnswer before after (λ world outcome. PacksAlone world command outcome) result → IsAnswerTo (AsksQuick command) before after result
quick_answers command before after (Ok answer) h = h
quick_answers command before after (Err (Refused refusal)) h = h
quick_answers command before after (Err Read) h = (tt, h)
quick_answers command before after (Err NoMemory) h = tt

pub build_answers : (command : Build) (before after : View World) (result : Result Answer BuildStop) → IsStepAnswer before after (λ world outcome. PacksBy world command outcome) result → IsAnswerTo (AsksBuild command) before after result
build_answers command before after (Ok answer) h = h
build_answers command before after (Err (Refused refusal)) h = h
build_answers command before after (Err Read) h = (tt, h)
build_answers command before after (Err NoMemory) h = tt

pub host_answers : (command : Host) (before after : View World) (result : Result Answer BuildStop) → IsStepAnswer before after (λ world outcome. Checks world command outcome) result → IsAnswerTo (AsksHost command) before after result
host_answers command before after (Ok answer) h = h
host_answers command before after (Err (Refused refusal)) h = h
host_answers command before after (Err Read) h = (tt, h)
host_answers command before after (Err NoMemory) h = tt

pub show_answers : (command : Show) (before after : View World) (result : Result Answer BuildStop) → IsStepAnswer before after (λ world outcome. Shows world command outcome) result → IsAnswerTo (AsksShow command) before after result
show_answers command before after (Ok answer) h = h
show_answers command before after (Err (Refused refusal)) h = h
show_answers command before after (Err Read) h = (tt, h)
show_answers command before after (Err NoMemory) h = tt

in_made : (command : Gen) (outcome : Result Answer Refusal) → Generates (made_tree command.count) command.count outcome → (world : World) → Some (made_tree command.count) ≡ Some world → Generates world command.count outcome
in_made command outcome h world told =
    let same : made_tree command.count ≡ world = cc in
    subst (λ (w : World). Generates w command.count outcome) same h

pub gen_answers : (command : Gen) (before after : View World) (result : Result Answer BuildStop) → IsAnswerIn (Generates (made_tree command.count) command.count) result → IsAnswerTo (AsksGen command) before after result
gen_answers command before after (Ok answer) h = in_made command (Ok answer) h
gen_answers command before after (Err (Refused refusal)) h = in_made command (Err refusal) h
gen_answers command before after (Err Read) h = absurd h
gen_answers command before after (Err NoMemory) h = tt
