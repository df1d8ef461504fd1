-- What `host` comes to is one thing in a world.
use Rattle.std.proofs.Common.{◌≡◌, subst, ℕ, List, Result, Ok, Err}
use Rattle.build_plan.specs.Steps.{IsStepAnswer}
use Rattle.build_plan.specs.declared.stops.BuildStop.{BuildStop}
use Rattle.build_plan.specs.declared.stops.BuildStop.TheVariants.{Refused, Read, NoMemory}
use Rattle.command_words.specs.declared.commands.Host.{Host}
use Rattle.deliveries.specs.declared.answer.Answer.{Answer}
use Rattle.deliveries.specs.declared.answer.Answer.TheVariants.{Says}
use Rattle.host_checks.specs.Hosting.{HostCheck}
use Rattle.load_model.specs.World.{World}
use Rattle.ports.specs.View.{View}
use Rattle.refusals.specs.declared.refusal.Refusal.{Refusal}
use Rattle.appdir_cli.specs.Hosting.{Checks}

-- The answer of a check in the directories of the command is that of the command.
pub host_says : (before after : View World) (command : Host) (dirs : List (List ℕ)) (line : List ℕ) → dirs ≡ command.dirs → IsStepAnswer {A = List ℕ} before after (λ world outcome. HostCheck world command.place dirs outcome) (Ok line) → IsStepAnswer {A = Answer} before after (λ world outcome. Checks world command outcome) (Ok (Says line))
host_says before after command dirs line e h = λ world told. subst (λ d. HostCheck world command.place d (Ok line)) e (h world told)

pub host_stops : (before after : View World) (command : Host) (dirs : List (List ℕ)) (stop : BuildStop) → dirs ≡ command.dirs → IsStepAnswer {A = List ℕ} before after (λ world outcome. HostCheck world command.place dirs outcome) (Err stop) → IsStepAnswer {A = Answer} before after (λ world outcome. Checks world command outcome) (Err stop)
host_stops before after command dirs (Refused refusal) e h = λ world told. subst (λ d. HostCheck world command.place d (Err refusal)) e (h world told)
host_stops before after command dirs Read e h = h
host_stops before after command dirs NoMemory e h = h

-- The law of checks: a world comes to one answer.
abbrev pub ChecksOnce : Type 0
ChecksOnce = (world : World) (place : List ℕ) (dirs : List (List ℕ)) (one other : Result (List ℕ) Refusal) → HostCheck world place dirs one → HostCheck world place dirs other → one ≡ other

ok_err : (text : List ℕ) (refusal : Refusal) → Ok text ≡ Err refusal → ⊥
ok_err text refusal e = cc

pub checked_or_refused : ChecksOnce → (world : World) (command : Host) (text : List ℕ) (refusal : Refusal) → Checks world command (Ok (Says text)) → Checks world command (Err refusal) → ⊥
checked_or_refused once world command text refusal says refused =
    ok_err text refusal (once world command.place command.dirs (Ok text) (Err refusal) says refused)
