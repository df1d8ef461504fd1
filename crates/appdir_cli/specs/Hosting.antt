-- What `host` comes to: a line, or why the host does not meet the record.
use Rattle.std.specs.Prelude.{Result, Ok, Err}
use Rattle.command_words.specs.declared.commands.Host.{Host}
use Rattle.deliveries.specs.declared.answer.Answer.{Answer}
use Rattle.deliveries.specs.declared.answer.Answer.TheVariants.{Says, Packs}
use Rattle.host_checks.specs.Hosting.{HostCheck}
use Rattle.load_model.specs.World.{World}
use Rattle.refusals.specs.declared.refusal.Refusal.{Refusal}

abbrev pub Checks : World → Host → Result Answer Refusal → Type 0
Checks world command (Ok (Says text)) = HostCheck world command.place command.dirs (Ok text)
Checks world command (Ok (Packs whole)) = ⊥
Checks world command (Err refusal) = HostCheck world command.place command.dirs (Err refusal)
