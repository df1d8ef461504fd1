-- What a command comes to in a world, one line for each command: a text that is said, files that
-- are written, or a refusal.
use Rattle.std.specs.Prelude.{Option, Some, Result}
use Rattle.command_words.specs.declared.commands.Command.{Command}
use Rattle.command_words.specs.declared.commands.Command.TheVariants.{Quick, Build, Show, Host, Gen}
use Rattle.deliveries.specs.declared.answer.Answer.{Answer}
use Rattle.elf_make.specs.Generator.{made_tree}
use Rattle.load_model.specs.World.{World}
use Rattle.refusals.specs.declared.refusal.Refusal.{Refusal}
use Rattle.appdir_cli.specs.Generating.{Generates as IsGeneratedBy}
use Rattle.appdir_cli.specs.Hosting.{Checks}
use Rattle.appdir_cli.specs.Packing.{PacksAlone, PacksBy}
use Rattle.appdir_cli.specs.Showing.{Shows as IsShownBy}

abbrev pub ComesTo : World → Command → Result Answer Refusal → Type 0
ComesTo world (Quick command) outcome = PacksAlone world command outcome
ComesTo world (Build command) outcome = PacksBy world command outcome
ComesTo world (Show command) outcome = IsShownBy world command outcome
ComesTo world (Host command) outcome = Checks world command outcome
ComesTo world (Gen command) outcome = IsGeneratedBy world command.count outcome

-- The world that a command reads: that of the tree, where it is told, or one that it makes itself.
abbrev pub world_read : Command → Option World → Option World
world_read (Quick command) told = told
world_read (Build command) told = told
world_read (Show command) told = told
world_read (Host command) told = told
world_read (Gen command) told = Some (made_tree command.count)

-- The command reads the tree.
abbrev pub ReadsTree : Command → Type 0
ReadsTree (Quick command) = Unit {0}
ReadsTree (Build command) = Unit {0}
ReadsTree (Show command) = Unit {0}
ReadsTree (Host command) = Unit {0}
ReadsTree (Gen command) = ⊥
