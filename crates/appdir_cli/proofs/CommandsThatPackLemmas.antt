-- What is known of the commands that pack, by which configuration and where.
use Rattle.std.proofs.Common.{◌≡◌, refl, ℕ, List, Option, Ok}
use Rattle.app_config.specs.declared.config.Config.{Config}
use Rattle.command_words.specs.declared.commands.Command.{Command}
use Rattle.command_words.specs.declared.commands.Command.TheVariants.{Quick as AsksQuick, Build as AsksBuild, Show as AsksShow, Host as AsksHost, Gen as AsksGen}
use Rattle.deliveries.specs.declared.answer.Answer.TheVariants.{Says, Packs}
use Rattle.deliveries.specs.declared.answer.Whole.{Whole}
use Rattle.load_model.specs.World.{World}
use Rattle.appdir_cli.specs.ComesTo.{ComesTo, world_read}
use Rattle.appdir_cli.specs.Packing.{IsPacked, IsPacking, IsPackingBy, config_of}
use Rattle.appdir_cli.proofs.PackingLemmas.{by_answer, by_says}

pub reads_told : (command : Command) → IsPacking command → (told : Option World) → world_read command told ≡ told
reads_told (AsksQuick command) packing told = refl
reads_told (AsksBuild command) packing told = refl
reads_told (AsksShow command) packing told = absurd packing
reads_told (AsksHost command) packing told = absurd packing
reads_told (AsksGen command) packing told = absurd packing

pub says_nothing : (world : World) (command : Command) → IsPacking command → (text : List ℕ) → ComesTo world command (Ok (Says text)) → ⊥
says_nothing world (AsksQuick command) packing text h = h
says_nothing world (AsksBuild command) packing text h = by_says world command text h
says_nothing world (AsksShow command) packing text h = absurd packing
says_nothing world (AsksHost command) packing text h = absurd packing
says_nothing world (AsksGen command) packing text h = absurd packing

-- The configuration and the place by which a command packs files.
pub record PackedBy (world : World) (command : Command) (whole : Whole) : Type 0 where
  pub config : Config
  pub out : List ℕ
  pub by : IsPackingBy world command config out
  pub packed : IsPacked world config out whole

pub packed_by : (world : World) (command : Command) → IsPacking command → (whole : Whole) → ComesTo world command (Ok (Packs whole)) → PackedBy world command whole
packed_by world (AsksQuick command) packing whole h =
    record { config = config_of command; out = command.out; by = (refl, refl); packed = h }
packed_by world (AsksBuild command) packing whole h =
    let p = by_answer world command (Packs whole) h in
    record { config = p.config; out = command.out; by = (p.read, refl); packed = p.packs }
packed_by world (AsksShow command) packing whole h = absurd packing
packed_by world (AsksHost command) packing whole h = absurd packing
packed_by world (AsksGen command) packing whole h = absurd packing

pub is_packing : (world : World) (command : Command) (config : Config) (out : List ℕ) → IsPackingBy world command config out → IsPacking command
is_packing world (AsksQuick command) config out h = tt
is_packing world (AsksBuild command) config out h = tt
is_packing world (AsksShow command) config out h = h
is_packing world (AsksHost command) config out h = h
is_packing world (AsksGen command) config out h = h
