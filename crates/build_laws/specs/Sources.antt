-- What must hold of the world and of the configuration that a build is made of, so that its programs
-- run the same elsewhere.
use Rattle.std.specs.Prelude.{All}
use Rattle.app_config.specs.Ready.{IsNameText}
use Rattle.app_config.specs.declared.config.Config.{Config}
use Rattle.app_config.specs.declared.config.Program.{Program}
use Rattle.build_plan.specs.Building.{starts_of}
use Rattle.build_runs.specs.declared.programs.Start.{Start}
use Rattle.load_model.specs.Escaping.{AreBytes}
use Rattle.load_model.specs.World.{IsWorld, World}
use Rattle.load_model.specs.declared.world.WorldFile.{WorldFile}
use Rattle.path_text.specs.FileName.{IsFileName}
use Rattle.path_text.specs.Path.{IsNormalPath}

pub record IsSource (world : World) (config : Config) : Type 0 where
  -- so that objects of one identity are one file, and their paths are texts
  pub world_is : IsWorld world
  -- so that a rewritten file has the face that is wanted
  pub bytes : All (λ (f : WorldFile). AreBytes f.bytes) world
  -- so that the names of host libraries are looked for in the listed directories
  pub names : All IsNameText config.names
  -- so that opened names are, too
  pub opens : All (λ (start : Start). All IsNameText start.opens) (starts_of config)
  -- so that the run paths of programs lead to the folder of libraries
  pub tools : All (λ (tool : Program). IsFileName tool.name) config.tools
  -- so that a listed directory joined with a name tells which directory it was
  pub dirs : All IsNormalPath config.setting.dirs
