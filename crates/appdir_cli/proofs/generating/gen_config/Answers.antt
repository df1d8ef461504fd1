use Rattle.std.proofs.Common.{refl}
use Rattle.std.specs.Prelude.{codes}
use Rattle.path_text.specs.Path.{named_parts, rooted}
use Rattle.app_config.proofs.DirectoryLemmas.{read_plain}
use Rattle.appdir_cli.proofs.generating.gen_config.Goals as goal

pub plain_path-requires : goal.plain_path-requires
unfolding named_parts rooted
plain_path-requires c = read_plain (codes "/gen/bin/app") refl refl refl

pub plain_path-requires-2 : goal.plain_path-requires-2
unfolding named_parts rooted
plain_path-requires-2 c = read_plain (codes "/lib64") refl refl refl
