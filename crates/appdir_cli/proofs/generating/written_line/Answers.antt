use Rattle.std.proofs.Common.{refl}
use Rattle.std.specs.Prelude.{codes}
use Rattle.path_text.specs.Path.{named_parts, rooted}
use Rattle.app_config.proofs.DirectoryLemmas.{read_plain}
use Rattle.appdir_cli.proofs.generating.written_line.Goals as goal

pub plain_path-requires : goal.plain_path-requires
unfolding named_parts rooted
plain_path-requires g c = read_plain (codes "/gen/out") refl refl refl
