use Rattle.std.proofs.Common.{refl}
use Rattle.std.specs.Prelude.{codes}
use Rattle.path_text.specs.Path.{named_parts, rooted}
use Rattle.app_config.proofs.DirectoryLemmas.{read_plain}
use Rattle.app_config.proofs.settings.push_directories.Goals as goal

pub push_directory-requires : goal.push_directory-requires
unfolding named_parts rooted
push_directory-requires c = read_plain (codes "/usr/local/lib") refl refl refl

pub push_directory-requires-2 : goal.push_directory-requires-2
unfolding named_parts rooted
push_directory-requires-2 c = read_plain (codes "/lib/x86_64-linux-gnu") refl refl refl

pub push_directory-requires-3 : goal.push_directory-requires-3
unfolding named_parts rooted
push_directory-requires-3 c = read_plain (codes "/usr/lib/x86_64-linux-gnu") refl refl refl

pub push_directory-requires-4 : goal.push_directory-requires-4
unfolding named_parts rooted
push_directory-requires-4 c = read_plain (codes "/lib64") refl refl refl

pub push_directory-requires-5 : goal.push_directory-requires-5
unfolding named_parts rooted
push_directory-requires-5 c = read_plain (codes "/usr/lib64") refl refl refl

pub push_directory-requires-6 : goal.push_directory-requires-6
unfolding named_parts rooted
push_directory-requires-6 c = read_plain (codes "/lib") refl refl refl

pub push_directory-requires-7 : goal.push_directory-requires-7
unfolding named_parts rooted
push_directory-requires-7 c = read_plain (codes "/usr/lib") refl refl refl
