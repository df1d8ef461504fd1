use Rattle.extra_files.proofs.CopyLemmas.{dir_icon}
use Rattle.extra_files.proofs.launchers.copies.Goals as goal

pub copy_at-requires-2 : goal.copy_at-requires-2
copy_at-requires-2 c = dir_icon
