use Rattle.std.proofs.Common.{sym, ◌∙◌}
use Rattle.appdir_files.proofs.FolderPathLemmas.{lib_name}
use Rattle.appdir_files.proofs.listing.is_in_lib.Goals as goal

pub returns-then-starts_with : goal.returns-then-starts_with
returns-then-starts_with c =
    lib_name c.args.path.now c.has_slash.result (sym c.starts_with.ensures.value ∙ c.if-starts_with.true) c.has_slash.ensures
