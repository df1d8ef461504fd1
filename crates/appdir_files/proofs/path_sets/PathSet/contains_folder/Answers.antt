use Rattle.std.proofs.Common.{sym, ◌∙◌, arith}
use Rattle.appdir_files.proofs.FolderPathLemmas.{folder_there, no_folder_there}
use Rattle.appdir_files.proofs.path_sets.PathSet.contains_folder.Goals as goal

pub returns-then-contains : goal.returns-then-contains
returns-then-contains c =
    sym (folder_there c.args.path.now c.loop-at.at c.args.self.now c.loop-at-test.true c.if-byte-eq47.true (sym c.contains.ensures ∙ c.if-contains.true))

pub returns : goal.returns
returns c =
    sym (no_folder_there c.args.path.now c.args.self.now (λ k less slash. c.loop-at.invariant k (omega arith) slash))
