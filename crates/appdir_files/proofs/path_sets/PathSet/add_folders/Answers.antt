use Rattle.std.proofs.Common.{◌∙◌, ◌||◌, ap, sym, bytes_eq, arith, length, ◌≤◌}
use Rattle.std.specs.List.{list_any}
use Rattle.appdir_files.proofs.FolderPathLemmas.{folders_more, within_all, within_none, within_other}
use Rattle.appdir_files.proofs.TestLemmas.{or_none}
use Rattle.appdir_files.proofs.path_sets.PathSet.add_folders.Goals as goal
use Rattle.appdir_files.proofs.path_sets.PathSet.add_folders.Goals.{then-byte-eq47+in_ok-add, else-byte-eq47}

pub loop-at-init : goal.loop-at-init
loop-at-init c folder =
    sym (ap (λ b. list_any (bytes_eq folder) c.args.self.now || b) (within_none folder c.args.path.now) ∙ or_none (list_any (bytes_eq folder) c.args.self.now))

pub loop-at-preserved : goal.loop-at-preserved
loop-at-preserved c folder =
    elim c.if-byte-eq47.branch [
      | then-byte-eq47+in_ok-add w ↦ folders_more c.args.path.now c.loop-at.at c.args.self.now c.loop-at.self c.if-byte-eq47.self c.loop-at-test.true w.if-byte-eq47.true c.loop-at.invariant (w.self-is ∙ w.in_ok-add.ensures) folder
      | else-byte-eq47 w ↦ ap (list_any (bytes_eq folder)) w.self-is ∙ (c.loop-at.invariant folder ∙ ap (λ b. list_any (bytes_eq folder) c.args.self.now || b) (within_other c.loop-at.at folder c.args.path.now w.if-byte-eq47.false))
    ]

pub returns : goal.returns
returns c folder =
    let past : length c.args.path.now ≤ c.loop-at.at = omega arith in
    c.loop-at.invariant folder
    ∙ ap (λ b. list_any (bytes_eq folder) c.args.self.now || b) (within_all c.loop-at.at folder c.args.path.now past)
