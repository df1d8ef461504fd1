use Rattle.std.proofs.Common.{[], not}
use Rattle.path_text.specs.Path.{folder_of, is_empty}
use Rattle.search_paths.proofs.RunPathLemmas.{item_kept}
use Rattle.search_paths.proofs.run_paths.push_items.Goals as goal

pub loop-text-preserved : goal.loop-text-preserved
loop-text-preserved c = item_kept (λ text. record { folder = folder_of c.args.path.now; text = text }) (λ item. not (is_empty item)) c.as_slice-text-items.result.now c.loop-text.text-index (record { ref_ptr = (0, 0); now = [] }) c.args.held.now c.loop-text.held c.push_item.new.held c.loop-text-test.true c.loop-text.invariant c.in_ok-push_item.ensures
