use Rattle.std.proofs.Common.{◌≡◌, ◌++◌, ◌<◌, length, List}
use Rattle.load_model.specs.Candidates.{loader_chain, chain_items}
use Rattle.load_model.specs.LoadList.{Object}
use Rattle.load_model.specs.Runs.{AreObjects, loader_by}
use Rattle.load_model.specs.declared.setting.Setting.{Setting}
use Rattle.search_paths.specs.HeldItems.{items_kept}
use Rattle.search_paths.proofs.RunPathLemmas.{along}
use Rattle.search_paths.proofs.run_paths.chain_items.Given as goal

-- what is kept, and the objects along the chain from here on
abbrev pub invariant-chain : goal.invariant-chain
invariant-chain l = record {
  within : l.number < length l.objs;
  left : (setting : Setting) (objects : List Object) → AreObjects l.faces l.objs objects
      → chain_items setting objects (loader_by l.objs) l.from ≡ items_kept setting l.held ++ along setting objects (loader_by l.objs) (loader_chain l.number (loader_by l.objs) l.number);
}

abbrev pub decreases-chain : goal.decreases-chain
decreases-chain l = l.number
