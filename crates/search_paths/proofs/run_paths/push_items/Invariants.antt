use Rattle.std.proofs.Common.{◌≡◌, ◌++◌, filter, map, not, take}
use Rattle.path_text.specs.Path.{folder_of, is_empty}
use Rattle.search_paths.proofs.run_paths.push_items.Given as goal

abbrev pub invariant-loop-text : goal.invariant-loop-text
invariant-loop-text l = l.held ≡ l.initial.held ++ map (λ text. record { folder = folder_of l.path; text = text }) (filter (λ item. not (is_empty item)) (map (λ item. item.now) (take l.text-index l.text-items)))
