use Rattle.std.proofs.Common.{◌≡◌, ◌++◌, length}
use Rattle.std.specs.List.{flat_map, list_any}
use Rattle.load_model.specs.RunPaths.{expanded, is_unset, part_text, parts_behind, parts_of_item}
use Rattle.search_paths.proofs.expanding.expand.Given as goal

-- what is left is expanded behind the text so far
abbrev pub invariant-pieces : goal.invariant-pieces
invariant-pieces l = record {
  set : list_any (is_unset l.setting l.folder) (parts_of_item l.item) ≡ list_any (is_unset l.setting l.folder) (parts_behind l.rest 0);
  text : expanded l.setting l.folder l.item ≡ l.text.items ++ flat_map (part_text l.setting l.folder) (parts_behind l.rest 0);
}

abbrev pub decreases-pieces : goal.decreases-pieces
decreases-pieces l = length l.rest
