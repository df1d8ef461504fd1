-- The items of run paths as they are kept until the search reaches them.
use Rattle.std.specs.Prelude.{List, ◌≡◌, map}
use Rattle.load_model.specs.RunPaths.{Item, Relative, Unset, item_of}
use Rattle.load_model.specs.declared.setting.Setting.{Setting}
use Rattle.search_paths.specs.declared.hits.SearchStop.{SearchStop}
use Rattle.search_paths.specs.declared.hits.SearchStop.TheVariants.{NoMemory, Open, RelativeItem, TokenUnset}
use Rattle.search_paths.specs.declared.run_paths.HeldItem.{HeldItem}

abbrev pub item_held : Setting → HeldItem → Item
item_held setting h = item_of setting h.folder h.text

abbrev pub items_kept : Setting → List HeldItem → List Item
items_kept setting held = map (item_held setting) held

-- Why an item is refused.
abbrev pub IsItemStop : Item → SearchStop → Type 0
IsItemStop item (TokenUnset text) = item ≡ Unset text
IsItemStop item (RelativeItem text) = item ≡ Relative text
IsItemStop item (Open fault) = ⊥
IsItemStop item NoMemory = Unit {0}
