-- Which items are a list of files.
use Rattle.std.specs.Prelude.{ℕ, List, [], ◌∷◌, ◌++◌, ◌≡◌, ◌==◌, Bool, ◌||◌, ◌&&◌, not, Option, Some, None, Result, codes, drop, length, map, nat_eq, slice_range}
use Rattle.std.specs.List.{list_any, starts_with}
use Rattle.std.specs.Str.{bytes_eq}
use Rattle.answers.specs.First.{first_some, some_where, value_unless}
use Rattle.appdir_files.specs.declared.items.Item.{Item}
use Rattle.appdir_files.specs.declared.stops.ListStop.{ListStop}
use Rattle.appdir_files.specs.declared.stops.ListStop.TheVariants.{TargetInLib, TargetClash, NoMemory}

-- The folder of bundled libraries, with the slash behind it.
abbrev pub lib_front : List ℕ
lib_front = codes "usr/lib/"

-- The target is a name in this folder itself, and in no folder of it: no slash (47) follows.
abbrev pub is_in_lib : List ℕ → Bool
is_in_lib path =
    starts_with nat_eq path lib_front
    && not (list_any (λ c. c == 47) (drop (length lib_front) path))

-- The path of one, with a slash behind it, begins the path of the other.
abbrev pub is_folder_of : List ℕ → List ℕ → Bool
is_folder_of folder path = starts_with nat_eq path (folder ++ 47 ∷ [])

-- No folder holds files of both paths.
abbrev pub paths_clash : List ℕ → List ℕ → Bool
paths_clash path other =
    bytes_eq path other || (is_folder_of path other || is_folder_of other path)

-- What is refused of a data file.
abbrev pub lib_stop : Item → Option ListStop
lib_stop item = some_where (is_in_lib item.path) (TargetInLib item.path)

-- The first data file that is refused.
unfoldable pub first_lib_stop : List Item → Option ListStop
first_lib_stop items = first_some (map lib_stop items)

-- What is refused of an item behind others.
abbrev pub clash_stop : List Item → Item → Option ListStop
clash_stop before item =
    some_where (list_any (λ other. paths_clash item.path other.path) before)
    (TargetClash item.path)

-- The first item that is refused behind others, and those of the list before it.
unfoldable pub first_clash_stop : List Item → List Item → Option ListStop
first_clash_stop before [] = None
first_clash_stop before (item ∷ items) =
    first_some (clash_stop before item ∷ first_clash_stop (before ++ item ∷ []) items ∷ [])

-- What is refused: of the data files from one place up to another, and then of all items.
unfoldable pub list_stop : List Item → ℕ → ℕ → Option ListStop
list_stop items data_from data_to =
    first_some (
    first_lib_stop (slice_range items data_from data_to) ∷ first_clash_stop [] items ∷ [])

-- The first that is refused, or else the items as they are.
abbrev pub item_list : List Item → ℕ → ℕ → Result (List Item) ListStop
item_list items data_from data_to = value_unless (list_stop items data_from data_to) items

-- What a stop says; want of memory says nothing.
abbrev pub said_of_list : ListStop → Option ListStop
said_of_list NoMemory = None
said_of_list (TargetInLib path) = Some (TargetInLib path)
said_of_list (TargetClash path) = Some (TargetClash path)

-- Sets of the paths of items, and of the folders that those lie in.
pub record AreTaken (items : List Item) (paths folders : List (List ℕ)) : Type 0 where
  pub has_paths : (path : List ℕ)
      → list_any (bytes_eq path) paths ≡ list_any (λ item. bytes_eq path item.path) items
  pub has_folders : (path : List ℕ)
      → list_any (bytes_eq path) folders ≡ list_any (λ item. is_folder_of path item.path) items
