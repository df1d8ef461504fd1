-- Items one after the other, and the sets of their paths and folders.
use Rattle.std.proofs.Common.{◌≡◌, ◌<◌, ◌+◌, ℕ, suc, Bool, true, false, ◌||◌, List, [], ◌∷◌, ◌++◌, bytes_eq, get_or, length, take, drop, refl, ap, sym, subst, ◌∙◌, add-one, Option, Some, None}
use Rattle.std.specs.List.{list_any}
use Rattle.std.proofs.Math.Seq.{drop-cons, take-suc}
use Rattle.std.proofs.lemmas.List.Folds.{list_any-append}
use Rattle.answers.specs.First.{first_some, some_where}
use Rattle.indexmap.specs.IndexSet.{insert_key}
use Rattle.appdir_files.specs.Listing.{AreTaken, first_clash_stop, is_folder_of, paths_clash}
use Rattle.appdir_files.specs.declared.items.Item.{Item}
use Rattle.appdir_files.specs.declared.stops.ListStop.{ListStop}
use Rattle.appdir_files.specs.declared.stops.ListStop.TheVariants.{TargetClash}
use Rattle.appdir_files.proofs.TestLemmas.{any_three, joined_any, or_none, same_tests, text_sym}

-- nothing is taken yet
pub none_taken : AreTaken [] [] []
none_taken = record { has_paths = λ path. refl; has_folders = λ path. refl }

-- an item clashes where its path or a folder of it is there, or its path is a folder that is
pub taken_clash : (items : List Item) (paths folders : List (List ℕ)) (path : List ℕ) → AreTaken items paths folders → (list_any (bytes_eq path) paths || (list_any (bytes_eq path) folders || list_any (λ folder. is_folder_of folder path) paths)) ≡ list_any (λ item. paths_clash path item.path) items
taken_clash items paths folders path taken =
    ap (λ b. b || (list_any (bytes_eq path) folders || list_any (λ folder. is_folder_of folder path) paths)) (taken.has_paths path)
    ∙ (ap (λ b. list_any (λ (item : Item). bytes_eq path item.path) items || (b || list_any (λ folder. is_folder_of folder path) paths)) (taken.has_folders path)
    ∙ (ap (λ b. list_any (λ (item : Item). bytes_eq path item.path) items || (list_any (λ (item : Item). is_folder_of path item.path) items || b)) (same_tests (λ (item : Item). item.path) items paths (λ folder. is_folder_of folder path) taken.has_paths)
    ∙ sym (any_three (λ (item : Item). bytes_eq path item.path) (λ (item : Item). is_folder_of path item.path) (λ (item : Item). is_folder_of item.path path) items)))

one_more : (p : Item → Bool) (items : List Item) (item : Item) → list_any p (items ++ item ∷ []) ≡ (list_any p items || p item)
one_more p items item = list_any-append p items (item ∷ []) ∙ ap (λ b. list_any p items || b) (or_none (p item))

-- the path of one more item, and its folders
pub more_taken : (items : List Item) (item : Item) (paths paths' folders folders' : List (List ℕ)) → AreTaken items paths folders → paths' ≡ insert_key bytes_eq paths item.path → ((folder : List ℕ) → list_any (bytes_eq folder) folders' ≡ (list_any (bytes_eq folder) folders || is_folder_of folder item.path)) → AreTaken (items ++ item ∷ []) paths' folders'
more_taken items item paths paths' folders folders' taken e f = record {
  has_paths = λ path.
      ap (list_any (bytes_eq path)) e
      ∙ (joined_any path item.path paths
      ∙ (ap (λ b. b || bytes_eq item.path path) (taken.has_paths path)
      ∙ (ap (λ b. list_any (λ (i : Item). bytes_eq path i.path) items || b) (text_sym item.path path)
      ∙ sym (one_more (λ i. bytes_eq path i.path) items item))));
  has_folders = λ path.
      f path
      ∙ (ap (λ b. b || is_folder_of path item.path) (taken.has_folders path)
      ∙ sym (one_more (λ i. is_folder_of path i.path) items item));
}

pub next_item : {X : Type 0} (xs : List X) (i : ℕ) (x : X) → i < length xs → x ≡ get_or xs i x → take (i + 1) xs ≡ take i xs ++ x ∷ []
next_item xs i x less e = ap (λ k. take k xs) (add-one i) ∙ (take-suc xs i x less ∙ ap (λ y. take i xs ++ y ∷ []) (sym e))

pub rest_item : {X : Type 0} (xs : List X) (i : ℕ) (x : X) → i < length xs → x ≡ get_or xs i x → drop i xs ≡ x ∷ drop (i + 1) xs
rest_item xs i x less e = drop-cons xs i x less ∙ (ap (λ y. y ∷ drop (suc i) xs) (sym e) ∙ ap (λ k. x ∷ drop k xs) (sym (add-one i)))

first_of_one : {X : Type 0} (o : Option X) → first_some (o ∷ []) ≡ o
first_of_one None = refl
first_of_one (Some x) = refl

clash_by : (path : List ℕ) (b : Bool) (rest : Option ListStop) → b ≡ false → first_some (some_where b (TargetClash path) ∷ rest ∷ []) ≡ rest
clash_by path true rest h = absurd (cc)
clash_by path false rest h = first_of_one rest

stop_by : (path : List ℕ) (b : Bool) (rest : Option ListStop) → b ≡ true → first_some (some_where b (TargetClash path) ∷ rest ∷ []) ≡ Some (TargetClash path)
stop_by path true rest h = refl
stop_by path false rest h = absurd (cc)

-- an item that does not clash is passed over
pub passed_over : (before items : List Item) (item : Item) → list_any (λ other. paths_clash item.path other.path) before ≡ false → first_clash_stop before (item ∷ items) ≡ first_clash_stop (before ++ item ∷ []) items
unfolding first_clash_stop
passed_over before items item h = clash_by item.path (list_any (λ (other : Item). paths_clash item.path other.path) before) (first_clash_stop (before ++ item ∷ []) items) h

-- an item that clashes is the first
pub stops_here : (before items : List Item) (item : Item) → list_any (λ other. paths_clash item.path other.path) before ≡ true → first_clash_stop before (item ∷ items) ≡ Some (TargetClash item.path)
unfolding first_clash_stop
stops_here before items item h = stop_by item.path (list_any (λ (other : Item). paths_clash item.path other.path) before) (first_clash_stop (before ++ item ∷ []) items) h

-- the item at this place stands behind those before it, with others behind it
pub stops_at : (items : List Item) (i : ℕ) (item : Item) → i < length items → item ≡ get_or items i item → list_any (λ other. paths_clash item.path other.path) (take i items) ≡ true → first_clash_stop (take i items) (drop i items) ≡ Some (TargetClash item.path)
stops_at items i item less e h =
    ap (first_clash_stop (take i items)) (rest_item items i item less e) ∙ stops_here (take i items) (drop (i + 1) items) item h

pub passed_on : (items : List Item) (i : ℕ) (item : Item) → i < length items → item ≡ get_or items i item → list_any (λ other. paths_clash item.path other.path) (take i items) ≡ false → first_clash_stop (take (i + 1) items) (drop (i + 1) items) ≡ first_clash_stop (take i items) (drop i items)
passed_on items i item less e h =
    sym (ap (first_clash_stop (take i items)) (rest_item items i item less e) ∙ (passed_over (take i items) (drop (i + 1) items) item h
    ∙ ap (λ b. first_clash_stop b (drop (i + 1) items)) (sym (next_item items i item less e))))

pub next_taken : (items : List Item) (i : ℕ) (item : Item) (paths paths' folders folders' : List (List ℕ)) → i < length items → item ≡ get_or items i item → AreTaken (take i items) paths folders → paths' ≡ insert_key bytes_eq paths item.path → ((folder : List ℕ) → list_any (bytes_eq folder) folders' ≡ (list_any (bytes_eq folder) folders || is_folder_of folder item.path)) → AreTaken (take (i + 1) items) paths' folders'
next_taken items i item paths paths' folders folders' less e taken p f =
    subst (λ (l : List Item). AreTaken l paths' folders') (sym (next_item items i item less e)) (more_taken (take i items) item paths paths' folders folders' taken p f)
