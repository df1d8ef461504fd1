-- Items and files of one path, mark and length each: they have one list of lines and one stop.
use Rattle.std.proofs.Common.{◌≡◌, ◌∙◌, sym, ap, refl, ℕ, zero, suc, ◌-◌, List, [], ◌∷◌, ◌++◌, ◌||◌, Bool, Option, None, Some, codes, drop, length, map, take}
use Rattle.std.specs.Fmt.{decimal}
use Rattle.std.specs.List.{flat_map, list_any, slice_range}
use Rattle.answers.specs.First.{first_some, some_where}
use Rattle.appdir_files.specs.Listing.{clash_stop, first_clash_stop, first_lib_stop, is_in_lib, lib_stop, list_stop, paths_clash}
use Rattle.appdir_files.specs.Writing.{AreFilesOf, IsBytesOf, IsFileOf}
use Rattle.appdir_files.specs.declared.items.Body.{Body}
use Rattle.appdir_files.specs.declared.items.Body.TheVariants.{Bytes, Copy}
use Rattle.appdir_files.specs.declared.items.Item.{Item}
use Rattle.appdir_files.specs.declared.stops.ListStop.{ListStop}
use Rattle.appdir_files.specs.declared.stops.ListStop.TheVariants.{TargetClash, TargetInLib}
use Rattle.load_model.specs.Escaping.{escaped}
use Rattle.load_model.specs.World.{World}
use Rattle.manifest.specs.Manifest.{item_line, length_of, manifest_of, mark_of}
use Rattle.ports.specs.declared.folders.MemFile.{MemFile}
use Rattle.appdir_build.specs.Files.{as_item}

-- ---- lines

body_length : (told : Option World) (body : Body) (bytes : List ℕ) → IsBytesOf told body bytes → length_of body ≡ length bytes
body_length told (Bytes text) bytes h = ap length (sym h)
body_length told (Copy from size) bytes h = sym h.0

abbrev pub line_by : Bool → ℕ → List ℕ → List ℕ
line_by executable size path = mark_of executable ++ (codes " " ++ (decimal size ++ (codes " " ++ (escaped path ++ 10 ∷ []))))

line_parts : (m n : Bool) (a b : ℕ) (p q : List ℕ) → m ≡ n → a ≡ b → p ≡ q → line_by m a p ≡ line_by n b q
line_parts m n a b p q e f g = ap (λ t. line_by t a p) e ∙ (ap (λ t. line_by n t p) f ∙ ap (λ t. line_by n b t) g)

line_same : (told : Option World) (item : Item) (file : MemFile) → IsFileOf told item file → item_line item ≡ item_line (as_item file)
line_same told item file is = line_parts item.executable file.executable (length_of item.body) (length file.bytes) item.path file.path (sym is.mark) (body_length told item.body file.bytes is.bytes) (sym is.path)

pub lines_same : (told : Option World) (items : List Item) (files : List MemFile) → AreFilesOf told items files → flat_map item_line items ≡ flat_map item_line (map as_item files)
lines_same told [] [] h = refl
lines_same told [] (file ∷ files) h = absurd h
lines_same told (item ∷ items) [] h = absurd h
lines_same told (item ∷ items) (file ∷ files) h =
    ap (λ t. t ++ flat_map item_line items) (line_same told item file h.0) ∙ ap (λ t. item_line (as_item file) ++ t) (lines_same told items files h.1)

pub manifest_same : (told : Option World) (items : List Item) (files : List MemFile) → AreFilesOf told items files → manifest_of items ≡ manifest_of (map as_item files)
manifest_same told items files h =
    ap (λ (t : List ℕ). codes "appdir-files 1" ++ (10 ∷ (t ++ (codes "end" ++ 10 ∷ [])))) (lines_same told items files h)

-- ---- stops

abbrev pub item_path : Item → List ℕ
item_path item = item.path

pub paths_same : (told : Option World) (items : List Item) (files : List MemFile) → AreFilesOf told items files → map item_path items ≡ map item_path (map as_item files)
paths_same told [] [] h = refl
paths_same told [] (file ∷ files) h = absurd h
paths_same told (item ∷ items) [] h = absurd h
paths_same told (item ∷ items) (file ∷ files) h =
    ap (λ t. t ∷ map item_path items) (sym h.0.path) ∙ ap (λ t. file.path ∷ t) (paths_same told items files h.1)

any_path : (t : List ℕ → Bool) (items : List Item) → list_any (λ item. t item.path) items ≡ list_any t (map item_path items)
any_path t [] = refl
any_path t (item ∷ items) = ap (λ b. t item.path || b) (any_path t items)

any_same : (t : List ℕ → Bool) (before others : List Item) → map item_path before ≡ map item_path others → list_any (λ item. t item.path) before ≡ list_any (λ item. t item.path) others
any_same t before others h = any_path t before ∙ (ap (list_any t) h ∙ sym (any_path t others))

abbrev pub clash_by : List Item → List ℕ → Option ListStop
clash_by before path = some_where (list_any (λ other. paths_clash path other.path) before) (TargetClash path)

clash_same : (before others : List Item) (item other : Item) → map item_path before ≡ map item_path others → item.path ≡ other.path → clash_stop before item ≡ clash_stop others other
clash_same before others item other h e =
    ap (clash_by before) e ∙ ap (λ b. some_where b (TargetClash other.path)) (any_same (paths_clash other.path) before others h)

behind : (before others : List Item) (item other : Item) → map item_path before ≡ map item_path others → item.path ≡ other.path → map item_path (before ++ (item ∷ [])) ≡ map item_path (others ++ (other ∷ []))
behind before others item other h e = paths_push before item ∙ (ap (λ t. t ++ (item.path ∷ [])) h ∙ (ap (λ p. map item_path others ++ (p ∷ [])) e ∙ sym (paths_push others other)))
  where
    paths_push : (items : List Item) (it : Item) → map item_path (items ++ (it ∷ [])) ≡ map item_path items ++ (it.path ∷ [])
    paths_push [] it = refl
    paths_push (x ∷ items) it = ap (λ t. x.path ∷ t) (paths_push items it)

pub head_same : (x y : List ℕ) (xs ys : List (List ℕ)) → x ∷ xs ≡ y ∷ ys → (x ≡ y) × (xs ≡ ys)
head_same x y xs ys h = (cc, cc)

pub clashes_same : (before others items more : List Item) → map item_path before ≡ map item_path others → map item_path items ≡ map item_path more → first_clash_stop before items ≡ first_clash_stop others more
unfolding first_clash_stop
clashes_same before others [] [] h e = refl
clashes_same before others [] (y ∷ more) h e = cc
clashes_same before others (x ∷ items) [] h e = cc
clashes_same before others (x ∷ items) (y ∷ more) h e =
    let parts = head_same x.path y.path (map item_path items) (map item_path more) e in
    ap (λ o. first_some (o ∷ first_clash_stop (before ++ x ∷ []) items ∷ [])) (clash_same before others x y h parts.0)
    ∙ ap (λ o. first_some (clash_stop others y ∷ o ∷ [])) (clashes_same (before ++ (x ∷ [])) (others ++ (y ∷ [])) items more (behind before others x y h parts.0) parts.1)

-- ---- data files

abbrev pub lib_by : List ℕ → Option ListStop
lib_by path = some_where (is_in_lib path) (TargetInLib path)

first_next : {A : Type 0} (o : Option A) (xs ys : List (Option A)) → first_some xs ≡ first_some ys → first_some (o ∷ xs) ≡ first_some (o ∷ ys)
first_next None xs ys h = h
first_next (Some a) xs ys h = refl

libs_same : (items more : List Item) → map item_path items ≡ map item_path more → first_some (map lib_stop items) ≡ first_some (map lib_stop more)
libs_same [] [] h = refl
libs_same [] (y ∷ more) h = cc
libs_same (x ∷ items) [] h = cc
libs_same (x ∷ items) (y ∷ more) h =
    let parts = head_same x.path y.path (map item_path items) (map item_path more) h in
    ap (λ p. first_some (lib_by p ∷ map lib_stop items)) parts.0
    ∙ first_next (lib_stop y) (map lib_stop items) (map lib_stop more) (libs_same items more parts.1)

first_libs_same : (items more : List Item) → map item_path items ≡ map item_path more → first_lib_stop items ≡ first_lib_stop more
unfolding first_lib_stop
first_libs_same items more h = libs_same items more h

drops_same : (n : ℕ) (items more : List Item) → map item_path items ≡ map item_path more → map item_path (drop n items) ≡ map item_path (drop n more)
drops_same zero items more h = h
drops_same (suc n) [] [] h = refl
drops_same (suc n) [] (y ∷ more) h = cc
drops_same (suc n) (x ∷ items) [] h = cc
drops_same (suc n) (x ∷ items) (y ∷ more) h = drops_same n items more (head_same x.path y.path (map item_path items) (map item_path more) h).1

takes_same : (n : ℕ) (items more : List Item) → map item_path items ≡ map item_path more → map item_path (take n items) ≡ map item_path (take n more)
takes_same zero items more h = refl
takes_same (suc n) [] [] h = refl
takes_same (suc n) [] (y ∷ more) h = cc
takes_same (suc n) (x ∷ items) [] h = cc
takes_same (suc n) (x ∷ items) (y ∷ more) h =
    let parts = head_same x.path y.path (map item_path items) (map item_path more) h in
    ap (λ p. p ∷ map item_path (take n items)) parts.0 ∙ ap (λ t. y.path ∷ t) (takes_same n items more parts.1)

-- The stop goes by paths alone.
pub stops_same : (items more : List Item) (from to : ℕ) → map item_path items ≡ map item_path more → list_stop items from to ≡ list_stop more from to
unfolding list_stop
stops_same items more from to e =
    ap (λ o. first_some (o ∷ first_clash_stop [] items ∷ [])) (first_libs_same (slice_range items from to) (slice_range more from to) (takes_same (to - from) (drop from items) (drop from more) (drops_same from items more e)))
    ∙ ap (λ o. first_some (first_lib_stop (slice_range more from to) ∷ o ∷ [])) (clashes_same [] [] items more refl e)
