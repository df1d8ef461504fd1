-- Candidates that are looked at one after the other.
use Rattle.std.proofs.Common.{ℕ, zero, suc, ◌+◌, ◌<◌, ◌≤◌, List, [], ◌∷◌, ◌++◌, ◌≡◌, ◌∙◌, refl, sym, ap, subst, Option, Some, None, Result, Ok, Err, length, drop, take, map, get_or, cond, slice_get, true, false, arith}
use Rattle.std.proofs.lemmas.Grind.{flat_map-append}
use Rattle.std.proofs.lemmas.List.{append-nil, map-append, take-append-drop, take_all, take_more}
use Rattle.std.proofs.lemmas.List.Folds.{flat_map-map}
use Rattle.std.specs.List.{flat_map}
use Rattle.answers.specs.First.{first_some}
use Rattle.path_text.specs.Path.{begins_at_root, path_of}
use Rattle.load_model.specs.Candidates.{Candidate, candidate_at, candidate_in, candidates, decision, first_decision, listed_candidates, own_items, search_items}
use Rattle.load_model.specs.Faces.{face_or_flaw}
use Rattle.load_model.specs.LoadList.{Object}
use Rattle.load_model.specs.Opening.{OnlyGrew, OpenerView}
use Rattle.load_model.specs.RunPaths.{Folder, Item}
use Rattle.load_model.specs.Runs.{AreObjects, loader_by}
use Rattle.load_model.specs.World.{World}
use Rattle.load_model.specs.declared.faces.Face.{Face}
use Rattle.load_model.specs.declared.runs.Obj.{Obj}
use Rattle.load_model.specs.declared.opening.OpenFault.TheVariants.{Read, Damaged as OpensDamaged, NoMemory as OpensNoMemory}
use Rattle.load_model.specs.declared.refusals.LoadRefusal.{LoadRefusal}
use Rattle.load_model.specs.declared.setting.Setting.{Setting}
use Rattle.search_paths.specs.HeldItems.{item_held, items_kept}
use Rattle.search_paths.specs.Searching.{Decides, IsAnswer}
use Rattle.search_paths.specs.declared.hits.Hit.{Hit}
use Rattle.search_paths.specs.declared.hits.Hit.TheVariants.{Found, Missing}
use Rattle.search_paths.specs.declared.hits.SearchStop.{SearchStop}
use Rattle.search_paths.specs.declared.hits.SearchStop.TheVariants.{RelativeItem, TokenUnset, Open, NoMemory}
use Rattle.search_paths.specs.declared.run_paths.HeldItem.{HeldItem}

-- ---- the first that is there, in two lists

first_behind : {A : Type 0} (xs ys : List (Option A)) → first_some xs ≡ None → first_some (xs ++ ys) ≡ first_some ys
first_behind [] ys none = refl
first_behind (None ∷ xs) ys none = first_behind xs ys none
first_behind (Some x ∷ xs) ys none = absurd (cc none)

first_in_front : {A : Type 0} (xs ys : List (Option A)) (a : A) → first_some xs ≡ Some a → first_some (xs ++ ys) ≡ Some a
first_in_front [] ys a is = absurd (cc is)
first_in_front (None ∷ xs) ys a is = first_in_front xs ys a is
first_in_front (Some x ∷ xs) ys a is = is

decided_behind : (setting : Setting) (world : World) (xs ys : List Candidate) → first_decision face_or_flaw setting world xs ≡ None → first_decision face_or_flaw setting world (xs ++ ys) ≡ first_decision face_or_flaw setting world ys
unfolding first_decision
decided_behind setting world xs ys none =
    ap first_some (map-append (decision face_or_flaw setting world) xs ys)
    ∙ first_behind (map (decision face_or_flaw setting world) xs) (map (decision face_or_flaw setting world) ys) none

decided_in_front : (setting : Setting) (world : World) (xs ys : List Candidate) (d : Result Object LoadRefusal) → first_decision face_or_flaw setting world xs ≡ Some d → first_decision face_or_flaw setting world (xs ++ ys) ≡ Some d
unfolding first_decision
decided_in_front setting world xs ys d is =
    ap first_some (map-append (decision face_or_flaw setting world) xs ys)
    ∙ first_in_front (map (decision face_or_flaw setting world) xs) (map (decision face_or_flaw setting world) ys) d is

-- ---- answers

-- what decides in one way decides in a weaker one
pub weaker : (P Q : World → Option (Result Object LoadRefusal) → Type 0) (before after : OpenerView) (r : Result Hit SearchStop) → ((world : World) (d : Option (Result Object LoadRefusal)) → P world d → Q world d) → IsAnswer P before after r → IsAnswer Q before after r
weaker P Q before after (Ok (Found path id place)) f h = (h.0, λ world told. let k = h.1 world told in record { face = k.face; stands = k.stands; found = f world _ k.found })
weaker P Q before after (Ok Missing) f h = λ world told. f world _ (h world told)
weaker P Q before after (Err (RelativeItem item)) f h = λ world told. f world _ (h world told)
weaker P Q before after (Err (TokenUnset item)) f h = λ world told. f world _ (h world told)
weaker P Q before after (Err (Open (OpensDamaged path flaw))) f h = λ world told. f world _ (h world told)
weaker P Q before after (Err (Open Read)) f h = h
weaker P Q before after (Err (Open OpensNoMemory)) f h = h
weaker P Q before after (Err NoMemory) f h = h

-- none of the first candidates decides, and so the others do
module _ (b0 b1 b2 : OpenerView) (xs ys : List Candidate) (none : IsAnswer (Decides b0 xs) b0 b1 (Ok Missing)) (grew : OnlyGrew b0 b1) where
  behind : (world : World) (d : Option (Result Object LoadRefusal)) → b0.told ≡ Some world → Decides b1 ys world d → Decides b0 (xs ++ ys) world d
  behind world d told h = λ setting m. decided_behind setting world xs ys (none world told setting m) ∙ h setting (m ∙ sym grew.machine)

  pub searched_on : (r : Result Hit SearchStop) → IsAnswer (Decides b1 ys) b1 b2 r → IsAnswer (Decides b0 (xs ++ ys)) b0 b2 r
  searched_on (Ok (Found path id place)) h = (h.0, λ world told. let k = h.1 world (grew.world ∙ told) in record { face = k.face; stands = k.stands; found = behind world _ told k.found })
  searched_on (Ok Missing) h = λ world told. behind world _ told (h world (grew.world ∙ told))
  searched_on (Err (RelativeItem item)) h = λ world told. behind world _ told (h world (grew.world ∙ told))
  searched_on (Err (TokenUnset item)) h = λ world told. behind world _ told (h world (grew.world ∙ told))
  searched_on (Err (Open (OpensDamaged path flaw))) h = λ world told. behind world _ told (h world (grew.world ∙ told))
  searched_on (Err (Open Read)) h = omega (arith, h, grew.faults)
  searched_on (Err (Open OpensNoMemory)) h = h
  searched_on (Err NoMemory) h = h

-- the search is over
abbrev pub IsOver : Result Hit SearchStop → Type 0
IsOver (Ok (Found path id place)) = Unit {0}
IsOver (Ok Missing) = ⊥
IsOver (Err stop) = Unit {0}

module _ (b0 b1 : OpenerView) (xs ys : List Candidate) where
  in_front : (world : World) (d : Result Object LoadRefusal) → Decides b0 xs world (Some d) → Decides b0 (xs ++ ys) world (Some d)
  in_front world d h = λ setting m. decided_in_front setting world xs ys d (h setting m)

  pub searched_early : (r : Result Hit SearchStop) → IsOver r → IsAnswer (Decides b0 xs) b0 b1 r → IsAnswer (Decides b0 (xs ++ ys)) b0 b1 r
  searched_early (Ok (Found path id place)) over h = (h.0, λ world told. let k = h.1 world told in record { face = k.face; stands = k.stands; found = in_front world _ k.found })
  searched_early (Ok Missing) over h = absurd over
  searched_early (Err (RelativeItem item)) over h = λ world told. in_front world _ (h world told)
  searched_early (Err (TokenUnset item)) over h = λ world told. in_front world _ (h world told)
  searched_early (Err (Open (OpensDamaged path flaw))) over h = λ world told. in_front world _ (h world told)
  searched_early (Err (Open Read)) over h = h
  searched_early (Err (Open OpensNoMemory)) over h = h
  searched_early (Err NoMemory) over h = h

-- a shorter front of a front
take_within : {A : Type 0} (w n : ℕ) (l : List A) → w ≤ n → take w (take n l) ≡ take w l
take_within zero n l h = refl
take_within (suc w) zero l h = absurd (omega (arith, h))
take_within (suc w) (suc n) [] h = refl
take_within (suc w) (suc n) (x ∷ l) h = ap (λ m. x ∷ m) (take_within w n l (omega (arith, h)))

pub grew_on : (b0 b1 b2 : OpenerView) → OnlyGrew b0 b1 → OnlyGrew b1 b2 → OnlyGrew b0 b2
grew_on b0 b1 b2 g h = record {
  world = h.world ∙ g.world;
  machine = h.machine ∙ g.machine;
  loan = h.loan ∙ g.loan;
  faces = sym (take_within (length b0.faces) (length b1.faces) b2.faces g.longer) ∙ ap (take (length b0.faces)) h.faces ∙ g.faces;
  longer = omega (arith, g.longer, h.longer);
  faults = omega (arith, g.faults, h.faults);
}

pub grew_not : (b : OpenerView) → OnlyGrew b b
grew_not b = record { world = refl; machine = refl; loan = refl; faces = take_all (length b.faces) b.faces (omega arith); longer = omega arith; faults = omega arith }

-- ---- the items of a list, one after the other

module _ {X : Type 0} (f : X → List Candidate) (items : List X) where
  -- one item more
  pub item_more : (b0 b1 b2 : OpenerView) (i : ℕ) (x : X) (r : Result Hit SearchStop) → i < length items → x ≡ get_or items i x
      → IsAnswer (Decides b0 (flat_map f (take i items))) b0 b1 (Ok Missing) → OnlyGrew b0 b1
      → IsAnswer (Decides b1 (f x)) b1 b2 r → IsAnswer (Decides b0 (flat_map f (take (i + 1) items))) b0 b2 r
  item_more b0 b1 b2 i x r within is none grew h =
      let more : flat_map f (take i items) ++ f x ≡ flat_map f (take (i + 1) items) =
      ap (λ xs. flat_map f (take i items) ++ xs) (sym (append-nil (f x)))
      ∙ sym (flat_map-append f (take i items) (x ∷ []))
      ∙ ap (λ y. flat_map f (take i items ++ y ∷ [])) is
      ∙ ap (flat_map f) (sym (take_more items i x within)) in
      subst (λ cs. IsAnswer (Decides b0 cs) b0 b2 r) more (searched_on b0 b1 b2 (flat_map f (take i items)) (f x) none grew r h)

  -- over before the end
  pub item_over : (b0 b1 : OpenerView) (i : ℕ) (r : Result Hit SearchStop) → IsOver r → IsAnswer (Decides b0 (flat_map f (take i items))) b0 b1 r → IsAnswer (Decides b0 (flat_map f items)) b0 b1 r
  item_over b0 b1 i r over h =
      let all : flat_map f (take i items) ++ flat_map f (drop i items) ≡ flat_map f items =
      sym (flat_map-append f (take i items) (drop i items)) ∙ ap (flat_map f) (take-append-drop i items) in
      subst (λ cs. IsAnswer (Decides b0 cs) b0 b1 r) all (searched_early b0 b1 (flat_map f (take i items)) (flat_map f (drop i items)) r over h)

  -- the end
  pub items_none : (b0 b1 : OpenerView) (i : ℕ) → length items ≤ i → IsAnswer (Decides b0 (flat_map f (take i items))) b0 b1 (Ok Missing) → IsAnswer (Decides b0 (flat_map f items)) b0 b1 (Ok Missing)
  items_none b0 b1 i end h = subst (λ xs. IsAnswer (Decides b0 (flat_map f xs)) b0 b1 (Ok Missing)) (take_all i items end) h

pub nothing_seen : (b : OpenerView) → IsAnswer (Decides b []) b b (Ok Missing)
unfolding first_decision
nothing_seen b = λ world told setting m. refl

-- ---- the candidates of a search

pub listed_are : (setting : Setting) (dirs : List (List ℕ)) (name : List ℕ) → setting.dirs ≡ dirs → flat_map (λ dir. candidate_in name (Folder dir)) dirs ≡ listed_candidates setting name
unfolding listed_candidates
listed_are setting dirs name is = ap (flat_map (λ dir. candidate_in name (Folder dir))) (sym is) ∙ sym (flat_map-map (candidate_in name) (λ dir. Folder dir) setting.dirs)

pub rooted_are : (setting : Setting) (objects : List Object) (loader : ℕ → ℕ) (from : ℕ) (name : List ℕ) → begins_at_root name ≡ true → candidate_at (path_of name) ≡ candidates setting objects loader (record { by = from; name = name })
unfolding candidates
rooted_are setting objects loader from name root = sym (ap (λ b. cond b (candidate_at (path_of name)) (flat_map (candidate_in name) (search_items setting objects loader from))) root)

pub searched_are : (setting : Setting) (objects : List Object) (loader : ℕ → ℕ) (from : ℕ) (name : List ℕ) (held : List HeldItem) → begins_at_root name ≡ false → items_kept setting held ≡ own_items setting objects loader from (slice_get objects from)
    → flat_map (λ h. candidate_in name (item_held setting h)) held ++ flat_map (λ dir. candidate_in name (Folder dir)) setting.dirs ≡ candidates setting objects loader (record { by = from; name = name })
unfolding candidates search_items
searched_are setting objects loader from name held no_root kept =
    let own : List Item = own_items setting objects loader from (slice_get objects from) in
    let first : flat_map (λ h. candidate_in name (item_held setting h)) held ≡ flat_map (candidate_in name) own =
    sym (flat_map-map (candidate_in name) (item_held setting) held) ∙ ap (flat_map (candidate_in name)) kept in
    let then : flat_map (λ dir. candidate_in name (Folder dir)) setting.dirs ≡ flat_map (candidate_in name) (map (λ dir. Folder dir) setting.dirs) =
    sym (flat_map-map (candidate_in name) (λ dir. Folder dir) setting.dirs) in
    ap (λ cs. cs ++ flat_map (λ dir. candidate_in name (Folder dir)) setting.dirs) first
    ∙ ap (λ cs. flat_map (candidate_in name) own ++ cs) then
    ∙ sym (flat_map-append (candidate_in name) own (map (λ dir. Folder dir) setting.dirs))
    ∙ sym (ap (λ b. cond b (candidate_at (path_of name)) (flat_map (candidate_in name) (own ++ map (λ dir. Folder dir) setting.dirs))) no_root)

-- ---- the answers of a search

pub listed_answer : (b0 b2 : OpenerView) (dirs : List (List ℕ)) (name : List ℕ) (r : Result Hit SearchStop) → IsAnswer (Decides b0 (flat_map (λ dir. candidate_in name (Folder dir)) dirs)) b0 b2 r
    → IsAnswer (λ world decided. (setting : Setting) → setting.machine ≡ b0.machine → setting.dirs ≡ dirs → first_decision face_or_flaw setting world (listed_candidates setting name) ≡ decided) b0 b2 r
listed_answer b0 b2 dirs name r h =
    weaker (Decides b0 (flat_map (λ dir. candidate_in name (Folder dir)) dirs)) (λ world decided. (setting : Setting) → setting.machine ≡ b0.machine → setting.dirs ≡ dirs → first_decision face_or_flaw setting world (listed_candidates setting name) ≡ decided) b0 b2 r
    (λ world d k. λ setting m is. ap (first_decision face_or_flaw setting world) (sym (listed_are setting dirs name is)) ∙ k setting m) h

module _ (b0 : OpenerView) (setting : Setting) (objs : List Obj) (from : ℕ) (name : List ℕ) (machine : b0.machine ≡ setting.machine) where
  abbrev pub Wanted : World → Option (Result Object LoadRefusal) → Type 0
  Wanted world decided = (objects : List Object) → AreObjects b0.faces objs objects → first_decision face_or_flaw setting world (candidates setting objects (loader_by objs) (record { by = from; name = name })) ≡ decided

  pub rooted_answer : (b2 : OpenerView) (text : List ℕ) (r : Result Hit SearchStop) → text ≡ name → begins_at_root name ≡ true → IsAnswer (Decides b0 (candidate_at (path_of text))) b0 b2 r → IsAnswer Wanted b0 b2 r
  rooted_answer b2 text r is root h =
      weaker (Decides b0 (candidate_at (path_of text))) Wanted b0 b2 r
      (λ world d k. λ objects are. ap (first_decision face_or_flaw setting world) (sym (rooted_are setting objects (loader_by objs) from name root) ∙ ap (λ t. candidate_at (path_of t)) (sym is)) ∙ k setting (sym machine)) h

  pub searched_answer : (b2 : OpenerView) (faces : List Face) (held items : List HeldItem) (dirs : List (List ℕ)) (r : Result Hit SearchStop) → faces ≡ b0.faces → items ≡ held → dirs ≡ setting.dirs → begins_at_root name ≡ false
      → ((setting : Setting) (objects : List Object) → AreObjects faces objs objects → items_kept setting held ≡ own_items setting objects (loader_by objs) from (slice_get objects from))
      → IsAnswer (Decides b0 (flat_map (λ item. candidate_in name (item_held setting item)) items ++ flat_map (λ dir. candidate_in name (Folder dir)) dirs)) b0 b2 r → IsAnswer Wanted b0 b2 r
  searched_answer b2 faces held items dirs r faces_are items_are dirs_are no_root kept h =
      weaker (Decides b0 (flat_map (λ item. candidate_in name (item_held setting item)) items ++ flat_map (λ dir. candidate_in name (Folder dir)) dirs)) Wanted b0 b2 r
      (λ world d k. λ objects are.
      ap (first_decision face_or_flaw setting world)
      (sym (searched_are setting objects (loader_by objs) from name held no_root (kept setting objects (subst (λ fs. AreObjects fs objs objects) (sym faces_are) are)))
      ∙ ap (λ hs. flat_map (λ item. candidate_in name (item_held setting item)) hs ++ flat_map (λ dir. candidate_in name (Folder dir)) setting.dirs) (sym items_are)
      ∙ ap (λ ds. flat_map (λ item. candidate_in name (item_held setting item)) items ++ flat_map (λ dir. candidate_in name (Folder dir)) ds) (sym dirs_are))
      ∙ k setting (sym machine)) h
