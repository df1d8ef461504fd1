-- Items of run paths that are kept, and the chain of loaders.
use Rattle.std.proofs.Common.{ℕ, zero, suc, ◌+◌, ◌<◌, ◌≤◌, List, [], ◌∷◌, ◌++◌, ◌≡◌, ◌∙◌, refl, sym, ap, subst, Option, Some, None, cond, length, map, arith, get_or, append_assoc}
use Rattle.std.proofs.lemmas.List.{append-nil, map-append, take_more}
use Rattle.std.proofs.lemmas.Bool.{ne_eqb}
use Rattle.std.proofs.lemmas.Option.{slice_get_cases, slice_get_read}
use Rattle.std.specs.List.{flat_map}
use Rattle.std.specs.Option.{option_map, unwrap_or}
use Rattle.std.specs.Prelude.{OnOk, Result, Ok, Err}
use Rattle.std.proofs.Common.{inl, inr, All, Bool, Bor, filter, take}
use Rattle.std.proofs.lemmas.List.Elements.{All-get_or, filter-append}
use Rattle.load_model.specs.Runs.{AreObjects, loader_by}
use Rattle.load_model.specs.declared.faces.Face.{Face}
use Rattle.load_model.specs.declared.runs.Obj.{Obj}
use Rattle.std.specs.Prelude.{slice_get}
use Rattle.path_text.specs.Path.{folder_of}
use Rattle.load_model.specs.Candidates.{loader_chain, chain_items, items_by, items_held, own_items, rpath_by, rpath_items}
use Rattle.load_model.specs.LoadList.{Object}
use Rattle.load_model.specs.RunPaths.{Item, items_of, texts_of}
use Rattle.load_model.specs.declared.setting.Setting.{Setting}
use Rattle.search_paths.specs.HeldItems.{items_kept, item_held}
use Rattle.search_paths.specs.declared.run_paths.HeldItem.{HeldItem}

map-map : {A B C : Type 0} (f : B → C) (g : A → B) (xs : List A) → map f (map g xs) ≡ map (λ x. f (g x)) xs
map-map f g [] = refl
map-map f g (x ∷ xs) = ap (λ ys. f (g x) ∷ ys) (map-map f g xs)

-- the items of one run path more
pub kept_more : (setting : Setting) (path text : List ℕ) (old held : List HeldItem) → held ≡ old ++ map (λ t. record { folder = folder_of path; text = t }) (texts_of text)
    → items_kept setting held ≡ items_kept setting old ++ items_held setting path (Some text)
unfolding items_of
kept_more setting path text old held is =
    ap (items_kept setting) is
    ∙ map-append (item_held setting) old (map (λ t. record { folder = folder_of path; text = t }) (texts_of text))
    ∙ ap (λ is. items_kept setting old ++ is) (map-map (item_held setting) (λ t. record { folder = folder_of path; text = t }) (texts_of text))

-- ---- the chain

-- each loader but the program's has a smaller number
abbrev pub Falls : (ℕ → ℕ) → ℕ → Type 0
Falls loader bound = (j : ℕ) → 0 < j → j < bound → loader j < j

pub chain_top : (loader : ℕ → ℕ) (m : ℕ) → loader_chain m loader 0 ≡ 0 ∷ []
unfolding loader_chain
chain_top loader zero = refl
chain_top loader (suc m) = refl

one_more : (loader : ℕ → ℕ) (m j : ℕ) → 0 < j → loader_chain (suc m) loader j ≡ j ∷ loader_chain m loader (loader j)
unfolding loader_chain
one_more loader m zero some = absurd (omega (arith, some))
one_more loader m (suc j) some = ap (λ b. cond b (0 ∷ []) (suc j ∷ loader_chain m loader (loader (suc j)))) (ne_eqb (suc j) 0 (λ e. omega (arith, e)))

-- how much may be taken does not matter, where it is enough
same_chain : (loader : ℕ → ℕ) (bound n m j : ℕ) → Falls loader bound → j < bound → j ≤ n → j ≤ m → loader_chain n loader j ≡ loader_chain m loader j
same_chain loader bound n m zero falls within hn hm = chain_top loader n ∙ sym (chain_top loader m)
same_chain loader bound zero m (suc j) falls within hn hm = absurd (omega (arith, hn))
same_chain loader bound (suc n) zero (suc j) falls within hn hm = absurd (omega (arith, hm))
same_chain loader bound (suc n) (suc m) (suc j) falls within hn hm =
    let below : loader (suc j) < suc j = falls (suc j) (omega arith) within in
    one_more loader n (suc j) (omega arith)
    ∙ ap (λ ks. suc j ∷ ks) (same_chain loader bound n m (loader (suc j)) falls (omega (arith, below, within)) (omega (arith, below, hn)) (omega (arith, below, hm)))
    ∙ sym (one_more loader m (suc j) (omega arith))

-- one step along the chain
pub chain_step : (loader : ℕ → ℕ) (bound j : ℕ) → Falls loader bound → j < bound → 0 < j → loader_chain j loader j ≡ j ∷ loader_chain (loader j) loader (loader j)
chain_step loader bound zero falls within some = absurd (omega (arith, some))
chain_step loader bound (suc j) falls within some =
    let below : loader (suc j) < suc j = falls (suc j) some within in
    one_more loader j (suc j) some
    ∙ ap (λ ks. suc j ∷ ks) (same_chain loader bound j (loader (suc j)) (loader (suc j)) falls (omega (arith, below, within)) (omega (arith, below)) (omega arith))

pub chain_whole : (loader : ℕ → ℕ) (bound j : ℕ) → Falls loader bound → j < bound → loader_chain j loader j ≡ loader_chain bound loader j
chain_whole loader bound j falls within = same_chain loader bound j bound j falls within (omega arith) (omega (arith, within))

-- what is kept of the objects so far, and those along the chain from an object on
module _ (setting : Setting) (objects : List Object) (loader : ℕ → ℕ) where
  abbrev pub along : List ℕ → List Item
  along ks = flat_map (λ k. rpath_items setting (slice_get objects k)) ks

  -- the last object of the chain
  pub kept_last : (before held : List Item) (o : Object) → slice_get objects 0 ≡ Some o → held ≡ before ++ rpath_items setting (Some o) → before ++ along (loader_chain 0 loader 0) ≡ held
  kept_last before held o is more =
      ap (λ ks. before ++ along ks) (chain_top loader 0)
      ∙ ap (λ is. before ++ is) (append-nil (rpath_items setting (slice_get objects 0)))
      ∙ ap (λ x. before ++ rpath_items setting x) is
      ∙ sym more

  -- one object further
  pub kept_next : (bound j : ℕ) (before held : List Item) (o : Object) → Falls loader bound → j < bound → 0 < j → slice_get objects j ≡ Some o → held ≡ before ++ rpath_items setting (Some o)
      → before ++ along (loader_chain j loader j) ≡ held ++ along (loader_chain (loader j) loader (loader j))
  kept_next bound j before held o falls within some is more =
      ap (λ ks. before ++ along ks) (chain_step loader bound j falls within some)
      ∙ ap (λ x. before ++ (rpath_items setting x ++ along (loader_chain (loader j) loader (loader j)))) is
      ∙ sym (append_assoc before (rpath_items setting (Some o)) (along (loader_chain (loader j) loader (loader j))))
      ∙ ap (λ is. is ++ along (loader_chain (loader j) loader (loader j))) (sym more)

-- ---- objects of a table

-- an object as the table has it
pub object_at : (faces : List Face) (objs : List Obj) (objects : List Object) (j : ℕ) (x : Obj) (face : Face) → AreObjects faces objs objects → j < length objs → x ≡ get_or objs j x → x.face < length faces → face ≡ get_or faces x.face face
    → (o : Object) × (slice_get objects j ≡ Some o) × (o.path ≡ x.path) × (o.face ≡ face)
object_at faces objs objects j x face are within is in_table face_is =
    let stands : slice_get objs j ≡ Some x = slice_get_read objs (length objs) j x refl within is in
    let seen : slice_get faces x.face ≡ Some face = slice_get_read faces (length faces) x.face face refl in_table face_is in
    elim (slice_get_cases objects j).1 [
      | inl there ↦ let each = are.each j x there.0 stands there.2 in (there.0, there.2, each.0, some_one (sym each.2 ∙ seen))
      | inr past ↦ absurd (omega (arith, past.0, within, are.count))
    ]
  where
    some_one : {A : Type 0} {a b : A} → Some a ≡ Some b → a ≡ b
    some_one e = cc e

pub loader_at : (objs : List Obj) (j : ℕ) (x : Obj) → j < length objs → x ≡ get_or objs j x → loader_by objs j ≡ x.loader
loader_at objs j x within is = ap (λ o. unwrap_or (option_map (λ x. x.loader) o) 0) (slice_get_read objs (length objs) j x refl within is)

falls_by : (j : ℕ) (o : Option Obj) → 0 < j → ((x : Obj) → o ≡ Some x → x.loader < j) → unwrap_or (option_map (λ x. x.loader) o) 0 < j
falls_by j None some h = some
falls_by j (Some x) some h = h x refl

pub falls : (objs : List Obj) → ((j : ℕ) (x : Obj) → 0 < j → slice_get objs j ≡ Some x → x.loader < j) → Falls (loader_by objs) (length objs)
falls objs others = λ j some within. falls_by j (slice_get objs j) some (λ x e. others j x some e)

-- the RPATH of an object without RUNPATH
pub rpath_more : {A E : Type 0} (r : Result A E) (path rpath : List ℕ) (face : Face) (old held : List HeldItem) → face.runpath ≡ None → face.rpath ≡ Some rpath
    → OnOk r (held ≡ old ++ map (λ t. record { folder = folder_of path; text = t }) (texts_of rpath))
    → OnOk r ((setting : Setting) (o : Object) → o.path ≡ path → o.face ≡ face → items_kept setting held ≡ items_kept setting old ++ rpath_by setting o o.face.runpath)
rpath_more (Err e) path rpath face old held none some h = tt
rpath_more (Ok v) path rpath face old held none some h = λ setting o at f.
    kept_more setting path rpath old held h
    ∙ ap (λ p. items_kept setting old ++ items_held setting p (Some rpath)) (sym at)
    ∙ ap (λ t. items_kept setting old ++ items_held setting o.path t) (sym (ap (λ f. f.rpath) f ∙ some))
    ∙ ap (λ t. items_kept setting old ++ rpath_by setting o t) (sym (ap (λ f. f.runpath) f ∙ none))

-- ---- along the chain of an object

module _ (faces : List Face) (objs : List Obj) (setting : Setting) (objects : List Object) (are : AreObjects faces objs objects) where
  pub chain_start : (from : ℕ) (held : List HeldItem) → Falls (loader_by objs) (length objs) → from < length objs → held ≡ []
      → chain_items setting objects (loader_by objs) from ≡ items_kept setting held ++ along setting objects (loader_by objs) (loader_chain from (loader_by objs) from)
  chain_start from held f within empty =
      ap (λ n. along setting objects (loader_by objs) (loader_chain n (loader_by objs) from)) are.count
      ∙ ap (along setting objects (loader_by objs)) (sym (chain_whole (loader_by objs) (length objs) from f within))
      ∙ ap (λ h. items_kept setting h ++ along setting objects (loader_by objs) (loader_chain from (loader_by objs) from)) (sym empty)

  pub chain_end : (j : ℕ) (x : Obj) (face : Face) (before held : List HeldItem) → j ≡ 0 → j < length objs → x ≡ get_or objs j x → x.face < length faces → face ≡ get_or faces x.face face
      → ((o : Object) → o.path ≡ x.path → o.face ≡ face → items_kept setting held ≡ items_kept setting before ++ rpath_items setting (Some o))
      → items_kept setting before ++ along setting objects (loader_by objs) (loader_chain j (loader_by objs) j) ≡ items_kept setting held
  chain_end j x face before held zero_is within is in_table face_is more =
      let o = object_at faces objs objects j x face are within is in_table face_is in
      ap (λ n. items_kept setting before ++ along setting objects (loader_by objs) (loader_chain n (loader_by objs) n)) zero_is
      ∙ kept_last setting objects (loader_by objs) (items_kept setting before) (items_kept setting held) o.0 (ap (slice_get objects) (sym zero_is) ∙ o.1) (more o.0 o.2 o.3)

  pub chain_on : (j : ℕ) (x : Obj) (face : Face) (before held : List HeldItem) → Falls (loader_by objs) (length objs) → 0 < j → j < length objs → x ≡ get_or objs j x → x.face < length faces → face ≡ get_or faces x.face face
      → ((o : Object) → o.path ≡ x.path → o.face ≡ face → items_kept setting held ≡ items_kept setting before ++ rpath_items setting (Some o))
      → items_kept setting before ++ along setting objects (loader_by objs) (loader_chain j (loader_by objs) j) ≡ items_kept setting held ++ along setting objects (loader_by objs) (loader_chain x.loader (loader_by objs) x.loader)
  chain_on j x face before held f some within is in_table face_is more =
      let o = object_at faces objs objects j x face are within is in_table face_is in
      kept_next setting objects (loader_by objs) (length objs) j (items_kept setting before) (items_kept setting held) o.0 f within some o.1 (more o.0 o.2 o.3)
      ∙ ap (λ k. items_kept setting held ++ along setting objects (loader_by objs) (loader_chain k (loader_by objs) k)) (loader_at objs j x within is)

  own_by_runpath : (loader : ℕ → ℕ) (from : ℕ) (o : Object) (runpath : List ℕ) → slice_get objects from ≡ Some o → o.face.runpath ≡ Some runpath
      → items_held setting o.path (Some runpath) ≡ own_items setting objects loader from (slice_get objects from)
  own_by_runpath loader from o runpath at some =
      ap (items_held setting o.path) (sym some)
      ∙ ap (items_by setting objects loader from o) (sym some)
      ∙ sym (ap (own_items setting objects loader from) at)

  pub own_runpath : (from : ℕ) (x : Obj) (face : Face) (runpath : List ℕ) (old held : List HeldItem) → from < length objs → x ≡ get_or objs from x → x.face < length faces → face ≡ get_or faces x.face face → face.runpath ≡ Some runpath → old ≡ []
      → held ≡ old ++ map (λ t. record { folder = folder_of x.path; text = t }) (texts_of runpath)
      → items_kept setting held ≡ own_items setting objects (loader_by objs) from (slice_get objects from)
  own_runpath from x face runpath old held within is in_table face_is some empty more =
      let o = object_at faces objs objects from x face are within is in_table face_is in
      kept_more setting x.path runpath old held more
      ∙ ap (λ h. items_kept setting h ++ items_held setting x.path (Some runpath)) empty
      ∙ ap (λ p. items_held setting p (Some runpath)) (sym o.2)
      ∙ own_by_runpath (loader_by objs) from o.0 runpath o.1 (ap (λ f. f.runpath) o.3 ∙ some)

  pub own_chain : (from : ℕ) (x : Obj) (face : Face) → from < length objs → x ≡ get_or objs from x → x.face < length faces → face ≡ get_or faces x.face face → face.runpath ≡ None
      → chain_items setting objects (loader_by objs) from ≡ own_items setting objects (loader_by objs) from (slice_get objects from)
  own_chain from x face within is in_table face_is none =
      let o = object_at faces objs objects from x face are within is in_table face_is in
      sym (ap (own_items setting objects (loader_by objs) from) o.1
      ∙ ap (items_by setting objects (loader_by objs) from o.0) (ap (λ f. f.runpath) o.3 ∙ none))

-- the face of an object is in the table
pub face_within : (faces : List Face) (objs : List Obj) (j : ℕ) (x : Obj) → All (λ x. x.face < length faces) objs → j < length objs → x ≡ get_or objs j x → x.face < length faces
face_within faces objs j x all within is = subst (λ y. y.face < length faces) (sym is) (All-get_or (λ x. x.face < length faces) objs j x within all)

-- ---- the items of one run path, one after the other

pub item_kept : (mk : List ℕ → HeldItem) (p : List ℕ → Bool) (items : List (Bor (List ℕ))) (i : ℕ) (d : Bor (List ℕ)) (start before after : List HeldItem) → i < length items
    → before ≡ start ++ map mk (filter p (map (λ t. t.now) (take i items))) → after ≡ before ++ map mk (filter p ((get_or items i d).now ∷ []))
    → after ≡ start ++ map mk (filter p (map (λ t. t.now) (take (i + 1) items)))
item_kept mk p items i d start before after within so_far more =
    let texts : List (List ℕ) = map (λ t. t.now) (take i items) in
    let text : List ℕ = (get_or items i d).now in
    more
    ∙ ap (λ b. b ++ map mk (filter p (text ∷ []))) so_far
    ∙ append_assoc start (map mk (filter p texts)) (map mk (filter p (text ∷ [])))
    ∙ ap (λ hs. start ++ hs) (sym (map-append mk (filter p texts) (filter p (text ∷ []))))
    ∙ ap (λ ts. start ++ map mk ts) (sym (filter-append p texts (text ∷ [])))
    ∙ ap (λ ts. start ++ map mk (filter p ts)) (sym (map-append (λ t. t.now) (take i items) (get_or items i d ∷ [])))
    ∙ ap (λ ts. start ++ map mk (filter p (map (λ t. t.now) ts))) (sym (take_more items i d within))
