-- The candidates of a file name: without run paths those of the listed directories, each of them joined with the name.
use Rattle.std.proofs.Common.{option_map, ◌≡◌, ◌≢◌, ◌∙◌, sym, ap, refl, ℕ, zero, suc, List, [], ◌∷◌, ◌++◌, false, cond, Option, Some, None, length, map, slice_get, subst, ◌⊎◌, inl, inr, ◌==◌}
use Rattle.std.specs.Prelude.{All, IsUtf8}
use Rattle.std.specs.List.{flat_map, list_any}
use Rattle.std.specs.Str.{is_utf8}
use Rattle.std.proofs.lemmas.Bool.{cases_Bool, ne_eqb}
use Rattle.std.proofs.lemmas.List.Elements.{All-head, All-tail, All-weaker}
use Rattle.std.proofs.lemmas.List.Folds.{list_any_none}
use Rattle.std.proofs.lemmas.Option.{slice_get-map}
use Rattle.std.proofs.lemmas.Str.{IsUtf8-from_is_utf8}
use Rattle.path_text.specs.FileName.{IsFileName, IsNameByte}
use Rattle.path_text.specs.Path.{IsNormalPath, begins_at_root, path_of}
use Rattle.path_text.proofs.PathLemmas.{not_utf8}
use Rattle.load_model.specs.Candidates.{At, candidate_at, candidate_in, candidates, loader_chain, items_by, listed_candidates, listed_items, own_items, refused_text, rpath_items, search_items}
use Rattle.load_model.specs.Joined.{joined}
use Rattle.load_model.specs.LoadList.{Object, Request}
use Rattle.load_model.specs.RunPaths.{Folder}
use Rattle.load_model.specs.declared.setting.Setting.{Setting}
use Rattle.load_model.proofs.Joined.{not_joined}
use Rattle.load_model.proofs.JoinedLemmas.{joined_is}
use Rattle.load_model.specs.SameNames.{HasNoRunPath}

pub all_at : {A : Type 0} (P : A → Type 0) (xs : List A) (i : ℕ) (x : A) → All P xs → slice_get xs i ≡ Some x → P x
all_at P [] i x p h = cc
all_at P (y ∷ ys) zero x p h = let e : y ≡ x = cc in subst P e (All-head P y ys p)
all_at P (y ∷ ys) (suc i) x p h = all_at P ys i x (All-tail P y ys p) h

pub mapped_at : {A B : Type 0} (f : A → B) (xs : List A) (k : ℕ) (y : B) → slice_get (map f xs) k ≡ Some y → (x : A) × (slice_get xs k ≡ Some x) × (y ≡ f x)
mapped_at f [] k y h = cc
mapped_at f (x ∷ xs) zero y h = (x, refl, let e : f x ≡ y = cc in sym e)
mapped_at f (x ∷ xs) (suc k) y h = mapped_at f xs k y h

pub at_mapped : {A B : Type 0} (f : A → B) (xs : List A) (k : ℕ) (x : A) → slice_get xs k ≡ Some x → slice_get (map f xs) k ≡ Some (f x)
at_mapped f xs k x h = slice_get-map f xs k ∙ ap (option_map f) h

flat_nil : {A B : Type 0} (f : A → List B) (xs : List A) → ((x : A) → f x ≡ []) → flat_map f xs ≡ []
flat_nil f [] h = refl
flat_nil f (x ∷ xs) h = ap (λ ys. ys ++ flat_map f xs) (h x) ∙ flat_nil f xs h

not_rooted : (name : List ℕ) → IsFileName name → begins_at_root name ≡ false
not_rooted [] h = refl
not_rooted (c ∷ name) h = let b : IsNameByte c = All-head IsNameByte c name h.bytes in ne_eqb c 47 b.0

no_byte : (name : List ℕ) (b : ℕ) → ((c : ℕ) → IsNameByte c → c ≢ b) → IsFileName name → list_any (λ c. c == b) name ≡ false
no_byte name b other h = list_any_none (λ c. c == b) name (All-weaker IsNameByte (λ c. (c == b) ≡ false) (λ c n. ne_eqb c b (other c n)) name h.bytes)

-- a file name is neither refused by its text nor a path
pub plain_text : (objs : List Object) (r : Request) → IsFileName r.name → refused_text objs r ≡ None
unfolding refused_text
plain_text objs r h = rw (no_byte r.name 36 (λ c b. b.1) h, not_rooted r.name h, no_byte r.name 47 (λ c b. b.0) h) refl

module _ (setting : Setting) where
  -- without run paths there are no items but those of the listed directories
  no_rpath : (o : Option Object) → ((x : Object) → o ≡ Some x → HasNoRunPath x) → rpath_items setting o ≡ []
  no_rpath None h = refl
  no_rpath (Some o) h = let w = h o refl in rw (w.runpath, w.rpath) refl

  no_own : (objs : List Object) (loader : ℕ → ℕ) (j : ℕ) (o : Option Object) → ((k : ℕ) (x : Object) → slice_get objs k ≡ Some x → HasNoRunPath x) → ((x : Object) → o ≡ Some x → HasNoRunPath x) → own_items setting objs loader j o ≡ []
  no_own objs loader j None all h = refl
  no_own objs loader j (Some o) all h =
      ap (items_by setting objs loader j o) (h o refl).runpath
      ∙ flat_nil (λ k. rpath_items setting (slice_get objs k)) (loader_chain (length objs) loader j) (λ k. no_rpath (slice_get objs k) (λ x g. all k x g))

  pub only_listed : (objs : List Object) (loader : ℕ → ℕ) (r : Request) → ((k : ℕ) (x : Object) → slice_get objs k ≡ Some x → HasNoRunPath x) → IsFileName r.name → candidates setting objs loader r ≡ listed_candidates setting r.name
  unfolding candidates search_items listed_candidates
  only_listed objs loader r all h =
      ap (λ b. cond b (candidate_at (path_of r.name)) (flat_map (candidate_in r.name) (own_items setting objs loader r.by (slice_get objs r.by) ++ listed_items setting))) (not_rooted r.name h)
      ∙ ap (λ is. flat_map (candidate_in r.name) (is ++ listed_items setting)) (no_own objs loader r.by (slice_get objs r.by) all (λ x g. all r.by x g))

listed_at : (dirs : List (List ℕ)) (name : List ℕ) → All IsNormalPath dirs → IsFileName name → IsUtf8 name → flat_map (candidate_in name) (map (λ dir. Folder dir) dirs) ≡ map (λ dir. At (joined dir name)) dirs
listed_at [] name d h utf8 = refl
listed_at (dir ∷ dirs) name d h utf8 =
    ap (λ p. candidate_at p ++ flat_map (candidate_in name) (map (λ dir. Folder dir) dirs)) (joined_is dir name (All-head IsNormalPath dir dirs d) h utf8)
    ∙ ap (λ cs. At (joined dir name) ∷ cs) (listed_at dirs name (All-tail IsNormalPath dir dirs d) h utf8)

listed_none : (dirs : List (List ℕ)) (name : List ℕ) → All IsNormalPath dirs → IsFileName name → (IsUtf8 name → ⊥) → flat_map (candidate_in name) (map (λ dir. Folder dir) dirs) ≡ []
listed_none [] name d h odd = refl
listed_none (dir ∷ dirs) name d h odd =
    ap (λ p. candidate_at p ++ flat_map (candidate_in name) (map (λ dir. Folder dir) dirs)) (not_joined dir name (All-head IsNormalPath dir dirs d) h odd)
    ∙ listed_none dirs name (All-tail IsNormalPath dir dirs d) h odd

-- the candidates of a name in the listed directories, or none where the name is no text
pub listed_cases : (setting : Setting) (name : List ℕ) → All IsNormalPath setting.dirs → IsFileName name → (listed_candidates setting name ≡ map (λ dir. At (joined dir name)) setting.dirs) ⊎ (listed_candidates setting name ≡ [])
unfolding listed_candidates
listed_cases setting name d h =
    elim (cases_Bool (is_utf8 name)) [
      | inl t ↦ inl (listed_at setting.dirs name d h (IsUtf8-from_is_utf8 name t))
      | inr f ↦ inr (listed_none setting.dirs name d h (not_utf8 name f))
    ]
