-- Names stay names: what texts become can stand in string tables.
use Rattle.std.proofs.Common.{◌≡◌, ◌∙◌, sym, ap, refl, subst, ℕ, zero, suc, List, [], ◌∷◌, ◌++◌, Bool, true, false, cond, ◌&&◌, Option, Some, None, All, bytes_eq, map, position, slice_get, zip}
use Rattle.std.specs.List.{cons_option, filter_map, find, flat_map, list_all}
use Rattle.std.specs.Option.{option_and_then, option_map, option_or, unwrap_or}
use Rattle.std.proofs.lemmas.Bool.{and_parts}
use Rattle.std.proofs.lemmas.List.Folds.{list_all-append}
use Rattle.answers.specs.First.{some_where}
use Rattle.elf_rewrite.specs.NewFile.{is_name_or_none, is_name_text}
use Rattle.lib_closure.specs.Objects.{Occurrence, all_objects, in_same_list, own_asks}
use Rattle.lib_closure.specs.declared.splits.HostLib.{HostLib}
use Rattle.lib_closure.specs.declared.splits.Member.{Member}
use Rattle.lib_closure.specs.declared.splits.Split.{Split}
use Rattle.load_model.proofs.Texts.{text}
use Rattle.load_model.specs.declared.asks.Ask.{Ask}
use Rattle.load_model.specs.declared.faces.Face.{Face}
use Rattle.load_model.specs.declared.runs.Run.{Run}
use Rattle.name_layout.specs.declared.layouts.Layout.{Layout}
use Rattle.object_changes.specs.Changing.{run_path_of_first, run_path_of_libs, run_path_of_others}
use Rattle.object_changes.specs.Fitting.{AreNameTexts}
use Rattle.object_changes.specs.NamedFiles.{NamedFile, all_files_named, asked_name, files_named_at, named_file, tells, told_name}
use Rattle.object_changes.specs.Names.{file_name_of, key_name_of, name_beside, new_name_of}

-- ---- lists

both : (a b : Bool) → a ≡ true → b ≡ true → (a && b) ≡ true
both true b h g = g
both false b h g = cc

cons_all : {Y : Type 0} (p : Y → Bool) (o : Option Y) (ys : List Y) → ((y : Y) → o ≡ Some y → p y ≡ true) → list_all p ys ≡ true → list_all p (cons_option o ys) ≡ true
cons_all p None ys h rest = rest
cons_all p (Some y) ys h rest = both (p y) (list_all p ys) (h y refl) rest

filter_map_all : {X Y : Type 0} (p : Y → Bool) (f : X → Option Y) → ((x : X) (y : Y) → f x ≡ Some y → p y ≡ true) → (xs : List X) → list_all p (filter_map f xs) ≡ true
filter_map_all p f h [] = refl
filter_map_all p f h (x ∷ xs) = cons_all p (f x) (filter_map f xs) (h x) (filter_map_all p f h xs)

flat_map_all : {X Y : Type 0} (p : Y → Bool) (f : X → List Y) → ((x : X) → list_all p (f x) ≡ true) → (xs : List X) → list_all p (flat_map f xs) ≡ true
flat_map_all p f h [] = refl
flat_map_all p f h (x ∷ xs) = list_all-append p (f x) (flat_map f xs) ∙ both (list_all p (f x)) (list_all p (flat_map f xs)) (h x) (flat_map_all p f h xs)

pub mapped_texts : (g : List ℕ → List ℕ) → ((t : List ℕ) → is_name_text t ≡ true → is_name_text (g t) ≡ true) → (xs : List (List ℕ)) → list_all is_name_text xs ≡ true → list_all is_name_text (map g xs) ≡ true
mapped_texts g h [] all = refl
mapped_texts g h (x ∷ xs) all =
    let parts = and_parts (is_name_text x) (list_all is_name_text xs) all in
    both (is_name_text (g x)) (list_all is_name_text (map g xs)) (h x parts.0) (mapped_texts g h xs parts.1)

pub paired_texts : {B : Type 0} (f : (List ℕ × B) → List ℕ) → ((t : List ℕ) (b : B) → is_name_text t ≡ true → is_name_text (f (t, b)) ≡ true) → (xs : List (List ℕ)) (ys : List B) → list_all is_name_text xs ≡ true → list_all is_name_text (map f (zip xs ys)) ≡ true
paired_texts f h [] ys all = refl
paired_texts f h (x ∷ xs) [] all = refl
paired_texts f h (x ∷ xs) (y ∷ ys) all =
    let parts = and_parts (is_name_text x) (list_all is_name_text xs) all in
    both (is_name_text (f (x, y))) (list_all is_name_text (map f (zip xs ys))) (h x y parts.0) (paired_texts f h xs ys parts.1)

-- ---- names that may be there

pub unwrapped_text : (o : Option (List ℕ)) (t : List ℕ) → is_name_or_none o ≡ true → is_name_text t ≡ true → is_name_text (unwrap_or o t) ≡ true
unwrapped_text None t h g = g
unwrapped_text (Some n) t h g = h

and_then_text : {X : Type 0} (f : X → Option (List ℕ)) → ((x : X) → is_name_or_none (f x) ≡ true) → (o : Option X) → is_name_or_none (option_and_then f o) ≡ true
and_then_text f h None = refl
and_then_text f h (Some x) = h x

or_text : (a b : Option (List ℕ)) → is_name_or_none a ≡ true → is_name_or_none b ≡ true → is_name_or_none (option_or a b) ≡ true
or_text None b h g = g
or_text (Some a) b h g = h

got_text : (xs : List (List ℕ)) → list_all is_name_text xs ≡ true → (k : ℕ) → is_name_or_none (slice_get xs k) ≡ true
got_text [] all k = refl
got_text (x ∷ xs) all zero = (and_parts (is_name_text x) (list_all is_name_text xs) all).0
got_text (x ∷ xs) all (suc k) = got_text xs (and_parts (is_name_text x) (list_all is_name_text xs) all).1 k

found_step : {X : Type 0} (f : X → List ℕ) (b : Bool) (x : X) (o : Option X) → is_name_text (f x) ≡ true → is_name_or_none (option_map f o) ≡ true → is_name_or_none (option_map f (cond b (Some x) o)) ≡ true
found_step f true x o h g = h
found_step f false x o h g = g

found_text : {X : Type 0} (f : X → List ℕ) (p : X → Bool) (xs : List X) → list_all (λ x. is_name_text (f x)) xs ≡ true → is_name_or_none (option_map f (find p xs)) ≡ true
found_text f p [] all = refl
found_text f p (x ∷ xs) all =
    let parts = and_parts (is_name_text (f x)) (list_all (λ y. is_name_text (f y)) xs) all in
    found_step f (p x) x (find p xs) parts.0 (found_text f p xs parts.1)

pub where_text : (b : Bool) (t : List ℕ) → is_name_text t ≡ true → is_name_or_none (some_where b t) ≡ true
where_text true t h = h
where_text false t h = refl

pub mapped_name : (g : List ℕ → List ℕ) → ((t : List ℕ) → is_name_text t ≡ true → is_name_text (g t) ≡ true) → (o : Option (List ℕ)) → is_name_or_none o ≡ true → is_name_or_none (option_map g o) ≡ true
mapped_name g h None e = refl
mapped_name g h (Some t) e = h t e

-- ---- run paths

pub first_path_text : is_name_text run_path_of_first ≡ true
first_path_text = rw (text run_path_of_first refl) refl

pub other_path_text : is_name_text run_path_of_others ≡ true
other_path_text = rw (text run_path_of_others refl) refl

pub lib_path_text : is_name_text run_path_of_libs ≡ true
lib_path_text = rw (text run_path_of_libs refl) refl

-- ---- names of objects

told_from : (f : List ℕ → NamedFile) → ((t : List ℕ) → (f t).name ≡ t) → (o : Option (List ℕ)) → is_name_or_none o ≡ true → (n : NamedFile) → option_map f o ≡ Some n → is_name_text n.name ≡ true
told_from f named None h n e = cc
told_from f named (Some t) h n e =
    let same : f t ≡ n = cc in
    ap (λ (m : NamedFile). is_name_text m.name) (sym same) ∙ ap is_name_text (named t) ∙ h

module _ (faces : List Face) (split : Split) (layout : Layout) (texts : AreNameTexts faces split layout) where
  pub new_name_text : (id : List ℕ) → is_name_or_none (new_name_of split layout id) ≡ true
  unfolding new_name_of
  new_name_text id =
      or_text (file_name_of split layout id) (key_name_of split layout id)
      (and_then_text (slice_get layout.libs) (got_text layout.libs texts.names) (position (λ (lib : Member). bytes_eq id lib.id) split.libs))
      (found_text (λ (host : HostLib). host.name) (λ (host : HostLib). bytes_eq id host.id) split.hosts texts.keys)

  pub beside_text : (o : Occurrence) (j : ℕ) → is_name_or_none (name_beside split layout o j) ≡ true
  unfolding name_beside
  beside_text o j = and_then_text (λ (target : Occurrence). new_name_of split layout target.obj.id) (λ target. new_name_text target.obj.id) (in_same_list o j)

  pub asked_text : (o : Occurrence) (number : Option ℕ) → is_name_or_none (option_and_then (name_beside split layout o) number) ≡ true
  asked_text o number = and_then_text (name_beside split layout o) (beside_text o) number

  file_text : (o : Occurrence) (asked : Ask × Option ℕ) (n : NamedFile) → named_file split layout o asked ≡ Some n → is_name_text n.name ≡ true
  file_text o asked n e =
      told_from (λ name. record { asker = o.obj.id; file = asked.0.file; name = name }) (λ t. refl) (asked_name split layout o asked) (asked_text o asked.1) n e

  files_text : (o : Occurrence) → list_all (λ (n : NamedFile). is_name_text n.name) (files_named_at split layout o) ≡ true
  unfolding files_named_at
  files_text o = filter_map_all (λ (n : NamedFile). is_name_text n.name) (named_file split layout o) (file_text o) (own_asks o)

  all_text : (runs : List Run) → list_all (λ (n : NamedFile). is_name_text n.name) (all_files_named split layout faces runs) ≡ true
  unfolding all_files_named
  all_text runs = flat_map_all (λ (n : NamedFile). is_name_text n.name) (files_named_at split layout) files_text (all_objects faces runs)

  pub told_text : (runs : List Run) (asker file : List ℕ) → is_name_or_none (told_name (all_files_named split layout faces runs) asker file) ≡ true
  told_text runs asker file = found_text (λ (n : NamedFile). n.name) (tells asker file) (all_files_named split layout faces runs) (all_text runs)
