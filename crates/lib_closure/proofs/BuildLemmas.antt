-- What the code gathers of a build.
use Rattle.std.proofs.Common.{◌≡◌, ◌∙◌, sym, ap, refl, ℕ, ◌+◌, ◌<◌, ◌||◌, List, [], ◌∷◌, ◌++◌, Bool, true, false, cond, Option, bytes_eq, get_or, length, map, take}
use Rattle.std.specs.List.{cons_option, filter_map, find, flat_map, list_any}
use Rattle.std.specs.Option.{option_map, unwrap_or}
use Rattle.indexmap.specs.IndexSet.{insert_key}
use Rattle.std.proofs.lemmas.Bool.{or_right}
use Rattle.std.proofs.lemmas.List.Folds.{list_any-append}
use Rattle.listed_runs.specs.Fitting.{is_on_list}
use Rattle.load_model.specs.declared.faces.Face.{Face}
use Rattle.load_model.specs.declared.runs.Run.{Run}
use Rattle.lib_closure.specs.Build.{list_of, lists_over}
use Rattle.lib_closure.specs.Firsts.{AreFirsts}
use Rattle.lib_closure.specs.Objects.{Occurrence, all_objects, each_first, first_place_of, first_places, has_id, objects_of, occurrence_at, programs_of}
use Rattle.lib_closure.specs.Seen.{standing}
use Rattle.lib_closure.specs.declared.firsts.Firsts.{Firsts}
use Rattle.lib_closure.specs.declared.seen.LoadList.{LoadList}
use Rattle.lib_closure.specs.declared.seen.Seen.{Seen}
use Rattle.version_files.proofs.TakenLemmas.{take_next}
use Rattle.load_model.proofs.TwoWorlds.{same_bytes}
use Rattle.text_sets.proofs.FoundLemmas.{bytes_eq-sym}

or_false : (b : Bool) → (b || false) ≡ b
or_false true = refl
or_false false = refl

-- ---- the first place of an object

pub first_found : (faces : List Face) (runs : List Run) (firsts : Firsts) (o : Occurrence) (found : Option Seen) → AreFirsts firsts (first_places faces runs) → option_map standing found ≡ find (has_id o.obj.id) (map standing firsts.seen.items) → unwrap_or (option_map standing found) o ≡ first_place_of faces runs o
unfolding first_place_of
first_found faces runs firsts o found are h = ap (λ r. unwrap_or r o) (h ∙ ap (find (has_id o.obj.id)) are.seen)

-- ---- load lists

flat_over : {X Y A : Type 0} (f : X → Y) (g : Y → List A) (xs : List X) → flat_map g (map f xs) ≡ flat_map (λ x. g (f x)) xs
flat_over f g [] = refl
flat_over f g (x ∷ xs) = ap (λ ys. g (f x) ++ ys) (flat_over f g xs)

filter_over : {X Y A : Type 0} (f : X → Y) (g : Y → Option A) (xs : List X) → filter_map g (map f xs) ≡ filter_map (λ x. g (f x)) xs
filter_over f g [] = refl
filter_over f g (x ∷ xs) = ap (cons_option (g (f x))) (filter_over f g xs)

pub objects_of_lists : (faces : List Face) (runs : List Run) (lists : List LoadList) → map list_of lists ≡ lists_over faces runs → flat_map (λ (list : LoadList). objects_of list.faces.now list.run.now) lists ≡ all_objects faces runs
unfolding all_objects
objects_of_lists faces runs lists h =
    sym (flat_over list_of (λ p. objects_of p.0 p.1) lists) ∙ ap (flat_map (λ p. objects_of p.0 p.1)) h
    ∙ flat_over (λ run. (faces, run)) (λ p. objects_of p.0 p.1) runs

pub programs_of_lists : (faces : List Face) (runs : List Run) (lists : List LoadList) → map list_of lists ≡ lists_over faces runs → filter_map (λ (list : LoadList). occurrence_at list.faces.now list.run.now 0) lists ≡ programs_of faces runs
unfolding programs_of
programs_of_lists faces runs lists h =
    sym (filter_over list_of (λ p. occurrence_at p.0 p.1 0) lists) ∙ ap (filter_map (λ p. occurrence_at p.0 p.1 0)) h
    ∙ filter_over (λ run. (faces, run)) (λ p. occurrence_at p.0 p.1 0) runs

-- ---- the host list

-- A text that equals one of a list stands for it.
there_already : (name text : List ℕ) (texts : List (List ℕ)) (b : Bool) → bytes_eq text name ≡ b → list_any (bytes_eq text) texts ≡ true → list_any (bytes_eq name) texts ≡ (list_any (bytes_eq name) texts || b)
there_already name text texts true h there =
    let here : list_any (bytes_eq name) texts ≡ true = ap (λ t. list_any (bytes_eq t) texts) (sym (same_bytes text name h)) ∙ there in
    here ∙ sym (or_right (list_any (bytes_eq name) texts) true refl)
there_already name text texts false h there = sym (or_false (list_any (bytes_eq name) texts))

joined_by : (name text : List ℕ) (texts : List (List ℕ)) (b : Bool) → list_any (bytes_eq text) texts ≡ b → list_any (bytes_eq name) (cond b texts (texts ++ text ∷ [])) ≡ (list_any (bytes_eq name) texts || bytes_eq text name)
joined_by name text texts true h = there_already name text texts (bytes_eq text name) refl h
joined_by name text texts false h =
    list_any-append (bytes_eq name) texts (text ∷ [])
    ∙ ap (λ c. list_any (bytes_eq name) texts || c) (or_false (bytes_eq name text) ∙ bytes_eq-sym name text)

-- A name that joined the list is there.
joined_any : (name text : List ℕ) (texts : List (List ℕ)) → list_any (bytes_eq name) (insert_key bytes_eq texts text) ≡ (list_any (bytes_eq name) texts || bytes_eq text name)
joined_any name text texts = joined_by name text texts (list_any (bytes_eq text) texts) refl

pub listed_next : (names : List (List ℕ)) (i : ℕ) (x : List ℕ) (was now : List (List ℕ)) → i < length names → x ≡ get_or names i x → ((name : List ℕ) → list_any (bytes_eq name) was ≡ is_on_list (take i names) name) → now ≡ insert_key bytes_eq was x → (name : List ℕ) → list_any (bytes_eq name) now ≡ is_on_list (take (i + 1) names) name
listed_next names i x was now less r h e name =
    ap (list_any (bytes_eq name)) e ∙ joined_any name x was
    ∙ ap (λ b. b || bytes_eq x name) (h name)
    ∙ ap (λ c. is_on_list (take i names) name || c) (sym (or_false (bytes_eq x name)))
    ∙ sym (list_any-append (λ n. bytes_eq n name) (take i names) (x ∷ []))
    ∙ ap (λ ns. is_on_list ns name) (sym (take_next names i x less r))

-- ---- objects at their first places

pub firsts_over : (firsts : Firsts) (items seen : List Seen) (os : List Occurrence) → AreFirsts firsts (each_first [] (map standing seen)) → seen ≡ items → map standing items ≡ os → AreFirsts firsts (each_first [] os)
firsts_over firsts items seen os are h e =
    let all : map standing seen ≡ os = ap (map standing) h ∙ e in
    record { seen = are.seen ∙ ap (each_first []) all; ids = are.ids ∙ ap (λ xs. map (λ (o : Occurrence). o.obj.id) (each_first [] xs)) all }
