-- Sets of names, to which names of a list are added one after the other.
use Rattle.std.proofs.Common.{◌≡◌, ◌∙◌, sym, ap, ap₂, refl, ℕ, ◌+◌, ◌<◌, ◌≤◌, ◌||◌, List, [], ◌∷◌, ◌++◌, bytes_eq, get_or, length, map, take, arith}
use Rattle.std.specs.List.{list_any}
use Rattle.std.proofs.Math.Seq.{take-append_seam}
use Rattle.std.proofs.lemmas.List.{map-append, length-append, take_all}
use Rattle.indexmap.specs.IndexSet.{insert_key}
use Rattle.listed_runs.specs.Fitting.{is_on_list}
use Rattle.text_sets.proofs.FoundLemmas.{bytes_eq-sym}
use Rattle.lib_closure.proofs.BuildLemmas.{listed_next}
use Rattle.version_files.proofs.TakenLemmas.{take_next}
use Rattle.name_layout.specs.Sets.{HasNames}

-- A test from either side.
pub any-sym : (name : List ℕ) (xs : List (List ℕ)) → list_any (bytes_eq name) xs ≡ is_on_list xs name
any-sym name [] = refl
any-sym name (x ∷ xs) = ap₂ (λ a b. a || b) (bytes_eq-sym name x) (any-sym name xs)

last_read : (xs : List (List ℕ)) (x : List ℕ) → x ≡ get_or (xs ++ x ∷ []) (length xs) x
last_read [] x = refl
last_read (y ∷ ys) x = last_read ys x

-- One more name.
pub names_more : (names set now : List (List ℕ)) (x : List ℕ) → HasNames set names → now ≡ insert_key bytes_eq set x → HasNames now (names ++ x ∷ [])
names_more names set now x has e = λ name.
    let size : length (names ++ x ∷ []) ≡ length names + 1 = length-append names (x ∷ []) in
    listed_next (names ++ x ∷ []) (length names) x set now (omega arith) (last_read names x)
    (λ n. has n ∙ ap (λ ns. is_on_list ns n) (sym (take-append_seam names (x ∷ [])))) e name
    ∙ ap (λ ns. is_on_list ns name) (take_all (length names + 1) (names ++ x ∷ []) (omega arith))

-- The name of the next element of a list.
pub names_next : {X : Type 0} (f : X → List ℕ) (xs : List X) (i : ℕ) (x : X) (set now : List (List ℕ)) → i < length xs → x ≡ get_or xs i x → HasNames set (map f (take i xs)) → now ≡ insert_key bytes_eq set (f x) → HasNames now (map f (take (i + 1) xs))
names_next f xs i x set now less r has e = λ name.
    names_more (map f (take i xs)) set now (f x) has e name
    ∙ ap (λ ns. is_on_list ns name) (sym (ap (map f) (take_next xs i x less r) ∙ map-append f (take i xs) (x ∷ [])))

-- The names of all elements.
pub names_all : {X : Type 0} (f : X → List ℕ) (xs ys : List X) (names : List (List ℕ)) (i : ℕ) (set : List (List ℕ)) → length xs ≤ i → HasNames set (map f (take i xs)) → xs ≡ ys → map f ys ≡ names → HasNames set names
names_all f xs ys names i set h has e g = λ name.
    has name ∙ ap (λ ns. is_on_list ns name) (ap (map f) (take_all i xs h ∙ e) ∙ g)
