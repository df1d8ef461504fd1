-- What is read is ready for a build.
use Rattle.std.proofs.Common.{◌≡◌, ◌∙◌, ap, sym, subst, refl, arith, ℕ, ◌+◌, ◌-◌, Bool, true, false, ◌&&◌, ◌||◌, ◌==◌, eqb, List, [], ◌∷◌, ◌++◌, drop, length, nat_lt, suc, zero}
use Rattle.std.specs.Prelude.{Option, None, Some, Result, Ok, Err, All, IsUtf8, codes, not, is_some}
use Rattle.std.specs.List.{ends_with, list_all, list_any}
use Rattle.std.specs.Str.{is_utf8}
use Rattle.std.specs.Cmp.Lexicographic.{pointwise}
use Rattle.std.proofs.lemmas.Bool.{and_parts, false≢true}
use Rattle.std.proofs.lemmas.Bool.Decides.{nat_tests}
use Rattle.std.proofs.lemmas.List.Elements.{All-cons, All-nil}
use Rattle.std.proofs.lemmas.Str.{IsUtf8-from_is_utf8}
use Rattle.answers.specs.First.{some_where, value_unless}
use Rattle.app_config.specs.Names.{default_names}
use Rattle.app_config.specs.Ready.{AreTogether, HasEnding, IsNamed, IsNameText, IsPlaceable, OpensNames}
use Rattle.load_model.proofs.Texts.{text}
use Rattle.path_text.specs.FileName.{is_file_name_text}
use Rattle.path_text.specs.Path.{IsNormalPath, base_of, path_of}
use Rattle.path_text.specs.Target.{target_fault}
use Rattle.path_text.proofs.NameLemmas.{IsFileName-from_test}
use Rattle.path_text.proofs.PathLemmas.{IsNormalPath-path_of}
use Rattle.path_text.specs.declared.absolute.PathFault.{PathFault}
use Rattle.path_text.specs.declared.relative.RelFault.{RelFault}
use Rattle.toml.specs.Data.{Data, Items, no_items, item, Members, as_array, as_table, get_member}
use Rattle.config_text.specs.Faults.{or_else, then_read, unless}
use Rattle.config_text.specs.Kinds.{Kind, a_file, a_list, a_list_in, a_name, a_path, a_text, element_key, elements, icon_endings, desktop_endings, is_ended, is_file_of, is_name_text, named}
use Rattle.config_text.specs.Tables.{a_table, demanded, given_or, inside, of_table, optional, required, unknown_fault}
use Rattle.config_text.specs.declared.faults.ConfigFault.{ConfigFault}
use Rattle.config_text.specs.declared.faults.ConfigFault.TheVariants.{BadName, BadPath}

-- ---- steps

-- The value that came first, where all is a value.
pub came : {S T : Type 0} (first : Result S ConfigFault) (next : S → Result T ConfigFault) (t : T) → then_read first next ≡ Ok t → (s : S) × (first ≡ Ok s) × (next s ≡ Ok t)
came (Ok s) next t h = (s, refl, h)
came (Err fault) next t h = absurd (cc)

pub no_fault : {T : Type 0} (fault : Option ConfigFault) (next : Result T ConfigFault) (t : T) → unless fault next ≡ Ok t → next ≡ Ok t
no_fault None next t h = h
no_fault (Some fault) next t h = absurd (cc)

pub same_value : {T : Type 0} (a b : T) → ◌≡◌ {A = Result T ConfigFault} (Ok a) (Ok b) → a ≡ b
same_value a b h = cc

-- ---- what is true of all values of a kind

unfoldable pub Gives : {T : Type 0} → Kind T → (T → Type 0) → Type 0
Gives {T} kind P = (key : List ℕ) (value : Data) (t : T) → kind key value ≡ Ok t → P t

pub each_given : {T : Type 0} (kind : Kind T) (P : T → Type 0) (gives : Gives kind P) (key : List ℕ) (n : ℕ) (values : Items) (out : List T) → elements kind key n values ≡ Ok out → All P out
unfolding Gives
each_given {T} kind P gives key n no_items out h = subst (λ o. All P o) (same_value [] out h) (All-nil P)
each_given {T} kind P gives key n (item value values) out h =
    let a = came (kind (element_key key n) value) (λ first. then_read (elements kind key (n + 1) values) (λ others. Ok (first ∷ others))) out h in
    let b = came (elements kind key (n + 1) values) (λ others. Ok (a.0 ∷ others)) out a.2 in
    subst (λ o. All P o) (same_value (a.0 ∷ b.0) out b.2)
    (All-cons P a.0 b.0 (gives (element_key key n) value a.0 a.1) (each_given kind P gives key (n + 1) values b.0 b.1))

list_gives_in : {T : Type 0} (kind : Kind T) (P : T → Type 0) (gives : Gives kind P) (key : List ℕ) (values : Option Items) (out : List T) → a_list_in kind key values ≡ Ok out → All P out
list_gives_in kind P gives key None out h = absurd (cc)
list_gives_in kind P gives key (Some values) out h = each_given kind P gives key 0 values out h

pub list_gives : {T : Type 0} (kind : Kind T) (P : T → Type 0) → Gives kind P → Gives (a_list kind) (All P)
unfolding Gives
list_gives kind P gives key value out h = list_gives_in kind P gives key (as_array value) out h

optional_in : {T : Type 0} (kind : Kind T) (P : T → Type 0) (absent : T) (key : List ℕ) (value : Option Data) (t : T) → P absent → Gives kind P → given_or kind absent key value ≡ Ok t → P t
unfolding Gives
optional_in kind P absent key None t p gives h = subst P (same_value absent t h) p
optional_in kind P absent key (Some value) t p gives h = gives key value t h

pub optional_gives : {T : Type 0} (kind : Kind T) (P : T → Type 0) (absent : T) (table : Members) (prefix name : List ℕ) (t : T) → P absent → Gives kind P → optional kind absent table prefix name ≡ Ok t → P t
unfolding optional
optional_gives kind P absent table prefix name t p gives h = optional_in kind P absent (prefix ++ name) (get_member name table) t p gives h

required_in : {T : Type 0} (kind : Kind T) (P : T → Type 0) (key : List ℕ) (value : Option Data) (t : T) → Gives kind P → demanded kind key value ≡ Ok t → P t
unfolding Gives
required_in kind P key None t gives h = absurd (cc)
required_in kind P key (Some value) t gives h = gives key value t h

pub required_gives : {T : Type 0} (kind : Kind T) (P : T → Type 0) (table : Members) (prefix name : List ℕ) (t : T) → Gives kind P → required kind table prefix name ≡ Ok t → P t
unfolding required
required_gives kind P table prefix name t gives h = required_in kind P (prefix ++ name) (get_member name table) t gives h

table_gives_in : {T : Type 0} (known : List (List ℕ)) (reading : List ℕ → Members → Result T ConfigFault) (P : T → Type 0) (gives : (prefix : List ℕ) (table : Members) (t : T) → reading prefix table ≡ Ok t → P t) (key : List ℕ) (table : Option Members) (t : T) → of_table known reading key table ≡ Ok t → P t
table_gives_in known reading P gives key None t h = absurd (cc)
table_gives_in known reading P gives key (Some table) t h = gives (inside key) table t (no_fault (unknown_fault known (inside key) table) (reading (inside key) table) t h)

pub table_gives : {T : Type 0} (known : List (List ℕ)) (reading : List ℕ → Members → Result T ConfigFault) (P : T → Type 0) → ((prefix : List ℕ) (table : Members) (t : T) → reading prefix table ≡ Ok t → P t) → Gives (a_table known reading) P
unfolding Gives a_table
table_gives known reading P gives key value t h = table_gives_in known reading P gives key (as_table value) t h

-- ---- names

named_in : (fault : ConfigFault) (text name : List ℕ) (b : Bool) → is_name_text text ≡ b → value_unless (some_where (not b) fault) text ≡ Ok name → IsNameText name
named_in fault text name true e h =
    let both = and_parts (is_file_name_text text) (is_utf8 text) e in
    subst (λ n. IsNameText n) (same_value text name h) (IsFileName-from_test text both.0, IsUtf8-from_is_utf8 text both.1)
named_in fault text name false e h = absurd (cc)

pub named_gives : (key text name : List ℕ) → named key text ≡ Ok name → IsNameText name
unfolding named
named_gives key text name h = named_in (BadName key text) text name (is_name_text text) refl h

pub name_gives : Gives a_name (λ name. IsNameText name)
unfolding Gives a_name
name_gives key value name h =
    let a = came (a_text key value) (named key) name h in
    named_gives key a.0 name a.2

all_ascii : List ℕ → Bool
all_ascii name = list_all (λ c. nat_lt c 128) name

all_names : (names : List (List ℕ)) → list_all is_file_name_text names ≡ true → list_all all_ascii names ≡ true → All (λ name. IsNameText name) names
unfolding all_ascii
all_names [] h u = All-nil (λ name. IsNameText name)
all_names (name ∷ names) h u =
    let both = and_parts (is_file_name_text name) (list_all is_file_name_text names) h in
    let also = and_parts (list_all (λ c. nat_lt c 128) name) (list_all all_ascii names) u in
    All-cons (λ n. IsNameText n) name names (IsFileName-from_test name both.0, IsUtf8-from_is_utf8 name (text name also.0)) (all_names names both.1 also.1)

default_ascii : list_all all_ascii default_names ≡ true
unfolding all_ascii
default_ascii = refl

pub default_are : All (λ name. IsNameText name) default_names
default_are = all_names default_names refl default_ascii

pub none_are : All (λ name. IsNameText name) []
none_are = All-nil (λ name. IsNameText name)

-- ---- paths

path_in : (fault : ConfigFault) (text path : List ℕ) (read : Result (List ℕ) PathFault) → path_of text ≡ read → or_else read fault ≡ Ok path → IsNormalPath path
path_in fault text path (Ok found) e h = IsNormalPath-path_of text path (e ∙ ap Ok (same_value found path h))
path_in fault text path (Err other) e h = absurd (cc)

pub path_gives : Gives a_path IsNormalPath
unfolding Gives a_path
path_gives key value path h =
    let a = came (a_text key value) (λ text. or_else (path_of text) (BadPath key)) path h in
    path_in (BadPath key) a.0 path (path_of a.0) refl a.2

-- ---- files with an ending

absent_fault : (fault : Option RelFault) → not (is_some fault) ≡ true → fault ≡ None
absent_fault None h = refl
absent_fault (Some fault) h = absurd (false≢true h)

file_in : (fault : ConfigFault) (endings : List (List ℕ)) (path found : List ℕ) (b : Bool) → is_file_of endings path ≡ b → value_unless (some_where (not b) fault) path ≡ Ok found → is_file_of endings found ≡ true
file_in fault endings path found true e h = subst (λ p. is_file_of endings p ≡ true) (same_value path found h) e
file_in fault endings path found false e h = absurd (cc)

pub file_gives : (endings : List (List ℕ)) → Gives (a_file endings) (λ path. is_file_of endings path ≡ true)
unfolding Gives a_file
file_gives endings key value path h =
    let a = came (a_path key value) (λ p. value_unless (some_where (not (is_file_of endings p)) (BadPath key)) p) path h in
    file_in (BadPath key) endings a.0 path (is_file_of endings a.0) refl a.2

pub file_lies : (endings : List (List ℕ)) (path : List ℕ) → is_file_of endings path ≡ true → IsPlaceable path
unfolding is_file_of
file_lies endings path h = absent_fault (target_fault (base_of path)) (and_parts (list_any (is_ended (base_of path)) endings) (not (is_some (target_fault (base_of path)))) h).1

or_else_true : (a b : Bool) → b ≡ true → a || b ≡ true
or_else_true true b h = refl
or_else_true false b h = h

any_behind : (p : ℕ → Bool) (n : ℕ) (xs : List ℕ) → list_any p (drop n xs) ≡ true → list_any p xs ≡ true
any_behind p zero xs h = h
any_behind p (suc n) [] h = h
any_behind p (suc n) (x ∷ xs) h = or_else_true (p x) (list_any p xs) (any_behind p n xs h)

dot_first : (c : ℕ) (others : Bool) → eqb 46 c ≡ true → (c == 46) || others ≡ true
dot_first c others h = grind (arith, nat_tests)

dot_in : (rest text : List ℕ) → pointwise eqb (46 ∷ rest) text ≡ true → list_any (λ c. c == 46) text ≡ true
dot_in rest [] h = absurd (false≢true h)
dot_in rest (c ∷ text) h = dot_first c (list_any (λ d. d == 46) text) (and_parts (eqb 46 c) (pointwise eqb rest text) h).0

ended_dot : (name rest : List ℕ) → is_ended name (46 ∷ rest) ≡ true → list_any (λ c. c == 46) name ≡ true
ended_dot name rest h =
    any_behind (λ c. c == 46) (length name - length (46 ∷ rest)) name
    (dot_in rest (drop (length name - length (46 ∷ rest)) name) (and_parts (nat_lt (length (46 ∷ rest)) (length name)) (ends_with eqb name (46 ∷ rest)) h).1)

one_of : (name : List ℕ) (a b c : Bool) → (a ≡ true → list_any (λ d. d == 46) name ≡ true) → (b ≡ true → list_any (λ d. d == 46) name ≡ true) → (c ≡ true → list_any (λ d. d == 46) name ≡ true) → a || (b || (c || false)) ≡ true → list_any (λ d. d == 46) name ≡ true
one_of name true b c f g k h = f refl
one_of name false true c f g k h = g refl
one_of name false false true f g k h = k refl
one_of name false false false f g k h = absurd (false≢true h)

pub icon_ends : (path : List ℕ) → is_file_of icon_endings path ≡ true → HasEnding path
unfolding is_file_of
icon_ends path h =
    let name = base_of path in
    one_of name (is_ended name (codes ".png")) (is_ended name (codes ".svg")) (is_ended name (codes ".xpm")) (ended_dot name (codes "png")) (ended_dot name (codes "svg")) (ended_dot name (codes "xpm"))
    (and_parts (list_any (is_ended name) icon_endings) (not (is_some (target_fault name))) h).0
