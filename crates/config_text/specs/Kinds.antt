-- The kinds of values, and what each demands. `key` is the key that a fault names.
use Rattle.std.specs.Prelude.{ℕ, List, [], ◌∷◌, ◌++◌, ◌+◌, Bool, ◌&&◌, ◌==◌, not, nat_lt, length, codes, is_some, eqb, Option, None, Some, Result, Ok, Err, ok_or}
use Rattle.std.specs.Fmt.{decimal}
use Rattle.std.specs.List.{ends_with, list_any}
use Rattle.std.specs.Str.{is_utf8}
use Rattle.answers.specs.First.{some_where, value_unless}
use Rattle.path_text.specs.FileName.{is_file_name_text}
use Rattle.path_text.specs.Path.{base_of, path_of}
use Rattle.path_text.specs.Target.{target_fault, target_of}
use Rattle.toml.specs.Data.{Data, as_array, as_str, Items, no_items, item}
use Rattle.config_text.specs.Faults.{or_else, then_read, unless}
use Rattle.config_text.specs.declared.faults.ConfigFault.{ConfigFault}
use Rattle.config_text.specs.declared.faults.ConfigFault.TheVariants.{WrongKind, BadPath, BadName}

-- How values of a kind are read.
abbrev pub Kind : Type 0 → Type 0
Kind T = List ℕ → Data → Result T ConfigFault

-- ---- texts, names, paths

-- A text of any kind.
unfoldable pub a_text : Kind (List ℕ)
a_text key value = ok_or (as_str value) (WrongKind key)

-- A name that a file can be given. A text of a document is UTF-8 always.
abbrev pub is_name_text : List ℕ → Bool
is_name_text text = is_file_name_text text && is_utf8 text

unfoldable pub named : List ℕ → List ℕ → Result (List ℕ) ConfigFault
named key text = value_unless (some_where (not (is_name_text text)) (BadName key text)) text

unfoldable pub a_name : Kind (List ℕ)
a_name key value = then_read (a_text key value) (named key)

-- A text that is read as an absolute path, in normal form.
unfoldable pub a_path : Kind (List ℕ)
a_path key value = then_read (a_text key value) (λ text. or_else (path_of text) (BadPath key))

-- A text that is read as the path of an item in a directory.
unfoldable pub a_target : Kind (List ℕ)
a_target key value = then_read (a_text key value) (λ text. or_else (target_of text) (BadPath key))

-- ---- paths of files with an ending

-- Whether a name ends so, with something before its ending.
abbrev pub is_ended : List ℕ → List ℕ → Bool
is_ended name ending = nat_lt (length ending) (length name) && ends_with eqb name ending

abbrev pub desktop_endings : List (List ℕ)
desktop_endings = codes ".desktop" ∷ []

abbrev pub icon_endings : List (List ℕ)
icon_endings = codes ".png" ∷ codes ".svg" ∷ codes ".xpm" ∷ []

-- Whether a path's last part has one of these endings, and can lie in a directory under its name.
unfoldable pub is_file_of : List (List ℕ) → List ℕ → Bool
is_file_of endings path =
    list_any (is_ended (base_of path)) endings && not (is_some (target_fault (base_of path)))

unfoldable pub a_file : List (List ℕ) → Kind (List ℕ)
a_file endings key value = then_read (a_path key value)
    (λ path. value_unless (some_where (not (is_file_of endings path)) (BadPath key)) path)

-- ---- lists

-- The key of an element of a list, which are counted from 0.
abbrev pub element_key : List ℕ → ℕ → List ℕ
element_key key index = key ++ (codes "." ++ decimal index)

-- The elements from the one of this index on, each of a kind: every fault of one comes before those
-- of the next.
abbrev pub elements : {T : Type 0} → Kind T → List ℕ → ℕ → Items → Result (List T) ConfigFault
elements kind key index no_items = Ok []
elements kind key index (item value values) =
    then_read (kind (element_key key index) value) (λ first.
    then_read (elements kind key (index + 1) values) (λ others.
    Ok (first ∷ others)))

abbrev pub a_list_in : {T : Type 0}
    → Kind T → List ℕ → Option Items → Result (List T) ConfigFault
a_list_in kind key None = Err (WrongKind key)
a_list_in kind key (Some values) = elements kind key 0 values

abbrev pub a_list : {T : Type 0} → Kind T → Kind (List T)
a_list kind key value = a_list_in kind key (as_array value)
