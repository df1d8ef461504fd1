-- What a text is, and what a kind is read as.
use Rattle.std.proofs.Common.{◌≡◌, ◌∙◌, ap, sym, refl}
use Rattle.std.specs.Prelude.{ℕ, List, Bool, true, false, not, ◌&&◌, is_some, Option, None, Some, Result, Ok, Err, ok_or}
use Rattle.answers.specs.First.{some_where, value_unless}
use Rattle.std.specs.List.{list_any}
use Rattle.path_text.specs.Path.{base_of}
use Rattle.path_text.specs.Target.{target_fault}
use Rattle.toml.specs.Data.{Data, as_array, as_str, Items}
use Rattle.config_text.specs.Kinds.{Kind, a_list, a_list_in, a_text, elements, is_ended, is_file_of, is_name_text, named}
use Rattle.config_text.specs.declared.faults.ConfigFault.{ConfigFault}
use Rattle.config_text.specs.declared.faults.ConfigFault.TheVariants.{BadName, BadPath, WrongKind}

pub text_is : (key : List ℕ) (value : Data) (text : List ℕ) → Some text ≡ as_str value → a_text key value ≡ Ok text
unfolding a_text
text_is key value text h = rw (← h)

pub text_lacks : (key : List ℕ) (value : Data) → None ≡ as_str value → a_text key value ≡ Err (WrongKind key)
unfolding a_text
text_lacks key value h = rw (← h)

pub name_is : (key text : List ℕ) → true ≡ is_name_text text → named key text ≡ Ok text
unfolding named
name_is key text h = ap (λ b. value_unless (some_where (not b) (BadName key text)) text) (sym h)

pub name_is_not : (key text : List ℕ) → false ≡ is_name_text text → named key text ≡ Err (BadName key text)
unfolding named
name_is_not key text h = ap (λ b. value_unless (some_where (not b) (BadName key text)) text) (sym h)

pub list_is : {T : Type 0} (kind : Kind T) (key : List ℕ) (value : Data) (values : Items) → Some values ≡ as_array value → a_list kind key value ≡ elements kind key 0 values
list_is kind key value values h = ap (a_list_in kind key) (sym h)

pub list_lacks : {T : Type 0} (kind : Kind T) (key : List ℕ) (value : Data) → None ≡ as_array value → a_list kind key value ≡ Err (WrongKind key)
list_lacks kind key value h = ap (a_list_in kind key) (sym h)

pub file_fits : (endings : List (List ℕ)) (path base : List ℕ) (b : Bool) → b ≡ list_any (is_ended base) endings → base ≡ base_of path → b && not (is_some (target_fault (base_of path))) ≡ is_file_of endings path
unfolding is_file_of
file_fits endings path base b h e = ap (λ b. b && not (is_some (target_fault (base_of path)))) (h ∙ ap (λ n. list_any (is_ended n) endings) e)

pub file_answer : (key : List ℕ) (path : List ℕ) (a b : Bool) → a ≡ b → value_unless (some_where (not b) (BadPath key)) path ≡ value_unless (some_where (not a) (BadPath key)) path
file_answer key path a b h = ap (λ c. value_unless (some_where (not c) (BadPath key)) path) (sym h)
