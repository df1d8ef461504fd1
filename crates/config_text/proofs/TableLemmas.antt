-- What a key has, where it is there and where it is absent.
use Rattle.std.proofs.Common.{◌≡◌, ◌∙◌, ap, sym, subst, ℕ, List, ◌++◌}
use Rattle.std.specs.Prelude.{Option, None, Some, Result, Ok, Err, codes}
use Rattle.answers.specs.Answers.{Answers, IsFaultOf, Names}
use Rattle.path_text.specs.Path.{base_of}
use Rattle.toml.specs.Data.{Data, Members, get_member, as_table}
use Rattle.config_text.specs.Faults.{said_of_config, unless}
use Rattle.config_text.specs.Kinds.{Kind, a_name, named}
use Rattle.config_text.specs.Parts.{name_given, tool_name}
use Rattle.config_text.proofs.AnswerLemmas.{fails, passes}
use Rattle.config_text.specs.Tables.{a_table, demanded, given_or, inside, of_table, optional, required, unknown_fault}
use Rattle.config_text.specs.declared.faults.ConfigFault.{ConfigFault}
use Rattle.config_text.specs.declared.faults.ConfigFault.TheVariants.{MissingKey, WrongKind}

pub required_is : {T : Type 0} (kind : Kind T) (table : Members) (prefix name key : List ℕ) (value : Data) → key ≡ prefix ++ name → Some value ≡ get_member name table → required kind table prefix name ≡ kind key value
unfolding required
required_is kind table prefix name key value e h = ap (demanded kind (prefix ++ name)) (sym h) ∙ ap (λ k. kind k value) (sym e)

pub required_lacks : {T : Type 0} (kind : Kind T) (table : Members) (prefix name key : List ℕ) → key ≡ prefix ++ name → None ≡ get_member name table → required kind table prefix name ≡ Err (MissingKey key)
unfolding required
required_lacks kind table prefix name key e h = ap (demanded kind (prefix ++ name)) (sym h) ∙ ap (λ k. Err (MissingKey k)) (sym e)

pub optional_is : {T : Type 0} (kind : Kind T) (absent : T) (table : Members) (prefix name key : List ℕ) (value : Data) → key ≡ prefix ++ name → Some value ≡ get_member name table → optional kind absent table prefix name ≡ kind key value
unfolding optional
optional_is kind absent table prefix name key value e h = ap (given_or kind absent (prefix ++ name)) (sym h) ∙ ap (λ k. kind k value) (sym e)

pub optional_lacks : {T : Type 0} (kind : Kind T) (absent : T) (table : Members) (prefix name : List ℕ) → None ≡ get_member name table → optional kind absent table prefix name ≡ Ok absent
unfolding optional
optional_lacks kind absent table prefix name h = ap (given_or kind absent (prefix ++ name)) (sym h)

pub table_is : {T : Type 0} (known : List (List ℕ)) (reading : List ℕ → Members → Result T ConfigFault) (key wanted : List ℕ) (value : Data) (table : Members) → key ≡ wanted → Some table ≡ as_table value → a_table known reading wanted value ≡ of_table known reading key (Some table)
unfolding a_table
table_is known reading key wanted value table e h = ap (of_table known reading wanted) (sym h) ∙ ap (λ k. of_table known reading k (Some table)) (sym e)

pub table_lacks : {T : Type 0} (known : List (List ℕ)) (reading : List ℕ → Members → Result T ConfigFault) (key wanted : List ℕ) (value : Data) → key ≡ wanted → None ≡ as_table value → a_table known reading wanted value ≡ Err (WrongKind key)
unfolding a_table
table_lacks known reading key wanted value e h = ap (of_table known reading wanted) (sym h) ∙ ap (λ k. Err (WrongKind k)) (sym e)

pub inside_goes : {T : Type 0} (result : Result T ConfigFault) (known : List (List ℕ)) (reading : List ℕ → Members → Result T ConfigFault) (key prefix : List ℕ) (table : Members) → prefix ≡ inside key → unknown_fault known prefix table ≡ None → Answers said_of_config result (reading prefix table) → Answers said_of_config result (of_table known reading key (Some table))
inside_goes result known reading key prefix table e h answer =
    subst (λ p. Answers said_of_config result (unless (unknown_fault known p table) (reading p table))) e (passes result (unknown_fault known prefix table) (reading prefix table) h answer)

pub inside_fails : {T : Type 0} (said : Option ConfigFault) (known : List (List ℕ)) (reading : List ℕ → Members → Result T ConfigFault) (key prefix : List ℕ) (table : Members) → prefix ≡ inside key → Names said (unknown_fault known prefix table) → IsFaultOf said (of_table known reading key (Some table))
inside_fails said known reading key prefix table e h =
    subst (λ p. IsFaultOf said (unless (unknown_fault known p table) (reading p table))) e (fails said (unknown_fault known prefix table) (reading prefix table) h)

pub name_is_given : (table : Members) (prefix key path : List ℕ) (value : Data) → key ≡ prefix ++ codes "name" → Some value ≡ get_member (codes "name") table → tool_name prefix table path ≡ a_name key value
unfolding tool_name
name_is_given table prefix key path value e h = ap (λ m. name_given (prefix ++ codes "name") m path) (sym h) ∙ ap (λ k. a_name k value) (sym e)

pub name_is_base : (table : Members) (prefix key path base : List ℕ) → key ≡ prefix ++ codes "name" → None ≡ get_member (codes "name") table → base ≡ base_of path → tool_name prefix table path ≡ named key base
unfolding tool_name
name_is_base table prefix key path base e h b = ap (λ m. name_given (prefix ++ codes "name") m path) (sym h) ∙ (ap (λ k. named k (base_of path)) (sym e) ∙ ap (named key) (sym b))
