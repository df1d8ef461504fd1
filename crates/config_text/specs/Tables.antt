-- Keys of a table: those that it may have, those that it must have, and those that it may lack.
-- `prefix` stands before its keys in those that faults name.
use Rattle.std.specs.Prelude.{ℕ, List, [], ◌∷◌, ◌++◌, Bool, cond, codes, bytes_eq, Option, None, Some, Result, Ok, Err, option_map}
use Rattle.std.specs.Cmp.Lexicographic.{slice_cmp}
use Rattle.std.specs.List.{list_any}
use Rattle.std.specs.Ordering.{is_lt, nat_cmp}
use Rattle.toml.specs.Data.{Data, Members, no_members, member, get_member, as_table}
use Rattle.config_text.specs.Faults.{then_read, unless}
use Rattle.config_text.specs.Kinds.{Kind}
use Rattle.config_text.specs.declared.faults.ConfigFault.{ConfigFault}
use Rattle.config_text.specs.declared.faults.ConfigFault.TheVariants.{UnknownKey, MissingKey, WrongKind}

-- ---- keys that are not known

-- The lesser of two keys, byte by byte.
abbrev pub lesser : List ℕ → Option (List ℕ) → List ℕ
lesser key None = key
lesser key (Some other) = cond (is_lt (slice_cmp nat_cmp key other)) key other

abbrev pub is_known : List (List ℕ) → List ℕ → Bool
is_known known key = list_any (bytes_eq key) known

-- The least key of a table that is none of these.
abbrev pub least_unknown : List (List ℕ) → Members → Option (List ℕ)
least_unknown known no_members = None
least_unknown known (member key value others) =
    let more = least_unknown known others in
    cond (is_known known key) more (Some (lesser key more))

unfoldable pub unknown_fault : List (List ℕ) → List ℕ → Members → Option ConfigFault
unknown_fault known prefix members =
    option_map (λ key. UnknownKey (prefix ++ key)) (least_unknown known members)

-- ---- values of keys

-- What a key must have.
abbrev pub demanded : {T : Type 0} → Kind T → List ℕ → Option Data → Result T ConfigFault
demanded kind key None = Err (MissingKey key)
demanded kind key (Some value) = kind key value

unfoldable pub required : {T : Type 0}
    → Kind T → Members → List ℕ → List ℕ → Result T ConfigFault
required kind members prefix name = demanded kind (prefix ++ name) (get_member name members)

-- What a key may have, and what stands for it where it is absent.
abbrev pub given_or : {T : Type 0} → Kind T → T → List ℕ → Option Data → Result T ConfigFault
given_or kind absent key None = Ok absent
given_or kind absent key (Some value) = kind key value

unfoldable pub optional : {T : Type 0}
    → Kind T → T → Members → List ℕ → List ℕ → Result T ConfigFault
optional kind absent members prefix name =
    given_or kind absent (prefix ++ name) (get_member name members)

-- A value, or nothing where the key is absent.
abbrev pub if_any : {T : Type 0} → Kind T → Kind (Option T)
if_any kind key value = then_read (kind key value) (λ it. Ok (Some it))

-- ---- tables in lists

-- What stands before the keys of a table that is an element itself.
abbrev pub inside : List ℕ → List ℕ
inside key = key ++ codes "."

abbrev pub of_table : {T : Type 0}
    → List (List ℕ) → (List ℕ → Members → Result T ConfigFault) → List ℕ → Option Members
    → Result T ConfigFault
of_table known reading key None = Err (WrongKind key)
of_table known reading key (Some members) =
    unless (unknown_fault known (inside key) members) (reading (inside key) members)

-- A table with these keys alone.
unfoldable pub a_table : {T : Type 0}
    → List (List ℕ) → (List ℕ → Members → Result T ConfigFault) → Kind T
a_table known reading key value = of_table known reading key (as_table value)
