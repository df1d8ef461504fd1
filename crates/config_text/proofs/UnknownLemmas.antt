-- The first key that is not known is the least one, since keys ascend.
use Rattle.std.proofs.Common.{◌≡◌, ◌∙◌, ap, sym, refl, ℕ, Bool, true, false, cond, List, [], ◌∷◌, ◌++◌, map, Option, Some, None, String, Global, Ordering, Less, string_bytes, nat_cmp, bytes_eq, Bor}
use Rattle.std.specs.Cmp.Lexicographic.{slice_cmp}
use Rattle.std.specs.List.{AllByRecursion, list_any}
use Rattle.std.specs.List.Sorted.{IsStrictlySortedBy}
use Rattle.std.specs.Map.{keys_of}
use Rattle.std.specs.Ordering.{is_lt}
use Rattle.std.specs.String.{string_cmp}
use Rattle.text_sets.proofs.MappedLemmas.{any-map}
use Rattle.toml.proofs.Views.{Entry}
use Rattle.toml.specs.View.{members_view}
use Rattle.config_text.specs.Tables.{is_known, least_unknown, lesser, unknown_fault}
use Rattle.config_text.specs.declared.faults.ConfigFault.{ConfigFault}
use Rattle.config_text.specs.declared.faults.ConfigFault.TheVariants.{UnknownKey}
use Rattle.answers.specs.Answers.{Names}
use Rattle.std.specs.Prelude.{option_map}
use Rattle.toml.specs.Data.{Members}

pub first_in : List (List ℕ) → List (String Global) → Option (List ℕ)
first_in known [] = None
first_in known (key ∷ keys) = cond (is_known known (string_bytes key)) (first_in known keys) (Some (string_bytes key))

pick : (key other more : List ℕ) (b : Bool) → slice_cmp nat_cmp key other ≡ Less → lesser key (Some more) ≡ key → lesser key (Some (cond b other more)) ≡ key
pick key other more true less rest = rw less
pick key other more false less rest = rest

step : (key other : List ℕ) (b : Bool) (more : Option (List ℕ)) → slice_cmp nat_cmp key other ≡ Less → lesser key more ≡ key → lesser key (cond b more (Some (lesser other more))) ≡ key
step key other true more less rest = rest
step key other false None less rest = rw less
step key other false (Some m) less rest = pick key other m (is_lt (slice_cmp nat_cmp other m)) less rest

is_lesser : (known : List (List ℕ)) (key : String Global) (es : List Entry) → AllByRecursion (λ y. string_cmp key y ≡ Less) (keys_of es) → lesser (string_bytes key) (least_unknown known (members_view es)) ≡ string_bytes key
is_lesser known key [] h = refl
is_lesser known key (e ∷ es) h =
    step (string_bytes key) (string_bytes e.0) (is_known known (string_bytes e.0)) (least_unknown known (members_view es)) h.0 (is_lesser known key es h.1)

pub least_is_first : (known : List (List ℕ)) (es : List Entry) → IsStrictlySortedBy string_cmp (keys_of es) → least_unknown known (members_view es) ≡ first_in known (keys_of es)
unfolding IsStrictlySortedBy first_in
least_is_first known [] h = refl
least_is_first known (e ∷ es) h =
    ap (λ k. cond (is_known known (string_bytes e.0)) (least_unknown known (members_view es)) (Some k)) (is_lesser known e.0 es h.0)
    ∙ ap (λ m. cond (is_known known (string_bytes e.0)) m (Some (string_bytes e.0))) (least_is_first known es h.1)

pub passed_over : (known : List (List ℕ)) (key : String Global) (keys : List (String Global)) → is_known known (string_bytes key) ≡ true → first_in known (key ∷ keys) ≡ first_in known keys
unfolding first_in
passed_over known key keys h = rw h

pub found : (known : List (List ℕ)) (key : String Global) (keys : List (String Global)) → is_known known (string_bytes key) ≡ false → first_in known (key ∷ keys) ≡ Some (string_bytes key)
unfolding first_in
found known key keys h = rw h

pub none_left : (known : List (List ℕ)) (keys : List (String Global)) → keys ≡ [] → first_in known keys ≡ None
unfolding first_in
none_left known keys h = rw h

pub known_of : (known : List (Bor (List ℕ))) (name : List ℕ) → list_any (λ k. bytes_eq name k.now) known ≡ is_known (map (λ k. k.now) known) name
known_of known name = sym (any-map (bytes_eq name) (λ k. k.now) known)

pub no_fault : (known : List (List ℕ)) (prefix : List ℕ) (table : Members) → None ≡ least_unknown known table → unknown_fault known prefix table ≡ None
unfolding unknown_fault
no_fault known prefix table h = ap (option_map (λ key. UnknownKey (prefix ++ key))) (sym h)

pub a_fault : (said : Option ConfigFault) (known : List (List ℕ)) (prefix : List ℕ) (table : Members) (name : List ℕ) → Some name ≡ least_unknown known table → Names said (Some (UnknownKey (prefix ++ name))) → Names said (unknown_fault known prefix table)
unfolding unknown_fault
a_fault said known prefix table name h names = rw (← h) names
