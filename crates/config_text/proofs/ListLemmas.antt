-- Elements of a list that are read one after the other.
use Rattle.std.proofs.Common.{◌≡◌, ◌∙◌, ap, sym, refl, rules, arith, ℕ, ◌+◌, ◌<◌, ◌≤◌, List, [], ◌∷◌, ◌++◌, length, drop, get_or, append_assoc}
use Rattle.std.specs.Prelude.{Option, None, Some, Result, Ok, Err}
use Rattle.std.proofs.lemmas.Grind.{common_steps}
use Rattle.answers.specs.Answers.{IsFaultOf}
use Rattle.toml.specs.Data.{Data, Items, no_items, item}
use Rattle.toml.specs.View.{items_view, view}
use Rattle.toml.specs.declared.value.Value.{Value}
use Rattle.toml.proofs.Views.{items_view-drop}
use Rattle.config_text.specs.Faults.{then_read}
use Rattle.config_text.specs.Kinds.{Kind, element_key, elements}
use Rattle.config_text.specs.declared.faults.ConfigFault.{ConfigFault}

-- What was read before, and what comes behind it.
abbrev pub onto : {T : Type 0} → List T → Result (List T) ConfigFault → Result (List T) ConfigFault
onto out (Ok more) = Ok (out ++ more)
onto out (Err fault) = Err fault

-- The first n values are read as these, and the others decide.
pub record IsSoFar {T : Type 0} (kind : Kind T) (key : List ℕ) (values : List Value) (out : List T) (n : ℕ) : Type 0 where
  pub count : length out ≡ n
  pub all : elements kind key 0 (items_view values) ≡ onto out (elements kind key n (items_view (drop n values)))

onto_nothing : {T : Type 0} (r : Result (List T) ConfigFault) → r ≡ onto [] r
onto_nothing (Ok more) = refl
onto_nothing (Err fault) = refl

pub at_first : {T : Type 0} (kind : Kind T) (key : List ℕ) (values : List Value) → IsSoFar kind key values [] 0
at_first kind key values = record { count = refl; all = onto_nothing (elements kind key 0 (items_view values)) }

one_more : {T : Type 0} (out : List T) (x : T) (r : Result (List T) ConfigFault) → onto out (then_read r (λ others. Ok (x ∷ others))) ≡ onto (out ++ x ∷ []) r
one_more out x (Ok more) = ap Ok (sym (append_assoc out (x ∷ []) more))
one_more out x (Err fault) = refl

cut : {T : Type 0} (kind : Kind T) (key : List ℕ) (values : List Value) (n : ℕ) (d : Value) → n < length values
    → elements kind key n (items_view (drop n values)) ≡ then_read (kind (element_key key n) (view (get_or values n d))) (λ first. then_read (elements kind key (n + 1) (items_view (drop (n + 1) values))) (λ others. Ok (first ∷ others)))
cut kind key values n d h = ap (elements kind key n) (items_view-drop values n d h)

taken : {T : Type 0} (read : Result T ConfigFault) (x : T) (rest : Result (List T) ConfigFault) → read ≡ Ok x → then_read read (λ first. then_read rest (λ others. Ok (first ∷ others))) ≡ then_read rest (λ others. Ok (x ∷ others))
taken read x rest h = rw h

pub one_later : {T : Type 0} (kind : Kind T) (key : List ℕ) (values : List Value) (out : List T) (n : ℕ) (d : Value) (x : T) → n < length values → kind (element_key key n) (view (get_or values n d)) ≡ Ok x → IsSoFar kind key values out n → IsSoFar kind key values (out ++ x ∷ []) (n + 1)
one_later kind key values out n d x h e s = record {
  count = let counted : length out ≡ n = s.count in grind (arith, common_steps);
  all = s.all ∙ (ap (onto out) (cut kind key values n d h ∙ taken (kind (element_key key n) (view (get_or values n d))) x (elements kind key (n + 1) (items_view (drop (n + 1) values))) e)
      ∙ one_more out x (elements kind key (n + 1) (items_view (drop (n + 1) values))));
}

refused : {T : Type 0} (read : Result T ConfigFault) (fault : ConfigFault) (rest : Result (List T) ConfigFault) → read ≡ Err fault → then_read read (λ first. then_read rest (λ others. Ok (first ∷ others))) ≡ Err fault
refused read fault rest h = rw h

pub one_fails : {T : Type 0} (said : Option ConfigFault) (kind : Kind T) (key : List ℕ) (values : List Value) (out : List T) (n : ℕ) (d : Value) → n < length values → IsFaultOf said (kind (element_key key n) (view (get_or values n d))) → IsSoFar kind key values out n → IsFaultOf said (elements kind key 0 (items_view values))
one_fails None kind key values out n d h e s = tt
one_fails (Some fault) kind key values out n d h e s =
    s.all ∙ ap (onto out) (cut kind key values n d h ∙ refused (kind (element_key key n) (view (get_or values n d))) fault (elements kind key (n + 1) (items_view (drop (n + 1) values))) e)

nothing_left : {T : Type 0} (kind : Kind T) (key : List ℕ) (n : ℕ) (values : List Value) → values ≡ [] → elements kind key n (items_view values) ≡ Ok []
nothing_left kind key n values h = rw h

pub at_end : {T : Type 0} (kind : Kind T) (key : List ℕ) (values : List Value) (out : List T) (n : ℕ) → drop n values ≡ [] → IsSoFar kind key values out n → elements kind key 0 (items_view values) ≡ Ok out
at_end kind key values out n h s =
    let e : out ++ [] ≡ out = search rules in
    s.all ∙ (ap (onto out) (nothing_left kind key n (drop n values) h) ∙ ap Ok e)
