-- The first text that stood before.
use Rattle.std.proofs.Common.{◌≡◌, ◌∙◌, ap, sym, refl, ℕ, ◌+◌, ◌<◌, Bool, true, false, cond, List, [], ◌∷◌, length, drop, get_or, bytes_eq}
use Rattle.std.specs.Prelude.{Option, None, Some, option_map}
use Rattle.std.specs.List.{list_any}
use Rattle.std.proofs.lemmas.List.{drop_more}
use Rattle.answers.specs.Answers.{Names}
use Rattle.indexmap.specs.IndexSet.{insert_key}
use Rattle.config_text.specs.Reading.{repeated}
use Rattle.config_text.specs.declared.faults.ConfigFault.{ConfigFault}
use Rattle.config_text.specs.declared.faults.ConfigFault.TheVariants.{TwoTargets}

chosen : (b before : Bool) (text : List ℕ) (rest : Option (List ℕ)) → b ≡ before → cond b (Some text) rest ≡ cond before (Some text) rest
chosen b before text rest h = rw h

at_one : (before texts : List (List ℕ)) (n : ℕ) (d : List ℕ) (b : Bool) → n < length texts → list_any (bytes_eq (get_or texts n d)) before ≡ b
    → repeated before (drop n texts) ≡ cond b (Some (get_or texts n d)) (repeated (insert_key bytes_eq before (get_or texts n d)) (drop (n + 1) texts))
at_one before texts n d b h e = ap (repeated before) (drop_more texts n d h) ∙ chosen (list_any (bytes_eq (get_or texts n d)) before) b (get_or texts n d) _ e

pub stood : (said : Option ConfigFault) (before texts : List (List ℕ)) (n : ℕ) (d word other : List ℕ) → n < length texts → word ≡ get_or texts n d → other ≡ get_or texts n d → list_any (bytes_eq word) before ≡ true → repeated [] texts ≡ repeated before (drop n texts) → Names said (Some (TwoTargets other)) → Names said (option_map TwoTargets (repeated [] texts))
stood said before texts n d word other h w o e so_far names =
    let here : list_any (bytes_eq (get_or texts n d)) before ≡ true = ap (λ t. list_any (bytes_eq t) before) (sym w) ∙ e in
    let found : repeated [] texts ≡ Some other = so_far ∙ (at_one before texts n d true h here ∙ ap Some (sym o)) in
    rw found names

pub is_new : (before after texts : List (List ℕ)) (n : ℕ) (d word other : List ℕ) → n < length texts → word ≡ get_or texts n d → other ≡ get_or texts n d → list_any (bytes_eq word) before ≡ false → after ≡ insert_key bytes_eq before other → repeated [] texts ≡ repeated before (drop n texts) → repeated [] texts ≡ repeated after (drop (n + 1) texts)
is_new before after texts n d word other h w o e a so_far =
    let here : list_any (bytes_eq (get_or texts n d)) before ≡ false = ap (λ t. list_any (bytes_eq t) before) (sym w) ∙ e in
    so_far ∙ (at_one before texts n d false h here ∙ ap (λ b. repeated b (drop (n + 1) texts)) (sym (a ∙ ap (insert_key bytes_eq before) o)))
