-- References that are counted one after the other.
use Rattle.std.proofs.Common.{◌≡◌, ◌∙◌, sym, ap, subst, ℕ, ◌+◌, ◌<◌, List, [], ◌∷◌, ◌++◌, Bool, filter, get_or, length, take, zip, arith}
use Rattle.std.specs.Prelude.{is_some}
use Rattle.std.specs.List.{flat_map}
use Rattle.std.proofs.lemmas.List.{append-nil, length-append, take_more}
use Rattle.std.proofs.lemmas.List.Concat.{flat_map-append}
use Rattle.std.proofs.lemmas.List.Elements.{filter-append}
use Rattle.load_model.specs.declared.runs.Bind.{Bind}
use Rattle.load_model.specs.declared.runs.Replay.{Replay}
use Rattle.build_texts.specs.Counting.{HasCounted}
use Rattle.build_texts.specs.Texts.{is_reported, reported_of}
use Rattle.build_texts.proofs.PlaceLemmas.{pair_taken}
use Rattle.build_texts.specs.declared.counts.Counts.{Counts}

abbrev is_bound : Bind → Bool
is_bound bind = is_some bind.to

pub counted_more : (a b c : Counts) (xs ys : List Bind) → HasCounted a b xs → HasCounted b c ys → HasCounted a c (xs ++ ys)
counted_more a b c xs ys first then = record {
  references = let all = length-append xs ys in let one = first.references in let two = then.references in omega (arith, all, one, two);
  bound =
      let all = ap length (filter-append is_bound xs ys) ∙ length-append (filter is_bound xs) (filter is_bound ys) in
      let one = first.bound in let two = then.bound in omega (arith, all, one, two);
}

-- one reference more of a load list
pub bind_counted : (a b c : Counts) (places : List (List ℕ)) (binds : List Bind) (i : ℕ) (bind : Bind) → i < length binds → bind ≡ get_or binds i bind → HasCounted a b (filter (is_reported places) (take i binds)) → HasCounted b c (filter (is_reported places) (bind ∷ [])) → HasCounted a c (filter (is_reported places) (take (i + 1) binds))
bind_counted a b c places binds i bind less named first then =
    let p : Bind → Bool = is_reported places in
    let front : take (i + 1) binds ≡ take i binds ++ bind ∷ [] = take_more binds i bind less ∙ ap (λ x. take i binds ++ x ∷ []) (sym named) in
    subst (λ xs. HasCounted a c xs) (sym (ap (filter p) front ∙ filter-append p (take i binds) (bind ∷ [])))
    (counted_more a b c (filter p (take i binds)) (filter p (bind ∷ [])) first then)

abbrev counted_so_far : List Replay → List (List (List ℕ)) → ℕ → List Bind
counted_so_far replays places i = flat_map reported_of (zip (take i replays) (take i places))

-- one load list more
pub program_counted : (a b c : Counts) (replays : List Replay) (places : List (List (List ℕ))) (i : ℕ) (replay : Replay) (place : List (List ℕ)) → i < length replays → i < length places → replay ≡ get_or replays i replay → place ≡ get_or places i place → HasCounted a b (flat_map reported_of (zip (take i replays) (take i places))) → HasCounted b c (filter (is_reported place) replay.binds) → HasCounted a c (flat_map reported_of (zip (take (i + 1) replays) (take (i + 1) places)))
program_counted a b c replays places i replay place less below named beside first then =
    let front : zip (take (i + 1) replays) (take (i + 1) places) ≡ zip (take i replays) (take i places) ++ (replay, place) ∷ [] = pair_taken replays places i replay place less below named beside in
    let all : counted_so_far replays places (i + 1) ≡ counted_so_far replays places i ++ reported_of (replay, place) =
    ap (flat_map reported_of) front ∙ flat_map-append reported_of (zip (take i replays) (take i places)) ((replay, place) ∷ [])
    ∙ ap (λ xs. counted_so_far replays places i ++ xs) (append-nil (reported_of (replay, place))) in
    subst (λ xs. HasCounted a c xs) (sym all) (counted_more a b c (counted_so_far replays places i) (reported_of (replay, place)) first then)
