-- Libraries whose places are kept by their names.
use Rattle.std.proofs.Common.{◌≡◌, ◌∙◌, sym, ap, ℕ, ◌+◌, ◌<◌, ◌≤◌, List, cond, Some, Bor, bytes_eq, drop, get_or, length}
use Rattle.std.specs.List.{position_from}
use Rattle.std.specs.Map.{lookup}
use Rattle.indexmap.specs.IndexMap.{insert_entry}
use Rattle.lib_closure.proofs.PlaceLemmas.{drop_read}
use Rattle.text_sets.proofs.FoundLemmas.{bytes_eq-sym}
use Rattle.host_record.specs.declared.records.RecLib.{RecLib}
use Rattle.host_meeting.proofs.NamedLemmas.{found_by, key_eq}

pub record AreKept (entries : List (Bor (List ℕ) × ℕ)) (libs : List RecLib) (place : ℕ) : Type 0 where
  pub below : place ≤ length libs
  pub kept : (q : List ℕ) → lookup (λ (x : Bor (List ℕ)). bytes_eq q x.now) entries ≡ position_from (λ (l : RecLib). bytes_eq l.name q) place (drop place libs)

-- The place of one library more, before the others.
pub place_next : (es after : List (Bor (List ℕ) × ℕ)) (libs : List RecLib) (i : ℕ) (k : Bor (List ℕ)) (lib : RecLib) → k.now ≡ lib.name → i < length libs → lib ≡ get_or libs i lib → ((q : List ℕ) → lookup (λ (x : Bor (List ℕ)). bytes_eq q x.now) es ≡ position_from (λ (l : RecLib). bytes_eq l.name q) (i + 1) (drop (i + 1) libs)) → after ≡ insert_entry key_eq es k i → (q : List ℕ) → lookup (λ (x : Bor (List ℕ)). bytes_eq q x.now) after ≡ position_from (λ (l : RecLib). bytes_eq l.name q) i (drop i libs)
place_next es after libs i k lib named less at was more q =
    ap (lookup (λ (x : Bor (List ℕ)). bytes_eq q x.now)) more ∙ found_by q k i es
    ∙ ap (λ o. cond (bytes_eq q k.now) (Some i) o) (was q)
    ∙ ap (λ b. cond b (Some i) (position_from (λ (l : RecLib). bytes_eq l.name q) (i + 1) (drop (i + 1) libs))) (bytes_eq-sym q k.now ∙ ap (λ n. bytes_eq n q) named)
    ∙ sym (ap (position_from (λ (l : RecLib). bytes_eq l.name q) i) (drop_read libs i lib less at))
