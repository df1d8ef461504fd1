-- The words of one need more
use Rattle.std.proofs.Common.{◌≡◌, ℕ, ◌+◌, ◌≤◌, ◌<◌, ◌==◌, Bool, true, false, cond, List, [], ◌∷◌, ◌++◌, Option, Some, None, length, map, drop, get_or, refl, sym, ap, ◌∙◌, arith, append_assoc, length-append}
use Rattle.std.specs.List.{enumerate_from, flat_map}
use Rattle.std.specs.Option.{unwrap_or}
use Rattle.std.specs.Str.{bytes_eq}
use Rattle.strtab_grow.specs.Growth.{Growth, added, place_from, size_of, stored}
use Rattle.load_model.specs.declared.asks.Ask.{Ask}
use Rattle.elf_rewrite.specs.declared.patch.Patch.{Patch}
use Rattle.elf_rewrite.proofs.TextSteps.{at_index}
use Rattle.elf_rewrite.specs.NewTable.{new_place}
use Rattle.elf_rewrite.specs.Rewriting.{ask_file_in}

-- a new text stands below the end of the table
pub place_below : (at : ℕ) (t : List ℕ) (texts : List (List ℕ)) (p : ℕ) → place_from at t texts ≡ Some p → p < at + length (added texts)
place_below at t [] p e = absurd (cc)
place_below at t (s ∷ more) p e = go (bytes_eq s t) e (place_below (at + (length s + 1)) t more p)
  where
    long : length (stored s ++ added more) ≡ length s + 1 + length (added more)
    long = length-append (stored s) (added more) ∙ ap (λ n. n + length (added more)) (length-append s (0 ∷ []))

    go : (b : Bool) → cond b (Some at) (place_from (at + (length s + 1)) t more) ≡ Some p → (place_from (at + (length s + 1)) t more ≡ Some p → p < at + (length s + 1) + length (added more)) → p < at + length (stored s ++ added more)
    go true e on = let same : at ≡ p = cc in omega (arith, long)
    go false e on = let low = on e in omega (arith, long)

pub place_small : (g : Growth) (t : List ℕ) → new_place g t ≤ size_of g
place_small g t = go (place_from g.old_size t g.texts) refl
  where
    go : (o : Option ℕ) → place_from g.old_size t g.texts ≡ o → unwrap_or o 0 ≤ size_of g
    go None e = omega arith
    go (Some p) e = let low = place_below g.old_size t g.texts p e in omega arith

-- the file of a need by its ask at a place, or by those behind it
pub file_here : (needs : List ℕ) (asks : List Ask) (news : List (List ℕ)) (k i n : ℕ) (ask : Ask) (new : List ℕ) → i < length needs → length needs ≡ length asks → length needs ≡ length news → n ≡ get_or needs i n → ask ≡ get_or asks i ask → new ≡ get_or news i new → (n == k) ≡ true → ask_file_in (drop i needs) (map (λ a. a.file) (drop i asks)) (drop i news) k ≡ Some (ask.file, new)
file_here needs asks news k i n ask new h ea en e1 e2 e3 same =
    rw (at_index needs i n h e1, at_index asks i ask (omega arith) e2, at_index news i new (omega arith) e3, same) refl

pub file_past : (needs : List ℕ) (asks : List Ask) (news : List (List ℕ)) (k i n : ℕ) (ask : Ask) (new : List ℕ) → i < length needs → length needs ≡ length asks → length needs ≡ length news → n ≡ get_or needs i n → ask ≡ get_or asks i ask → new ≡ get_or news i new → (n == k) ≡ false → ask_file_in (drop i needs) (map (λ a. a.file) (drop i asks)) (drop i news) k ≡ ask_file_in (drop (i + 1) needs) (map (λ a. a.file) (drop (i + 1) asks)) (drop (i + 1) news) k
file_past needs asks news k i n ask new h ea en e1 e2 e3 other =
    rw (at_index needs i n h e1, at_index asks i ask (omega arith) e2, at_index news i new (omega arith) e3, other) refl

-- the patches so far with those of one need more, and those of the needs that are left
pub patches_step : (f : ℕ × ℕ → List Patch) (words : List ℕ) (k at : ℕ) (ps after whole : List Patch) → k < length words → at ≡ get_or words k at → after ≡ ps ++ f (k, at) → ps ++ flat_map f (enumerate_from k (drop k words)) ≡ whole → after ++ flat_map f (enumerate_from (k + 1) (drop (k + 1) words)) ≡ whole
patches_step f words k at ps after whole h e added inv =
    rw added (append_assoc ps (f (k, at)) (flat_map f (enumerate_from (k + 1) (drop (k + 1) words))) ∙ (ap (λ l. ps ++ l) (sym (ap (λ l. flat_map f (enumerate_from k l)) (at_index words k at h e))) ∙ inv))
