-- Pieces put together: their size, and where each stands
use Rattle.std.proofs.Common.{◌≡◌, ℕ, zero, suc, ◌+◌, ◌≤◌, ◌<◌, true, List, [], ◌∷◌, ◌++◌, length, take, drop, get_or, arith, refl, sym, ap, ◌∙◌, length-append, length-drop}
use Rattle.std.specs.List.{All, flat_map}
use Rattle.std.proofs.lemmas.List.{length-take, length-replicate, drop-drop, drop_at}
use Rattle.std.proofs.lemmas.List.Elements.{All-head, All-tail}
use Rattle.std.proofs.lemmas.Bool.Decides.{nat_tests}
use Rattle.elf_rewrite.specs.declared.patch.Piece.{Piece}
use Rattle.elf_rewrite.specs.declared.patch.Piece.TheVariants.{Old, New, Zeros}
use Rattle.elf_rewrite.specs.Pieces.{put_together, piece_bytes, piece_size, is_within, total_size, Overlay, laid}
use Rattle.elf_rewrite.specs.Patched.{patched}

below : (at len n : ℕ) → is_within n (Old at len) ≡ true → at + len ≤ n
below at len n h = grind (arith, nat_tests)

pub sized : (b : List ℕ) (p : Piece) → is_within (length b) p ≡ true → length (piece_bytes b p) ≡ piece_size p
sized b (Old at len) h =
    let g = below at len (length b) h in
    simp (length-take, length-drop) (omega arith)
sized b (New bytes) h = refl
sized b (Zeros n) h = length-replicate n 0

pub total_long : (n : ℕ) (b : List ℕ) (ps : List Piece) → n ≡ length b → All (λ p. is_within n p ≡ true) ps → length (put_together b ps) ≡ total_size ps
total_long n b [] e h = refl
total_long n b (p ∷ more) e h =
    let here : length (piece_bytes b p) ≡ piece_size p = sized b p (ap (λ m. is_within m p) (sym e) ∙ All-head (λ q. is_within n q ≡ true) p more h) in
    let rest = total_long n b more e (All-tail (λ q. is_within n q ≡ true) p more h) in
    omega (arith, length-append (piece_bytes b p) (put_together b more))

-- where one part stands among all
pub part_reads : {X : Type 0} (f : X → List ℕ) (ps : List X) (k : ℕ) (p : X) → k < length ps → p ≡ get_or ps k p → drop (length (flat_map f (take k ps))) (flat_map f ps) ≡ f p ++ flat_map f (drop (k + 1) ps)
part_reads f [] k p in' is = absurd (omega arith)
part_reads f (q ∷ more) zero p in' is = rw is refl
part_reads f (q ∷ more) (suc k) p in' is =
    let before = flat_map f (take k more) in
    let up : suc k + 1 ≡ suc (k + 1) = omega arith in
    ap (λ n. drop n (f q ++ flat_map f more)) (length-append (f q) before)
    ∙ sym (drop-drop (length before) (length (f q)) (f q ++ flat_map f more))
    ∙ ap (λ l. drop (length before) l) (drop_at (f q) (flat_map f more) (length (f q)) refl)
    ∙ part_reads f more k p (omega arith) is
    ∙ ap (λ n. f p ++ flat_map f (drop n (q ∷ more))) (sym up)

-- what stands in the new file behind the old bytes
pub laid_reads : (b : List ℕ) (c : Overlay) (k : ℕ) (p : Piece) → length (patched b c.patches) ≡ length b → k < length c.added → p ≡ get_or c.added k p → drop (length b + length (put_together b (take k c.added))) (laid b c) ≡ piece_bytes b p ++ put_together b (drop (k + 1) c.added)
unfolding laid
laid_reads b c k p long in' is =
    let n : ℕ = length (put_together b (take k c.added)) in
    let behind : drop (length b) (patched b c.patches ++ put_together b c.added) ≡ put_together b c.added = drop_at (patched b c.patches) (put_together b c.added) (length b) long in
    sym (drop-drop n (length b) (patched b c.patches ++ put_together b c.added)) ∙ (ap (λ l. drop n l) behind ∙ part_reads (λ q. piece_bytes b q) c.added k p in' is)
