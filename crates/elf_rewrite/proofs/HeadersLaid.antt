-- The headers of the new file, read back.
use Rattle.std.proofs.Common.{◌≡◌, ℕ, ◌+◌, ◌-◌, ◌<◌, ◌≤◌, ◌^◌, true, List, [], ◌∷◌, ◌++◌, length, map, take, drop, refl, ap, sym, ◌∙◌, append-nil, arith}
use Rattle.std.specs.Prelude.{replicate}
use Rattle.std.specs.List.{All, list_all}
use Rattle.std.proofs.lemmas.List.{length-replicate, take-append-drop}
use Rattle.std.proofs.lemmas.List.Elements.{All-cons, All-weaker}
use Rattle.byte_view.specs.Headers.{e_phnum, e_phoff, headers}
use Rattle.byte_view.specs.Numbers.{number_at, word_bytes}
use Rattle.byte_view.specs.declared.segments.Segment.{Segment}
use Rattle.two_files.specs.Kept.{misses}
use Rattle.elf_rewrite.specs.Patched.{end_of, patched, range_of, written}
use Rattle.elf_rewrite.specs.Pieces.{Overlay, laid, put_together}
use Rattle.elf_rewrite.specs.Words.{IsWide, table_bytes, word}
use Rattle.elf_rewrite.specs.declared.patch.Patch.{Patch}
use Rattle.elf_rewrite.specs.declared.patch.Piece.{Piece}
use Rattle.elf_rewrite.specs.declared.patch.Piece.TheVariants.{New, Zeros}
use Rattle.elf_rewrite.proofs.Fields.{headers_read, word_long, word_reads}
use Rattle.elf_rewrite.proofs.Filled.{laid_reads}
use Rattle.elf_rewrite.proofs.Patched.{patched_long, reads_back, written_long}

-- a word that is the first of some patches, which the others miss
pub first_word : (b rest : List ℕ) (n at x : ℕ) (more : List Patch) → at + n ≤ length b → All (λ q. end_of q ≤ length b) more → list_all (λ r. misses at n r) (map range_of more) ≡ true → x < 256 ^ n → number_at n (patched b (word n at x ∷ more) ++ rest) at ≡ x
first_word b rest n at x more inside fit all small =
    let c : List ℕ = patched b (word n at x ∷ more) ++ rest in
    let long : length (word_bytes n x) ≡ n = word_long n x in
    let there : take (length (word_bytes n x)) (drop at c) ≡ word_bytes n x = reads_back b rest (word n at x) more (omega arith) fit (rw long all) in
    let front : take n (drop at c) ≡ word_bytes n x = ap (λ k. take k (drop at c)) (sym long) ∙ there in
    word_reads n x at c (drop n (drop at c)) small (sym (take-append-drop n (drop at c)) ∙ ap (λ l. l ++ drop n (drop at c)) front)

-- what the words of the ELF header say of where the new headers stand, and the headers there
pub headers_laid : (b : List ℕ) (o : Overlay) (place : ℕ) (xs : List Segment) (more : List Patch) (after : List Piece) → o.patches ≡ word 8 32 place ∷ (word 2 56 (length xs) ∷ more) → o.added ≡ Zeros (place - length b) ∷ (New (table_bytes xs) ∷ after) → 64 ≤ length b → length b ≤ place → All (λ q. end_of q ≤ length b) more → list_all (λ r. misses 32 8 r) (map range_of more) ≡ true → list_all (λ r. misses 56 2 r) (map range_of more) ≡ true → place < 256 ^ 8 → length xs < 256 ^ 2 → All (λ s. IsWide s) xs → (headers (laid b o) ≡ xs) × (e_phoff (laid b o) ≡ place) × (e_phnum (laid b o) ≡ length xs)
unfolding laid
headers_laid b o place xs more after patches added whole above fit first second small few wide =
    let p : Patch = word 8 32 place in
    let q : Patch = word 2 56 (length xs) in
    let rest : List ℕ = put_together b o.added in
    let eight : length (word_bytes 8 place) ≡ 8 = word_long 8 place in
    let two : length (word_bytes 2 (length xs)) ≡ 2 = word_long 2 (length xs) in
    let fits : All (λ r. end_of r ≤ length b) (q ∷ more) = All-cons (λ r. end_of r ≤ length b) q more (omega arith) fit in
    let misses_first : list_all (λ r. misses 32 8 r) (map range_of (q ∷ more)) ≡ true = rw first refl in
    let off : number_at 8 (patched b (p ∷ (q ∷ more)) ++ rest) 32 ≡ place = first_word b rest 8 32 place (q ∷ more) (omega arith) fits misses_first small in
    let long : length (written b p) ≡ length b = written_long b p (omega arith) in
    let later : All (λ r. end_of r ≤ length (written b p)) more = All-weaker (λ r. end_of r ≤ length b) (λ r. end_of r ≤ length (written b p)) (λ r h. omega (arith, long)) more fit in
    let num : number_at 2 (patched b (p ∷ (q ∷ more)) ++ rest) 56 ≡ length xs = first_word (written b p) rest 2 56 (length xs) more (omega (arith, long)) later second few in
    let all_long : length (patched b o.patches) ≡ length b = rw patches (patched_long b (p ∷ (q ∷ more)) (All-cons (λ r. end_of r ≤ length b) p (q ∷ more) (omega arith) fits)) in
    let here : number_at 8 (laid b o) 32 ≡ place = rw patches off in
    let count : number_at 2 (laid b o) 56 ≡ length xs = rw patches num in
    let in_two : 1 < length o.added = rw added (omega arith) in
    let zeros : length (put_together b (take 1 o.added)) ≡ place - length b = rw added (gap (place - length b)) in
    let part : drop (length b + length (put_together b (take 1 o.added))) (laid b o) ≡ table_bytes xs ++ put_together b (drop 2 o.added) = laid_reads b o 1 (New (table_bytes xs)) all_long in_two (rw added refl) in
    let at : length b + length (put_together b (take 1 o.added)) ≡ place = omega (arith, zeros) in
    let there : drop (e_phoff (laid b o)) (laid b o) ≡ table_bytes xs ++ put_together b (drop 2 o.added) = rw (here, ← at) part in
    (headers_read (laid b o) (put_together b (drop 2 o.added)) xs wide count there, here, count)
  where
    gap : (n : ℕ) → length {A = ℕ} (replicate n 0 ++ []) ≡ n
    gap n = rw append-nil (length-replicate n 0)
