-- Words in the same bytes are the same.
use Rattle.std.proofs.Common.{◌≡◌, ℕ, zero, suc, ◌+◌, ◌*◌, ◌<◌, ◌≤◌, List, map, refl, ap, arith}
use Rattle.std.proofs.Math.Nat.{mul-le-mul_left, mul-suc}
use Rattle.std.specs.List.{range_with_len}
use Rattle.byte_view.specs.Memory.{memory_bytes}
use Rattle.byte_view.specs.Numbers.{number_at}
use Rattle.byte_view.specs.declared.segments.Segment.{Segment}
use Rattle.load_model.specs.SymbolTable.{symbol_of, symbols_in}
use Rattle.load_model.specs.TableWords.{word_in, words_in}
use Rattle.two_files.specs.Alike.{SameBytes}

-- lists that are made by places are equal where their elements are
pub same_made : {X : Type 0} (f g : ℕ → X) (a n : ℕ) → ((i : ℕ) → a ≤ i → i < a + n → f i ≡ g i) → map f (range_with_len a n) ≡ map g (range_with_len a n)
same_made f g a zero each = refl
same_made f g a (suc n) each =
    let here : f a ≡ g a = each a (omega arith) (omega arith) in
    let rest : map f (range_with_len (a + 1) n) ≡ map g (range_with_len (a + 1) n) = same_made f g (a + 1) n (λ i l m. each i (omega arith) (omega arith)) in
    rw (here, rest) refl

pub word_same : (b c : List ℕ) (bs cs : List Segment) (addr len size k : ℕ) → SameBytes b c bs cs addr len → k + size ≤ len → word_in size c cs (addr + k) ≡ word_in size b bs (addr + k)
unfolding word_in
word_same b c bs cs addr len size k s h = ap (λ bytes. number_at size bytes 0) (s.parts k size h)

pub first_same : (b c : List ℕ) (bs cs : List Segment) (addr len size : ℕ) → SameBytes b c bs cs addr len → size ≤ len → word_in size c cs addr ≡ word_in size b bs addr
first_same b c bs cs addr len size s h =
    let there : word_in size c cs (addr + 0) ≡ word_in size b bs (addr + 0) = word_same b c bs cs addr len size 0 s (omega arith) in
    let place : addr + 0 ≡ addr = omega arith in
    rw place at there

pub words_same : (b c : List ℕ) (bs cs : List Segment) (addr len size k n : ℕ) → SameBytes b c bs cs addr len → k + size * n ≤ len → words_in size c cs (addr + k) n ≡ words_in size b bs (addr + k) n
unfolding words_in
words_same b c bs cs addr len size k n s h =
    same_made (λ i. word_in size c cs (addr + k + size * i)) (λ i. word_in size b bs (addr + k + size * i)) 0 n (λ i l m. one i m)
  where
    one : (i : ℕ) → i < 0 + n → word_in size c cs (addr + k + size * i) ≡ word_in size b bs (addr + k + size * i)
    one i m =
        let there : addr + (k + size * i) ≡ addr + k + size * i = omega arith in
        let more : size * suc i ≤ size * n = mul-le-mul_left size (omega arith) in
        let fits : k + size * i + size ≤ len = omega (arith, mul-suc size i) in
        let w : word_in size c cs (addr + (k + size * i)) ≡ word_in size b bs (addr + (k + size * i)) = word_same b c bs cs addr len size (k + size * i) s fits in
        rw there at w

pub symbols_same : (b c : List ℕ) (bs cs : List Segment) (addr n : ℕ) → SameBytes b c bs cs addr (24 * n) → symbols_in c cs addr n ≡ symbols_in b bs addr n
unfolding symbols_in
symbols_same b c bs cs addr n s =
    same_made (λ i. symbol_of (memory_bytes c cs (addr + 24 * i) 24) 0) (λ i. symbol_of (memory_bytes b bs (addr + 24 * i) 24) 0) 0 n
    (λ i l m. ap (λ bytes. symbol_of bytes 0) (s.parts (24 * i) 24 (omega arith)))
