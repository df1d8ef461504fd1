-- Words read through memory, where it has them from the file, are those of the file.
use Rattle.std.proofs.Common.{◌≡◌, ℕ, zero, suc, ◌+◌, ◌*◌, ◌<◌, ◌≤◌, ◌==◌, Bool, true, false, cond, List, [], ◌∷◌, Option, Some, None, length, take, drop, map, refl, ap, ◌∙◌, arith}
use Rattle.std.proofs.Math.Nat.{mul-le-mul_left, mul-suc}
use Rattle.std.specs.List.{find, range_with_len}
use Rattle.std.specs.Option.{option_map}
use Rattle.std.proofs.lemmas.Bool.Decides.{nat_tests}
use Rattle.byteorder.specs.Numbers.{little_from-take}
use Rattle.byte_view.specs.Memory.{backs, file_range, range_in}
use Rattle.byte_view.specs.Numbers.{number_at}
use Rattle.byte_view.specs.Sound.{AreSound, IsReadFrom}
use Rattle.byte_view.specs.declared.segments.Segment.{Segment}
use Rattle.byte_view.proofs.Loads.{sound_file}
use Rattle.byte_view.proofs.Ranges.{IsRead, range_read}
use Rattle.load_model.specs.TableWords.{word_in, words_in}
use Rattle.sym_tables.specs.FileWords.{words_at}

-- what is backed has its range in the file
pub range_there : (segments : List Segment) (file : List ℕ) (addr len : ℕ) (range : ℕ × ℕ) → IsReadFrom segments file → range_in segments addr len ≡ Some range → IsRead file segments addr len range
range_there segments file addr len range r e =
    let sound : AreSound (length file) segments = rw r.same (sound_file file r.unflawed) in
    range_read file segments addr len range sound e

-- a number in the first bytes of a part
pub number_of_part : (size n at : ℕ) (file : List ℕ) → size ≤ n → number_at size (take n (drop at file)) 0 ≡ number_at size file at
unfolding number_at
number_of_part size n at file h = little_from-take 0 size n (drop at file) (omega arith)

pub word_there : (size : ℕ) (file : List ℕ) (segments : List Segment) (addr len k : ℕ) (range : ℕ × ℕ) → IsRead file segments addr len range → k + size ≤ len → word_in size file segments (addr + k) ≡ number_at size file (range.0 + k)
unfolding word_in
word_there size file segments addr len k range r h =
    ap (λ bytes. number_at size bytes 0) (r.parts k size h) ∙ number_of_part size size (range.0 + k) file (omega arith)

-- lists that are made by places are equal where their elements are
pub same_made : {X : Type 0} (f g : ℕ → X) (a n : ℕ) → ((i : ℕ) → a ≤ i → i < a + n → f i ≡ g i) → map f (range_with_len a n) ≡ map g (range_with_len a n)
same_made f g a zero each = refl
same_made f g a (suc n) each =
    let here : f a ≡ g a = each a (omega arith) (omega arith) in
    let rest : map f (range_with_len (a + 1) n) ≡ map g (range_with_len (a + 1) n) = same_made f g (a + 1) n (λ i l m. each i (omega arith) (omega arith)) in
    rw (here, rest) refl

pub words_there : (size : ℕ) (file : List ℕ) (segments : List Segment) (addr len k n : ℕ) (range : ℕ × ℕ) → IsRead file segments addr len range → k + size * n ≤ len → words_in size file segments (addr + k) n ≡ words_at size file (range.0 + k) n
unfolding words_in words_at
words_there size file segments addr len k n range r h =
    same_made (λ i. word_in size file segments (addr + k + size * i)) (λ i. number_at size file (range.0 + k + size * i)) 0 n (λ i l m. one i m)
  where
    one : (i : ℕ) → i < 0 + n → word_in size file segments (addr + k + size * i) ≡ number_at size file (range.0 + k + size * i)
    one i m =
        let there : addr + (k + size * i) ≡ addr + k + size * i = omega arith in
        let place : range.0 + (k + size * i) ≡ range.0 + k + size * i = omega arith in
        let more : size * suc i ≤ size * n = mul-le-mul_left size (omega arith) in
        let fits : k + size * i + size ≤ len = omega (arith, mul-suc size i) in
        let w : word_in size file segments (addr + (k + size * i)) ≡ number_at size file (range.0 + (k + size * i)) = word_there size file segments addr len (k + size * i) range r fits in
        rw (there, place) at w

-- of backed addresses, the first ones are backed too
found_too : (p q : Segment → Bool) (segments : List Segment) (s : Segment) → ((s : Segment) → p s ≡ true → q s ≡ true) → find p segments ≡ Some s → find q segments ≡ None → ⊥
found_too p q [] s imply found none = cc
found_too p q (t ∷ rest) s imply found none = go (p t) (q t) refl refl (found_too p q rest s imply) found none
  where
    go : (a b : Bool) → p t ≡ a → q t ≡ b → (find p rest ≡ Some s → find q rest ≡ None → ⊥) → cond a (Some t) (find p rest) ≡ Some s → cond b (Some t) (find q rest) ≡ None → ⊥
    go a true pa qb later found none = cc
    go true false pa qb later found none = let it = imply t pa in cc
    go false false pa qb later found none = later found none

shorter_backs : (addr len more : ℕ) (s : Segment) → len ≤ more → backs addr more s ≡ true → backs addr len s ≡ true
shorter_backs addr len more s h e = grind (arith, nat_tests)

pub none_longer : (segments : List Segment) (addr len more : ℕ) → 0 < len → len ≤ more → range_in segments addr len ≡ None → range_in segments addr more ≡ None
unfolding range_in
none_longer segments addr len more p h e =
    let some : (len == 0) ≡ false = grind (arith, nat_tests) in
    let much : (more == 0) ≡ false = grind (arith, nat_tests) in
    rw much (go (find (backs addr len) segments) (find (backs addr more) segments) refl refl (rw some at e))
  where
    go : (a b : Option Segment) → find (backs addr len) segments ≡ a → find (backs addr more) segments ≡ b → option_map (file_range addr len) a ≡ None → option_map (file_range addr more) b ≡ None
    go a None f g e = refl
    go (Some s) (Some t) f g e = absurd (cc)
    go None (Some t) f g e = absurd (found_too (backs addr more) (backs addr len) segments t (λ s. shorter_backs addr len more s h) g f)
