-- What is read of a file tells what a loader sees in all of it.
use Rattle.std.proofs.Common.{ℕ, zero, suc, List, [], ◌∷◌, ◌+◌, ◌-◌, ◌≤◌, ◌<◌, true, false, ◌≡◌, refl, ap, sym, ◌∙◌, length, take, drop, arith, min, nat_le, Option, Result, Ok, Err, IfOk}
use Rattle.std.proofs.lemmas.List.{drop-take, length-take-le}
use Rattle.std.proofs.lemmas.Bool.{le-leb, leb-false, leb-true, lt-ltb}
use Rattle.std.proofs.Math.Seq.{take-length}
use Rattle.std.specs.List.{slice_index}
use Rattle.byteorder.specs.Endian.{little_number}
use Rattle.byteorder.specs.Numbers.{little_from-take}
use Rattle.byte_view.specs.Checks.{flaw}
use Rattle.byte_view.specs.HeaderFlaws.{header_flaw, ident_flaw}
use Rattle.byte_view.specs.Headers.{e_machine}
use Rattle.byte_view.specs.Numbers.{number_at}
use Rattle.byte_view.specs.declared.constants.TheConstants.{LONGEST_FILE}
use Rattle.byte_view.specs.declared.flaws.TheConstants.{TOO_BIG}
use Rattle.load_model.specs.Faces.{face_or_flaw, first_flaw}
use Rattle.load_model.specs.World.{is_other}
use Rattle.tree_opener.proofs.Lists.{take_within}
use Rattle.answers.specs.Told.{WhereTold}
use Rattle.load_model.specs.World.{World}
use Rattle.ports.specs.Reading.{bytes_at}
use Rattle.tree_opener.specs.Reading.{seen_for, seen_in}
use Rattle.tree_opener.specs.declared.stops.ReadStop.{ReadStop}
use Rattle.tree_opener.specs.declared.reading.Seen.{Seen}
use Rattle.tree_opener.specs.declared.reading.Seen.TheVariants.{ForAnother, Flawed}

slice_index-take : (n : ℕ) (l : List ℕ) (i : ℕ) → i < n → slice_index (take n l) i ≡ slice_index l i
slice_index-take zero l i h = absurd (omega arith)
slice_index-take (suc n) [] i h = refl
slice_index-take (suc n) (x ∷ l) zero h = refl
slice_index-take (suc n) (x ∷ l) (suc i) h = slice_index-take n l i (omega arith)

machine_in_front : (n : ℕ) (bytes : List ℕ) → e_machine (take (18 + (2 + n)) bytes) ≡ e_machine bytes
unfolding number_at
machine_in_front n bytes =
    ap (λ l. little_number 2 l) (drop-take 18 (2 + n) bytes) ∙ little_from-take 0 2 (2 + n) (drop 18 bytes) (omega arith)

-- twenty bytes of a file tell whether it is one for another machine
other_by_front : (m n : ℕ) (bytes : List ℕ) → 20 ≤ n → 20 ≤ length (take n bytes) → 20 ≤ length bytes → is_other m (take n bytes) ≡ is_other m bytes
other_by_front m n bytes h some enough =
    let whole : nat_le 20 (length bytes) ≡ true = le-leb 20 (length bytes) enough in
    let part : nat_le 20 (length (take n bytes)) ≡ true = le-leb 20 (length (take n bytes)) some in
    let front : take 4 (take n bytes) ≡ take 4 bytes = take_within 4 n bytes (omega arith) in
    let class : slice_index (take n bytes) 4 ≡ slice_index bytes 4 = slice_index-take n bytes 4 (omega arith) in
    let order : slice_index (take n bytes) 5 ≡ slice_index bytes 5 = slice_index-take n bytes 5 (omega arith) in
    let cut : n ≡ 18 + (2 + (n - 20)) = omega arith in
    let machine : e_machine (take n bytes) ≡ e_machine bytes = ap (λ k. e_machine (take k bytes)) cut ∙ machine_in_front (n - 20) bytes in
    rw (whole, part, front, class, order, machine) refl

-- what was read of a file, when at least its first twenty bytes or all of it was
pub other_front : (m len n : ℕ) (bytes all : List ℕ) → length all ≡ len → bytes ≡ take n all → min len 20 ≤ n → n ≤ len → is_other m bytes ≡ is_other m all
other_front m len n bytes all count read enough fits =
    elim (nat_le 20 len) as (λ b. nat_le 20 len ≡ b → is_other m bytes ≡ is_other m all) [
      | true ↦ λ e. (let big : 20 ≤ len = leb-true 20 len e in let much : 20 ≤ n = omega arith in let some : 20 ≤ length (take n all) = omega (arith, length-take-le n all (omega arith)) in ap (λ l. is_other m l) read ∙ other_by_front m n all much some (omega arith))
      | false ↦ λ e. (let small : len < 20 = leb-false 20 len e in let same : n ≡ length all = omega arith in ap (λ l. is_other m l) (read ∙ (ap (λ k. take k all) same ∙ take-length all)))
    ] refl

-- all of a file was read
pub whole_read : (len n : ℕ) (bytes all : List ℕ) → length all ≡ len → bytes ≡ take n all → len ≤ n → n ≤ len → bytes ≡ all
whole_read len n bytes all count read enough fits =
    let same : n ≡ length all = omega arith in
    read ∙ (ap (λ k. take k all) same ∙ take-length all)

pub seen_for_another : (m : ℕ) (all : List ℕ) → is_other m all ≡ true → ForAnother ≡ seen_in m all
unfolding seen_in
seen_for_another m all h = rw h refl

-- a file that is too long has this flaw
too_long : (all : List ℕ) → LONGEST_FILE < length all → face_or_flaw all ≡ Err (flaw TOO_BIG (length all) 0)
unfolding face_or_flaw first_flaw header_flaw ident_flaw
too_long all h = rw (lt-ltb LONGEST_FILE (length all) h) refl

pub seen_too_long : (m len : ℕ) (all : List ℕ) → length all ≡ len → LONGEST_FILE < len → is_other m all ≡ false → Flawed (flaw TOO_BIG len 0) ≡ seen_in m all
unfolding seen_in
seen_too_long m len all count long h =
    let big : LONGEST_FILE < length all = omega arith in
    ap (λ k. Flawed (flaw TOO_BIG k 0)) (sym count) ∙ rw (h, too_long all big) refl

-- a file for this machine is seen by its face or its flaw
pub seen_right : (m : ℕ) (bytes all : List ℕ) → bytes ≡ all → is_other m all ≡ false → seen_for m (face_or_flaw bytes) ≡ seen_in m all
unfolding seen_in
seen_right m bytes all same h = ap (λ l. seen_for m (face_or_flaw l)) same ∙ sym (rw h refl)

pub result_seen : (m : ℕ) (r : Result Seen ReadStop) (told : Option World) (bytes path : List ℕ) → IfOk r (λ seen. seen ≡ seen_for m (face_or_flaw bytes)) → WhereTold told (λ world. seen_for m (face_or_flaw bytes) ≡ seen_in m (bytes_at world path)) → IfOk r (λ seen. WhereTold told (λ world. seen ≡ seen_in m (bytes_at world path)))
result_seen m (Ok seen) told bytes path h k = λ world e. h ∙ k world e
result_seen m (Err stop) told bytes path h k = h
