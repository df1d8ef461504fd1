use Rattle.std.proofs.Common.{◌≡◌, ◌∙◌, ◌≤◌, ap, sym, List, ℕ, Some, true, false, length, min, vec_len, arith}
use Rattle.load_model.specs.World.{is_other}
use Rattle.ports.specs.Reading.{bytes_at}
use Rattle.tree_opener.proofs.ReadingLemmas.{other_front, result_seen, seen_for_another, seen_right, seen_too_long, whole_read}
use Rattle.tree_opener.specs.declared.reading.Seen.TheVariants.{Flawed}
use Rattle.tree_opener.proofs.reading.see.Goals as goal

pub returns-then-is_for_another-clause-seen : goal.returns-then-is_for_another-clause-seen
returns-then-is_for_another-clause-seen g c world told =
    let all : List ℕ = bytes_at world c.args.file.now.path.now in
    let enough : min c.args.file.now.len 20 ≤ vec_len c.read_to.new.bytes = omega (arith, c.min-2.ensures, c.in_ok-read_to.ensures.enough) in
    let front : is_other c.args.machine c.read_to.new.bytes.items ≡ is_other c.args.machine all =
    other_front c.args.machine c.args.file.now.len (vec_len c.read_to.new.bytes) c.read_to.new.bytes.items all (c.requires.len world told) (c.in_ok-read_to.ensures.front world told) enough c.in_ok-read_to.ensures.fits in
    let other : is_other c.args.machine c.as_slice.result.now ≡ true = sym c.is_for_another.ensures ∙ c.if-is_for_another.true in
    seen_for_another c.args.machine all (sym front ∙ (ap (λ l. is_other c.args.machine l) (sym c.as_slice.ensures.value) ∙ other))

pub returns-then-len-gt-LONGEST_FILE-clause-seen : goal.returns-then-len-gt-LONGEST_FILE-clause-seen
returns-then-len-gt-LONGEST_FILE-clause-seen g c world told =
    let all : List ℕ = bytes_at world c.args.file.now.path.now in
    let enough : min c.args.file.now.len 20 ≤ vec_len c.read_to.new.bytes = omega (arith, c.min-2.ensures, c.in_ok-read_to.ensures.enough) in
    let front : is_other c.args.machine c.read_to.new.bytes.items ≡ is_other c.args.machine all =
    other_front c.args.machine c.args.file.now.len (vec_len c.read_to.new.bytes) c.read_to.new.bytes.items all (c.requires.len world told) (c.in_ok-read_to.ensures.front world told) enough c.in_ok-read_to.ensures.fits in
    let other : is_other c.args.machine c.as_slice.result.now ≡ false = sym c.is_for_another.ensures ∙ c.if-is_for_another.false in
    ap (λ f. Flawed f) c.too_big.ensures
    ∙ seen_too_long c.args.machine c.args.file.now.len all (c.requires.len world told) c.if-len-gt-LONGEST_FILE.true (sym front ∙ (ap (λ l. is_other c.args.machine l) (sym c.as_slice.ensures.value) ∙ other))

pub read_to-requires-2-clause-within : goal.read_to-requires-2-clause-within
read_to-requires-2-clause-within g c world told =
    let count : length (bytes_at world c.args.file.now.path.now) ≡ c.args.file.now.len = c.requires.len world (sym c.in_ok-read_to.ensures.only_reads.stays ∙ told) in
    omega (arith, count)

pub returns-clause-seen : goal.returns-clause-seen
returns-clause-seen g c =
    result_seen c.args.machine c.face_in.result (g.T.Tree.seen c.args.tree.now).told c.as_slice-2.result.now c.args.file.now.path.now c.face_in.ensures.seen
    (λ world told.
    let all : List ℕ = bytes_at world c.args.file.now.path.now in
    let enough : min c.args.file.now.len 20 ≤ vec_len c.read_to.new.bytes = omega (arith, c.min-2.ensures, c.in_ok-read_to.ensures.enough) in
    let front : is_other c.args.machine c.read_to.new.bytes.items ≡ is_other c.args.machine all =
    other_front c.args.machine c.args.file.now.len (vec_len c.read_to.new.bytes) c.read_to.new.bytes.items all (c.requires.len world told) (c.in_ok-read_to.ensures.front world told) enough c.in_ok-read_to.ensures.fits in
    let other : is_other c.args.machine c.as_slice.result.now ≡ false = sym c.is_for_another.ensures ∙ c.if-is_for_another.false in
    let right : is_other c.args.machine all ≡ false = sym front ∙ (ap (λ l. is_other c.args.machine l) (sym c.as_slice.ensures.value) ∙ other) in
    let here : (g.T.Tree.seen c.read_to.new.tree).told ≡ Some world = c.in_ok-read_to.ensures.only_reads.stays ∙ told in
    let read : c.read_to-2.new.bytes.items ≡ all =
    whole_read c.args.file.now.len (vec_len c.read_to-2.new.bytes) c.read_to-2.new.bytes.items all (c.requires.len world told) (c.in_ok-read_to-2.ensures.front world here) c.in_ok-read_to-2.ensures.enough c.in_ok-read_to-2.ensures.fits in
    seen_right c.args.machine c.as_slice-2.result.now all (c.as_slice-2.ensures.value ∙ read) right)
